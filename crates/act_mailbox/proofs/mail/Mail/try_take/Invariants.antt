use Rattle.act_mailbox.proofs.mail.Mail.try_take.Given as goal

abbrev pub ghosts-try_take : goal.ghosts-try_take
ghosts-try_take a = record { label = a.taker.now.label }
