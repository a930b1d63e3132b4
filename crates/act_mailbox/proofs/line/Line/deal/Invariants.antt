use Rattle.act_mailbox.proofs.line.Line.deal.Given as goal

abbrev pub ghosts-deal_as : goal.ghosts-deal_as
ghosts-deal_as g a = record { name = a.number }
