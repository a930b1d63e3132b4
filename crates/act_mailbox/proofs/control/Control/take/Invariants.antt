use Rattle.std.proofs.Common.{[], ◌∷◌, ◌++◌}
use Rattle.act_mailbox.proofs.control.Control.take.Given as goal

abbrev pub ghosts-take_at : goal.ghosts-take_at
ghosts-take_at g a = record { label = a.pass.now.lengths ++ a.long ∷ [] }
