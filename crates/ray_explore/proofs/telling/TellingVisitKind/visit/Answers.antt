use Rattle.ray_explore.proofs.Known.{told_there}
use Rattle.ray_explore.proofs.telling.TellingVisitKind.visit.Goals as goal

pub returns-in-Ok-clause-keeps : goal.returns-in-Ok-clause-keeps
returns-in-Ok-clause-keeps g c first casts plans leads reached (same, some) =
    (same, told_there first.script.now c.args.self.now.script.now c.args.self.now.ends c.tell_world-told.new.ends _ _ _ same c.in-Ok.ensures.keeps some)
