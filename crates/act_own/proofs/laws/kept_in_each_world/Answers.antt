use Rattle.std.specs.Prelude.{slice_get}
use Rattle.act_own.proofs.Kept.{slot_keeps}
use Rattle.act_own.proofs.laws.kept_in_each_world.Goals as goal

pub returns : goal.returns
returns g _ = λ kept casts events world reached a start opens at_first.
    slot_keeps g.M.Meaning.step g.M.Meaning.written g.M.Meaning.holds kept start at_first casts events a opens (slice_get world.slots a) (reached.actors a)
