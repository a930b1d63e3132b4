use Rattle.act_service.proofs.Common.{◌≡◌, map, take, shape_of}
use Rattle.act_service.proofs.shapes.copy_shapes.Given as goal

abbrev pub invariant-loop-cast : goal.invariant-loop-cast
invariant-loop-cast g l = l.shapes.items ≡ map shape_of (take l.cast-index l.casts)
