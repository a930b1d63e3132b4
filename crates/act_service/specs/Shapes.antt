-- What is kept of a cast beside a run, and the cast that an actor's end leaves.
use Rattle.std.specs.Prelude.{◌==◌, List, find, Option, None, option_map}
use Rattle.act_types.specs.KindState.{KindState}
use Rattle.act_rules.specs.History.{ActorSpec}
use Rattle.act_actor.specs.declared.cast.Cast.{Cast}
use Rattle.act_actor.specs.View.{RetiredView}
use Rattle.act_serve.specs.Served.{EndView, Retired}
use Rattle.act_service.specs.declared.shapes.Shape.{Shape}

-- a cast without its kind
abbrev pub shape_of : {K : Type 0} → Cast K → Shape
shape_of cast = record { actor = cast.actor; callers = cast.callers; pending = cast.pending }

-- an actor of a shape, whose kind is in a state
abbrev pub opened_in : KindState → Shape → ActorSpec
opened_in state shape = record {
  actor = shape.actor;
  callers = shape.callers;
  opening = state;
  pending = shape.pending;
}

-- the cast of a retired actor: its shape, in the state that it left
abbrev pub cast_of_shape : List Shape → RetiredView → Option ActorSpec
cast_of_shape shapes retired = option_map (opened_in retired.state) (find (λ shape. shape.actor == retired.id) shapes)

-- the cast that an actor's end leaves: none where it died
abbrev pub cast_left_by : List Shape → EndView → Option ActorSpec
cast_left_by shapes (Retired retired) = cast_of_shape shapes retired
cast_left_by shapes view = None
