-- What contracts see of an actor whose kind's state is read by a function.
use Rattle.act_types.specs.KindState.{KindState}
use Rattle.act_actor.specs.View.{LiveView, LeftView, ActorView, RetiredView}

abbrev pub live_view : {K : Type 0} → (K → KindState) → LiveView K → ActorView
live_view state live = record { id = live.id; inbox = live.inbox; log = live.log; state = state live.state }

abbrev pub retired_view : {K : Type 0} → (K → KindState) → LeftView K → RetiredView
retired_view state retired = record { id = retired.id; log = retired.log; state = state retired.state }
