-- One call of one caller to one actor.
use Rattle.std.specs.Prelude.{[], ◌∷◌}
use Rattle.actors.specs.Kinds.{KindState, Answer, call_reply, step_of_reply}
use Rattle.actors.specs.Value.{Value}
use Rattle.actors.specs.Method.{Method}
use Rattle.actors.specs.Arg.TheVariants.{Plain}
use Rattle.actors.specs.Settled.TheVariants.{Good}
use Rattle.actors.specs.Packet.{Packet}
use Rattle.actors.specs.Callers.{OwnerView, open_owner, with_submission, with_sent}

-- a caller that submitted one call, and sent it
abbrev pub asking_owner : Method → Value → OwnerView
asking_owner method value = with_sent (with_submission (open_owner 1 (1 ∷ [])) 1 method (Plain value ∷ [])) 0

-- the packet of that call
abbrev pub question : Method → Value → Packet
question method value = record {
  caller = 1;
  actor = 1;
  number = 0;
  future = 0;
  method = method;
  args = Good value ∷ [];
}

-- the state and the answer of an actor in this state that runs it
abbrev pub step_of_question : KindState → Method → Value → KindState × Answer
step_of_question state method value = step_of_reply state (call_reply state method (value ∷ []))
