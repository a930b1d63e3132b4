-- A history with calls of each sort, and events that leave it: the definitions compute to what it tells.
use Rattle.act_order_plays.proofs.Common.{◌≡◌, true, false, List, [], ◌∷◌, map, None, Some, Ok, Err, refl, Fut, BadArgs, ActorDied, Event, History, calls_of}
use Rattle.act_order_plays.proofs.Common.{runs_of, is_dead, is_retired, history, Told, submission_key, call_key, item_key, run_key, kept_for, calls_by, runs_by}
use Rattle.act_order_plays.proofs.Common.{casts_of, Submit, Release, Send, Deliver, RunNext, Collect, AskKill, TakeKill, Tell, Retire}
use Rattle.act_types.specs.declared.call.Method.TheVariants as method
use Rattle.act_types.specs.declared.call.Value.TheVariants as value
use Rattle.act_orders.specs.declared.told.End.TheVariants as end
use Rattle.act_orders.specs.declared.told.Outcome.TheVariants as out

-- two calls to an actor that retires, of which the second takes the answer of the first and fails; then a call to an actor
-- that died, once the second failed; and one that is open, to an actor that lives
abbrev told : Told
told = record {
  calls =
      record { caller = 1; actor = 0; waits = []; takes = []; outcome = out.Answered }
      ∷ record { caller = 1; actor = 0; waits = []; takes = 0 ∷ []; outcome = out.Failed }
      ∷ record { caller = 1; actor = 1; waits = 1 ∷ []; takes = []; outcome = out.Died }
      ∷ record { caller = 1; actor = 2; waits = []; takes = []; outcome = out.Open }
      ∷ [];
  runs = record { actor = 0; call = 0 } ∷ record { actor = 0; call = 1 } ∷ [];
  actors =
      record { callers = 1 ∷ []; end = end.Retired }
      ∷ record { callers = 1 ∷ []; end = end.Dead }
      ∷ record { callers = 1 ∷ []; end = end.Live }
      ∷ [];
  waits = [];
}

abbrev events : List Event
events =
    Submit 1 0 method.Get [] ∷ Submit 1 0 method.Put (Fut 0 ∷ [])
    ∷ Send 1 0 ∷ Deliver 0 ∷ RunNext 0 1 ∷ Collect 0
    ∷ Send 1 1 ∷ Deliver 1 ∷ RunNext 0 1 ∷ Collect 1
    ∷ Submit 1 1 method.Get []
    ∷ AskKill 1 1 ∷ TakeKill 1 ∷ Tell 1 1 ∷ Collect 2
    ∷ Submit 1 2 method.Get []
    ∷ Release 1 0 ∷ Deliver 2 ∷ Retire 0
    ∷ []

abbrev left : History
left = history (casts_of told) events

calls : map submission_key (calls_of 1 left) ≡ map (call_key told) (calls_by told 1)
calls = refl

runs_of_the_first : map item_key (runs_of 0 left) ≡ map (run_key told) (runs_by told 0)
runs_of_the_first = refl

runs_of_the_second : map item_key (runs_of 1 left) ≡ map (run_key told) (runs_by told 1)
runs_of_the_second = refl

answered : kept_for told 0 left ≡ Some (Ok value.Unit)
answered = refl

failed : kept_for told 1 left ≡ Some (Err BadArgs)
failed = refl

died : kept_for told 2 left ≡ Some (Err ActorDied)
died = refl

open_yet : kept_for told 3 left ≡ None
open_yet = refl

retired : is_retired 0 left ≡ true
retired = refl

dead : is_dead 1 left ≡ true
dead = refl

lives : is_dead 2 left ≡ false
lives = refl
