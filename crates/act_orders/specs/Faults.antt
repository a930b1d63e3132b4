-- What shows that a history isn't in order.
use Rattle.std.specs.Prelude.{ℕ, ◌+◌, ◌-◌, ◌≡◌, ◌≢◌, ◌<◌, ◌≤◌, List, All, length, take, slice_get, Some, Contains}
use Rattle.act_orders.specs.declared.fault.Fault.{Fault}
use Rattle.act_orders.specs.declared.fault.Fault.TheVariants.{Strays, Again, Skips, NoRole, Alive, LeftOut, Spoiled, Lacks, NoAnswer, Circle}
use Rattle.act_orders.specs.declared.told.End.TheVariants.{Dead, Retired}
use Rattle.act_orders.specs.declared.told.Happening.{Happening}
use Rattle.act_orders.specs.declared.told.Happening.TheVariants.{Ran, Answered}
use Rattle.act_orders.specs.declared.told.Outcome.{Outcome}
use Rattle.act_orders.specs.declared.told.Outcome.TheVariants.{Died}
use Rattle.act_orders.specs.declared.told.Outcome.TheVariants as out
use Rattle.act_orders.specs.declared.told.Run.{Run}
use Rattle.act_orders.specs.declared.told.Told.{Told}
use Rattle.act_orders.specs.Order.{call_of, actor_of, calls_run, SameWay, EndsRight, Happened, IsCause, IsInOrder}

-- each of these happened and must come after the next, and the last one is the first again
pub record IsCircle (told : Told) (circle : List Happening) : Type 0 where
  pub more : 1 < length circle
  pub happened : (happening : Happening) → Contains circle happening → Happened told happening
  pub waits : (i : ℕ) (one next : Happening) → slice_get circle i ≡ Some one → slice_get circle (i + 1) ≡ Some next →
      IsCause told next one
  pub first : Happening
  pub begins : slice_get circle 0 ≡ Some first
  pub ends : slice_get circle (length circle - 1) ≡ Some first

-- it failed, or was a death
abbrev pub HasFailed : Outcome → Type 0
HasFailed out.Failed = Unit {0}
HasFailed out.Died = Unit {0}
HasFailed outcome = ⊥

abbrev pub IsFault : Told → Fault → Type 0
-- the run at i is that of a call to another actor
IsFault told (Strays i) = (run : Run) × (slice_get told.runs i ≡ Some run) × ((call_of told run.call).actor ≢ run.actor)
-- the run at i is that of a call which ran before, at j
IsFault told (Again i j) = (j < i) × (one next : Run) × (slice_get told.runs j ≡ Some one) ×
    (slice_get told.runs i ≡ Some next) × (one.call ≡ next.call)
-- the run at i came before this earlier call of its caller to the actor
IsFault told (Skips i n) = (run : Run) × (slice_get told.runs i ≡ Some run) × (n < run.call) ×
    SameWay told n run.call × (Contains (take i (calls_run told)) n → ⊥)
-- the call is of a caller that may not call the actor
IsFault told (NoRole n) = (n < length told.calls) ×
    (Contains (actor_of told (call_of told n).actor).callers (call_of told n).caller → ⊥)
-- its answer is a death, and the actor isn't dead
IsFault told (Alive n) = (n < length told.calls) × ((call_of told n).outcome ≡ Died) ×
    ((actor_of told (call_of told n).actor).end ≢ Dead)
-- the actor retired, and didn't run it
IsFault told (LeftOut n) = (n < length told.calls) × ((actor_of told (call_of told n).actor).end ≡ Retired) ×
    (Happened told (Ran n) → ⊥)
-- it is answered, though it takes the answer of k, which failed or was a death
IsFault told (Spoiled n k) = (n < length told.calls) × ((call_of told n).outcome ≡ out.Answered) ×
    Contains (call_of told n).takes k × HasFailed (call_of told k).outcome
-- the one happened, and the other, which must come before it, didn't
IsFault told (Lacks one other) = Happened told one × IsCause told other one × (Happened told other → ⊥)
-- a caller waited for this answer after its last call, and it didn't come
IsFault told (NoAnswer k) = Contains told.waits k × (Happened told (Answered k) → ⊥)
IsFault told (Circle circle) = IsCircle told circle

-- a history with a fault isn't in order
abbrev pub FaultsHold : Type 0
FaultsHold = (told : Told) (fault : Fault) → IsFault told fault → IsInOrder told → ⊥

-- only faults were added, and where there are none, P holds
pub record Finds (told : Told) (P : Type 0) (old new : List Fault) : Type 0 where
  pub faults : All (IsFault told) old → All (IsFault told) new
  pub more : length old ≤ length new
  pub clean : length new ≡ 0 → P

-- an answer that is waited for has come
abbrev pub Come : Told → List ℕ → Type 0
Come told waits = (k : ℕ) → Contains waits k → Happened told (Answered k)

-- a call that has to run did
pub record Runs (told : Told) (n : ℕ) : Type 0 where
  pub retired : (actor_of told (call_of told n).actor).end ≡ Retired → Happened told (Ran n)
  pub answered : Happened told (Answered n) → (call_of told n).outcome ≢ Died → Happened told (Ran n)

-- where it is answered, it takes none of these answers that failed
abbrev pub TakesGood : Told → ℕ → List ℕ → Type 0
TakesGood told n takes = (call_of told n).outcome ≡ out.Answered → (k : ℕ) → Contains takes k →
    HasFailed (call_of told k).outcome → ⊥

-- how a call stands goes with its actor, and its causes happened
pub record CallHolds (told : Told) (n : ℕ) : Type 0 where
  pub ends : EndsRight told n
  pub answered : Happened told (Answered n) → (call_of told n).outcome ≢ Died → Happened told (Ran n)
  pub waits : Come told (call_of told n).waits
  pub takes : Happened told (Ran n) → Come told (call_of told n).takes

-- of each call
abbrev pub CallsHold : Told → Type 0
CallsHold told = ((n : ℕ) → n < length told.calls → CallHolds told n) × Come told told.waits
