-- A run that no events leave.
use Rattle.std.specs.Prelude.{◌≡◌, ◌≢◌, ℕ, slice_get, None}
use Rattle.act_walks.specs.declared.told.ToldCall.{ToldCall}
use Rattle.act_walks.specs.declared.told.ToldEnd.{ToldEnd}
use Rattle.act_walks.specs.declared.told.ToldRun.{ToldRun}
use Rattle.act_walks.specs.Fits.{calls_in, call_of_run}
use Rattle.act_decisions.specs.Placed.{IsCallIn, IsRunIn}

-- it is of a call that its caller didn't make, or that went to another actor, or that ran elsewhere, too
pub data WhyMisplaced (end : ToldEnd) (a p c k : ℕ) : Type 0 where
  NoCall : slice_get (calls_in end c) k ≡ None → WhyMisplaced end a p c k
  OtherActor : (call : ToldCall) → IsCallIn end c k call → call.actor ≢ a → WhyMisplaced end a p c k
  Twice : (b q : ℕ) (run : ToldRun) → IsRunIn end b q run → call_of_run run ≡ (c, k) → ((b ≡ a) × (q ≡ p) → ⊥) →
      WhyMisplaced end a p c k

pub record IsMisplaced (end : ToldEnd) : Type 0 where
  pub actor : ℕ
  pub place : ℕ
  pub run : ToldRun
  pub at : IsRunIn end actor place run
  pub why : WhyMisplaced end actor place run.caller run.future
