-- What is known of a history that is whole and fits the rules.
use Rattle.act_order_plays.proofs.Common.{List, ◌≡◌, ℕ, ◌<◌, ◌≤◌, length, Some, slice_get, subst, Contains, slice_get_within, get_or_from_slice_get, Happening}
use Rattle.act_order_plays.proofs.Common.{Run, Told, call_of, actor_of, SameCaller, IsInOrderBy, run_of, IsWhole, future_of, Fits}
use Rattle.act_orders.specs.declared.told.Outcome.TheVariants.{Answered}

-- callers rise along the calls, and actors along the runs; a call takes few answers, of earlier calls of its caller, and
-- none that failed where it is answered itself; a caller has few calls; an actor may be called by someone
pub record Premises (told : Told) : Type 0 where
  pub callers : (m n : ℕ) → m ≤ n → n < length told.calls → (call_of told m).caller ≤ (call_of told n).caller
  pub run_actors : (i j : ℕ) (one next : Run) → i ≤ j → slice_get told.runs i ≡ Some one → slice_get told.runs j ≡ Some next → one.actor ≤ next.actor
  pub few_takes : (n : ℕ) → n < length told.calls → length (call_of told n).takes ≤ 4
  pub earlier : (n m : ℕ) → n < length told.calls → Contains (call_of told n).takes m → (m < n) × SameCaller told m n
  pub good : (n m : ℕ) → n < length told.calls → (call_of told n).outcome ≡ Answered → Contains (call_of told n).takes m → (call_of told m).outcome ≡ Answered
  pub few_calls : (n : ℕ) → n < length told.calls → future_of told n < 65536
  pub roles : (a : ℕ) → a < length told.actors → 0 < length (actor_of told a).callers

run_is : (told : Told) (i : ℕ) (run : Run) → slice_get told.runs i ≡ Some run → run_of told i ≡ run
run_is told i run at = get_or_from_slice_get told.runs i run (record { actor = 0; call = 0 }) at

pub premises : (told : Told) {order : List Happening} → IsWhole told → Fits told → IsInOrderBy told order → Premises told
premises told whole fits by = record {
  callers = whole.callers;
  run_actors = λ i j one next le at there. subst (λ (run : Run). run.actor ≤ next.actor) (run_is told i one at)
      (subst (λ (run : Run). (run_of told i).actor ≤ run.actor) (run_is told j next there) (whole.run_actors i j le (slice_get_within told.runs j next there)));
  few_takes = fits.few_args;
  earlier = λ n m lt has. let is = (whole.takes n lt).each m has in (is.before, is.caller);
  good = λ n m lt answered has. (by.ends n lt).taken answered m has;
  few_calls = fits.few_calls;
  roles = whole.named;
}
