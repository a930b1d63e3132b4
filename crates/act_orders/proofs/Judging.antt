-- An order of the nodes is one of the history.
use Rattle.act_orders.proofs.Common.{ℕ, ◌+◌, ◌<◌, ◌≤◌, List, length, sym, subst, arith, Option, inl, inr, Contains, Happening, Submitted, Ran, Answered, Told}
use Rattle.act_orders.proofs.Common.{call_of, calls_run, Happened, IsCause, IsInOrderBy, RunsInTurn, OrdersNodes, IsWhole, HasPlaces, graph_of, CallsHold}
use Rattle.act_orders.proofs.Common.{stands_in}
use Rattle.act_orders.proofs.Lists.{same_or_not}
use Rattle.act_orders.proofs.Breaking.{call_at}
use Rattle.act_orders.proofs.Causing.{ran_within, cause_needed, ran_before_answer}

-- where no call has a fault, each cause happened
closed : (told : Told) (u v : Happening) → IsWhole told → CallsHold told → Happened told v → IsCause told u v → Happened told u
closed told (Submitted m) (Submitted n) whole hold is cause = omega (arith, is, cause.0)
closed told (Ran m) (Submitted n) whole hold is cause = absurd cause
closed told (Answered m) (Submitted n) whole hold is cause = (hold.0 n is).waits m cause
closed told (Submitted m) (Ran n) whole hold is cause = subst (λ k. k < length told.calls) (sym cause) (ran_within n whole is)
closed told (Ran m) (Ran n) whole hold is cause = stands_in (calls_run told) cause.0 (call_at told cause.0 (record { actor = cause.1; call = m }) cause.2)
closed told (Answered m) (Ran n) whole hold is cause = (hold.0 n (ran_within n whole is)).takes is m cause
closed told (Submitted m) (Answered n) whole hold is cause = subst (λ k. k < length told.calls) (sym cause) is.0
closed told (Ran m) (Answered n) whole hold is cause = ran_before_answer told (call_of told n).outcome m n cause ((hold.0 n is.0).answered is)
closed told (Answered m) (Answered n) whole hold is cause = absurd cause

pub in_order : (told : Told) (places : List (Option ℕ)) (order : List Happening) → IsWhole told → HasPlaces told told.runs places →
    RunsInTurn told → CallsHold told → OrdersNodes (graph_of told places) order → IsInOrderBy told order
in_order told places order whole at turn hold ordered = record {
  runs = turn;
  ends = λ n lt. (hold.0 n lt).ends;
  waits = hold.1;
  causes = record {
    all = ordered.all;
    only = ordered.only;
    after = λ i v there.
        let follows = ordered.after i v there in let is = ordered.only v (stands_in order i there) in
        record { once = follows.once; causes = λ u cause. follows.causes u (cause_needed u v at whole turn is cause) (closed told u v whole hold is cause) };
  };
}

-- one call more is covered
pub covered_more : (told : Told) (kind : ℕ → Happening) (n : ℕ) (order longer : List Happening) → ((v : Happening) → Contains order v → Contains longer v) →
    ((k : ℕ) → k < n → Happened told (kind k) → Contains order (kind k)) → (Happened told (kind n) → Contains longer (kind n)) → (k : ℕ) → k < n + 1 →
    Happened told (kind k) → Contains longer (kind k)
covered_more told kind n order longer grows before here k lt is = elim (same_or_not k n) [
  | inl e ↦ subst (λ j. Contains longer (kind j)) (sym e) (here (subst (λ j. Happened told (kind j)) e is))
  | inr d ↦ grows (kind k) (before k (omega (arith, lt, d)) is)
]

pub covered : {told : Told} (order : List Happening) (n : ℕ) → IsWhole told → length told.calls ≤ n →
    ((k : ℕ) → k < n → Happened told (Submitted k) → Contains order (Submitted k)) → ((k : ℕ) → k < n → Happened told (Ran k) → Contains order (Ran k)) →
    ((k : ℕ) → k < n → Happened told (Answered k) → Contains order (Answered k)) → (v : Happening) → Happened told v → Contains order v
covered order n whole far submitted ran answered (Submitted k) is = submitted k (omega (arith, is, far)) is
covered {told} order n whole far submitted ran answered (Ran k) is = let w = ran_within k whole is in ran k (omega (arith, w, far)) is
covered order n whole far submitted ran answered (Answered k) is = answered k (omega (arith, is.0, far)) is
