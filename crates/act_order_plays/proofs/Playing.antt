-- All that happened, in its order.
use Rattle.act_order_plays.proofs.Common.{ℕ, zero, suc, ◌≤◌, inl, inr, List, [], ◌∷◌, ◌++◌, length, take, refl, sym, ap, subst, ◌∙◌}
use Rattle.act_order_plays.proofs.Common.{arith, append_assoc, Contains, take-length, History, opening, history, Event, element, world_sound, after_all-append}
use Rattle.act_order_plays.proofs.Common.{Happening, Submitted, Ran, Answered, Told, call_of, IsAfter, IsOrder, IsInOrderBy, casts_of, kept_for, Waited}
use Rattle.act_order_plays.proofs.Common.{IsIn, contains_from_in, in_from_contains, in_none, take_next}
use Rattle.act_order_plays.proofs.Premises.{Premises}
use Rattle.act_order_plays.proofs.Lists.{has_pushed}
use Rattle.act_order_plays.proofs.Causes.{IsNext, Good, good_none, good_more}
use Rattle.act_order_plays.proofs.Casts.{role_actor}
use Rattle.act_order_plays.proofs.Stands.{Leads, Stands}
use Rattle.act_order_plays.proofs.Submitting.{calls_count, submitted}
use Rattle.act_order_plays.proofs.Sending.{kept_some, answer_kept}
use Rattle.act_order_plays.proofs.Running.{ran}
use Rattle.act_order_plays.proofs.Dying.{answered}

-- one happening more
step : (told : Told) (order before : List Happening) (x : Happening) (h : History) → Premises told → IsInOrderBy told order → Good told before →
    IsNext told before x → Stands told before h → Leads (Stands told (before ++ x ∷ [])) h
step told order before (Submitted n) h fits by good next stands =
    let ends = by.ends n next.happened in
    submitted told fits before n good next (in_from_contains _ _ ends.role)
    (role_actor told (call_of told n).caller (call_of told n).actor ends.role) h stands
step told order before (Ran n) h fits by good next stands =
    let ends = by.ends n (good.happened (Submitted n) (next.causes (Submitted n) refl)) in
    ran told fits by.runs before n good next (in_from_contains _ _ ends.role)
    (role_actor told (call_of told n).caller (call_of told n).actor ends.role) h stands
step told order before (Answered n) h fits by good next stands =
    let ends = by.ends n next.happened.0 in
    answered told fits by.runs before n good next (in_from_contains _ _ ends.role)
    (role_actor told (call_of told n).caller (call_of told n).actor ends.role) h stands

next_is : (told : Told) (order : List Happening) {before : List Happening} (x : Happening) → IsOrder told order → IsIn order x → IsAfter told before x →
    IsNext told before x
next_is told order {before} x causes has after = record {
  happened = causes.only x (contains_from_in has);
  fresh = λ h. after.once (contains_from_in h);
  causes = λ cause is. in_from_contains before cause (after.causes cause is);
}

opened : (told : Told) → Stands told [] (opening (casts_of told))
opened told = record {
  shape = record {
    casts = refl;
    copied = refl;
    released = refl;
    retired = refl;
    submitted = refl;
    ran = tt;
    collected = tt;
    killed = λ a is. absurd (cc);
    sound = world_sound (casts_of told) [];
  };
  keeps = record { answers = λ n has. absurd (in_none has); deaths = λ n has. absurd (in_none has) };
}

-- ---- what callers wait for

pub waited_more : {told : Told} {events : List Event} (more : List Event) (n m : ℕ) → Waited told events n m → Waited told (events ++ more) n m
waited_more more n m w = record {
  first = w.first;
  later = w.later ++ more;
  joined = sym (append_assoc w.first w.later more) ∙ ap (λ all. all ++ more) w.joined;
  kept = w.kept;
  not_yet = w.not_yet;
  is_told = w.is_told;
}

-- the answers for which a caller waits are kept before it submits the call
waited_now : (told : Told) (order before : List Happening) (n m : ℕ) (events more : List Event) → Premises told → Good told before → IsNext told before
    (Submitted n) → Stands told before (history (casts_of told) events) → Contains (call_of told n).waits m → Waited told (events ++ more) n m
waited_now told order before n m events more fits good next stands waits =
    let has = next.causes (Answered m) waits in let h = history (casts_of told) events in
    record {
      first = events;
      later = more;
      joined = refl;
      kept = kept_some (call_of told m).outcome (kept_for told m h) (good.happened (Answered m) has).1 (answer_kept h m good stands.keeps has);
      not_yet = let count = calls_count told n h fits good next stands.shape in omega arith;
      is_told = (good.happened (Answered m) has).1;
    }

-- ---- from the first on

pub record Reached (told : Told) (before : List Happening) : Type 0 where
  pub good : Good told before
  pub events : List Event
  pub stands : Stands told before (history (casts_of told) events)
  pub waits : (n m : ℕ) → IsIn before (Submitted n) → Contains (call_of told n).waits m → Waited told events n m

reach_more : (told : Told) (order : List Happening) {before : List Happening} (x : Happening) → Premises told → IsInOrderBy told order → Reached told before →
    IsNext told before x → Reached told (before ++ x ∷ [])
reach_more told order {before} x fits by rest next =
    let more = step told order before x (history (casts_of told) rest.events) fits by rest.good next rest.stands in
    record {
      good = good_more fits by.runs rest.good next;
      events = rest.events ++ more.0;
      stands = subst (Stands told (before ++ x ∷ [])) (sym (after_all-append (opening (casts_of told)) rest.events more.0)) more.1;
      waits = λ n m has waits. elim (has_pushed before x has) [
        | inl old ↦ waited_more more.0 n m (rest.waits n m old waits)
        | inr e ↦ waited_now told order before n m rest.events more.0 fits rest.good (subst (IsNext told before) e next) rest.stands waits
      ];
    }

reach : (told : Told) (order : List Happening) → Premises told → IsInOrderBy told order → (i : ℕ) → i ≤ length order → Reached told (take i order)
reach told order fits by zero le = record { good = good_none told; events = []; stands = opened told; waits = λ n m has. absurd (in_none has) }
reach told order fits by (suc i) le =
    let rest = reach told order fits by i (omega arith) in let x = element order i le in
    let next = next_is told order x.0 by.causes (record { place = i; at = x.1 }) (by.causes.after i x.0 x.1) in
    subst (Reached told) (sym (take_next order i x.1)) (reach_more told order x.0 fits by rest next)

pub all_reached : (told : Told) (order : List Happening) → Premises told → IsInOrderBy told order → Reached told order
all_reached told order fits by = subst (Reached told) (take-length order) (reach told order fits by (length order) (omega arith))
