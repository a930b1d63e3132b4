-- What was added to the faults, and what holds where nothing was.
use Rattle.act_orders.proofs.Common.{◌≡◌, ◌≢◌, ℕ, ◌+◌, ◌<◌, ◌≤◌, inl, inr, List, [], ◌∷◌, ◌++◌, length, take, get_or, refl, sym, ap, subst, ◌∙◌}
use Rattle.act_orders.proofs.Common.{arith, Option, Some, None, Result, Ok, Err, IsTrue, is_some, true, false, Bool, Contains, All, MatchOption, option_to_list}
use Rattle.act_orders.proofs.Common.{MatchResult, is_ok, append-nil, length-append, All-push, Contains-get_or, slice_get_within, get_or_from_slice_get, Fault}
use Rattle.act_orders.proofs.Common.{Ran, Answered, Dead, Outcome, Died, Open, Told, call_of, actor_of, calls_run, Happened, HasPlaces, IsPlace, place_of}
use Rattle.act_orders.proofs.Common.{IsFault, Finds, Come, Runs, HasFailed, TakesGood, CallHolds, place_in, stands_in, cases_lt}
use Rattle.act_orders.specs.declared.told.Outcome.TheVariants as out
use Rattle.act_orders.proofs.Lists.{found_before, has_before, same_or_not}
use Rattle.act_orders.proofs.Breaking.{call_at}
use Rattle.act_orders.proofs.Running.{placed_at}

-- what holds is found with no fault added
pub finds_none : (told : Told) (P : Type 0) (faults : List Fault) → P → Finds told P faults faults
finds_none told P faults p = record { faults = λ all. all; more = omega arith; clean = λ none. p }

-- what is looked for is found where one fault is added, or where none is and it holds
pub finds_noted : (told : Told) (P : Type 0) (old : List Fault) {new : List Fault} (found : Option Fault) → new ≡ old ++ option_to_list found →
    MatchOption found P (IsFault told) → Finds told P old new
finds_noted told P old {new} None e here =
    let same : new ≡ old = e ∙ append-nil old in
    record {
      faults = λ all. subst (All (IsFault told)) (sym same) all;
      more = subst (λ fs. length old ≤ length fs) (sym same) (omega arith);
      clean = λ none. here;
    }
finds_noted told P old (Some fault) e here = record {
  faults = λ all. subst (All (IsFault told)) (sym e) (All-push (IsFault told) old fault all here);
  more = omega (arith, ap length e, length-append old (fault ∷ []));
  clean = λ none. absurd (let l : length (fault ∷ []) ≡ 1 = refl in omega (arith, none, ap length e, length-append old (fault ∷ []), l));
}

-- where two steps in a row add faults, both together find what follows from what each finds
pub finds_both : (told : Told) (P : Type 0) {Q : Type 0} (R : Type 0) {one two three : List Fault} → (P → Q → R) →
    Finds told P one two → Finds told Q two three → Finds told R one three
finds_both told P R join p q = record {
  faults = λ all. q.faults (p.faults all);
  more = omega (arith, p.more, q.more);
  clean = λ none. join (p.clean (omega (arith, q.more, none))) (q.clean none);
}

-- what follows from what is found is found with the same faults
pub finds_then : {told : Told} {P : Type 0} (Q : Type 0) {old new : List Fault} → (P → Q) → Finds told P old new → Finds told Q old new
finds_then Q f p = record { faults = p.faults; more = p.more; clean = λ none. f (p.clean none) }

-- of no answers, all have come
pub come_none : (told : Told) (waits : List ℕ) → Come told (take 0 waits)
come_none told waits k has = absurd (omega (arith, has.1))

-- where the answers that are waited for have come up to a place, and the one there has, they have up to the next
pub come_more : (told : Told) (waits : List ℕ) (i n : ℕ) → i < length waits → get_or waits i 0 ≡ n → Come told (take i waits) →
    Happened told (Answered n) → Come told (take (i + 1) waits)
come_more told waits i n lt is all here k has =
    let f = found_before (i + 1) waits k has in
    elim (same_or_not f.0 i) [
      | inl e ↦
          let same : k ≡ n = sym (get_or_from_slice_get waits f.0 k 0 f.2) ∙ ap (λ j. get_or waits j 0) e ∙ is in
          subst (λ j. Happened told (Answered j)) (sym same) here
      | inr d ↦ all k (has_before i waits f.0 f.2 (omega (arith, f.1, d)))
    ]

-- where the answers that are waited for have come up to a place, and none stands from there on, all have come
pub come_all : (told : Told) (waits : List ℕ) (i : ℕ) → length waits ≤ i → Come told (take i waits) → Come told waits
come_all told waits i far all k has =
    let f = place_in waits k has in let w = slice_get_within waits f.0 k f.1 in all k (has_before i waits f.0 f.1 (omega (arith, w, far)))

-- of no answers, none failed
pub good_none : (told : Told) (n : ℕ) (takes : List ℕ) → TakesGood told n (take 0 takes)
good_none told n takes is k has = absurd (omega (arith, has.1))

pub good_more : (told : Told) (n : ℕ) (takes : List ℕ) (i m : ℕ) → get_or takes i 0 ≡ m → TakesGood told n (take i takes) →
    (HasFailed (call_of told m).outcome → ⊥) → TakesGood told n (take (i + 1) takes)
good_more told n takes i m at all here is k has =
    let f = found_before (i + 1) takes k has in
    elim (same_or_not f.0 i) [
      | inl e ↦
          let same : k ≡ m = sym (get_or_from_slice_get takes f.0 k 0 f.2) ∙ ap (λ j. get_or takes j 0) e ∙ at in
          subst (λ j. HasFailed (call_of told j).outcome → ⊥) (sym same) here
      | inr d ↦ all is k (has_before i takes f.0 f.2 (omega (arith, f.1, d)))
    ]

pub good_all : (told : Told) (n : ℕ) (takes : List ℕ) (i : ℕ) → length takes ≤ i → TakesGood told n (take i takes) → TakesGood told n takes
good_all told n takes i far all is k has =
    let f = place_in takes k has in let w = slice_get_within takes f.0 k f.1 in all is k (has_before i takes f.0 f.1 (omega (arith, w, far)))

-- what came and didn't fail is answered
is_answered : (outcome : Outcome) → (HasFailed outcome → ⊥) → outcome ≢ Open → outcome ≡ out.Answered
is_answered out.Answered good come = refl
is_answered out.Open good come = absurd (come refl)
is_answered outcome good come = absurd (good (tt))

taken_good : (told : Told) (n : ℕ) → n < length told.calls → Runs told n → (Happened told (Ran n) → Come told (call_of told n).takes) → TakesGood told n
    (call_of told n).takes → (call_of told n).outcome ≡ out.Answered → (k : ℕ) → Contains (call_of told n).takes k → (call_of told k).outcome ≡ out.Answered
taken_good told n lt runs come good is k has =
    let open_not : (call_of told n).outcome ≢ Open = λ e. let no : out.Answered ≡ Open = sym is ∙ e in absurd (cc) in
    let died_not : (call_of told n).outcome ≢ Died = λ e. let no : out.Answered ≡ Died = sym is ∙ e in absurd (cc) in
    is_answered (call_of told k).outcome (good is k has) (come (runs.answered (lt, open_not) died_not) k has).1

-- what stands at a place of a list of numbers is one of them
pub waits_item : (waits : List ℕ) (i : ℕ) → i < length waits → Contains waits (get_or waits i 0)
waits_item waits i lt = Contains-get_or waits i 0 lt

-- a call with a place ran
pub has_run : (told : Told) (places : List (Option ℕ)) (n i : ℕ) → HasPlaces told told.runs places → n < length told.calls →
    place_of places n ≡ Some i → Happened told (Ran n)
has_run told places n i at lt e =
    let there = placed_at told.runs n i (place_of places n) (at.place n lt) e in stands_in (calls_run told) i (call_at told i _ there.1)

pub is_some_place : (o : Option ℕ) → is_some o ≡ true → (i : ℕ) × (o ≡ Some i)
is_some_place None e = absurd (cc)
is_some_place (Some i) e = (i, refl)

-- what a search among rising numbers says
pub found_role : (xs : List ℕ) (x : ℕ) (r : Result ℕ ℕ) {b : Bool} → MatchResult r (λ i. (i < length xs) × (get_or xs i 0 ≡ x))
    (λ i. (i ≤ length xs) × ((k : ℕ) → k < i → get_or xs k 0 < x) × ((k : ℕ) → i ≤ k → k < length xs → x < get_or xs k 0)) → b ≡ is_ok r →
    (IsTrue b → Contains xs x) × (Contains xs x → IsTrue b)
found_role xs x (Ok i) is e = ((λ _. subst (Contains xs) is.1 (Contains-get_or xs i 0 is.0)), (λ _. e))
found_role xs x (Err i) is e = (
  (λ h. absurd (let no : false ≡ true = sym e ∙ h in cc)),
  (λ has.
      let f = place_in xs x has in let at = get_or_from_slice_get xs f.0 x 0 f.1 in let w = slice_get_within xs f.0 x f.1 in
      elim (cases_lt f.0 i) [
        | inl lt ↦ absurd (let h = is.1 f.0 lt in omega (arith, h, at))
        | inr le ↦ absurd (let h = is.2 f.0 le w in omega (arith, h, at))
      ]),
)

-- all of a call holds
pub call_holds : (told : Told) (n : ℕ) {a b c d e f g : List Fault} → n < length told.calls →
    Finds told (Contains (actor_of told (call_of told n).actor).callers (call_of told n).caller) a b → Finds told ((call_of told n).outcome ≡ Died → (actor_of
    told (call_of told n).actor).end ≡ Dead) b c → Finds told (Runs told n) c d → Finds told (Come told (call_of told n).waits) d e → Finds told (Happened told
    (Ran n) → Come told (call_of told n).takes) e f → Finds told (TakesGood told n (call_of told n).takes) f g → Finds told (CallHolds told n) a g
call_holds told n lt role died runs waits takes good = record {
  faults = λ all. good.faults (takes.faults (waits.faults (runs.faults (died.faults (role.faults all)))));
  more = omega (arith, role.more, died.more, runs.more, waits.more, takes.more, good.more);
  clean = λ none.
      let ran = runs.clean (omega (arith, none, waits.more, takes.more, good.more)) in
      let come = takes.clean (omega (arith, none, good.more)) in
      record {
        ends = record {
          role = role.clean (omega (arith, none, died.more, runs.more, waits.more, takes.more, good.more));
          died = died.clean (omega (arith, none, runs.more, waits.more, takes.more, good.more));
          retired = ran.retired;
          taken = taken_good told n lt ran come (good.clean none);
        };
        answered = ran.answered;
        waits = waits.clean (omega (arith, none, takes.more, good.more));
        takes = come;
      };
}

pub calls_more : {told : Told} {n : ℕ} {one two three : List Fault} → Finds told ((k : ℕ) → k < n → CallHolds told k) one two →
    Finds told (CallHolds told n) two three → Finds told ((k : ℕ) → k < n + 1 → CallHolds told k) one three
calls_more {told} {n} {one} {two} {three} before here = finds_both told ((k : ℕ) → k < n → CallHolds told k) ((k : ℕ) → k < n + 1 → CallHolds told k)
    (λ all last k lt. elim (same_or_not k n) [
      | inl e ↦ subst (CallHolds told) (sym e) last
      | inr d ↦ all k (omega (arith, lt, d))
    ]) before here

-- whether a call has a place tells whether it ran
pub run_tells : (told : Told) (places : List (Option ℕ)) (n : ℕ) {b : Bool} → HasPlaces told told.runs places → n < length told.calls →
    b ≡ is_some (place_of places n) → (IsTrue b → Happened told (Ran n)) × (Happened told (Ran n) → IsTrue b)
run_tells told places n {b} at lt e = tells (place_of places n) (at.place n lt) e
  where
    tells : (o : Option ℕ) → IsPlace told.runs n o → b ≡ is_some o → (IsTrue b → Happened told (Ran n)) × (Happened told (Ran n) → IsTrue b)
    tells None is same = ((λ h. absurd (let no : false ≡ true = sym same ∙ h in cc)), (λ h. absurd (is h)))
    tells (Some i) is same = ((λ _. stands_in (calls_run told) i (call_at told i _ is.1)), (λ _. same))
