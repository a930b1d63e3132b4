-- The last call that an actor ran.
use Rattle.act_orders.proofs.Common.{◌≡◌, ℕ, zero, suc, ◌+◌, ◌<◌, ◌≤◌, inl, inr, List, [], ◌∷◌, length, refl, sym, ap, ◌∙◌, arith, Option, Some, None}
use Rattle.act_orders.proofs.Common.{slice_get, cond, eqb, eq-eqb, option_or, eqb-true, slice_get_within, get_or_from_slice_get, cond_some, same_Some, Run}
use Rattle.act_orders.proofs.Common.{Told, IsLastRun, IsUpTo, run_of, last_call, cases_lt}
use Rattle.act_orders.proofs.Running.{run_at}

-- where the last run of an actor stands among these
record LastOf (runs : List Run) (a m : ℕ) : Type 0 where
  place : ℕ
  at : slice_get runs place ≡ Some (record { actor = a; call = m })
  last : (i : ℕ) (run : Run) → slice_get runs i ≡ Some run → run.actor ≡ a → i ≤ place

-- none of these is of this actor
abbrev pub NoneOf : List Run → ℕ → Type 0
NoneOf runs a = (i : ℕ) (run : Run) → slice_get runs i ≡ Some run → run.actor ≡ a → ⊥

none_of : (runs : List Run) (a : ℕ) → last_call runs a ≡ None → NoneOf runs a
none_of [] a e = λ i run at. absurd (cc)
none_of (first ∷ runs) a e = by_rest (last_call runs a) refl (none_of runs a)
  where
    by_rest : (o : Option ℕ) → last_call runs a ≡ o → (last_call runs a ≡ None → NoneOf runs a) → NoneOf (first ∷ runs) a
    by_rest (Some m) is rest i run at same =
        absurd (let no : Some m ≡ None = ap (λ o. option_or o (cond (eqb first.actor a) (Some first.call) None)) (sym is) ∙ e in cc)
    by_rest None is rest zero run at same =
        let one : first ≡ run = same_Some first run at in
        let here : cond (eqb first.actor a) (Some first.call) None ≡ None =
        ap (λ o. option_or o (cond (eqb first.actor a) (Some first.call) None)) (sym is) ∙ e in
        absurd (let yes = eq-eqb first.actor a (ap (λ (r : Run). r.actor) one ∙ same) in
        let no : Some first.call ≡ None = ap (λ b. cond b (Some first.call) None) (sym yes) ∙ here in cc)
    by_rest None is rest (suc i) run at same = rest is i run at same

-- the last run stands as far behind one run more
behind : (first : Run) (runs : List Run) (a m : ℕ) → LastOf runs a m → LastOf (first ∷ runs) a m
behind first runs a m l = record { place = suc l.place; at = l.at; last = beyond }
  where
    beyond : (i : ℕ) (run : Run) → slice_get (first ∷ runs) i ≡ Some run → run.actor ≡ a → i ≤ suc l.place
    beyond zero run at one = omega arith
    beyond (suc i) run at one = let h = l.last i run at one in omega (arith, h)

-- the first run is the last where none follows
in_front : (first : Run) (runs : List Run) (a m : ℕ) → NoneOf runs a → first ≡ record { actor = a; call = m } → LastOf (first ∷ runs) a m
in_front first runs a m none is = record { place = 0; at = ap Some is; last = at_front }
  where
    at_front : (i : ℕ) (run : Run) → slice_get (first ∷ runs) i ≡ Some run → run.actor ≡ a → i ≤ 0
    at_front zero run at one = omega arith
    at_front (suc i) run at one = absurd (none i run at one)

last_of : (runs : List Run) (a m : ℕ) → last_call runs a ≡ Some m → LastOf runs a m
last_of [] a m e = absurd (cc)
last_of (first ∷ runs) a m e = by_rest (last_call runs a) refl (last_of runs a m)
  where
    by_rest : (o : Option ℕ) → last_call runs a ≡ o → (last_call runs a ≡ Some m → LastOf runs a m) → LastOf (first ∷ runs) a m
    by_rest (Some k) is rest =
        let same : Some k ≡ Some m = ap (λ o. option_or o (cond (eqb first.actor a) (Some first.call) None)) (sym is) ∙ e in
        behind first runs a m (rest (is ∙ same))
    by_rest None is rest =
        let here : cond (eqb first.actor a) (Some first.call) None ≡ Some m =
        ap (λ o. option_or o (cond (eqb first.actor a) (Some first.call) None)) (sym is) ∙ e in
        let found = cond_some (eqb first.actor a) first.call m here in let actor : first.actor ≡ a = eqb-true first.actor a found.0 in
        let run : first ≡ record { actor = a; call = m } =
        ap (λ b. record { actor = b; call = first.call }) actor ∙ ap (λ k. record { actor = a; call = k }) found.1 in
        in_front first runs a m (none_of runs a is) run

-- what is found is the last run, and the last run is found
pub is_last : (told : Told) (a m : ℕ) → last_call told.runs a ≡ Some m → IsLastRun told a m
is_last told a m e = let l = last_of told.runs a m e in record { place = l.place; at = l.at; last = l.last }

pub last_found : (told : Told) (a m : ℕ) → IsLastRun told a m → last_call told.runs a ≡ Some m
last_found told a m l = by_call (last_call told.runs a) refl
  where
    by_call : (o : Option ℕ) → last_call told.runs a ≡ o → last_call told.runs a ≡ Some m
    by_call None is = absurd (none_of told.runs a is l.place (record { actor = a; call = m }) l.at refl)
    by_call (Some k) is =
        let other = last_of told.runs a k is in
        let up = l.last other.place (record { actor = a; call = k }) other.at refl in
        let down = other.last l.place (record { actor = a; call = m }) l.at refl in
        let one : other.place ≡ l.place = omega (arith, up, down) in
        let runs : Some (record { actor = a; call = k }) ≡ Some (record { actor = a; call = m }) =
        sym other.at ∙ ap (λ i. slice_get told.runs i) one ∙ l.at in
        let run : (record { actor = a; call = k }) ≡ record { actor = a; call = m } = same_Some _ _ runs in is ∙ ap (λ (r : Run). Some r.call) run

pub nothing_found : (told : Told) (a : ℕ) → NoneOf told.runs a → last_call told.runs a ≡ None
nothing_found told a none = by_call (last_call told.runs a) refl
  where
    by_call : (o : Option ℕ) → last_call told.runs a ≡ o → last_call told.runs a ≡ None
    by_call None is = is
    by_call (Some k) is = let l = last_of told.runs a k is in absurd (none l.place (record { actor = a; call = k }) l.at refl)

-- what is found before the first run of a later actor
pub found_up_to : (told : Told) (a j : ℕ) → IsUpTo told a (j + 1) → j < length told.runs → (run_of told j).actor ≡ a →
    last_call told.runs a ≡ Some (run_of told j).call
found_up_to told a j up lt same = last_found told a (run_of told j).call (record {
  place = j;
  at = run_at told j lt ∙ ap (λ b. Some (record { actor = b; call = (run_of told j).call })) same;
  last = λ i run at one. elim (cases_lt j i) [
    | inr le ↦ le
    | inl less ↦ absurd (let w = slice_get_within told.runs i run at in let is : run_of told i ≡ run = get_or_from_slice_get told.runs i run
        (record { actor = 0; call = 0 }) at in let h = up.later i (omega (arith, less)) w in omega (arith, h, ap (λ (r : Run). r.actor) is, one))
  ];
})

-- what isn't, where these are all of earlier ones
pub nothing_up_to : (told : Told) {a : ℕ} (k : ℕ) → IsUpTo told a k → ((i : ℕ) → i < k → (run_of told i).actor < a) → last_call told.runs a ≡ None
nothing_up_to told {a} k up before = nothing_found told a (λ i run at one.
    let w = slice_get_within told.runs i run at in
    let is : run_of told i ≡ run = get_or_from_slice_get told.runs i run (record { actor = 0; call = 0 }) at in
    elim (cases_lt i k) [
      | inl less ↦ absurd (let h = before i less in omega (arith, h, ap (λ (r : Run). r.actor) is, one))
      | inr more ↦ absurd (let h = up.later i more w in omega (arith, h, ap (λ (r : Run). r.actor) is, one))
    ])
