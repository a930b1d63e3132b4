-- A limiter never grants more than its rate between two resets.
use Rattle.example_kinds.proofs.Common.{◌≡◌, ◌≤◌, ◌<◌, ◌+◌, ℕ, suc, List, [], ◌∷◌, ◌++◌, length, filter, cond, Bool, true, false, refl, ap, sym, ◌∙◌, subst}
use Rattle.example_kinds.proofs.Common.{arith, Result, Ok, Err, ◌&&◌, ◌||◌, nat_lt, bytes_eq, codes, is_ok, if◌then◌else◌, pos, ◌-◌, list_any, Value, Int}
use Rattle.example_kinds.proofs.Common.{Fault, NoMethod, Own, Ask, next_state, step_answer, on_call, alone, Answer, kind_answer, told_in, IsKept, Left}
use Rattle.example_kinds.proofs.Common.{method_text, holds_in_each_run}
use Rattle.std.proofs.lemmas.Bool.{ltb-true}
use Rattle.actors.specs.RunItem.{RunItem}
use Rattle.example_kinds.specs.declared.limiter.Limiter.{Limiter}
use Rattle.example_kinds.specs.declared.limiter.LimiterCall.TheVariants.{Acquire, Reset, Left as HowMany}
use Rattle.example_kinds.specs.Limiter.{limiter_does, limiter_step, limiter_text, limiter_of, limiter_at, is_grant, is_reset, grants, NeverAbove}

-- the grants since the last reset, after one call more
abbrev next_count : Bool → Bool → ℕ → ℕ
next_count true reset n = n + 1
next_count false true n = 0
next_count false false n = n

abbrev counted : ℕ → Ask × Answer → ℕ
counted n one = next_count (is_grant one) (is_reset one) n

-- the count after all
abbrev since : ℕ → List (Ask × Answer) → ℕ
since n [] = n
since n (one ∷ told) = since (counted n one) told

-- the count never passes this
abbrev Within : ℕ → ℕ → List (Ask × Answer) → Type 0
Within most n [] = n ≤ most
Within most n (one ∷ told) = (n ≤ most) × Within most (counted n one) told

since_last : (n : ℕ) (told : List (Ask × Answer)) (one : Ask × Answer) → since n (told ++ one ∷ []) ≡ counted (since n told) one
since_last n [] one = refl
since_last n (first ∷ told) one = since_last (counted n first) told one

within_last : (most n : ℕ) (told : List (Ask × Answer)) (one : Ask × Answer)
    → Within most n told → counted (since n told) one ≤ most → Within most n (told ++ one ∷ [])
within_last most n [] one h last = (h, last)
within_last most n (first ∷ told) one h last = (h.0, within_last most (counted n first) told one h.1 last)

within_rest : (most n : ℕ) (before rest : List (Ask × Answer)) → Within most n (before ++ rest) → Within most (since n before) rest
within_rest most n [] rest h = h
within_rest most n (first ∷ before) rest h = within_rest most (counted n first) before rest h.1

within_first : (most n : ℕ) (told : List (Ask × Answer)) → Within most n told → n ≤ most
within_first most n [] h = h
within_first most n (one ∷ told) h = h.0

within_since : (most n : ℕ) (told : List (Ask × Answer)) → Within most n told → since n told ≤ most
within_since most n [] h = h
within_since most n (one ∷ told) h = within_since most (counted n one) told h.1

one_more : (n more most : ℕ) → (n + 1) + more ≤ most → n + suc more ≤ most
one_more n more most h = omega (arith, h)

-- what a stretch without a reset grants comes on top of the count
stretch_few : (most n : ℕ) (stretch after : List (Ask × Answer)) → Within most n (stretch ++ after)
    → list_any is_reset stretch ≡ false → n + grants stretch ≤ most
stretch_few most n [] after h none = subst (λ (m : ℕ). m ≤ most) (omega arith) (within_first most n after h)
stretch_few most n (one ∷ stretch) after h none = go (is_grant one) (is_reset one) h.1 none (λ m within free. stretch_few most m stretch after within free)
  where
    go : (grant reset : Bool) → Within most (next_count grant reset n) (stretch ++ after) → (reset || list_any is_reset stretch) ≡ false
        → ((m : ℕ) → Within most m (stretch ++ after) → list_any is_reset stretch ≡ false → m + grants stretch ≤ most)
        → n + length (cond grant (one ∷ filter is_grant stretch) (filter is_grant stretch)) ≤ most
    go true true within free rest = absurd (cc free)
    go false true within free rest = absurd (cc free)
    go true false within free rest = one_more n (grants stretch) most (rest (n + 1) within free)
    go false false within free rest = rest n within free

never_above : (most : ℕ) (told : List (Ask × Answer)) → Within most 0 told → NeverAbove most told
never_above most told h before stretch after is none =
    let rest : Within most (since 0 before) (stretch ++ after) =
    within_rest most 0 before (stretch ++ after) (subst (λ (all : List (Ask × Answer)). Within most 0 all) is h) in
    let few : since 0 before + grants stretch ≤ most = stretch_few most (since 0 before) stretch after rest none in
    omega (arith, few)

-- ---- what a step does to the count

record Counts (l : Limiter) (acquire reset : Bool) (given : Result (Limiter × Value) Fault) : Type 0 where
  count : next_count (acquire && is_ok (kind_answer (step_answer given)))
      (reset && is_ok (kind_answer (step_answer given))) l.granted ≡ (next_state l given).granted
  most : (next_state l given).most ≡ l.most
  fits : l.granted ≤ l.most → (next_state l given).granted ≤ l.most

refused : (l : Limiter) (acquire reset : Bool) (fault : Fault) → Counts l acquire reset (Err fault)
refused l true true fault = record { count = refl; most = refl; fits = λ fits. fits }
refused l true false fault = record { count = refl; most = refl; fits = λ fits. fits }
refused l false true fault = record { count = refl; most = refl; fits = λ fits. fits }
refused l false false fault = record { count = refl; most = refl; fits = λ fits. fits }

acquired : (l : Limiter) (reset b : Bool) → nat_lt l.granted l.most ≡ b
    → Counts l true reset
    (if b then Ok (record l { granted = l.granted + 1 }, Int (pos (l.most - (l.granted + 1))))
    else Err (Own (codes "RateLimited")))
acquired l reset true e =
    let less : l.granted < l.most = ltb-true l.granted l.most e in
    record { count = refl; most = refl; fits = λ fits. omega (arith, less) }
acquired l reset false e = refused l true reset (Own (codes "RateLimited"))

step_counts : (l : Limiter) (acquire reset left : Bool) (args : List Value)
    → Counts l acquire reset (on_call limiter_does l
    (if acquire then alone Acquire args else (if reset then alone Reset args else (if left then alone HowMany args else Err NoMethod))))
step_counts l true reset left [] = acquired l reset (nat_lt l.granted l.most) refl
step_counts l true reset left (arg ∷ args) = refused l true reset _
step_counts l false true left [] = record { count = refl; most = refl; fits = λ fits. omega arith }
step_counts l false true left (arg ∷ args) = refused l false true _
step_counts l false false true [] = record { count = refl; most = refl; fits = λ fits. fits }
step_counts l false false true (arg ∷ args) = refused l false false _
step_counts l false false false args = refused l false false _

-- the count so far is what the limiter knows, and it never passed the rate
record IsWithin (most : ℕ) (told : List (Ask × Answer)) (l : Limiter) : Type 0 where
  within : Within most 0 told
  known : since 0 told ≡ l.granted
  rate : l.most ≡ most

rate_is_kept : (most : ℕ) → IsKept limiter_step (IsWithin most)
rate_is_kept most told l ask h =
    let given : Result (Limiter × Value) Fault = limiter_step l ask.method ask.args in
    let one : Ask × Answer = (ask, kind_answer (step_answer given)) in
    let counts : Counts l (bytes_eq (method_text ask.method) (codes "acquire")) (bytes_eq (method_text ask.method) (codes "reset")) given =
    step_counts l (bytes_eq (method_text ask.method) (codes "acquire")) (bytes_eq (method_text ask.method) (codes "reset"))
    (bytes_eq (method_text ask.method) (codes "left")) ask.args in
    let now : counted (since 0 told) one ≡ (next_state l given).granted = ap (λ (n : ℕ). counted n one) h.known ∙ counts.count in
    let before : l.granted ≤ l.most = subst (λ (m : ℕ). l.granted ≤ m) (sym h.rate) (subst (λ (n : ℕ). n ≤ most) h.known (within_since most 0 told h.within)) in
    record {
      within = within_last most 0 told one h.within
          (subst (λ (n : ℕ). n ≤ most) (sym now) (subst (λ (m : ℕ). (next_state l given).granted ≤ m) h.rate (counts.fits before)));
      known = since_last 0 told one ∙ now;
      rate = counts.most ∙ h.rate;
    }

-- a limiter grants no more than its rate in any stretch without a reset, whatever it ran
pub never_above_its_rate : (most : ℕ) (items : List RunItem) → NeverAbove most (told_in (limiter_at most) items)
never_above_its_rate most items =
    let left : Left limiter_step limiter_text (IsWithin most) (limiter_at most) items =
    holds_in_each_run limiter_step limiter_text (IsWithin most) (rate_is_kept most) (limiter_of most)
    (record { within = omega arith; known = refl; rate = refl }) items in
    never_above most (told_in (limiter_at most) items) left.kept.within
