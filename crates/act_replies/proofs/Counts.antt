-- The counts of the futures that wait for each actor stay right as one enters, and as one waits no more.
use Rattle.act_replies.proofs.Common.{◌≡◌, ℕ, ◌+◌, ◌-◌, ◌<◌, ◌≤◌, ◌==◌, List, [], ◌∷◌, ◌++◌, length, get_or, count_by, cond, Option, Some, None, inl, inr, refl}
use Rattle.act_replies.proofs.Common.{sym, ◌∙◌, ap, arith, slice_set, eq-eqb, eqb_tells, get_or-set_same, get_or-set_other, sum_by-set, sum_by_push, MAX_ACTORS}
use Rattle.act_replies.proofs.Common.{found_at, is_for, IsCounted}
use Rattle.act_replies.proofs.Chains.{within}

-- how much a future counts for an actor
abbrev counts_for : ℕ → Option ℕ → ℕ
counts_for a o = cond (is_for a o) 1 0

-- one more waits for actor a
more : (w : List (Option ℕ)) (a x : ℕ) → count_by (is_for x) (w ++ Some a ∷ []) ≡ count_by (is_for x) w + cond (a == x) 1 0
more w a x = sum_by_push (counts_for x) w (Some a)

pub counts_pushed : (w : List (Option ℕ)) {new : List (Option ℕ)} (counts : List ℕ) (a : ℕ) {at : ℕ} → IsCounted w counts → at < length counts → at ≡ a →
    new ≡ w ++ Some a ∷ [] → IsCounted new (slice_set counts at (get_or counts at 0 + 1))
counts_pushed w {new} counts a {at} fine listed at_is is x valid =
    let counted : count_by (is_for x) new ≡ count_by (is_for x) w + cond (a == x) 1 0 = ap (count_by (is_for x)) is ∙ more w a x in
    elim (eqb_tells a x) [
      | inl t ↦
          let one : cond (a == x) 1 0 ≡ 1 = ap {B = ℕ} (λ b. cond b 1 0) t.0 in
          let here : get_or (slice_set counts at (get_or counts at 0 + 1)) x 0 ≡ get_or counts x 0 + 1 =
          ap (λ n. get_or (slice_set counts at (get_or counts at 0 + 1)) n 0) (sym t.1 ∙ sym at_is)
          ∙ get_or-set_same counts at (get_or counts at 0 + 1) 0 listed
          ∙ ap (λ n. get_or counts n 0 + 1) (at_is ∙ t.1) in
          omega (arith, counted, one, here, fine x valid)
      | inr f ↦
          let none : cond (a == x) 1 0 ≡ 0 = ap {B = ℕ} (λ b. cond b 1 0) f.0 in
          let here : get_or (slice_set counts at (get_or counts at 0 + 1)) x 0 ≡ get_or counts x 0 =
          get_or-set_other counts at x (get_or counts at 0 + 1) 0 (λ e. f.1 (sym at_is ∙ sym e)) in
          omega (arith, counted, none, here, fine x valid)
    ]

-- future k waited for actor a, and waits no more
less : (w : List (Option ℕ)) (k a x : ℕ) → found_at w k ≡ Some a → count_by (is_for x) (slice_set w k None) + cond (a == x) 1 0 ≡ count_by (is_for x) w
less w k a x here =
    let nobody : Option ℕ = None in
    let counted = sum_by-set (counts_for x) w k nobody nobody (within w k a here) in
    let was : counts_for x (found_at w k) ≡ cond (a == x) 1 0 = ap (counts_for x) here in omega (arith, counted, was)

pub counts_some : (w : List (Option ℕ)) (counts : List ℕ) (k : ℕ) {a at : ℕ} → IsCounted w counts → a ≤ MAX_ACTORS → at ≡ a → found_at w k ≡ Some a →
    1 ≤ get_or counts at 0
counts_some w counts k {a} fine valid at_is here =
    let one : counts_for a (Some a) ≡ 1 = ap {B = ℕ} (λ b. cond b 1 0) (eq-eqb a a refl) in
    omega (arith, less w k a a here, one, fine a valid, ap (λ n. get_or counts n 0) at_is)

pub counts_removed : (w new : List (Option ℕ)) (counts : List ℕ) (k : ℕ) {a at : ℕ} → IsCounted w counts → at < length counts → at ≡ a → found_at w k ≡ Some a →
    new ≡ slice_set w k None → IsCounted new (slice_set counts at (get_or counts at 0 - 1))
counts_removed w new counts k {a} {at} fine listed at_is here is x valid =
    let counted : count_by (is_for x) new + cond (a == x) 1 0 ≡ count_by (is_for x) w =
    ap (λ l. count_by (is_for x) l + cond (a == x) 1 0) is ∙ less w k a x here in
    elim (eqb_tells a x) [
      | inl t ↦
          let one : cond (a == x) 1 0 ≡ 1 = ap {B = ℕ} (λ b. cond b 1 0) t.0 in
          let now : get_or (slice_set counts at (get_or counts at 0 - 1)) x 0 ≡ get_or counts x 0 - 1 =
          ap (λ n. get_or (slice_set counts at (get_or counts at 0 - 1)) n 0) (sym t.1 ∙ sym at_is)
          ∙ get_or-set_same counts at (get_or counts at 0 - 1) 0 listed
          ∙ ap (λ n. get_or counts n 0 - 1) (at_is ∙ t.1) in
          omega (arith, counted, one, now, fine x valid)
      | inr f ↦
          let none : cond (a == x) 1 0 ≡ 0 = ap {B = ℕ} (λ b. cond b 1 0) f.0 in
          let now : get_or (slice_set counts at (get_or counts at 0 - 1)) x 0 ≡ get_or counts x 0 =
          get_or-set_other counts at x (get_or counts at 0 - 1) 0 (λ e. f.1 (sym at_is ∙ sym e)) in
          omega (arith, counted, none, now, fine x valid)
    ]
