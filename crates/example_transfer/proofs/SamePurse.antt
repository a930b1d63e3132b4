-- A purse is told by what it answers.
use Rattle.example_transfer.proofs.Common.{◌≡◌, ℕ, zero, suc, ◌+◌, ◌≤◌, ◌↔◌, Bool, true, false, [], ◌∷◌, refl, ap, sym, ◌∙◌, arith, pos, nat_le, Ok, is_ok}
use Rattle.example_transfer.proofs.Common.{codes, int_lt, Some, IsTrue, ActorSpec, History, runs_of, state_after, Purse, Together, purse_at, purse_need}
use Rattle.example_transfer.proofs.Common.{IsPurse, HoldTogether}
use Rattle.actors.specs.Value.{Value}
use Rattle.actors.specs.Value.TheVariants.{Int}
use Rattle.actors.specs.Method.TheVariants as method
use Rattle.actors.specs.Fault.{Fault}
use Rattle.actors.specs.Fault.TheVariants.{BadAmount, Insufficient}
use Rattle.actors.specs.Kinds.{KindState, OwnAt, Ask, step_answer}

-- whether a kind of one's own answers a call with a value
abbrev gives : KindState → Ask → Bool
gives (OwnAt behaviour) ask = is_ok (behaviour.told [] ask)
gives state ask = false

-- the call that asks for so much
abbrev paying : ℕ → Ask
paying n = record { method = method.Own (codes "pay_out"); args = Int (pos n) ∷ [] }

ok_if : (a b : Bool) (f g : Fault) (next : Purse × Value) → a ≡ true → is_ok (step_answer (purse_need a f (purse_need b g (Ok next)))) ≡ b
ok_if true true f g next e = refl
ok_if true false f g next e = refl
ok_if false b f g next e = absurd (cc e)

gives_if : (purse : Purse) (n : ℕ) → gives (purse_at purse) (paying (suc n)) ≡ nat_le (suc n) purse.held
gives_if purse n = ok_if (int_lt (pos 0) (pos (suc n))) (nat_le (suc n) purse.held) BadAmount Insufficient _ (grind arith)

-- a purse pays out as much as another of the same behaviour holds
holds_as_much : (one other : Purse) → purse_at one ≡ purse_at other → (n : ℕ) → n ≤ one.held → n ≤ other.held
holds_as_much one other e zero h = omega arith
holds_as_much one other e (suc n) h =
    let may : nat_le (suc n) other.held ≡ true =
    sym (gives_if other n) ∙ ap (λ state. gives state (paying (suc n))) (sym e) ∙ gives_if one n ∙ grind (arith, h) in
    grind (arith, may)

pub same_held : (one other : Purse) → purse_at one ≡ purse_at other → one.held ≡ other.held
same_held one other e =
    let up : one.held ≤ other.held = holds_as_much one other e one.held (omega arith) in
    let down : other.held ≤ one.held = holds_as_much other one (sym e) other.held (omega arith) in
    omega (arith, up, down)

-- the actor is one purse
pub same_purse : (h : History) {a : ℕ} {one : Purse} (other : Purse) → IsPurse h a one → IsPurse h a other → one.held ≡ other.held
same_purse h {a} {one} other p q =
    let cast : Some p.cast ≡ Some q.cast = sym p.cast_is ∙ q.cast_is in
    let same : p.cast ≡ q.cast = cc in
    same_held one other (sym p.state ∙ ap (λ (cast : ActorSpec). state_after cast.opening (runs_of a h)) same ∙ q.state)

-- the two hold the sum together exactly where their amounts add to it
pub kept_if : (t : Together) {h : History} {one other : Purse} (b : Bool) → IsPurse h t.one one → IsPurse h t.other other
    → (IsTrue b ↔ (one.held + other.held ≡ t.sum)) → (IsTrue b ↔ HoldTogether t h)
kept_if t {h} {one} {other} b p q adds = (
  λ yes. record { one = one; other = other; one_is = p; other_is = q; sum_is = adds.0 yes },
  λ held.
      let first : held.one.held ≡ one.held = same_purse h one held.one_is p in
      let second : held.other.held ≡ other.held = same_purse h other held.other_is q in
      let sum : held.one.held + held.other.held ≡ t.sum = held.sum_is in
      adds.1 (omega (arith, first, second, sum)),
)

pub none_kept : (t : Together) (h : History) → (HoldTogether t h → ⊥) → (IsTrue false ↔ HoldTogether t h)
none_kept t h no_sum = (λ yes. cc, λ held. absurd (no_sum held))
