-- What a table of places tells, once one place changes or more are added.
use Rattle.act_inbox.proofs.Common.{◌≡◌, ℕ, zero, suc, ◌<◌, ◌≤◌, ◌==◌, List, [], ◌∷◌, length, None, if◌then◌else◌, refl, set, replicate, inl, inr}
use Rattle.act_inbox.proofs.Common.{eqb_tells, take, take_all, key_in, told_key}
use Rattle.std.specs.Prelude.{◌++◌, ◌-◌}
use Rattle.act_rules.proofs.Common.{element, get_set-other, get_set-same}

zeros : (m count : ℕ) → key_in (replicate m 0) count ≡ None
zeros zero count = refl
zeros (suc m) zero = refl
zeros (suc m) (suc count) = zeros m count

pub key_in_more : (index : List ℕ) (m count : ℕ) → key_in (index ++ replicate m 0) count ≡ key_in index count
key_in_more [] m count = zeros m count
key_in_more (p ∷ ps) m zero = refl
key_in_more (p ∷ ps) m (suc count) = key_in_more ps m count

pub key_in_set : (index : List ℕ) (number place : ℕ) → number < length index → (count : ℕ) →
    key_in (set index number place) count ≡ (if number == count then told_key place else key_in index count)
key_in_set index number place within count = elim (eqb_tells number count) [
  | inl t ↦ rw (t.0, ← t.1, get_set-same index number place (element index number within).1) refl
  | inr f ↦ rw (f.0, get_set-other index number count place f.1) refl
]

-- a table that is filled up to a length
pub key_in_filled : (old new : List ℕ) (n : ℕ) → length old ≤ n → new ≡ take n old ++ replicate (n - length old) 0 → (count : ℕ) →
    key_in new count ≡ key_in old count
key_in_filled old new n le is count = rw (is, take_all n old le) (key_in_more old (n - length old) count)
