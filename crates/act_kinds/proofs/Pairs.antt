-- What the map's words say of a table's pairs, in the words of the rules.
use Rattle.act_kinds.proofs.Common.{◌≡◌, ℕ, Bool, true, false, not, cond, List, [], ◌∷◌, Some, find, option_map, refl, sym, ap, subst, ◌∙◌}
use Rattle.std.proofs.lemmas.Cmp.{nat_list_eq_equiv}
use Rattle.std.proofs.lemmas.Slice.Eq.{bytes_eq-Decides}
use Rattle.std.specs.List.{AllByRecursion, IsDistinct}
use Rattle.std.specs.Map.{keys_of, lookup}
use Rattle.std.specs.Str.{bytes_eq}
use Rattle.indexmap.specs.IndexMap.{insert_entry, shift_remove_entry}
use Rattle.act_types.specs.declared.call.Value.{Value}
use Rattle.act_rules.specs.Kinds.{value_at, with_pair, without_key}

abbrev Pairs : Type 0
Pairs = List (List ℕ × Value)

-- the map's look-up
pub lookup_is : (key : List ℕ) (pairs : Pairs) → lookup (bytes_eq key) pairs ≡ value_at key pairs
lookup_is key [] = refl
lookup_is key (pair ∷ pairs) = (λ i. cond (nat_list_eq_equiv.symm key pair.0 i) (Some pair.1) (lookup_is key pairs i)) ∙ by (bytes_eq pair.0 key)
  where
    by : (here : Bool) → cond here (Some pair.1) (value_at key pairs) ≡ option_map (λ p. p.1) (cond here (Some pair) (find (λ p. bytes_eq p.0 key) pairs))
    by true = refl
    by false = refl

-- the map's insertion
pub insert_is : (key : List ℕ) (value : Value) (pairs : Pairs) → insert_entry bytes_eq pairs key value ≡ with_pair key value pairs
insert_is key value [] = refl
insert_is key value (pair ∷ pairs) =
    by (bytes_eq key pair.0) refl (insert_is key value pairs)
    ∙ (λ i. cond (nat_list_eq_equiv.symm key pair.0 i) ((key, value) ∷ pairs) (pair ∷ with_pair key value pairs))
  where
    by : (here : Bool) → bytes_eq key pair.0 ≡ here → insert_entry bytes_eq pairs key value ≡ with_pair key value pairs →
        cond here ((pair.0, value) ∷ pairs) (pair ∷ insert_entry bytes_eq pairs key value) ≡ cond here ((key, value) ∷ pairs) (pair ∷ with_pair key value pairs)
    by true e rest = ap (λ k. (k, value) ∷ pairs) (sym ((bytes_eq-Decides key pair.0).0 e))
    by false e rest = ap (λ others. pair ∷ others) rest

-- a key that no pair has takes none out
others_stay : (key : List ℕ) (pairs : Pairs) → AllByRecursion (λ other. bytes_eq key other ≡ false) (keys_of pairs) → without_key key pairs ≡ pairs
others_stay key [] apart = refl
others_stay key (pair ∷ pairs) apart =
    λ i. cond (not ((nat_list_eq_equiv.symm pair.0 key ∙ apart.0) i)) (pair ∷ others_stay key pairs apart.1 i) (without_key key pairs)

-- the map's removal
pub remove_is : (key : List ℕ) (pairs : Pairs) → IsDistinct bytes_eq (keys_of pairs) → shift_remove_entry (bytes_eq key) pairs ≡ without_key key pairs
unfolding IsDistinct
remove_is key [] distinct = refl
remove_is key (pair ∷ pairs) distinct =
    by (bytes_eq key pair.0) refl (remove_is key pairs distinct.1)
    ∙ (λ i. cond (not (nat_list_eq_equiv.symm key pair.0 i)) (pair ∷ without_key key pairs) (without_key key pairs))
  where
    by : (here : Bool) → bytes_eq key pair.0 ≡ here → shift_remove_entry (bytes_eq key) pairs ≡ without_key key pairs
        → cond here pairs (pair ∷ shift_remove_entry (bytes_eq key) pairs) ≡ cond (not here) (pair ∷ without_key key pairs) (without_key key pairs)
    by true e rest =
        let same = (bytes_eq-Decides key pair.0).0 e in
        sym (others_stay key pairs (subst (λ k. AllByRecursion (λ other. bytes_eq k other ≡ false) (keys_of pairs)) (sym same) distinct.0))
    by false e rest = ap (λ others. pair ∷ others) rest
