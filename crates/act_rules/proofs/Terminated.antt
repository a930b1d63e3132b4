-- Run lists in which nothing follows a `terminate` that ended the actor.
use Rattle.act_rules.proofs.Common.{◌≡◌, ℕ, ◌+◌, ◌-◌, ◌<◌, ◌≤◌, true, false, List, [], ◌∷◌, ◌++◌, length, Some, None, refl, ap, sym, ◌∙◌, arith, ◌⊎◌}
use Rattle.act_rules.proofs.Common.{inl, inr, Option, slice_get, cases_lt, slice_get_past, length_push, RunItem, ends_actor, has_terminated}
use Rattle.act_rules.proofs.Common.{NothingFollowsAnEnd, slice_get_more, past_none}

-- nothing has ended the actor yet
pub none_ends : (items : List RunItem) (place : ℕ) → NothingFollowsAnEnd items → has_terminated items ≡ false → ends_actor (slice_get items place) ≡ true → ⊥
none_ends items place last on ends =
    let long : length items ≡ place + 1 = last place ends in let here : length items - 1 ≡ place = omega (arith, long) in
    let bad : true ≡ false = sym ends ∙ ap (λ n. ends_actor (slice_get items n)) (sym here) ∙ on in cc

front_ends : (items : List RunItem) (item : RunItem) (place : ℕ) (o : Option RunItem) → slice_get items place ≡ o → place < length items →
    ends_actor (slice_get (items ++ item ∷ []) place) ≡ true → ends_actor (slice_get items place) ≡ true
front_ends items item place None at below ends = let n : length items ≤ place = past_none items place at in absurd (omega (arith, n, below))
front_ends items item place (Some one) at below ends = ap ends_actor at ∙ sym (ap ends_actor (slice_get_more items (item ∷ []) place at)) ∙ ends

-- one item more, at an actor that wasn't ended
pub nothing_follows-push : (items : List RunItem) (item : RunItem) → NothingFollowsAnEnd items → has_terminated items ≡ false →
    NothingFollowsAnEnd (items ++ item ∷ [])
nothing_follows-push items item last on place ends = go (cases_lt place (length items))
  where
    long : length (items ++ item ∷ []) ≡ length items + 1
    long = length_push items item

    past : length items ≤ place → (place < length (items ++ item ∷ [])) ⊎ (length (items ++ item ∷ []) ≤ place) → length (items ++ item ∷ []) ≡ place + 1
    past from (inl below) = omega (arith, long, from, below)
    past from (inr over) = let bad : true ≡ false = sym ends ∙ ap ends_actor (slice_get_past (items ++ item ∷ []) place over) in cc

    go : (place < length items) ⊎ (length items ≤ place) → length (items ++ item ∷ []) ≡ place + 1
    go (inl below) = absurd (none_ends items place last on (front_ends items item place (slice_get items place) refl below ends))
    go (inr from) = past from (cases_lt place (length (items ++ item ∷ [])))
