-- A run list with one more item.
use Rattle.act_rules.proofs.Common.{◌≡◌, ℕ, ◌==◌, List, [], ◌∷◌, ◌++◌, length, cond, Some, refl, filter-append, KindState, RunItem, after_item, state_after}
use Rattle.act_rules.proofs.Common.{answer_at, items_of}

-- the state after one more item
pub state_after-push : (opening : KindState) (items : List RunItem) (item : RunItem)
    → state_after opening (items ++ item ∷ []) ≡ (after_item (state_after opening items) item).0
state_after-push opening [] item = refl
state_after-push opening (first ∷ items) item = state_after-push (after_item opening first).0 items item

-- the answer of one more item
pub answer_at-push : (opening : KindState) (items : List RunItem) (item : RunItem)
    → answer_at opening (items ++ item ∷ []) (length items) ≡ Some (after_item (state_after opening items) item).1
answer_at-push opening [] item = refl
answer_at-push opening (first ∷ items) item = answer_at-push (after_item opening first).0 items item

-- a caller's items with one more
pub items_of-push : (c : ℕ) (items : List RunItem) (item : RunItem) →
    items_of c (items ++ item ∷ []) ≡ items_of c items ++ cond (item.caller == c) (item ∷ []) []
items_of-push c items item = filter-append (λ (i : RunItem). i.caller == c) items (item ∷ [])
