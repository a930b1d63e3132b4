-- One more item at the end of a run list.
use Rattle.act_actor.proofs.Common.{◌≡◌, Some, List, [], ◌∷◌, ◌++◌, length, ap, sym, ◌∙◌, KindState, after_item, state_after, answer_at}
use Rattle.act_rules.specs.declared.history.RunItem.{RunItem}
use Rattle.act_rules.proofs.RunLists.{state_after-push, answer_at-push}

module _ (opening state : KindState) (log new : List RunItem) (item : RunItem) (grown : new ≡ log ++ item ∷ []) (from : state ≡ state_after opening log) where
  -- the state is what the list leaves
  pub follows_more : (next : KindState) → next ≡ (after_item state item).0 → next ≡ state_after opening new
  follows_more next moved = moved ∙ ap (λ s. (after_item s item).0) from ∙ sym (state_after-push opening log item) ∙ ap (state_after opening) (sym grown)

  -- the last answer is that of the item
  pub answer_more : answer_at opening new (length log) ≡ Some (after_item state item).1
  answer_more = ap (λ items. answer_at opening items (length log)) grown ∙ answer_at-push opening log item ∙ ap (λ s. Some (after_item s item).1) (sym from)
