-- What an actor ran of a caller's calls is a prefix of the caller's calls to it, each as it was submitted.
use Rattle.act_rules.proofs.Common.{◌≡◌, ℕ, ◌+◌, Bool, true, false, cond, List, [], ◌∷◌, ◌++◌, length, Some, None, refl, ap, sym, ◌∙◌, subst, arith, Option}
use Rattle.act_rules.proofs.Common.{◌==◌, map, slice_get, option_map, enumerate_from, eqb-true, map-append, append-nil, length-map, slice_get-map, RunItem}
use Rattle.act_rules.proofs.Common.{Event, Submit, Run, items_of, Submission, calls_to, IsPrefix, History, under, runs_of, calls_of, kept_of, ran_count}
use Rattle.act_rules.proofs.Common.{has_letter, run_item, next_item, add_event, after_run, CallLetter}
use Rattle.act_rules.proofs.Lists.{front_trans, front_next, slice_get-enumerate_from, IsPrefix-map, IsPrefix-enumerate}
use Rattle.act_rules.proofs.Growth.{Grows, added_grows, calls_grow, calls_to_grow}
use Rattle.act_rules.proofs.Ended.{under-push}
use Rattle.act_rules.proofs.RunLists.{items_of-push}

-- ---- what runs next

-- the caller's call by the number of its calls that ran, whose letter has arrived
pub record IsNext (a c : ℕ) (h : History) (item : RunItem) : Type 0 where
  pub call : ℕ × Submission
  pub arrived : has_letter (CallLetter c a (ran_count c a h)) h.arrived ≡ true
  pub at : slice_get (calls_to a (calls_of c h)) (ran_count c a h) ≡ Some call
  pub is : run_item c (ran_count c a h) (kept_of c h) call ≡ item

-- the item that runs next is of the caller's next call, and the letter of that call has arrived
pub next_item_is : (a c : ℕ) (h : History) {item : RunItem} → next_item a c h ≡ Some item → IsNext a c h item
next_item_is a c h {item} e = go (has_letter (CallLetter c a (ran_count c a h)) h.arrived) (slice_get (calls_to a (calls_of c h)) (ran_count c a h)) refl refl e
  where
    go : (b : Bool) (o : Option (ℕ × Submission)) → has_letter (CallLetter c a (ran_count c a h)) h.arrived ≡ b → slice_get (calls_to a (calls_of c h))
        (ran_count c a h) ≡ o → cond b (option_map (run_item c (ran_count c a h) (kept_of c h)) o) None ≡ Some item → IsNext a c h item
    go true None has at e = cc
    go true (Some call) has at e = record { call = call; arrived = has; at = at; is = cc }
    go false o has at e = cc

-- ---- the order

-- the number and the future of an item's call
abbrev pub numbered : RunItem → ℕ × ℕ
numbered item = (item.number, item.future)

-- the futures of a caller's calls to an actor, with their numbers
abbrev pub numbers : ℕ → List Submission → List (ℕ × ℕ)
numbers a calls = enumerate_from 0 (map (λ call. call.0) (calls_to a calls))

-- what each actor ran of a caller's calls are the first of the caller's calls to it, in their order
abbrev pub InOrder : History → Type 0
InOrder h = (a c : ℕ) → IsPrefix (map numbered (items_of c (runs_of a h))) (numbers a (calls_of c h))

numbers_grow : (a : ℕ) (xs ys : List Submission) → IsPrefix xs ys → IsPrefix (numbers a xs) (numbers a ys)
numbers_grow a xs ys f = IsPrefix-enumerate _ _ (IsPrefix-map (λ (call : ℕ × Submission). call.0) _ _ (calls_to_grow a xs ys f))

-- one item more in a run list, of its caller's next call
order_more : (c : ℕ) (items : List RunItem) (item : RunItem) (all : List (ℕ × ℕ)) → IsPrefix (map numbered (items_of c items)) all → ((item.caller == c) ≡
    true → slice_get all (length (items_of c items)) ≡ Some (numbered item)) → IsPrefix (map numbered (items_of c (items ++ item ∷ []))) all
order_more c items item all f next = rw (items_of-push c items item, map-append) (go (item.caller == c) next)
  where
    go : (b : Bool) → (b ≡ true → slice_get all (length (items_of c items)) ≡ Some (numbered item)) →
        IsPrefix (map numbered (items_of c items) ++ map numbered (cond b (item ∷ []) [])) all
    go true next = front_next (map numbered (items_of c items)) all f
        (subst (λ n. slice_get all n ≡ Some (numbered item)) (sym (length-map (items_of c items) numbered)) (next refl))
    go false next = rw append-nil f

next_number : (a c : ℕ) (h : History) (item : RunItem) → IsNext a c h item → slice_get (numbers a (calls_of c h)) (ran_count c a h) ≡ Some (numbered item)
next_number a c h item next =
    let n = ran_count c a h in let calls = calls_to a (calls_of c h) in
    let first : slice_get (map (λ (call : ℕ × Submission). call.0) calls) n ≡ Some next.call.0 =
    slice_get-map (λ (call : ℕ × Submission). call.0) calls n ∙ ap (option_map (λ (call : ℕ × Submission). call.0)) next.at in
    let zero_add : 0 + n ≡ n = omega arith in
    slice_get-enumerate_from 0 (map (λ (call : ℕ × Submission). call.0) calls) n
    ∙ rw (first, zero_add) (ap (λ i. Some (numbered i)) next.is)

order_run : (a c : ℕ) (h : History) (item : RunItem) → IsNext a c h item → InOrder h → (b d : ℕ) →
    IsPrefix (map numbered (items_of d (under b (h.ran ++ (a, item) ∷ [])))) (numbers b (calls_of d h))
order_run a c h item next order b d = rw (under-push b a h.ran item) (go (a == b) refl)
  where
    go : (same : Bool) → (a == b) ≡ same → IsPrefix (map numbered (items_of d (runs_of b h ++ cond same (item ∷ []) []))) (numbers b (calls_of d h))
    go false e = rw append-nil (order b d)
    go true e = order_more d (runs_of b h) item (numbers b (calls_of d h)) (order b d) (λ is. let one : a ≡ b = eqb-true a b e in let two : c ≡ d =
        ap (λ (i : RunItem). i.caller) next.is ∙ eqb-true item.caller d is in subst (λ x. slice_get (numbers x (calls_of d h)) (ran_count d x h) ≡ Some
        (numbered item)) one (subst (λ y. slice_get (numbers a (calls_of y h)) (ran_count y a h) ≡ Some (numbered item)) two (next_number a c h item next)))

order_stays : (h g : History) → Grows h g → InOrder h → g.ran ≡ h.ran → InOrder g
order_stays h g grows order ran a c = rw ran (front_trans _ _ _ (order a c) (numbers_grow a (calls_of c h) (calls_of c g) (calls_grow c grows)))

pub order_step : (h : History) (event : Event) → InOrder h → InOrder (add_event h event)
order_step h (Submit c a method args) order = order_stays h _ (added_grows h (Submit c a method args)) order refl
order_step h (Run a c) order = go (next_item a c h) refl
  where
    go : (o : Option RunItem) → next_item a c h ≡ o → InOrder (after_run a c h o)
    go None e = order
    go (Some item) e = order_run a c h item (next_item_is a c h e) order
order_step h event order = order
