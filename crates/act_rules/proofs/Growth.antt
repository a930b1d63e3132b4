-- Each accepted event leaves every list of a history as it was, with something more at its end.
use Rattle.act_rules.proofs.Common.{◌≡◌, ℕ, List, [], ◌∷◌, Some, None, Option, ◌==◌, RunItem, Event, Run, Submission, calls_to, History, under, runs_of}
use Rattle.act_rules.proofs.Common.{calls_of, next_item, add_event, and_also, after_run, IsPrefix}
use Rattle.act_rules.proofs.Lists.{whole_front, more_front, IsPrefix-filter, IsPrefix-map, IsPrefix-enumerate}

-- the second history has the casts of the first, and each of these lists begins with the first's
pub record Grows (h g : History) : Type 0 where
  pub casts : g.casts ≡ h.casts
  pub submitted : IsPrefix h.submitted g.submitted
  pub released : IsPrefix h.released g.released
  pub mail : IsPrefix h.mail g.mail
  pub arrived : IsPrefix h.arrived g.arrived
  pub ran : IsPrefix h.ran g.ran
  pub posts : IsPrefix h.posts g.posts
  pub collected : IsPrefix h.collected g.collected
  pub killed : IsPrefix h.killed g.killed

and_also_front : {A : Type 0} (xs : List A) (x : Option A) → IsPrefix xs (and_also xs x)
and_also_front xs None = whole_front xs
and_also_front xs (Some x) = more_front xs (x ∷ [])

-- a history grows by a run, be there an item to run or none
pub after_run_grows : (a c : ℕ) (h : History) (o : Option RunItem) → Grows h (after_run a c h o)
after_run_grows a c h None = search whole_front
after_run_grows a c h (Some item) = search (whole_front, more_front)

-- a history grows by each event that is added to it
pub added_grows : (h : History) (event : Event) → Grows h (add_event h event)
added_grows h (Run a c) = after_run_grows a c h (next_item a c h)
added_grows h event = search (whole_front, more_front, and_also_front)

pub under_grow : {A : Type 0} (n : ℕ) (xs ys : List (ℕ × A)) → IsPrefix xs ys → IsPrefix (under n xs) (under n ys)
under_grow {A = A} n xs ys f = IsPrefix-map (λ (pair : ℕ × A). pair.1) _ _ (IsPrefix-filter (λ (pair : ℕ × A). pair.0 == n) xs ys f)

-- where a history grows, each actor's run list begins as it was
pub runs_grow : (a : ℕ) {h g : History} → Grows h g → IsPrefix (runs_of a h) (runs_of a g)
runs_grow a {h} {g} grows = under_grow a h.ran g.ran grows.ran

-- where a history grows, each caller's calls begin as they were
pub calls_grow : (c : ℕ) {h g : History} → Grows h g → IsPrefix (calls_of c h) (calls_of c g)
calls_grow c {h} {g} grows = under_grow c h.submitted g.submitted grows.submitted

-- where calls come behind others, the calls to an actor begin as they were
pub calls_to_grow : (a : ℕ) (xs ys : List Submission) → IsPrefix xs ys → IsPrefix (calls_to a xs) (calls_to a ys)
calls_to_grow a xs ys f = IsPrefix-filter (λ (call : ℕ × Submission). call.1.actor == a) _ _ (IsPrefix-enumerate xs ys f)
