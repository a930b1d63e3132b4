-- The calls that are told to have run, beside the items of a history.
use Rattle.act_decisions.proofs.Common.{◌≡◌, ℕ, zero, suc, List, [], ◌∷◌, map, Option, Some, None, refl, ap, sym, ◌∙◌, subst, slice_get, RunItem, answer_at}
use Rattle.act_decisions.proofs.Common.{History, runs_of, opening_of, ActorSpec, opening, option_and_then, AllZip, Answer, after_item, answers_from, ToldEnd}
use Rattle.act_decisions.proofs.Common.{ToldRun, rans_in, runs_in, call_of_run, call_of_item, IsSameRun, IsLeftBy, IsRunIn, item_told, answer_told}
use Rattle.act_early.proofs.Common.{KindState}

-- what is told to have run and an item that is the same call have one caller and one future
pub same_call : (run : ToldRun) (item : RunItem) → IsSameRun run item → call_of_run run ≡ call_of_item item
same_call run item same = λ i. (sym same.caller i, sym same.future i)

-- the same callers and futures
pub same_calls : (runs : List ToldRun) (items : List RunItem) → AllZip IsSameRun runs items → map call_of_run runs ≡ map call_of_item items
same_calls [] [] all = refl
same_calls [] (item ∷ items) all = absurd all
same_calls (run ∷ runs) [] all = absurd all
same_calls (run ∷ runs) (item ∷ items) all =
    ap (λ x. x ∷ map call_of_run runs) (same_call run item all.0) ∙ ap (λ l. call_of_item item ∷ l) (same_calls runs items all.1)

-- the item at the place of a run
pub item_at : (runs : List ToldRun) (items : List RunItem) (p : ℕ) (run : ToldRun) → AllZip IsSameRun runs items → slice_get runs p ≡ Some run
    → (item : RunItem) × (slice_get items p ≡ Some item) × IsSameRun run item
item_at [] items p run all e = cc
item_at (one ∷ runs) [] p run all e = absurd all
item_at (one ∷ runs) (item ∷ items) zero run all e = let same : one ≡ run = cc in (item, refl, subst (λ r. IsSameRun r item) same all.0)
item_at (one ∷ runs) (item ∷ items) (suc p) run all e = item_at runs items p run all.1 e

-- the run at the place of an item
pub run_at : (runs : List ToldRun) (items : List RunItem) (p : ℕ) (item : RunItem) → AllZip IsSameRun runs items → slice_get items p ≡ Some item
    → (run : ToldRun) × (slice_get runs p ≡ Some run) × IsSameRun run item
run_at [] [] p item all e = cc
run_at [] (one ∷ items) p item all e = absurd all
run_at (run ∷ runs) [] p item all e = absurd all
run_at (run ∷ runs) (one ∷ items) zero item all e = let same : one ≡ item = cc in (run, refl, subst (IsSameRun run) same all.0)
run_at (run ∷ runs) (one ∷ items) (suc p) item all e = run_at runs items p item all.1 e

-- what an item answers is decided by its method and its arguments
same_after : (state : KindState) (run : ToldRun) (item : RunItem) → IsSameRun run item → after_item state (item_told run) ≡ after_item state item
same_after state run item same =
    ap (λ args. after_item state (record { caller = run.caller; number = 0; future = run.future; method = run.method; args = args }))
    (sym same.args)
    ∙ ap (λ method. after_item state (record { caller = run.caller; number = 0; future = run.future; method = method; args = item.args }))
    (sym same.method)

same_answers : (state : KindState) (runs : List ToldRun) (items : List RunItem) → AllZip IsSameRun runs items
    → answers_from state (map item_told runs) ≡ answers_from state items
same_answers state [] [] all = refl
same_answers state [] (item ∷ items) all = absurd all
same_answers state (run ∷ runs) [] all = absurd all
same_answers state (run ∷ runs) (item ∷ items) all =
    let here = same_after state run item all.0 in
    ap (λ (x : KindState × Answer). x.1 ∷ answers_from x.0 (map item_told runs)) here
    ∙ ap (λ l. (after_item state item).1 ∷ l) (same_answers (after_item state item).0 runs items all.1)

module _ (end : ToldEnd) (h : History) (fits : IsLeftBy end h) where
  pub said_runs : (a : ℕ) → runs_in end a ≡ map call_of_item (runs_of a h)
  said_runs a = same_calls (rans_in end a) (runs_of a h) (fits.runs a)

  -- for a call that is told to have run, the actor's run list has the same call at the same place
  pub item_of_said : (a p : ℕ) (run : ToldRun) → IsRunIn end a p run → (item : RunItem) × (slice_get (runs_of a h) p ≡ Some item) × IsSameRun run item
  item_of_said a p run at = item_at (rans_in end a) (runs_of a h) p run (fits.runs a) at

  -- each item of an actor's run list is told as the same call, at the same place
  pub said_of_item : (a p : ℕ) {item : RunItem} → slice_get (runs_of a h) p ≡ Some item → (run : ToldRun) × IsRunIn end a p run × IsSameRun run item
  said_of_item a p {item} at = run_at (rans_in end a) (runs_of a h) p item (fits.runs a) at

  -- the actor of the history answers there what it does by the runs that are told
  pub said_answer : (casts : List ActorSpec) (a p : ℕ) → answer_told casts end a p
      ≡ option_and_then (λ state. answer_at state (runs_of a h) p) (opening_of a (opening casts))
  said_answer casts a p = go (opening_of a (opening casts))
    where
      go : (o : Option KindState) → option_and_then (λ state. answer_at state (map item_told (rans_in end a)) p) o
          ≡ option_and_then (λ state. answer_at state (runs_of a h) p) o
      go None = refl
      go (Some state) = ap (λ l. slice_get l p) (same_answers state (rans_in end a) (runs_of a h) (fits.runs a))
