-- What a run needs: the call is sent with its answers, and its actor lives.
use Rattle.act_order_plays.proofs.Common.{◌≡◌, ◌≢◌, ℕ, zero, suc, ◌<◌, inl, inr, Bool, true, false, List, [], ◌∷◌, length, map, Option, Some, None, Ok, refl}
use Rattle.act_order_plays.proofs.Common.{sym, ap, subst, ◌∙◌, is_some, list_all, false_from_ne_true, Fut, Settled, Value, Send, Submission, Answer, with_value}
use Rattle.act_order_plays.proofs.Common.{values_of, has_terminated, kept_at, is_known, settle, settled_future, send_refusal, History, contains, runs_of}
use Rattle.act_order_plays.proofs.Common.{kept_of, is_ended, refusal_of, was_sent, Happening, Outcome, Failed, Died, Open, Told, call_of, actor_of, RunsInTurn}
use Rattle.act_order_plays.proofs.Common.{RunsBefore, kept_for, args_of, future_of, GoodArg, Nothing, Submitted, Ran, HasBeenTold, IsIn}
use Rattle.act_order_plays.proofs.Common.{contains_from_in}
use Rattle.act_orders.specs.declared.told.Outcome.TheVariants.{Answered}
use Rattle.act_order_plays.proofs.Premises.{Premises}
use Rattle.act_order_plays.proofs.Fronts.{rans_of, run_at}
use Rattle.act_order_plays.proofs.Causes.{IsNext, Good, died_ran}
use Rattle.act_order_plays.proofs.Casts.{is_caller_is}
use Rattle.act_order_plays.proofs.Answering.{Suits, IsTaken, none_terminated}
use Rattle.act_order_plays.proofs.Stands.{sub_of, IsDeath, Shape, Keeps, Stands, runs_are}
use Rattle.act_order_plays.proofs.Keeping.{call_stands, kept_gives}
use Rattle.act_order_plays.proofs.Submitting.{list_all_map}

-- an answer that was taken is kept
pub answer_kept : {told : Told} {before : List Happening} (h : History) (m : ℕ) → Good told before → Keeps told before h → IsIn before (HasBeenTold m) →
    Suits (call_of told m).outcome (kept_for told m h)
answer_kept {told} {before} h m good keeps has = go (call_of told m).outcome refl
  where
    ran : RunsBefore told (call_of told m).outcome m m → IsIn before (Ran m)
    ran is = good.closed (HasBeenTold m) (Ran m) has is

    go : (o : Outcome) → (call_of told m).outcome ≡ o → Suits o (kept_for told m h)
    go Died e = keeps.deaths m has e
    go Open e = tt
    go outcome e = subst (λ o. IsTaken o → Suits o (kept_for told m h)) e (keeps.answers m (ran (subst (λ o. RunsBefore told o m m) (sym e) refl))) tt

pub kept_some : (o : Outcome) (kept : Option Answer) → o ≢ Open → Suits o kept → is_some kept ≡ true
kept_some Failed kept not_open is = rw is.1 refl
kept_some Open kept not_open is = absurd (not_open refl)
kept_some o kept not_open is = rw is refl

send_fine : (kept : List (Option Answer)) (k : ℕ) (sent : Bool) (call : Submission) → list_all (is_known kept) call.args ≡ true → kept_at kept k ≡ None →
    send_refusal kept k sent (Some call) ≡ None
send_fine kept k true call known none = rw known refl
send_fine kept k false call known none = rw (known, none) refl

-- the values of answers that are all unit
pub all_good : (told : Told) (kept : List (Option Answer)) (takes : List ℕ) → ((m : ℕ) → IsIn takes m → kept_at kept (future_of told m) ≡ Some (Ok Nothing)) →
    (values : List Value) × (values_of (map (settle kept) (map (λ m. Fut (future_of told m)) takes)) ≡ Ok values)
all_good told kept [] all = ([], refl)
all_good told kept (m ∷ takes) all =
    let rest = all_good told kept takes (λ k has. all k (record { place = suc has.place; at = has.at })) in
    let first : settle kept (Fut (future_of told m)) ≡ GoodArg Nothing = ap (settled_future (future_of told m)) (all m (record { place = zero; at = refl })) in
    let settled : List Settled = map (settle kept) (map (λ k. Fut (future_of told k)) takes) in
    (Nothing ∷ rest.0, ap (λ s. values_of (s ∷ settled)) first ∙ ap (with_value Nothing) rest.1)

module _ (told : Told) (fits : Premises told) (turn : RunsInTurn told) (before : List Happening) (n : ℕ) (good : Good told before)
    (next : IsNext told before (Ran n)) (role : IsIn (actor_of told (call_of told n).actor).callers (call_of told n).caller)
    (actor : (call_of told n).actor < length told.actors) where
  abbrev c : ℕ
  c = (call_of told n).caller

  abbrev a : ℕ
  a = (call_of told n).actor

  pub submitted : IsIn before (Submitted n)
  submitted = next.causes (Submitted n) refl

  -- the actor hasn't died
  pub no_death : IsDeath told before a → ⊥
  no_death death =
      let run = run_at told n next.happened in
      let here : run.1.actor ≡ a = sym (turn run.0 run.1 run.2.at).here ∙ ap (λ k. (call_of told k).actor) run.2.call in
      next.fresh (subst (λ k. IsIn before (Ran k)) run.2.call
      (died_ran told before death.call run.0 run.1 fits good.closed death.has death.died run.2.at (here ∙ sym death.actor)))

  pub alive : (h : History) → Shape told before h → is_ended a h ≡ false
  alive h shape =
      let unkilled : contains a h.killed ≡ false = false_from_ne_true (contains a h.killed) (λ is. no_death (shape.killed a is)) in
      let lasting : has_terminated (runs_of a h) ≡ false = none_terminated told (runs_of a h) (rans_of told before a) (runs_are a shape) in
      rw (unkilled, lasting, shape.retired) refl

  -- it has no answer
  pub unanswered : (h : History) → Shape told before h → kept_for told n h ≡ None
  unanswered h shape = go (kept_for told n h) refl
    where
      go : (o : Option Answer) → kept_for told n h ≡ o → o ≡ None
      go None e = refl
      go (Some answer) e = elim (kept_gives h n good shape submitted actor e) [ inl r ↦ absurd (next.fresh r.0) | inr d ↦ absurd (no_death d.0) ]

  -- each call whose answer it takes is of its caller, and was answered
  pub taken : (h : History) → Keeps told before h → (m : ℕ) → IsIn (call_of told n).takes m →
      Suits (call_of told m).outcome (kept_at (kept_of c h) (future_of told m)) × ((call_of told m).outcome ≢ Open)
  taken h keeps m has =
      let answered = next.causes (HasBeenTold m) (contains_from_in has) in
      let low = fits.earlier n m (good.happened (Submitted n) submitted) (contains_from_in has) in (
        subst (λ d. Suits (call_of told m).outcome (kept_at (kept_of d h) (future_of told m))) low.1 (answer_kept h m good keeps answered),
        (good.happened (HasBeenTold m) answered).1,
      )

  pub sendable : (h : History) → Stands told before h → refusal_of h (Send c (future_of told n)) ≡ None
  sendable h stands =
      let caller = is_caller_is told h stands.shape.casts actor role in let call = call_stands h n good stands.shape submitted in
      let known : list_all (is_known (kept_of c h)) (args_of told n) ≡ true =
      list_all_map (is_known (kept_of c h)) (λ m. Fut (future_of told m)) (call_of told n).takes
      (λ m has. let t = taken h stands.keeps m has in kept_some (call_of told m).outcome (kept_at (kept_of c h) (future_of told m)) t.1 t.0) in
      let fine = send_fine (kept_of c h) (future_of told n) (was_sent c (future_of told n) (Some (sub_of told n)) h) (sub_of told n) known
      (unanswered h stands.shape) in
      rw (caller, call, fine) refl

  -- where it is told as answered, all that it takes is good
  pub args_good : (h : History) → Keeps told before h → (call_of told n).outcome ≡ Answered →
      (values : List Value) × (values_of (map (settle (kept_of c h)) (args_of told n)) ≡ Ok values)
  args_good h keeps answered = all_good told (kept_of c h) (call_of told n).takes (λ m has. subst (λ o. Suits o (kept_at (kept_of c h) (future_of told m)))
      (fits.good n m (good.happened (Submitted n) submitted) answered (contains_from_in has)) (taken h keeps m has).0)
