-- No events leave a run of a call that wasn't made, that went to another actor, or that ran elsewhere, too.
use Rattle.act_decisions.proofs.Common.{◌≡◌, ℕ, map, Some, None, refl, ap, sym, ◌∙◌, slice_get, RunItem, Submission, History, calls_of, runs_of, option_map}
use Rattle.act_decisions.proofs.Common.{IsSound, held_submission, one_place, slice_get-map, ToldCall, ToldEnd, ToldRun, calls_in, rans_in, call_of_run}
use Rattle.act_decisions.proofs.Common.{call_of_item, IsSameRun, IsRunIn, AllZip, IsMisplaced, WhyMisplaced, NoCall, OtherActor, Twice}
use Rattle.act_decisions.proofs.SaidRuns.{item_at, same_call}

module _ (end : ToldEnd) (h : History) (sound : IsSound h) (runs : (a : ℕ) → AllZip IsSameRun (rans_in end a) (runs_of a h))
    (calls : (c : ℕ) → map (λ (call : ToldCall). call.actor) (calls_in end c) ≡ map (λ (call : Submission). call.actor) (calls_of c h)) where
  ran : (a p c k : ℕ) (run : ToldRun) → IsRunIn end a p run → call_of_run run ≡ (c, k)
      → (item : RunItem) × (slice_get (runs_of a h) p ≡ Some item) × (call_of_item item ≡ (c, k))
  ran a p c k run at is = let item = item_at (rans_in end a) (runs_of a h) p run (runs a) at in (item.0, item.1, sym (same_call run item.0 item.2) ∙ is)

  made : (a p c k : ℕ) (run : ToldRun) → IsRunIn end a p run → call_of_run run ≡ (c, k)
      → slice_get (map (λ (call : ToldCall). call.actor) (calls_in end c)) k ≡ Some a
  made a p c k run at is =
      let item = ran a p c k run at is in
      let sub = held_submission h a k p sound.order item.1 (ap (λ (r : ℕ × ℕ). r.0) item.2) (ap (λ (r : ℕ × ℕ). r.1) item.2) in
      ap (λ l. slice_get l k) (calls c) ∙ slice_get-map (λ (call : Submission). call.actor) (calls_of c h) k
      ∙ ap (option_map (λ (call : Submission). call.actor)) sub.1 ∙ ap (λ a. Some a) sub.2

  pub not_misplaced : IsMisplaced end → ⊥
  not_misplaced m = go m.why
    where
      there : slice_get (map (λ (call : ToldCall). call.actor) (calls_in end m.run.caller)) m.run.future ≡ Some m.actor
      there = made m.actor m.place m.run.caller m.run.future m.run m.at refl

      go : WhyMisplaced end m.actor m.place m.run.caller m.run.future → ⊥
      go (NoCall none) =
          let empty : slice_get (map (λ (call : ToldCall). call.actor) (calls_in end m.run.caller)) m.run.future ≡ None =
          slice_get-map (λ (call : ToldCall). call.actor) (calls_in end m.run.caller) m.run.future ∙ ap (option_map (λ (call : ToldCall). call.actor)) none in
          let bad : None ≡ Some m.actor = sym empty ∙ there in cc
      go (OtherActor call at other) =
          let own : slice_get (map (λ (call : ToldCall). call.actor) (calls_in end m.run.caller)) m.run.future ≡ Some call.actor =
          slice_get-map (λ (call : ToldCall). call.actor) (calls_in end m.run.caller) m.run.future ∙ ap (option_map (λ (call : ToldCall). call.actor)) at in
          let both : Some call.actor ≡ Some m.actor = sym own ∙ there in other (cc)
      go (Twice b q run at is twice) =
          let one = ran m.actor m.place m.run.caller m.run.future m.run m.at refl in
          let two = ran b q m.run.caller m.run.future run at is in
          twice (one_place h m.actor m.place b q sound.order one.1 (ap (λ (r : ℕ × ℕ). r.0) one.2) (ap (λ (r : ℕ × ℕ). r.1) one.2) two.1
          (ap (λ (r : ℕ × ℕ). r.0) two.2) (ap (λ (r : ℕ × ℕ). r.1) two.2))
