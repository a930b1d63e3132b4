-- Where some events end as the lines tell, some end as the data says.
use Rattle.act_decisions.proofs.Common.{◌≡◌, ℕ, ◌≤◌, Bool, true, false, cond, List, [], ◌++◌, map, Option, Some, None, inl, inr, ◌⊎◌, refl, sym, ◌∙◌, subst}
use Rattle.act_decisions.proofs.Common.{Event, Step, Release, Answer, ActorSpec, History, opening, history, calls_of, IsOk, All, IsSound, outcomes, Told}
use Rattle.act_decisions.proofs.Common.{EndsAsTold, told_of, with_calls, with_kept, ToldEnd, calls_in, bound_of, Fits, bound_is, HasCalls, awaits, DoesSteps}
use Rattle.act_decisions.proofs.Common.{steps_of_caller, AllFitSteps, binding, RunsArePlaced, AllDecided, NoValueIsLost, IsLeftBy, IsOfNumbers}
use Rattle.act_early.specs.Lists.{DoesStepsBy}
use Rattle.act_thread_ends.proofs.Plans.{steps_by}
use Rattle.act_told_ends.proofs.Standing.{may_stand}
use Rattle.act_told_ends.proofs.LeftOpenAll.{may_be_replies}
use Rattle.act_decisions.proofs.SaidCalls.{data_calls, calls_may_stand}
use Rattle.act_decisions.proofs.SaidAnswers.{data_kept, kept_may_stand}
use Rattle.act_decisions.proofs.SaidFits.{fits_told}

pub binds : (c : ℕ) (steps : List (ℕ × Step × ℕ)) (own : List Step) → binding c steps ≡ Some own → (awaits c steps ≡ true) × (own ≡ steps_of_caller c steps)
binds c steps own e = go (awaits c steps) refl e
  where
    go : (b : Bool) → awaits c steps ≡ b → cond b (Some (steps_of_caller c steps)) None ≡ Some own → (awaits c steps ≡ true) × (own ≡ steps_of_caller c steps)
    go false is e = cc
    go true is e = (is, cc)

module _ (end : ToldEnd) (steps : List (ℕ × Step × ℕ)) (casts : List ActorSpec) (events : List Event) (lines : AllFitSteps end steps)
    (within : IsOfNumbers end) where
  abbrev pub left_here : History
  left_here = history casts events

  pub as_told : All IsOk (outcomes (opening casts) events) → ((c : ℕ) → 1 ≤ c → c ≤ 16 → awaits c steps ≡ true → DoesSteps casts c steps events)
      → EndsAsTold casts (bound_of end) (told_of left_here) events
  as_told accepted does = record {
    accepted = accepted;
    leaves = record { calls = λ c. refl; kept = λ c. refl; runs = λ a. refl; dead = λ a. refl };
    retired = λ a. refl;
    does = λ c own is. go c own is (within.callers c);
  }
    where
      go : (c : ℕ) (own : List Step) → bound_of end c ≡ Some own → (1 ≤ c) × (c ≤ 16) ⊎ (calls_in end c ≡ []) × (bound_of end c ≡ None)
          → (closing : List ℕ) × DoesStepsBy casts c (own ++ map (λ a. Release a) closing) [] events
      go c own is (inr (empty, free)) = let bad : None ≡ Some own = sym free ∙ is in cc
      go c own is (inl (some, few)) =
          let line = lines c some few in
          let bound = binds c steps own (sym line.2.bound ∙ sym (bound_is end c line.1) ∙ is) in
          let done = does c some few bound.0 in (
            done.0,
            subst (λ l. DoesStepsBy casts c (l ++ map (λ a. Release a) done.0) [] events) (sym bound.1)
                (steps_by casts c (steps_of_caller c steps ++ map (λ a. Release a) done.0) [] events done.1),
          )

  -- the calls and the answers that the data says, in place of those that the events left
  module _ (fits : IsLeftBy end left_here) (placed : RunsArePlaced end) (decided : AllDecided casts end) (numbered : (c : ℕ) → (1 ≤ c) × (c ≤ 16)
      ⊎ (calls_of c left_here ≡ []))
      (has : (c : ℕ) → 1 ≤ c → c ≤ 16 → HasCalls c steps left_here) (sound : IsSound left_here) (same : left_here.casts ≡ casts) where
    abbrev pub kept_said : ℕ → List (Option Answer)
    kept_said = data_kept end steps casts left_here fits lines placed decided numbered has sound same

    abbrev pub said : Told
    said = with_kept kept_said (with_calls (data_calls end) (told_of left_here))

    pub some_end : NoValueIsLost casts end → EndsAsTold casts (bound_of end) (told_of left_here) events
        → ((others : List Event) × EndsAsTold casts (bound_of end) said others) × Fits end said
    some_end lost ends =
        let one = may_stand (data_calls end) ends
        (calls_may_stand end steps left_here fits lines placed decided numbered has) in
        let two = may_be_replies casts kept_said one.0 one.1
        (kept_may_stand end steps casts left_here fits lines placed decided numbered has sound same lost) in
        ((two.0, two.1), fits_told end steps casts left_here fits lines placed decided numbered has sound same)
