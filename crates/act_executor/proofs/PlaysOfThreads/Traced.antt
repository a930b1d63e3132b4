-- What threads did, merged by their stamps, is a play.
use Rattle.act_executor.proofs.Common.{◌≡◌, ℕ, List, [], ◌∷◌, ◌++◌, refl, sym, ◌∙◌, subst, append_assoc, map-append, steps_in, found_in, Event, ActorSpec, Site}
use Rattle.act_executor.proofs.Common.{Action, action_at, AreCaused, Threads, IsMergeOf, merge_of, SpecsFit, IsPlayOfRun, IsStepwisePlay, play_of, AreTraced}
use Rattle.act_executor.proofs.Common.{TracedRunsArePlayed}
use Rattle.act_executor.proofs.PlaysOfThreads.Seen.{actions_are, next}
use Rattle.act_executor.proofs.PlaysOfThreads.Causes.{caused}
use Rattle.act_executor.proofs.PlaysOfThreads.MayDo.{threads_below}

module _ (casts : List ActorSpec) (threads : Threads) (traced : AreTraced casts threads) (merged : List (ℕ × (Site × Action)))
    (merge : IsMergeOf threads merged) where
  caused_from : (before later : List (ℕ × (Site × Action))) → merged ≡ before ++ later → AreCaused casts (steps_in before) (steps_in later)
  caused_from before [] e = tt
  caused_from before ((m, (site, action)) ∷ later) e = (
    caused casts threads before m traced (merge.fronts before later m (site, action) e) site action (found_in (action_at site) later)
        (next merge before later m site action e),
    subst (λ l. AreCaused casts l (steps_in later)) (map-append (λ (x : ℕ × (Site × Action)). x.1) before ((m, (site, action)) ∷ []))
        (caused_from (before ++ (m, (site, action)) ∷ []) later (e ∙ sym (append_assoc before ((m, (site, action)) ∷ []) later))),
  )

  pub all_caused : AreCaused casts [] (steps_in merged)
  all_caused = caused_from [] merged refl

-- all that the threads did in one order, and a play of it
pub record IsMergedPlay (casts : List ActorSpec) (threads : Threads) : Type 0 where
  pub merged : List (ℕ × (Site × Action))
  pub merge : IsMergeOf threads merged
  pub events : List Event
  pub stepwise : IsStepwisePlay casts (steps_in merged) events
  pub left : IsPlayOfRun casts (λ site. steps_in (threads site)) events

pub merged_play : (casts : List ActorSpec) {threads : Threads} → SpecsFit casts → AreTraced casts threads → IsMergedPlay casts threads
merged_play casts {threads} fitting traced =
    let merge = merge_of 17 threads (threads_below casts threads fitting traced.may) traced.rise in
    let play = play_of casts (steps_in merge.0) fitting (all_caused casts threads traced merge.0 merge.1) in
    record {
      merged = merge.0;
      merge = merge.1;
      events = play.0;
      stepwise = play.1;
      left = subst (λ run. IsPlayOfRun casts run play.0) (λ i site. actions_are merge.1 site i) play.1.play.leaves;
    }

pub traced_play : TracedRunsArePlayed
traced_play casts threads fitting traced = let play = merged_play casts fitting traced in (play.events, play.left)
