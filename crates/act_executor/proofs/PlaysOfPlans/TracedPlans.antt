-- What the threads did by their plans, each caller does by its plan in the play.
use Rattle.act_executor.proofs.Common.{◌≡◌, ℕ, List, [], ap, ◌∙◌, map, filter, filter_map, Event, Step, history, ActorSpec, items_from, notice_actor, steps_in}
use Rattle.act_executor.proofs.Common.{opened_of, SpecsFit, Action, notice_of, DoesPlan, AreTraced, Threads, Site, Caller, Actor, IsPlayOfRun, DoesPlanIn}
use Rattle.act_executor.proofs.Common.{is_between}
use Rattle.act_executor.proofs.PlaysOfThreads.Seen.{actions_are}
use Rattle.act_executor.proofs.PlaysOfThreads.Traced.{IsMergedPlay, merged_play}
use Rattle.act_executor.proofs.PlaysOfPlans.Planned.{plan_in_play}
use Rattle.act_executor.proofs.PlaysOfPlans.Heard.{post_from, collected_part}
use Rattle.act_executor.proofs.PlaysOfPlans.Letters.{is_sent_between, letter_in_step, arrived_part}

-- the events are a play of what each did, and in it: a caller whose steps do a plan does the plan, each caller collects what
-- its steps take, and each actor what its steps take
pub record IsPlayOfPlannedRun (casts : List ActorSpec) (run : Site → List Action) (events : List Event) : Type 0 where
  pub play : IsPlayOfRun casts run events
  pub does : (c : ℕ) (plan : List Step) → DoesPlan (opened_of c casts) plan (run (Caller c)) → DoesPlanIn casts c plan [] events
  pub collected : (c a : ℕ)
      → filter (is_between c a) (history casts events).collected ≡ map (post_from c) (items_from notice_actor a (filter_map notice_of (run (Caller c))))
  pub arrived : (c a : ℕ) → filter (is_sent_between c a) (history casts events).arrived ≡ filter_map (letter_in_step c a) (run (Actor a))

pub play_of_steps : (casts : List ActorSpec) {threads : Threads} → SpecsFit casts → AreTraced casts threads →
    (events : List Event) × IsPlayOfPlannedRun casts (λ site. steps_in (threads site)) events
play_of_steps casts {threads} fitting traced =
    let m : IsMergedPlay casts threads = merged_play casts fitting traced in let deeds = steps_in m.merged in
    let steps = m.stepwise in (
      m.events,
      record {
        play = m.left;
        does = λ c plan does. plan_in_play casts c (history casts m.events) deeds m.events plan steps.play.steps steps.fronts
            (actions_are m.merge (Caller c)) does;
        collected = λ c a. ap (filter (is_between c a)) steps.in_order.collected ∙ collected_part c a deeds
            ∙ ap (λ own. map (post_from c) (items_from notice_actor a (filter_map notice_of own))) (actions_are m.merge (Caller c));
        arrived = λ c a. ap (λ l. filter (is_sent_between c a) l) steps.in_order.arrived ∙ arrived_part c a deeds
            ∙ ap (filter_map (letter_in_step c a)) (actions_are m.merge (Actor a));
      },
    )
