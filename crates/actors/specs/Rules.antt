-- The rules: what events do, and what follows of every run.

-- casts as the rules have them, and what stands after events
pub use Rattle.act_rules.specs.History.{ActorSpec, History, opening, opening_of, actors_naming, contains}
pub use Rattle.act_rules.specs.History.{cast_of, calls_of, kept_of, runs_of, is_dead, is_retired}
pub use Rattle.act_rules.specs.Laws.{history}
pub use Rattle.act_rules.specs.Rules.{after, after_all}
-- what is told of an event
pub use Rattle.act_rules.specs.Rules.{Outcome, outcome_of, outcomes, refusal_of}
-- calls, run lists and answers that fit one another
pub use Rattle.act_rules.specs.Consistent.{Consistent, IsPrefix, IsAsSubmitted, IsAnswerOfRun, IsCallToDead}
-- laws
pub use Rattle.act_rules.specs.Laws.{EachWorldIsConsistent, KeptAnswersStay, RetiredRanAll}
pub use Rattle.act_rules.specs.Laws.{NothingRunsAfterTheEnd, NothingFollowsATerminate, PendingStaysWithinTheLimit}
pub use Rattle.act_rules.specs.Laws.{PlannedIsTaken, PlannedIsTakenAmongOthers, RolesNameAsCasts}
-- plans: what a caller submits by one, and the first step that would be refused
pub use Rattle.act_rules.specs.Plans.{Progress, nothing_done, do_step, done_by, is_refused, kills_to, first_bad}
