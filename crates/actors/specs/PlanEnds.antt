-- Every end of plans, and what is asked of it.

-- a play of plans: where it is, when it is ended, and when another ends so
pub use Rattle.act_early.specs.Plays.{At, IsPlay, next_step}
pub use Rattle.act_early.specs.Early.{IsEnded, LosesOnly, EndsAlike}
-- events that lead to an end, and the test of plans
pub use Rattle.act_explore.specs.Ends.{IsDone, LeadsToEnd}
pub use Rattle.act_explore.specs.Plans.{AreSuited}
-- what holds for each end, and for whatever a run in threads leaves
pub use Rattle.act_explore.specs.Ends.{EachEndHas, EndsSo, EachRunHas, EndsInThreads, HasPassed}
pub use Rattle.act_explore.specs.Found.{IsFound, IsFoundBy}
pub use Rattle.act_thread_ends.specs.ThreadEnds.{EndsAsThreads, CanBeEndIn, CanEnd}
-- when each error comes
pub use Rattle.act_explore.specs.Faults.{IsFault}
