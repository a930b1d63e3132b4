-- Kinds: their states, what a call does, and what each step of a kind of one's own keeps.

-- what contracts see of a kind: which one it is, and what it holds
pub use Rattle.act_types.specs.KindState.{KindState, CounterAt, TableOf, AccountAt, ItemsOf, OwnAt}
-- what a call does: the state that it leaves, and its answer
pub use Rattle.act_rules.specs.Kinds.{reply_of, told_reply, need, is_in_range, count_value}
pub use Rattle.act_rules.specs.RunList.{Answer, step_of_reply, call_reply}
-- a kind of one's own by its steps
pub use Rattle.act_types.specs.Own.{Ask, Behaviour, StepOf, behaves, by_calls, on_call, alone}
pub use Rattle.act_types.specs.Own.{next_state, step_answer, after_asks}
-- what a kind of one's own is told by a run list, and what holds after each
pub use Rattle.act_rules.specs.OwnRuns.{kind_answer, told_in, RunsByItsSteps, IsKept, Left, HoldsInEachRun}
-- the same of an actor in a world, and of one that a run in threads left
pub use Rattle.act_own.specs.Kept.{OpensAt, SlotKeeps, EndKeeps, KeptInEachWorld, KeptInEachRun}
