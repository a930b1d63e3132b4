-- Lemmas that proofs of clients cite, with words of lists that a client's own proof would else prove again.

-- what each step of a kind of one's own keeps, after each run list, in a world and in threads
pub use Rattle.act_rules.proofs.OwnRuns.{holds_in_each_run, told_any}
pub use Rattle.act_own.proofs.Kept.{run_keeps, slot_keeps}
-- no kind answers that its actor died
pub use Rattle.act_rules.proofs.KindFaults.{answer_alive}
pub use Rattle.act_world.proofs.Answering.{alive_is}
-- events in two parts, one after the other
pub use Rattle.act_rules.proofs.Steps.{after_all-append, outcomes-append}
-- one epoch more: it follows those before it, and its runs come last
pub use Rattle.act_epochs.proofs.Growing.{are_more, left_more, runs_more, goes_on}
-- what a plan's faults and its numbers are
pub use Rattle.act_executor.proofs.OpenLines.Faults.{err_only}
pub use Rattle.act_plans.proofs.Keys.{pairs_of_map}
pub use Rattle.act_plans.proofs.Matching.{numbers_differ}
-- the digits of a text have a value, as std reads them
pub use Rattle.act_rules.proofs.Numbers.{digits_have_values}
-- lists
pub use Rattle.act_rules.proofs.Lists.{All_at, All_more, slice_get-enumerate_from, slice_get-filter}
pub use Rattle.act_rules.proofs.AsSubmitted.{filter-slice_get}
pub use Rattle.act_rules.proofs.Unique.{map-slice_get}
pub use Rattle.act_rules.proofs.Elements.{all_by_places, all_in, found_is, finds, is_contained}
pub use Rattle.act_executor.proofs.EndsOfRuns.Found.{one_of}
pub use Rattle.act_executor.proofs.Lists.Places.{some_is}
