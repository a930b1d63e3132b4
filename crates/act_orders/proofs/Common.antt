-- The names of specifications and of the crates below that most proofs here cite, passed on from one place.
pub use Rattle.act_lists.proofs.Lists.{element, place_in, slice_get_last, slice_get_more, slice_get_pushed, stands_in}
pub use Rattle.act_orders.specs.Causes.{HasBefore, HasPlaces, IsBefore, IsEarlier, IsLast, IsPlace, IsUpTo, IsWhole, Rises, TurnTo, call_before, call_in}
pub use Rattle.act_orders.specs.Causes.{first_cause, graph_of, last_call, number_of, place_of, run_answered, run_before, run_of, second_cause, slots, taken_by}
pub use Rattle.act_orders.specs.Faults.{CallHolds, CallsHold, Come, Finds, HasFailed, IsCircle, IsFault, Runs, TakesGood}
pub use Rattle.act_orders.specs.Nexts.{IsAtCause, IsNext}
pub use Rattle.act_orders.specs.Order.{Happened, IsCause, IsInOrderBy, IsLastRun, IsOrder, RunsBefore, RunsInTurn, SameCaller, SameWay, actor_of, call_of}
pub use Rattle.act_orders.specs.Order.{calls_run}
pub use Rattle.act_orders.specs.Search.{AtRest, EachAfter, Fresh, GoesOn, Graph, MayFollow, Needs, OrdersNodes, Standing, Steps, left, mark}
pub use Rattle.act_orders.specs.Stuck.{TellsCircle}
pub use Rattle.act_orders.specs.Whole.{CallFits, NumbersFit, Rising, RoleFits, RunFits}
pub use Rattle.act_orders.specs.declared.fault.Fault.{Fault}
pub use Rattle.act_orders.specs.declared.fault.Fault.TheVariants.{Again, Alive, Circle, Lacks, LeftOut, NoAnswer, NoRole, Skips, Spoiled, Strays}
pub use Rattle.act_orders.specs.declared.search.Next.{Next}
pub use Rattle.act_orders.specs.declared.search.Next.TheVariants.{Finish, Pass}
pub use Rattle.act_orders.specs.declared.search.TheConstants.{DONE}
pub use Rattle.act_orders.specs.declared.told.Actor.{Actor}
pub use Rattle.act_orders.specs.declared.told.Call.{Call}
pub use Rattle.act_orders.specs.declared.told.End.TheVariants.{Dead}
pub use Rattle.act_orders.specs.declared.told.Happening.{Happening}
pub use Rattle.act_orders.specs.declared.told.Happening.TheVariants.{Answered, Ran, Submitted}
pub use Rattle.act_orders.specs.declared.told.Outcome.{Outcome}
pub use Rattle.act_orders.specs.declared.told.Outcome.TheVariants.{Died, Open}
pub use Rattle.act_orders.specs.declared.told.Run.{Run}
pub use Rattle.act_orders.specs.declared.told.Told.{Told}
pub use Rattle.std.proofs.Common.{Bool, Err, IsTrue, List, None, Ok, Option, Result, Some, [], ap, arith, below_more, cond, drop, eq-eqb, eqb, false, get_or}
pub use Rattle.std.proofs.Common.{inl, inr, is_some, leb, leb-false, leb-true, length, map, option_map, refl, replicate, rules, slice_get, subst, suc, sym}
pub use Rattle.std.proofs.Common.{take, true, zero, ℕ, ◌*◌, ◌++◌, ◌+◌, ◌-◌, ◌<◌, ◌^◌, ◌∙◌, ◌∷◌, ◌≡◌, ◌≢◌, ◌≤◌, ◌⊎◌}
pub use Rattle.std.proofs.Math.ListN.{set}
pub use Rattle.std.proofs.Math.Seq.{get_or-append_seam, take-append_seam}
pub use Rattle.std.proofs.lemmas.Bool.{cases_lt, eqb-true, false≢true}
pub use Rattle.std.proofs.lemmas.Bool.Decides.{nat_tests}
pub use Rattle.std.proofs.lemmas.List.{append-nil, get_or-replicate, get_or-set_other, get_or-set_same, get_or_append_left, length-append, length-drop}
pub use Rattle.std.proofs.lemmas.List.{length-map, length-replicate, length-set, take-append-le, take-map}
pub use Rattle.std.proofs.lemmas.List.Elements.{All-push, Contains-append_left, Contains-get_or, Contains-push, Contains-push_cases}
pub use Rattle.std.proofs.lemmas.List.Sorted.{IsNonDecreasingBy-from_all_adjacent, IsNonDecreasingBy-from_default, IsPartitionPoint-from_clause}
pub use Rattle.std.proofs.lemmas.List.Sorted.{IsPartitionedBy-leb, answers_always, non_decreasing_from_is_sorted, searched}
pub use Rattle.std.proofs.lemmas.List.Sums.{sum_by-set}
pub use Rattle.std.proofs.lemmas.Map.Keys.{le_from_is_le}
pub use Rattle.std.proofs.lemmas.Option.{cond_some, get_or_from_slice_get, same_Some, slice_get-get_or, slice_get-map, slice_get_past, slice_get_within}
pub use Rattle.std.specs.List.{All, Contains, IsAllAdjacentAnswer}
pub use Rattle.std.specs.List.Sorted.{IsNonDecreasingBy, IsPartitionPoint}
pub use Rattle.std.specs.Option.{MatchOption, option_or, option_to_list}
pub use Rattle.std.specs.Ordering.{is_le, is_some_and, nat_cmp}
pub use Rattle.std.specs.Result.{MatchResult, is_ok}
