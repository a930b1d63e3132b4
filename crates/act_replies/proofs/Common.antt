-- The names of specifications and of the crates below that most proofs here cite, passed on from one place.
pub use Rattle.act_lists.proofs.Lists.{take_written_over}
pub use Rattle.act_replies.specs.Chains.{IsChained, IsCounted, IsFirstAbove, IsLastBelow, IsLinked, WaitingView, after_of, before_of, found_at, is_for}
pub use Rattle.act_replies.specs.Chains.{linked_actors, with_found}
pub use Rattle.act_replies.specs.Table.{IsKnown, IsTable, TableView, after_keep, after_keep_in, is_open, keep_result, keep_result_in, row_after_death}
pub use Rattle.act_replies.specs.Table.{row_waits_for, row_with_answer, rows_after_death, waited_actor, waits_at}
pub use Rattle.act_replies.specs.declared.table.Kept.TheVariants.{First, Late}
pub use Rattle.act_replies.specs.declared.table.Link.{Link}
pub use Rattle.act_replies.specs.declared.table.Row.{Row}
pub use Rattle.act_types.specs.declared.call.Fault.{Fault}
pub use Rattle.act_types.specs.declared.call.Fault.TheVariants.{ActorDied}
pub use Rattle.act_types.specs.declared.call.Value.{Value}
pub use Rattle.act_types.specs.declared.limits.TheConstants.{MAX_ACTORS}
pub use Rattle.std.proofs.Common.{Bool, Err, IfNone, IfSome, List, None, Option, Result, Some, [], ap, arith, cond, count_by, drop, false, get_or}
pub use Rattle.std.proofs.Common.{if◌then◌else◌, inl, inr, is_some, length, map, not, refl, slice_get, slice_set, subst, suc, sym, take, true, zero, ℕ, ◌&&◌}
pub use Rattle.std.proofs.Common.{◌++◌, ◌+◌, ◌-◌, ◌<◌, ◌==◌, ◌∙◌, ◌∷◌, ◌≡◌, ◌≢◌, ◌≤◌, ◌⊎◌}
pub use Rattle.std.proofs.Math.ListN.{get_or-append, get_or-eq_default}
pub use Rattle.std.proofs.Math.Seq.{get_or-append_seam, map-set_same}
pub use Rattle.std.proofs.lemmas.Bool.{cases_lt, cases_order, eq-eqb}
pub use Rattle.std.proofs.lemmas.Bool.Decides.{eqb_tells}
pub use Rattle.std.proofs.lemmas.List.{get_or-map, get_or-set_other, get_or-set_same, get_or_default, length-append, length-map, length-set, map-append}
pub use Rattle.std.proofs.lemmas.List.{map-set, set-get_or}
pub use Rattle.std.proofs.lemmas.List.Sums.{sum_by-cons, sum_by-set, sum_by_push}
pub use Rattle.std.proofs.lemmas.Option.{slice_get-get_or, slice_get_cases}
pub use Rattle.std.specs.Option.{option_map_or}
