-- The names of specifications and of the crates below that most proofs here cite, passed on from one place.
pub use Rattle.act_inbox.specs.Inbox.{InboxView, IsDrained, IsNextTaken, IsNextToCome, IsOpened, arrival_of, call_arrival, handed_in_all, handed_of, has_come}
pub use Rattle.act_inbox.specs.Inbox.{is_lane_of, is_listed, is_packet_of, lane_at_first, lane_of, next_of, note_of, waiting_after, waiting_packet, was_handed}
pub use Rattle.act_inbox.specs.Inbox.{with_held}
pub use Rattle.act_inbox.specs.View.{IsHeld, IsInbox, key_in, key_of, told_key}
pub use Rattle.act_inbox.specs.contracts.inbox.Inbox.{the_view}
pub use Rattle.act_inbox.specs.declared.inbox.Lane.{Lane}
pub use Rattle.act_rules.proofs.Finding.{find-None, find-Some, find-tells, position_or_len-Some}
pub use Rattle.act_rules.specs.History.{contains}
pub use Rattle.act_rules.specs.declared.outcome.Arrival.TheVariants.{New, Repeat, Stranger}
pub use Rattle.act_types.specs.declared.call.Packet.{Packet}
pub use Rattle.slab.proofs.DrainLemmas.{length-values}
pub use Rattle.slab.specs.Slab.{Slab, Updates, get, values}
pub use Rattle.std.proofs.Common.{All, AllPairs, Bool, Err, IsSome, IsSomeAnd, IsTrue, List, None, Ok, OnErr, OnOk, Option, Result, Some, [], ap, arith, cond}
pub use Rattle.std.proofs.Common.{count_by, eq-eqb, false, filter_map, find, get_or, if◌then◌else◌, inl, inr, is_err, is_some, length, map, nat_lt, position}
pub use Rattle.std.proofs.Common.{refl, replicate, set, slice_get, slice_set, subst, suc, sum_by, sym, take, take_all, true, zero, ℕ, ◌&&◌, ◌*◌, ◌+◌, ◌<◌, ◌==◌}
pub use Rattle.std.proofs.Common.{◌||◌, ◌↔◌, ◌∙◌, ◌∷◌, ◌≡◌, ◌≢◌, ◌≤◌}
pub use Rattle.std.proofs.Math.Dec.{eqb}
pub use Rattle.std.proofs.Math.Seq.{map-set_same}
pub use Rattle.std.proofs.lemmas.Bool.{cases_eq, eqb-true, le-ltb, lt-ltb, ltb-false, ltb-true}
pub use Rattle.std.proofs.lemmas.Bool.Decides.{Decides-eqb, eqb_tells, leb_tells, nat_tests}
pub use Rattle.std.proofs.lemmas.Grind.{common_steps}
pub use Rattle.std.proofs.lemmas.List.{get_or-map, get_or-replicate, get_or_past, length-map, length-replicate, length-set, nil_from_length}
pub use Rattle.std.proofs.lemmas.List.Elements.{All-cons, All-head, All-map, All-more, All-nil, All-set, All-tail, recursion_from_All}
pub use Rattle.std.proofs.lemmas.List.Folds.{Any-from_list_any, find-set, find_at, find_past}
pub use Rattle.std.proofs.lemmas.List.Quantifiers.{position-Some}
pub use Rattle.std.proofs.lemmas.List.Sums.{position_or_len_is, sum_by-le, sum_by-set}
pub use Rattle.std.proofs.lemmas.Map.Keys.{IsDistinct-cons}
pub use Rattle.std.proofs.lemmas.Map.Made.{IsDistinct-from_AllPairs}
pub use Rattle.std.proofs.lemmas.Map.Steps.{length-le_from_distinct_below}
pub use Rattle.std.proofs.lemmas.Option.{get_or_from_slice_get, slice_get-get_or, slice_get_within}
pub use Rattle.std.specs.Bool.{Decides}
pub use Rattle.std.specs.List.{IsDistinct}
pub use Rattle.std.specs.Option.{option_and_then, option_copied, option_map_or}
