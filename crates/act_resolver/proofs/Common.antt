-- The names of specifications and of the crates below that most proofs here cite, passed on from one place.
pub use Rattle.act_lists.proofs.Lists.{element, get_set-other, get_set-same, slice_get_last, take_written_over}
pub use Rattle.act_resolver.specs.Counts.{AreCounted, AreFree, IsResolver, IsTelling, Row, calls_of, count_number, futures_at, is_free, missing_at, missing_of}
pub use Rattle.act_resolver.specs.Counts.{places_for, with_one_less}
pub use Rattle.act_resolver.specs.Least.{IsLeast}
pub use Rattle.act_resolver.specs.Levels.{IsAbove, IsFirst, bits_of, has_any, has_bit}
pub use Rattle.act_resolver.specs.Resolver.{Entered, changed_at, is_answered, is_next_ready, is_told, least_ready, new_call, with_mark, with_told}
pub use Rattle.act_resolver.specs.Waiters.{AreLinked, AreWaiters, chain_from, chains_after, chains_of, waiters_of}
pub use Rattle.act_resolver.specs.declared.resolver.Place.{Place}
pub use Rattle.std.proofs.Common.{All, Bool, IfSome, List, None, Option, Some, [], ap, arith, cond, count_by, drop, eqb, false, find, get_or, inl, inr, length}
pub use Rattle.std.proofs.Common.{map, not, refl, rules, slice_get, slice_set, subst, suc, sym, take, true, vec_capacity, vec_len, zero, ℕ, ◌%◌, ◌&&◌, ◌*◌}
pub use Rattle.std.proofs.Common.{◌++◌, ◌+◌, ◌-◌, ◌/◌, ◌<◌, ◌==◌, ◌^◌, ◌∙◌, ◌∷◌, ◌≡◌, ◌≢◌, ◌≤◌, ◌⊎◌}
pub use Rattle.std.proofs.lemmas.Bool.{cases_eq, cases_lt, eq-eqb, false≢true}
pub use Rattle.std.proofs.lemmas.Bool.Decides.{eqb_tells}
pub use Rattle.std.proofs.lemmas.Grind.{get_or_default_zero}
pub use Rattle.std.proofs.lemmas.List.{get_or-map, get_or-set_other, get_or-set_same, get_or_append_left, get_or_at, get_or_past, get_or_read, length-map}
pub use Rattle.std.proofs.lemmas.List.{length-set, length_push, map-append, map-set, set-get_or}
pub use Rattle.std.proofs.lemmas.List.FromFn.{fill_by_all, get_or-map-range_with_len, length-map-range_with_len}
pub use Rattle.std.proofs.lemmas.List.Sums.{sum_by-cons}
pub use Rattle.std.proofs.lemmas.Nat.Bits.{bit_at-trailing_zeros, bit_at-zero, bit_at_clear_other, bit_at_clear_same, bit_at_set_other, bit_at_set_same}
pub use Rattle.std.proofs.lemmas.Option.{get_or_from_slice_get, slice_get-get_or, slice_get-map, slice_get_past, slice_get_read, slice_get_within}
pub use Rattle.std.proofs.lemmas.Result.{on_ok_weaker}
pub use Rattle.std.specs.Int.{bit_at, trailing_zeros, w64}
pub use Rattle.std.specs.List.{list_all, range_with_len}
pub use Rattle.std.specs.Option.{option_map, option_map_or}
