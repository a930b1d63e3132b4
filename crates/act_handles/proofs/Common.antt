-- The names of specifications and of the crates below that most proofs here cite, passed on from one place.
pub use Rattle.act_handles.specs.Handles.{IsAt, IsHandles, actors_in, change_handle, copies_in, given_in, given_of_all, is_of, new_handle, with_copy}
pub use Rattle.act_handles.specs.Handles.{with_number, without_copy}
pub use Rattle.act_handles.specs.declared.handles.Handle.{Handle}
pub use Rattle.std.proofs.Common.{AllPairs, Bool, List, MatchOption, None, Option, Some, [], ap, append-nil, arith, eq-eqb, false, filter, get_or}
pub use Rattle.std.proofs.Common.{if◌then◌else◌, inl, inr, is_some, length, length-append, map, nat_lt, position, refl, rules, subst, suc, sym, true, zero, ℕ}
pub use Rattle.std.proofs.Common.{◌++◌, ◌+◌, ◌-◌, ◌<◌, ◌==◌, ◌∙◌, ◌∷◌, ◌≡◌, ◌≢◌, ◌≤◌}
pub use Rattle.std.proofs.lemmas.Bool.{eqb-true, ne_eqb}
pub use Rattle.std.proofs.lemmas.Bool.Decides.{eqb_tells, leb_tells}
pub use Rattle.std.specs.List.{list_any, position_or_len}
pub use Rattle.std.specs.Prelude.{find, option_map, slice_set}
