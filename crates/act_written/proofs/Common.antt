-- The names of specifications and of the crates below that most proofs here cite, passed on from one place.
pub use Rattle.act_lists.proofs.Texts.{appends_more}
pub use Rattle.act_orders.proofs.Lists.{same_or_not}
pub use Rattle.act_orders.specs.Causes.{run_of}
pub use Rattle.act_orders.specs.declared.told.Call.{Call}
pub use Rattle.act_orders.specs.declared.told.Run.{Run}
pub use Rattle.act_orders.specs.declared.told.Told.{Told}
pub use Rattle.act_written.specs.Texts.{IsAt, IsPast, actor_lines, await_line, call_lines, call_number, of_each, outcome_line, role_line, role_word, run_line}
pub use Rattle.act_written.specs.Texts.{run_line_of, take_word}
pub use Rattle.std.proofs.Common.{List, [], add-one, ap, append_assoc, arith, get_or, inl, inr, length, refl, slice_index_or, string_bytes, subst, suc, sym}
pub use Rattle.std.proofs.Common.{take, zero, ℕ, ◌++◌, ◌+◌, ◌-◌, ◌<◌, ◌∙◌, ◌≡◌, ◌≢◌, ◌≤◌}
pub use Rattle.std.proofs.lemmas.Bool.{eq-eqb, ne_eqb}
pub use Rattle.std.proofs.lemmas.List.{append-nil, take_rest}
pub use Rattle.std.proofs.lemmas.List.Elements.{All-contains_itself}
pub use Rattle.std.specs.Io.KnownBytes.{Appends}
pub use Rattle.std.specs.List.{All, Contains, flat_map}
