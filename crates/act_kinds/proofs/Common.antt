-- The names of specifications and of the crates below that most proofs here cite, passed on from one place.
pub use Rattle.act_types.specs.Texts.{pair_text, shown_byte, value_text, with_spaces}
pub use Rattle.std.proofs.Common.{Bool, Err, List, Ok, OnErr, Result, Some, [], ap, cond, false, find, map, not, option_map, refl, rules, string_bytes, subst}
pub use Rattle.std.proofs.Common.{sym, take, true, ℕ, ◌∙◌, ◌∷◌, ◌≡◌}
pub use Rattle.std.specs.Fmt.{HasWritten, IsPlainFormatter}
