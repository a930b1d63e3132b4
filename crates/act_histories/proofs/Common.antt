-- The names of specifications and of the crates below that most proofs here cite, passed on from one place.
pub use Rattle.act_console.specs.Plans.{script_of}
pub use Rattle.act_histories.specs.Checked.{Checked, IsVerdict, IsVerdictOf, WroteVerdict}
pub use Rattle.act_histories.specs.Cut.{tells_left, told_part}
pub use Rattle.act_rules.specs.declared.script.Mode.TheVariants.{Play, Threads}
pub use Rattle.act_scripts.specs.Spelled.{spelled_script}
pub use Rattle.std.proofs.Common.{Bool, Err, IfOk, List, Ok, Option, Result, [], ap, append_assoc, arith, cond, false, inl, inr, length, map, refl}
pub use Rattle.std.proofs.Common.{string_bytes, subst, sym, take, true, ℕ, ◌++◌, ◌+◌, ◌-◌, ◌==◌, ◌∙◌, ◌∷◌, ◌≡◌, ◌≢◌}
pub use Rattle.std.proofs.lemmas.Result.{IfOk-weaker}
