-- The names of specifications and of the crates below that most proofs here cite, passed on from one place.
pub use Rattle.act_console.proofs.ThreadsRun.{bad_same, checked_spelling, explains, good_script, has_line, joined_same, planned_same, plans_fit, sorted_plans}
pub use Rattle.act_console.proofs.ThreadsRun.{strange_script, told_stranger}
pub use Rattle.act_console.specs.Plans.{first_stranger, step_line_view, script_of, step_view}
pub use Rattle.act_console.specs.Threads.{plans_in, spelled_threads}
pub use Rattle.act_executor.specs.Plays.{IsPlayOf}
pub use Rattle.act_record.specs.Output.{HasLineOf, HasShownText, IsOutput, IsExplained, IsMissing, WroteRecord}
pub use Rattle.act_record.specs.Record.{IsPlay, IsRecordOf, IsRecorded, IsWritten}
pub use Rattle.act_rules.specs.Grammar.{Script, Script as Spelled, spelled}
pub use Rattle.act_rules.specs.Scripts.{actor_spec_of, with_good_plans}
pub use Rattle.act_rules.specs.declared.event.Event.{Event}
pub use Rattle.act_rules.specs.declared.script.Role.{Role}
pub use Rattle.act_rules.specs.declared.script.Step.{Step}
pub use Rattle.act_serve.specs.Served.{EndView, end_view}
pub use Rattle.std.proofs.Common.{Err, List, None, Ok, Option, Result, ap, map, refl, subst, sym, take, ℕ, ◌+◌, ◌∙◌, ◌≡◌}
pub use Rattle.std.specs.Prelude.{string_bytes}
