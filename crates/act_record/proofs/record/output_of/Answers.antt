use Rattle.act_record.proofs.Common.{subst, sym, Spelled, spelled, checked_spelling, IsOutput}
use Rattle.act_rules.specs.declared.script.Mode.TheVariants.{Threads}
use Rattle.act_scripts.specs.Spelled.{FailsAt}
use Rattle.act_record.proofs.record.output_of.Goals as goal

pub returns-in-Ok : goal.returns-in-Ok
returns-in-Ok g c =
    subst (IsOutput c.output_of_script.result) (sym (checked_spelling c.args.bytes.now c.in-Ok.ensures.spelled))
    c.output_of_script.ensures

pub returns : goal.returns
returns g c =
    let read = subst (λ fault. FailsAt {Y = Spelled} fault (spelled Threads c.args.bytes.now)) c.in-Err-Line.field-0-is
    c.in-Err-Line.ensures.spelled in (
      (c.in-Err-Line.line, c.in-Err-Line.wrong),
      checked_spelling c.args.bytes.now read,
      c.in_ok-refusal_of-in-Err-Line.ensures,
    )
