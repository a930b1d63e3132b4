use Rattle.act_record.proofs.Common.{strange_script, told_stranger}
use Rattle.act_rules.specs.declared.script.Wrong.TheVariants.{BadPlan}
use Rattle.act_record.proofs.record.output_of_script.Goals as goal

pub returns-in-Some : goal.returns-in-Some
returns-in-Some g c =
    let strange = told_stranger c.as_slice.ensures
    c.as_slice-2.ensures c.first_stranger.ensures c.in-Some.is in
    ((c.in-Some.line, BadPlan), strange_script c.args.script c.in-Steps.is strange c.requires.roles, c.in_ok-refusal_of.ensures)

pub output_of_steps-requires-clause-known : goal.output_of_steps-requires-clause-known
output_of_steps-requires-clause-known g c κs within =
    told_stranger c.as_slice.ensures
    c.as_slice-2.ensures c.first_stranger.ensures c.in_default-first_stranger.is
