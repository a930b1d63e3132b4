use Rattle.act_scripts.proofs.Common.{◌+◌, forms_of, lines_in, spelled_script}
use Rattle.act_scripts.proofs.Cutting.{first_of}
use Rattle.act_scripts.proofs.Lines.{not_plain, ends}
use Rattle.act_scripts.proofs.script.read_lines.Goals as goal

pub returns-in-Err-clause-spelled : goal.returns-in-Err-clause-spelled
returns-in-Err-clause-spelled c =
    let forms = forms_of c.args.mode in let script = spelled_script c.lines.script in let first = first_of c.lines.rest.now in
    let fails = not_plain forms (c.lines.number + 1) script first.0 c.in-Err.fault (c.in-Err.ensures.fault first.0 first.1 first.2) in
    rw c.fault_in.ensures
    (ends forms (c.lines.number + 1) script (lines_in c.lines.rest.now) first.0 first.1 _ first.2 c.lines.invariant.read c.in-Err.fault fails)
