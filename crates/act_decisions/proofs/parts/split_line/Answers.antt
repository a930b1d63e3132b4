use Rattle.act_decisions.proofs.Common.{inl, sym}
use Rattle.act_decisions.proofs.Exact.{before_end, end_found, no_end}
use Rattle.act_decisions.proofs.parts.split_line.Goals as goal

pub returns-in-Some-clause-of_one_line : goal.returns-in-Some-clause-of_one_line
returns-in-Some-clause-of_one_line c = before_end c.args.bytes.now c.in-Some.at (sym c.in-Some.ensures)

pub returns-in-Some-clause-whole : goal.returns-in-Some-clause-whole
returns-in-Some-clause-whole c = inl (end_found c.args.bytes.now c.in-Some.at (sym c.in-Some.ensures))

pub returns-in-None-clause-of_one_line : goal.returns-in-None-clause-of_one_line
returns-in-None-clause-of_one_line c = no_end c.args.bytes.now (sym c.in-None.ensures)
