use Rattle.act_decisions.proofs.Common.{inl, refl, ◌∙◌, sym}
use Rattle.act_decisions.proofs.Exact.{beside_skipped, beside_told, nothing_told}
use Rattle.act_decisions.proofs.parts.push_beside.Goals as goal

pub returns-then-is_skipped-clause-made : goal.returns-then-is_skipped-clause-made
returns-then-is_skipped-clause-made c = (
  c.args.line.now,
  inl refl,
  nothing_told c.args.line.now c.args.text.now.items (sym c.is_skipped.ensures ∙ c.if-is_skipped.true),
)

pub returns-then-is_skipped-clause-exact : goal.returns-then-is_skipped-clause-exact
returns-then-is_skipped-clause-exact c = λ told more plain as_told is.
    beside_skipped c.args.line.now told more c.args.text.now.items (sym c.is_skipped.ensures ∙ c.if-is_skipped.true) as_told is

pub returns-clause-exact : goal.returns-clause-exact
returns-clause-exact c = λ told more plain as_told is. beside_told c.args.line.now told more c.split_line.result.0.now c.split_line.result.1.now
    c.args.text.now.items _ (sym c.is_skipped.ensures ∙ c.if-is_skipped.false) plain as_told is c.split_line.ensures.of_one_line c.split_line.ensures.whole
    c.in_ok-push_filled_in.ensures.exact
