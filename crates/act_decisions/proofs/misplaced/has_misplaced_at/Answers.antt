use Rattle.act_decisions.proofs.Common.{sym, ◌∙◌, ap, slice_get, slice_get_read, length, refl}
use Rattle.act_decisions.proofs.misplaced.has_misplaced_at.Goals as goal

pub returns-then-is_misplaced : goal.returns-then-is_misplaced
returns-then-is_misplaced c = λ yes same. record {
  actor = c.args.a;
  place = c.loop-p.p;
  run = c.index-runs-p.result;
  at = ap (λ l. slice_get l c.loop-p.p) (sym same)
      ∙ slice_get_read c.args.runs.now (length c.args.runs.now) c.loop-p.p c.index-runs-p.result refl c.loop-p-test.true c.index-runs-p.is;
  why = c.is_misplaced.ensures c.if-is_misplaced.true;
}
