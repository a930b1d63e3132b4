use Rattle.act_executor.proofs.Common.{◌≢◌, ℕ, true≢false, sym, ◌∙◌, refl, differ_more, differ_not, pairs_all}
use Rattle.act_executor.proofs.fitting.callers_differ.Goals as goal

pub returns-then-has_code : goal.returns-then-has_code
returns-then-has_code g c = (
  λ same. absurd (true≢false (sym same)),
  λ differ. absurd (differ_not (λ (code : ℕ × g.row.C.Denot). code.0) c.args.codes.now c.loop-place-test.true
      c.index-codes-place.is (sym c.has_code.ensures ∙ c.if-has_code.true) differ),
)

pub loop-place-preserved : goal.loop-place-preserved
loop-place-preserved g c =
    differ_more (λ (code : ℕ × g.row.C.Denot). code.0) c.args.codes.now c.loop-place-test.true
    c.index-codes-place.is c.loop-place.invariant (sym c.has_code.ensures ∙ c.if-has_code.false)

pub returns : goal.returns
returns g c = (λ _. pairs_all (λ (one other : ℕ × g.row.C.Denot). one.0 ≢ other.0) c.args.codes.now c.loop-place-test.false c.loop-place.invariant, λ _. refl)
