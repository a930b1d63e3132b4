use Rattle.act_decisions.proofs.Common.{not_so}
use Rattle.act_decisions.proofs.compared.matches_told.Goals as goal

pub returns-then-not-has_all_calls : goal.returns-then-not-has_all_calls
returns-then-not-has_all_calls g c = λ casts events reached. (
  λ is. cc,
  λ matches. absurd (not_so (c.has_all_calls.ensures.exact casts events reached matches.calls) c.if-not-has_all_calls.true),
)

pub returns : goal.returns
returns g c = λ casts events reached.
    let shown = c.in_ok-is.ensures casts events reached in (
      λ is. record { calls = c.has_all_calls.ensures.have c.if-not-has_all_calls.false casts events reached; shown = shown.0 is },
      λ matches. shown.1 matches.shown,
    )
