use Rattle.act_decisions.proofs.Common.{◌≡◌, ◌++◌, true, ap, sym, ◌∙◌}
use Rattle.act_decisions.proofs.Exact.{begins}
use Rattle.act_decisions.proofs.parts.is_filled_in.Goals as goal

pub returns-then-not-starts_with-clause-exact : goal.returns-then-not-starts_with-clause-exact
returns-then-not-starts_with-clause-exact c = λ filled.
    let begun : c.args.shown.now ≡ c.split_at.result.0.now ++ filled.what =
    filled.filled ∙ ap (λ front. front ++ filled.what) (sym c.split_at.ensures.front) in
    let is : c.starts_with.result ≡ true = c.starts_with.ensures.value ∙ begins c.split_at.result.0.now filled.what c.args.shown.now begun in
    cc (is, c.if-not-starts_with.true)
