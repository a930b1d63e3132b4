use Rattle.act_decisions.proofs.Common.{map, actor_spec_of, inr, sym, subst, AreAnswers}
use Rattle.act_decisions.proofs.refuting.refutes.Goals as goal

pub returns : goal.returns
returns c = λ is.
    let casts = map actor_spec_of c.args.roles.now in
    let are : AreAnswers casts c.args.end.now c.deref.result.now =
    subst (λ l. AreAnswers casts c.args.end.now l) (sym c.deref.ensures.value) c.in_ok-all.ensures in (
      c.in_ok-is_lined.ensures c.if-not-branch.false,
      inr (
        c.says_enough.ensures.placed is,
        c.says_enough.ensures.decided casts are is,
        c.says_enough.ensures.lost casts are is,
        c.says_enough.ensures.sayable is,
      ),
    )
