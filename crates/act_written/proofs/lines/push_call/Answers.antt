use Rattle.act_written.proofs.Common.{length, subst, arith, Contains, Call}
use Rattle.act_written.proofs.Each.{all_named}
use Rattle.act_written.proofs.lines.push_call.Goals as goal

pub push_awaits-requires-clause-within : goal.push_awaits-requires-clause-within
push_awaits-requires-clause-within c =
    let told = c.args.told.now in
    all_named c.as_slice.result.now (length told.calls) (λ k has. let earlier = (c.requires.whole.waits c.args.place c.requires.within).each k
    (subst (λ (call : Call). Contains call.waits k) c.call-call.ensures (subst (λ ks. Contains ks k) c.as_slice.ensures has)) in let before =
    earlier.before in let within = c.requires.within in omega (arith, before, within))

pub push_takes-requires-clause-within : goal.push_takes-requires-clause-within
push_takes-requires-clause-within c =
    let told = c.args.told.now in
    all_named c.as_slice-2.result.now (length told.calls) (λ k has. let earlier = (c.requires.whole.takes c.args.place c.requires.within).each k
    (subst (λ (call : Call). Contains call.takes k) c.call-call.ensures (subst (λ ks. Contains ks k) c.as_slice-2.ensures has)) in let before =
    earlier.before in let within = c.requires.within in omega (arith, before, within))
