use Rattle.act_written.proofs.Common.{length, subst, Contains}
use Rattle.act_written.proofs.Each.{all_named}
use Rattle.act_written.proofs.text.history_text.Goals as goal

pub push_awaits-requires-clause-within : goal.push_awaits-requires-clause-within
push_awaits-requires-clause-within c =
    all_named c.as_slice-3.result.now (length c.args.told.now.calls) (λ k has. c.requires.last_waits k (subst (λ ks. Contains ks k) c.as_slice-3.ensures has))
