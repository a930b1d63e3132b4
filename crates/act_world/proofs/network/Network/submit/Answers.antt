use Rattle.act_world.proofs.Common.{refl, sym, arith}
use Rattle.act_world.proofs.Lawful.{world_lawful}
use Rattle.act_world.proofs.OneCaller.{no_caller}
use Rattle.act_world.proofs.Stepping.{done_there}
use Rattle.act_world.proofs.Submitting.{submit_follows, not_taken}
use Rattle.act_world.proofs.network.Network.submit.Goals as goal

pub returns-in_default : goal.returns-in_default
returns-in_default c = no_caller _ _ _ _ (λ h. refl) c.self.view_is c.deref.ensures.value c.in_default.ensures

pub returns-in-Err : goal.returns-in-Err
returns-in-Err c = rw (← c.self.view_is) (not_taken _ c.args.c c.args.a c.args.method c.args.args c.told_refused.result
    (sym (rw c.deref.ensures.value at c.in-Some.ensures)) c.index_mut.ensures.value c.in-Err.ensures.refusal c.in-Err.ensures.err
    c.told_refused.ensures.outcome c.told_refused.ensures.other c.told_refused.ensures.memory)

pub returns : goal.returns
returns c = rw (← c.self.view_is) (done_there _ _ _ _ (λ slots casts before refines. submit_follows _ slots c.args.c c.args.a c.in-Ok.k c.args.method
    c.args.args c.submit.new.self (world_lawful casts before) refines (sym (rw c.deref.ensures.value at c.in-Some.ensures)) c.index_mut.ensures.value
    c.in-Ok.ensures.accepted c.in-Ok.ensures.future c.in-Ok.ensures.ok) (omega arith))
