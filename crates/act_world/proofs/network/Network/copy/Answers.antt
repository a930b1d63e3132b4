use Rattle.act_world.proofs.Common.{refl, sym, arith}
use Rattle.act_world.proofs.Copying.{copy_follows, copy_refused_follows}
use Rattle.act_world.proofs.Lawful.{world_lawful}
use Rattle.act_world.proofs.OneCaller.{no_caller, put_back}
use Rattle.act_world.proofs.Stepping.{refused_there, done_there}
use Rattle.act_world.proofs.network.Network.copy.Goals as goal

pub returns-in_default : goal.returns-in_default
returns-in_default c = no_caller _ _ _ _ (λ h. refl) c.self.view_is c.deref.ensures.value c.in_default.ensures

pub returns-in-Err : goal.returns-in-Err
returns-in-Err c = rw (← c.self.view_is) (refused_there _ _ _ _ (put_back _ _ c.index_mut.ensures.value c.in-Err.ensures.err) refl
    (λ slots casts before refines. copy_refused_follows _ slots c.args.c c.args.a refines
    (sym (rw c.deref.ensures.value at c.in-Some.ensures)) c.index_mut.ensures.value c.in-Err.ensures.value))

pub returns : goal.returns
returns c = rw (← c.self.view_is) (done_there _ _ _ _ (λ slots casts before refines. copy_follows _ slots c.args.c c.args.a c.copy.new.self (world_lawful casts
    before) refines (sym (rw c.deref.ensures.value at c.in-Some.ensures)) c.index_mut.ensures.value c.in-Ok.ensures.value c.in-Ok.ensures.ok) (omega arith))
