use Rattle.act_world.proofs.Common.{◌<◌, length, refl, sym, arith}
use Rattle.act_world.proofs.Asking.{ask_follows, ask_refused_follows}
use Rattle.act_world.proofs.Lawful.{world_lawful}
use Rattle.act_world.proofs.OneCaller.{no_caller}
use Rattle.act_world.proofs.Stepping.{refused_there, done_there}
use Rattle.act_world.proofs.network.Network.ask_kill.Goals as goal

pub returns-in_default : goal.returns-in_default
returns-in_default c = no_caller _ _ _ _ (λ h. refl) c.self.view_is c.deref.ensures.value c.in_default.ensures

pub returns-in-Err : goal.returns-in-Err
returns-in-Err c = rw (← c.self.view_is) (refused_there _ _ _ _ refl refl (λ slots casts before refines. ask_refused_follows _ slots c.args.c c.args.a refines
    (sym (rw c.deref.ensures.value at c.in-Some.ensures)) c.index.ensures c.in-Err.ensures))

pub returns : goal.returns
returns c =
    let within : c.args.a < length c.self.inside.asked = omega arith in
    rw (← c.self.view_is, c.number.ensures.value) (done_there _ _ _ _ (λ slots casts before refines. ask_follows _ slots c.args.c c.args.a (world_lawful casts
    before) refines (sym (rw c.deref.ensures.value at c.in-Some.ensures)) c.index.ensures c.in_default-ask_kill.ensures within) (omega arith))
