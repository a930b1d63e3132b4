use Rattle.act_world.proofs.Common.{Some, ap, sym, ◌∙◌, find-Some, find-None, is_owner}
use Rattle.act_world.proofs.network.Network.owner.Goals as goal

pub returns-in_default : goal.returns-in_default
returns-in_default c =
    rw (← c.self.view_is) (sym (find-None (is_owner c.args.c) c.self.inside.owners.items (sym (rw c.deref.ensures.value at c.in_default.ensures))))

pub returns : goal.returns
returns c = rw (← c.self.view_is) (ap Some c.index.ensures ∙
    sym (find-Some (is_owner c.args.c) c.self.inside.owners.items c.index.result.now (sym (rw c.deref.ensures.value at c.in-Some.ensures))))
