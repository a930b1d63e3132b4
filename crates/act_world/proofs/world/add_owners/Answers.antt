use Rattle.act_world.proofs.Common.{◌++◌, take, sym, subst, append-nil, take_all, HasOwners}
use Rattle.act_world.proofs.OpenedOwners.{one_more}
use Rattle.act_world.proofs.world.add_owners.Goals as goal

pub loop-c-init : goal.loop-c-init
loop-c-init g c = λ callers has. subst (λ named. HasOwners c.args.casts.now named c.args.owners.now.items) (sym (append-nil callers)) has

pub loop-c-preserved : goal.loop-c-preserved
loop-c-preserved g c = λ callers has. one_more c.args.casts.now callers c.args.these.now c.loop-c.c-index c.c-item.result c.add_owner.new.owners.items
    c.loop-c-test.true c.c-item.is (c.in_ok-add_owner.ensures (callers ++ take c.loop-c.c-index c.args.these.now) (c.loop-c.invariant callers has))

pub returns : goal.returns
returns g c = λ callers has. subst (λ these. HasOwners c.args.casts.now (callers ++ these) c.loop-c.owners.items)
    (take_all c.loop-c.c-index c.args.these.now c.loop-c-test.false) (c.loop-c.invariant callers has)
