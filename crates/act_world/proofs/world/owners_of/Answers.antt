use Rattle.act_world.proofs.Common.{◌++◌, take, ap, subst, find, take_all, is_owner, callers_named, HasOwners}
use Rattle.act_world.proofs.OpenedOwners.{cast_more}
use Rattle.act_world.proofs.world.owners_of.Goals as goal

pub loop-cast-init : goal.loop-cast-init
loop-cast-init g c = λ caller. ap (λ owners. find (is_owner caller) owners) c.new-owners.ensures.items

pub loop-cast-preserved : goal.loop-cast-preserved
loop-cast-preserved g c =
    cast_more c.args.casts.now c.add_owners.new.owners.items c.loop-cast-test.true c.cast-item.is
    (subst (λ these. HasOwners c.args.casts.now (callers_named (take c.loop-cast.cast-index c.args.casts.now) ++ these) c.add_owners.new.owners.items)
    c.as_slice.ensures (c.in_ok-add_owners.ensures (callers_named (take c.loop-cast.cast-index c.args.casts.now)) c.loop-cast.invariant))

pub returns : goal.returns
returns g c = subst (λ casts. HasOwners c.args.casts.now (callers_named casts) c.loop-cast.owners.items)
    (take_all c.loop-cast.cast-index c.args.casts.now c.loop-cast-test.false) c.loop-cast.invariant
