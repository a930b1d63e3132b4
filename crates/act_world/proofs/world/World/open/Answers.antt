use Rattle.act_world.proofs.Common.{length, ap, subst, slice_get, callers_named, HasOwners}
use Rattle.act_world.proofs.OpenedOwners.{owners_opened, nothing_asked}
use Rattle.act_world.proofs.Shown.{opened_shows}
use Rattle.act_world.proofs.world.World.open.Goals as goal

pub returns-clause-reached : goal.returns-clause-reached
returns-clause-reached g c = record {
  owners = owners_opened g.K.Actor.state c.args.casts.items c.in_ok-owners.owners.items c.requires.fit.actors
      (subst (λ casts. HasOwners casts (callers_named casts) c.in_ok-owners.owners.items) c.as_slice.ensures.value c.in_ok-owners.ensures);
  actors = c.in_ok-slots.ensures;
  mail = λ i. ap (λ mail. slice_get mail i) c.new.ensures.items;
  mail_count = ap (λ mail. length mail) c.new.ensures.items;
  replies = λ j. ap (λ replies. slice_get replies j) c.new-2.ensures.items;
  reply_count = ap (λ replies. length replies) c.new-2.ensures.items;
  asked = nothing_asked;
}

pub returns-clause-shown : goal.returns-clause-shown
returns-clause-shown g c = opened_shows _ _ (returns-clause-reached g c)
