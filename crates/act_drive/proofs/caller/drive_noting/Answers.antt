use Rattle.act_drive.proofs.Common.{refl, actors_in}
use Rattle.act_drive.proofs.Done.{fresh_calling, fresh_follows, driven_of, unset_flags}
use Rattle.act_drive.proofs.Tracing.{fresh_tracing}
use Rattle.act_drive.proofs.caller.drive_noting.Goals as goal

pub run-starved-requires : goal.run-starved-requires
run-starved-requires g c = record { calling = fresh_calling _ (unset_flags 9) c.requires.fresh }

pub returns : goal.returns
returns g c =
    let run = c.run-starved in
    driven_of c.args.plan.items _ _ c.requires.fresh.unused.distinct run.ensures.calling run.ensures.stays
    (λ fed. run.ensures.done fed (actors_in c.args.owner.handles) c.requires.fits (fresh_follows _ c.requires.fresh)) run.ensures.ended
    (λ fed. run.ensures.traced fed c.args.owner (fresh_tracing _ c.requires.fresh refl))
