use Rattle.act_drive.proofs.Common.{subst, refl, sym, IsFreshCaller, HasRunCode}
use Rattle.act_drive.proofs.Done.{fresh_calling, fresh_follows, unset_flags}
use Rattle.act_drive.proofs.Worked.{run_code}
use Rattle.act_drive.proofs.coded.drive_code.Goals as goal

pub work-requires-clause-calling : goal.work-requires-clause-calling
work-requires-clause-calling g c = rw c.make_room.ensures (fresh_calling _ (unset_flags 9) c.requires.fresh)

pub work-requires-clause-follows : goal.work-requires-clause-follows
work-requires-clause-follows g c = rw c.make_room.ensures (fresh_follows _ c.requires.fresh)

pub returns : goal.returns
returns g c =
    let fresh : IsFreshCaller c.args.lines.now c.make_room.new.owner c.args.passes =
    subst (λ o. IsFreshCaller c.args.lines.now o c.args.passes) (sym c.make_room.ensures) c.requires.fresh in
    subst (λ o. HasRunCode c.args.lines.now o c.args.passes (g.C.Code.tells c.args.code) c.work.result) c.make_room.ensures
    (run_code _ _ fresh refl c.work.ensures)
