use Rattle.act_console.proofs.Common.{sym, end_view, Finished}
use Rattle.act_console.proofs.Joined.{none_view, one_view}
use Rattle.act_console.proofs.summary.end_of.Goals as goal

pub returns-in_err-place : goal.returns-in_err-place
returns-in_err-place g c = rw c.from_residual.ensures
    (sym (none_view (λ (one : Finished _ _). end_view g.K.Actor.state one.ended) c.args.actor c.args.actors.now (sym c.in_err-place.ensures)))

pub returns : goal.returns
returns g c = sym (one_view (λ (one : Finished _ _). end_view g.K.Actor.state one.ended) c.args.actor c.args.actors.now c.index-actors-place.result
    (sym c.in_ok-place.ensures))
