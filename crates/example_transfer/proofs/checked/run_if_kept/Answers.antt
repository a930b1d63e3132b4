use Rattle.example_transfer.proofs.Common.{sym, subst, ◌≡◌, None, Ok, IsKeptInThreads}
use Rattle.example_transfer.proofs.Threads.{kept_in_run}
use Rattle.example_transfer.proofs.checked.run_if_kept.Goals as goal

pub returns-2 : goal.returns-2
returns-2 g c =
    let none : c.find_change.result ≡ Ok None = search in
    let left = c.in_ok-joined.joined in
    kept_in_run c.args.purses.now left.actors.items _ c.in_ok-casts.ensures.casts
    (subst (λ plans. IsKeptInThreads c.args.purses.now plans) (sym c.in_ok-plans.ensures) (rw none at c.find_change.ensures)) c.in_ok-joined.ensures.joined
    c.in_ok-joined.ensures.planned
