use Rattle.act_drive.proofs.Common.{◌≡◌, ◌++◌, ℕ, List, [], None, into_iter_items, Step, first_bad, IsCalling, FollowsSteps, Stays, TracesPlan}
use Rattle.act_drive.proofs.driver.Driver.steps.Given as goal

abbrev pub invariant-loop-step : goal.invariant-loop-step
invariant-loop-step g l = record {
  calling : IsCalling l.lines l.self;
  stay : Stays l.fn.self l.self;
  follows : (done : List Step) × (done ++ into_iter_items l.step-iterator ≡ l.fn.plan.items) × ((actors : List ℕ) → first_bad actors l.fn.plan.items ≡ None →
      FollowsSteps l.lines actors [] l.fn.self → FollowsSteps l.lines actors done l.self) × TracesPlan l.lines done l.fn.self l.self;
}
