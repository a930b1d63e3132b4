use Rattle.act_drive.proofs.Common.{◌≡◌, true, take, All, IsCalling, Stays, HasEndedAt}
use Rattle.act_drive.proofs.driver.Driver.end_all.Given as goal

abbrev pub invariant-loop-at : goal.invariant-loop-at
invariant-loop-at g l = record {
  calling : IsCalling l.lines l.self;
  stay : Stays l.initial.self l.self;
  through : l.is_through ≡ true → All (HasEndedAt l.lines.controls.now l.self.owner l.self.passes) (take l.at l.self.passes.kills.items);
}
