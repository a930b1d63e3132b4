use Rattle.act_drive.proofs.Common.{◌≡◌, ◌+◌, copies_held, copies_in, IsCalling, OnlyReleases, TracesClosing}
use Rattle.act_drive.proofs.driver.Driver.let_go.Given as goal

abbrev pub invariant-loop-gone : goal.invariant-loop-gone
invariant-loop-gone g l = record {
  calling : IsCalling l.lines l.self;
  only_releases : OnlyReleases l.initial.self l.self;
  traced : TracesClosing l.lines l.initial.self l.self;
  left : copies_held (copies_in l.a l.self.owner.handles) + l._gone ≡ copies_held (copies_in l.a l.initial.self.owner.handles);
}
