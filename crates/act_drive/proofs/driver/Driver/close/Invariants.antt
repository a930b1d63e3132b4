use Rattle.act_drive.proofs.Common.{◌≡◌, All, take, copies_held, copies_in, IsCalling, OnlyReleases, TracesClosing}
use Rattle.act_drive.proofs.driver.Driver.close.Given as goal

abbrev pub invariant-loop-mail : goal.invariant-loop-mail
invariant-loop-mail g l = record {
  calling : IsCalling l.lines l.self;
  only_releases : OnlyReleases l.initial.self l.self;
  traced : TracesClosing l.lines l.initial.self l.self;
  none : All (λ mail. copies_held (copies_in mail.actor l.self.owner.handles) ≡ 0) (take l.mail-index l.mail-items);
}
