use Rattle.act_drive.proofs.Common.{rules, arith, ◌≡◌, ◌<◌, ◌∙◌, ap, ◌-◌, copies_held, copies_in}
use Rattle.act_drive.proofs.Closing.{winds_trans, one_gone}
use Rattle.act_drive.proofs.Tracing.{closing_trans, closing_step}
use Rattle.act_drive.proofs.driver.Driver.let_go.Goals as goal

pub loop-gone-preserved : goal.loop-gone-preserved
loop-gone-preserved g c =
    let before = c.loop-gone.self in
    let less : copies_held (copies_in c.args.a c.release.new.self.owner.handles) ≡ copies_held (copies_in c.args.a before.owner.handles) - 1 =
    ap (λ h. copies_held (copies_in c.args.a h)) c.in_ok-release.ensures.handles ∙ one_gone before.owner.handles c.args.a in
    let below : c.loop-gone._gone < copies_held (copies_in c.args.a c.args.self.now.owner.handles) = search rules in
    let left = c.loop-gone.invariant.left in
    record {
      calling = c.in_ok-release.ensures.calling;
      only_releases = winds_trans _ _ _ c.loop-gone.invariant.only_releases c.in_ok-release.ensures.only_releases;
      traced = closing_trans c.args.lines.now _ _ _ c.loop-gone.invariant.traced (closing_step c.args.lines.now _ _ c.args.a c.in_ok-release.ensures.traced);
      left = omega (arith, less, below, left);
    }

pub returns-in_err-release-clause-calling : goal.returns-in_err-release-clause-calling
returns-in_err-release-clause-calling g c = c.in_err-release.ensures.calling

pub returns-in_err-release-clause-only_releases : goal.returns-in_err-release-clause-only_releases
returns-in_err-release-clause-only_releases g c = winds_trans _ _ _ c.loop-gone.invariant.only_releases c.in_err-release.ensures.only_releases

pub returns : goal.returns
returns g c = record {
  calling = c.loop-gone.invariant.calling;
  only_releases = c.loop-gone.invariant.only_releases;
  traced = c.loop-gone.invariant.traced;
  none = search rules;
}
