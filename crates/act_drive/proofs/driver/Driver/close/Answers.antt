use Rattle.act_drive.proofs.Common.{rules, ◌≡◌, ◌<◌, ◌≤◌, ◌∙◌, ap, sym, length, subst, All, take_all, get_or_default, copies_held, copies_in, MailView}
use Rattle.act_drive.proofs.Closing.{winds_trans, none_more}
use Rattle.act_drive.proofs.Tracing.{closing_trans}
use Rattle.act_drive.proofs.driver.Driver.close.Goals as goal

pub loop-mail-preserved : goal.loop-mail-preserved
loop-mail-preserved g c =
    let mails = c.args.lines.now.mails.now in let below : c.loop-mail.mail-index < length mails = search rules in
    record {
      calling = c.in_ok-let_go.ensures.calling;
      only_releases = winds_trans _ _ _ c.loop-mail.invariant.only_releases c.in_ok-let_go.ensures.only_releases;
      traced = closing_trans c.args.lines.now _ _ _ c.loop-mail.invariant.traced c.in_ok-let_go.ensures.traced;
      none = none_more mails c.actor.result below (λ d. ap (λ (m : MailView). m.actor) (get_or_default mails c.loop-mail.mail-index d c.mail-item.result below ∙
          sym c.mail-item.is) ∙ sym c.actor.ensures) c.in_ok-let_go.ensures.only_releases c.in_ok-let_go.ensures.none c.loop-mail.invariant.none;
    }

pub returns : goal.returns
returns g c = record {
  none =
      let mails = c.args.lines.now.mails.now in let past : length mails ≤ c.loop-mail.mail-index = search rules in
      subst (λ l. All (λ mail. copies_held (copies_in mail.actor c.loop-mail.self.owner.handles) ≡ 0) l)
      (take_all c.loop-mail.mail-index mails past) c.loop-mail.invariant.none;
  calling = c.loop-mail.invariant.calling;
  only_releases = c.loop-mail.invariant.only_releases;
  traced = c.loop-mail.invariant.traced;
}

pub returns-in_err-let_go-clause-calling : goal.returns-in_err-let_go-clause-calling
returns-in_err-let_go-clause-calling g c = c.in_err-let_go.ensures.calling

pub returns-in_err-let_go-clause-only_releases : goal.returns-in_err-let_go-clause-only_releases
returns-in_err-let_go-clause-only_releases g c = winds_trans _ _ _ c.loop-mail.invariant.only_releases c.in_err-let_go.ensures.only_releases
