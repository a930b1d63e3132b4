use Rattle.act_executor.proofs.Common.{rules, ◌≡◌, ◌≢◌, ℕ, [], ◌∷◌, ◌++◌, List, map, All, AllPairs, Option, get_or, ap, sym, ◌∙◌, subst, MailView, ControlView}
use Rattle.act_executor.proofs.Common.{RepliesView, IsUnusedCaller, opened_with, All-push, CanDrive, driving_start}
use Rattle.act_executor.proofs.OpenLines.Endpoints.{next_pushed}
use Rattle.act_executor.proofs.OpenLines.Owners.{can_drive, opened_for_setup, limits_differ}
use Rattle.act_executor.proofs.work.add_driving.Goals as goal

pub open_with-requires-clause-distinct : goal.open_with-requires-clause-distinct
open_with-requires-clause-distinct g c =
    let limits : c.as_slice.result.now ≡ c.args.setup.limits.items = search rules in
    subst (AllPairs (λ (one other : ℕ × Option ℕ). one.0 ≢ other.0)) (sym limits) (limits_differ c.args.setup c.requires.drives.limits c.requires.drives.actors)

pub returns-clause-ready : goal.returns-clause-ready
returns-clause-ready g c =
    let lines = c.args.lines.now in
    let mails : c.as_slice-2.result.now ≡ lines.mails.items = search rules in
    let controls : c.as_slice-3.result.now ≡ lines.controls.items = search rules in
    let reply : c.index.result.now ≡ get_or lines.replies.items c.args.caller.place c.index.result.now = search rules in
    let limits : c.as_slice.result.now ≡ c.args.setup.limits.items = search rules in
    let At : List MailView × List ControlView × RepliesView → Type 0 = λ l. IsUnusedCaller l.0 l.1 l.2 c.args.setup.caller c.args.caller.pass in
    let unused = subst At (λ i. (sym mails i, sym controls i, sym reply i)) (c.requires.drives.is c.index.result.now) in
    let one = can_drive (record { mails = c.as_slice-2.result; controls = c.as_slice-3.result; replies = c.index.result }) c.args.setup.limits.items
    c.args.setup.actors.items c.args.setup.plan.items
    (c.in_ok-owner.ensures ∙ ap (opened_with c.args.setup.caller) limits ∙ opened_for_setup c.requires.drives.limits) unused c.requires.drives.fits in
    subst (λ l. All CanDrive l) (sym c.in_ok-push.ensures.items) (All-push CanDrive c.args.drivings.now.items _ c.requires.ready one)

pub returns-clause-starts : goal.returns-clause-starts
returns-clause-starts g c =
    let lines = c.args.lines.now in let before = c.args.drivings.now.items in
    let limits : c.as_slice.result.now ≡ c.args.setup.limits.items = search rules in
    let mails : c.as_slice-2.result.now ≡ lines.mails.items = search rules in
    let controls : c.as_slice-3.result.now ≡ lines.controls.items = search rules in
    let owner = c.in_ok-owner.ensures ∙ ap (opened_with c.args.setup.caller) limits ∙ opened_for_setup c.requires.drives.limits in
    next_pushed driving_start before _ c.in_ok-push.ensures.items
    ∙ (λ i. map driving_start before ++ record {
      owner = owner i;
      plan = c.args.setup.plan.items;
      conduct = c.args.conduct;
      passes = c.args.caller.pass;
      mails = mails i;
      controls = controls i;
    } ∷ [])
