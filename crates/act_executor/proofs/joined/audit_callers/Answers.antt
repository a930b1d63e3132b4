use Rattle.act_executor.proofs.Common.{rules, ◌≡◌, ◌++◌, map, All, ap, sym, ◌∙◌, subst, refl, into_iter_items, Driven, SitsAtMail, SitsAtControl, LetterTold}
use Rattle.act_executor.proofs.Common.{KillTold, HasEndpoints, CallerTold, All-cons, All-head, All-tail, append_over}
use Rattle.act_executor.proofs.joined.audit_callers.Goals as goal

pub loop-caller-init : goal.loop-caller-init
loop-caller-init g c =
    let gives = c.into_iter-caller-iterator.ensures.into_iter_gives.0 in
    record {
      same = refl;
      sit = subst (λ l. All (HasEndpoints c.args.lines.now) l) (sym gives) c.requires.sit;
      told = λ h. subst (λ l. All (CallerTold c.args.actors.now.items) l) gives h;
      owners = search (rules, gives);
    }

pub audit_all-requires-clause-sit : goal.audit_all-requires-clause-sit
audit_all-requires-clause-sit g c =
    let one = All-head
    (HasEndpoints c.args.lines.now) _ _ (subst (λ l. All (HasEndpoints c.args.lines.now) l) c.in-Some.ensures.steps.0 c.loop-caller.invariant.sit) in
    let mails : c.args.lines.now.mails.items ≡ c.as_slice.result.now = search rules in
    subst (λ l. All (SitsAtMail l) c.in-Some.caller.passes.letters.items) mails one.letters

pub audit_all-requires-in-loop-caller-clause-sit : goal.audit_all-requires-in-loop-caller-clause-sit
audit_all-requires-in-loop-caller-clause-sit g c =
    let one = All-head
    (HasEndpoints c.args.lines.now) _ _ (subst (λ l. All (HasEndpoints c.args.lines.now) l) c.in-Some.ensures.steps.0 c.loop-caller.invariant.sit) in
    let controls : c.args.lines.now.controls.items ≡ c.as_slice-in-loop-caller.result.now = search rules in
    subst (λ l. All (SitsAtControl l) c.in-Some.caller.passes.kills.items) controls one.kills

pub loop-caller-preserved : goal.loop-caller-preserved
loop-caller-preserved g c =
    let inv = c.loop-caller.invariant in let first = c.args.actors.now.items in let one = c.in-Some.caller in let rest = into_iter_items c.next.new.self in
    let P : Driven → Type 0 = CallerTold first in
    let letters : All (LetterTold first) one.passes.letters.items =
    subst (λ l. All (LetterTold l) one.passes.letters.items) inv.same c.audit_all.ensures.told in
    let between = c.audit_all.ensures.same ∙ inv.same in
    let kills : All (KillTold first) one.passes.kills.items =
    subst (λ l. All (KillTold l) one.passes.kills.items) between c.audit_all-in-loop-caller.ensures.told in
    record {
      same = c.audit_all-in-loop-caller.ensures.same ∙ between;
      sit = All-tail (HasEndpoints c.args.lines.now) _ _ (subst (λ l. All (HasEndpoints c.args.lines.now) l) c.in-Some.ensures.steps.0 inv.sit);
      told = λ h. inv.told (subst (λ l. All P l) (sym c.in-Some.ensures.steps.0) (All-cons P one rest (record { letters = letters; kills = kills }) h));
      owners = ap (λ l. l ++ map (λ (caller : Driven). caller.owner) rest) c.in_ok-push.ensures.items ∙
          append_over c.loop-caller.owners.items one.owner (map (λ (caller : Driven). caller.owner) rest) ∙
          ap (λ l. c.loop-caller.owners.items ++ map (λ (caller : Driven). caller.owner) l) (sym c.in-Some.ensures.steps.0) ∙ inv.owners;
    }

pub returns-clause-told : goal.returns-clause-told
returns-clause-told g c = c.loop-caller.invariant.told (search rules)
