use Rattle.act_drive.proofs.Common.{rules, refl, ◌≡◌, Some, None, Ok, ◌∙◌, ap, OwnerView, with_handles, release_told, Release, Released, copies_in}
use Rattle.act_drive.proofs.Common.{without_copy, ReleaseNote, Note}
use Rattle.act_drive.proofs.OwnChanges.{calling_step, ended_released}
use Rattle.act_drive.proofs.PlanSteps.{release_follows}
use Rattle.act_drive.proofs.Notes.{calling_noted, last_of, note_stays, not_last, ok_of}
use Rattle.act_drive.proofs.Closing.{released_winds}
use Rattle.act_drive.proofs.Keeps.{release_returns}
use Rattle.act_drive.proofs.Tracing.{traces_step, traces_noted}
use Rattle.act_drive.proofs.driver.Driver.release.Goals as goal

pub returns-in-Ok-Some : goal.returns-in-Ok-Some
returns-in-Ok-Some g c =
    let between = c.clear.new.self in
    let told : Ok (Some c.in-Ok-Some.note) ≡ release_told between.owner c.args.a = rw c.in-Ok-Some.field-0-is at c.in-Ok-Some.ensures.value in
    let last = last_of _ _ _ _ told in
    record {
      calling =
          let is : c.release.new.self ≡ with_handles between.owner (without_copy c.args.a between.owner.handles) = c.in-Ok-Some.ensures.ok in
          calling_noted between _ c.args.a is refl c.clear.ensures.empty c.put.ensures refl last.1 c.release.ensures.given last.0
          c.clear.ensures.only_waits.calling;
      follows = release_follows c.args.lines.now _ c.args.a c.clear.ensures.only_waits.waits c.in-Ok-Some.ensures.ok refl;
      only_releases = released_winds _ c.args.a c.clear.ensures.only_waits.waits c.in-Ok-Some.ensures.ok refl;
      note_put = λ one. c.put.ensures ∙ ap (λ n. Some (Note n)) (last.1 ∙ note_stays between c.args.a c.clear.ensures.only_waits.waits);
      handles = ap (λ (o : OwnerView). o.handles) c.in-Ok-Some.ensures.ok ∙ ap (without_copy c.args.a) c.clear.ensures.only_waits.waits.handles;
      traced = λ start done is. traces_noted c.args.lines.now between _ c.args.a (ok_of _ _ told) last.0
          (ap (λ (n : ReleaseNote). n.actor) last.1) c.in-Ok-Some.ensures.ok refl c.put.ensures start done (c.clear.ensures.only_waits.traced start done is);
      accepted = search rules;
      on_refusal = search rules;
    }

pub returns-in-Ok-None : goal.returns-in-Ok-None
returns-in-Ok-None g c =
    let between = c.clear.new.self in
    let told : Ok None ≡ release_told between.owner c.args.a = rw c.in-Ok-None.field-0-is at c.in-Ok-None.ensures.value in
    record {
      calling = calling_step _ (Released c.args.a) c.in-Ok-None.ensures.ok refl refl refl refl c.clear.ensures.only_waits.calling.flags
          (ended_released between.owner c.args.a) (release_returns between.owner c.args.a (λ one. not_last _ _ told one)) c.clear.ensures.only_waits.calling;
      follows = release_follows c.args.lines.now _ c.args.a c.clear.ensures.only_waits.waits c.in-Ok-None.ensures.ok refl;
      only_releases = released_winds _ c.args.a c.clear.ensures.only_waits.waits c.in-Ok-None.ensures.ok refl;
      note_put = λ one. absurd (not_last _ _ told (ap (copies_in c.args.a) c.clear.ensures.only_waits.waits.handles ∙ one));
      handles = ap (λ (o : OwnerView). o.handles) c.in-Ok-None.ensures.ok ∙ ap (without_copy c.args.a) c.clear.ensures.only_waits.waits.handles;
      traced = λ start done is. traces_step c.args.lines.now between _ (Release c.args.a) (Released c.args.a) (λ _ _. refl) refl
          (ok_of _ _ told) c.in-Ok-None.ensures.ok refl refl start done (c.clear.ensures.only_waits.traced start done is);
      accepted = search rules;
      on_refusal = search rules;
    }
