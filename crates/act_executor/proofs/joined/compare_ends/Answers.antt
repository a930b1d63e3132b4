use Rattle.act_executor.proofs.Common.{rules, List, map, All, ap, sym, ◌∙◌, subst, ControlView, RepliesView, Finished, Driven, SitsAtReplies, SitsAtControl}
use Rattle.act_executor.proofs.Common.{HasEndpoints, KillTold, CallerTold, ActorLeft, left_of, end_view, is_starved}
use Rattle.act_executor.proofs.OpenLines.Settled.{seen_through, none_any}
use Rattle.act_executor.proofs.joined.compare_ends.Goals as goal

pub audit_actors-requires-clause-lines : goal.audit_actors-requires-clause-lines
audit_actors-requires-clause-lines g c = ap (map (λ (line : RepliesView). line.line)) c.as_slice-2.ensures.value ∙ c.requires.replies

pub audit_actors-requires-clause-sit : goal.audit_actors-requires-clause-sit
audit_actors-requires-clause-sit g c =
    let At : List RepliesView → Type 0 = λ l. All (λ (f : Finished _ _). All (SitsAtReplies l) f.passes.notices.items) c.args.ends.actors.items in
    subst At (sym c.as_slice-2.ensures.value) c.requires.actors

pub audit_all-requires-clause-sit : goal.audit_all-requires-clause-sit
audit_all-requires-clause-sit g c =
    let At : List ControlView → Type 0 = λ l. All (SitsAtControl l) c.args.ends.starters.items in subst At (sym c.as_slice-3.ensures.value) c.requires.starters

pub audit_all-requires-clause-lines : goal.audit_all-requires-clause-lines
audit_all-requires-clause-lines g c = ap (map (λ (k : ControlView). k.line)) c.as_slice-3.ensures.value ∙ c.requires.controls ∙
    sym (seen_through (λ (l : ActorLeft _ _). l.kills.line) c.audit_actors.new.actors.items c.args.ends.actors.items c.audit_actors.ensures.same_actors)

pub audit_callers-requires-clause-mails : goal.audit_callers-requires-clause-mails
audit_callers-requires-clause-mails g c = c.requires.mails ∙ sym (seen_through (λ (l : ActorLeft _ _). l.letters.line) c.audit_actors.new.actors.items
    c.args.ends.actors.items c.audit_actors.ensures.same_actors) ∙ ap (map (λ (f : Finished _ _). f.passes.letters.line)) (sym c.audit_all.ensures.same)

pub audit_callers-requires-clause-controls : goal.audit_callers-requires-clause-controls
audit_callers-requires-clause-controls g c = c.requires.controls ∙ sym (seen_through (λ (l : ActorLeft _ _). l.kills.line) c.audit_actors.new.actors.items
    c.args.ends.actors.items c.audit_actors.ensures.same_actors) ∙ ap (map (λ (f : Finished _ _). f.passes.kills.line)) (sym c.audit_all.ensures.same)

pub audit_callers-requires-clause-sit : goal.audit_callers-requires-clause-sit
audit_callers-requires-clause-sit g c = subst (λ l. All (HasEndpoints c.args.lines.now) l) (sym c.audit_actors.ensures.same) c.requires.callers

pub returns : goal.returns
returns g c =
    let same = c.in_ok-owners.ensures.same in let kills = c.audit_all.ensures.same in let callers = c.audit_actors.ensures.same in
    record {
      fed = none_any (λ (f : Finished _ _). is_starved (end_view g.K.Actor.state f.ended)) c.args.ends.actors.items (search rules);
      fed_callers = none_any (λ (d : Driven). d.starved) c.args.ends.callers.items (search rules);
      same = ap (map left_of) (same ∙ kills) ∙ c.audit_actors.ensures.same_actors;
      owners = c.in_ok-owners.ensures.owners ∙ ap (map (λ (d : Driven). d.owner)) callers;
      notices = c.audit_actors.ensures.told;
      callers = subst (λ l. All (CallerTold l) c.args.ends.callers.items) (sym same)
          (subst (λ l. All (CallerTold c.audit_all.new.ends.items) l) callers c.in_ok-owners.ensures.told);
      starters = subst (λ l. All (KillTold l) c.args.ends.starters.items) (sym (same ∙ kills)) c.audit_all.ensures.told;
    }
