use Rattle.act_executor.proofs.Common.{◌≡◌, ◌<◌, length, map, get_or, All, ap, sym, ◌∙◌, subst, arith, map-set_same, Finished, Driven, SitsAtReplies}
use Rattle.act_executor.proofs.Common.{NoticeTold, ActorLeft, left_of, told_next, any_default}
use Rattle.act_rules.proofs.Places.{same_place}
use Rattle.act_executor.proofs.joined.audit_actors.Goals as goal

pub audit_all-requires-clause-sit : goal.audit_all-requires-clause-sit
audit_all-requires-clause-sit g c =
    let inv = c.loop-at.invariant in let i = c.loop-at.at in let first = c.args.actors.now.items in let x = c.index_mut-actor.result.now in
    let lt : i < length first = omega (arith, c.len-at-end.ensures, c.args.actors.now.ok) in
    let same : left_of (get_or first i x) ≡ left_of x =
    same_place left_of c.loop-at.actors.items first i x lt inv.same_actors c.index_mut-actor.ensures.value in
    subst (λ l. All (SitsAtReplies c.args.replies.now) l) (ap (λ (l : ActorLeft _ _). l.notices) same) (c.requires.sit i x lt)

pub audit_all-requires-clause-lines : goal.audit_all-requires-clause-lines
audit_all-requires-clause-lines g c = c.requires.lines ∙ ap (map (λ (d : Driven). d.passes.collects.line)) (sym c.loop-at.invariant.same)

pub loop-at-preserved : goal.loop-at-preserved
loop-at-preserved g c =
    let inv = c.loop-at.invariant in let i = c.loop-at.at in let first = c.args.actors.now.items in let callers = c.args.callers.now.items in
    let x = c.index_mut-actor.result.now in
    let lt : i < length first = omega (arith, c.len-at-end.ensures, c.args.actors.now.ok) in
    let same : left_of (get_or first i x) ≡ left_of x =
    same_place left_of c.loop-at.actors.items first i x lt inv.same_actors c.index_mut-actor.ensures.value in
    let told : All (NoticeTold callers) x.passes.notices.items = subst (λ l. All (NoticeTold l) x.passes.notices.items) inv.same c.audit_all.ensures.told in
    let told_first : All (NoticeTold callers) (get_or first i x).passes.notices.items =
    subst (λ l. All (NoticeTold callers) l) (sym (ap (λ (l : ActorLeft _ _). l.notices) same)) told in
    let given : left_of (record x { passes = record x.passes { notices = c.audit_all.new.endpoints } }) ≡ left_of x =
    λ k. record { ended = x.ended; letters = x.passes.letters; kills = x.passes.kills; notices = c.audit_all.ensures.same_endpoints k } in
    record {
      same_actors = map-set_same left_of c.loop-at.actors.items i (record x { passes = record x.passes { notices = c.audit_all.new.endpoints } }) x
          (given ∙ ap left_of c.index_mut-actor.ensures.value) ∙ inv.same_actors;
      same = c.audit_all.ensures.same ∙ inv.same;
      told = told_next (λ (f : Finished _ _). All (NoticeTold callers) f.passes.notices.items) first i x inv.told (any_default first i x lt) told_first;
    }

pub returns-clause-told : goal.returns-clause-told
returns-clause-told g c = λ k d below. c.loop-at.invariant.told k d (omega (arith, below, c.len-at-end.ensures, c.args.actors.now.ok))
