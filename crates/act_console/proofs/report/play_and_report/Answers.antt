use Rattle.act_console.proofs.Common.{[], ◌∙◌, refl, sym, subst, string_bytes, IsReachedBy, world_view}
use Rattle.act_console.proofs.Shown.{all_parts, report_is}
use Rattle.act_console.proofs.report.play_and_report.Goals as goal

pub returns-clause-report : goal.returns-clause-report
returns-clause-report g c =
    let old = world_view g.K.Actor.state c.make_room.new.self in let new = world_view g.K.Actor.state c.play_all.new.world in
    let told = c.in_ok-play_all.ensures in
    λ casts opened.
    all_parts new told.told (string_bytes c.in_ok-text.text) (string_bytes c.play_all.new.text) (string_bytes c.push_callers.new.text)
    (string_bytes c.push_stages.new.text) c.in_ok-text.ensures.bytes told.written c.in_ok-push_callers.ensures c.in_ok-push_stages.ensures
    ∙ report_is casts c.args.events old new [] told.told told.told
    (subst (λ world. IsReachedBy casts [] (world_view g.K.Actor.state world)) (sym c.make_room.ensures) opened) told.played refl refl

pub returns-clause-consistent : goal.returns-clause-consistent
returns-clause-consistent g c =
    λ casts opened.
    c.consistent.ensures casts c.args.events
    (c.in_ok-play_all.ensures.played casts [] (subst (λ world. IsReachedBy casts [] (world_view g.K.Actor.state world)) (sym c.make_room.ensures) opened)).0
