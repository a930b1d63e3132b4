use Rattle.act_walks.proofs.Common.{◌≡◌, true, false, sym, ◌∙◌, subst, world_view, Parts, parts_of, GoesFar}
use Rattle.act_walks.proofs.Wholly.{ends_early, ends_late}
use Rattle.act_walks.proofs.walks.go_far.Goals as goal

pub returns-then-not-walk : goal.returns-then-not-walk
returns-then-not-walk g c =
    let old : Parts = parts_of g.K.Actor.state c.args.walk.now in let new : Parts = parts_of g.K.Actor.state c.go.new.walk in
    subst (λ b. GoesFar c.args.end.now old new b) (sym c.if-not-walk.true)
    (ends_early old new c.in_ok-ask_all.ensures c.in_ok-go.ensures
    (λ have. let bad : true ≡ false = sym (c.have_done-walk.ensures.1 have) ∙ c.if-not-walk.true in cc))

pub returns : goal.returns
returns g c =
    let old : Parts = parts_of g.K.Actor.state c.args.walk.now in let late : Parts = parts_of g.K.Actor.state c.go.new.walk in
    subst (λ b. GoesFar c.args.end.now old
    (record { world = world_view g.K.Actor.state c.retire_all.new.world; events = c.retire_all.new.events.items; done = c.go.new.walk.done }) b)
    (sym c.if-not-walk.false)
    (ends_late old late c.in_ok-ask_all.ensures c.in_ok-go.ensures
    (c.have_done-walk.ensures.0 c.if-not-walk.false) c.in_ok-retire_all.ensures.rests c.in_ok-retire_all.ensures.paced c.in_ok-retire_all.ensures.retired)
