use Rattle.act_explore.proofs.Common.{◌≡◌, ◌+◌, [], ◌∷◌, ◌++◌, take, map, ap, ◌∙◌, sym, subst, take_all, take_more, actor_spec, HasMade}
use Rattle.act_explore.proofs.Paths.{made_more, made_none}
use Rattle.act_explore.proofs.search.replay.Goals as goal

pub loop-choice-init : goal.loop-choice-init
loop-choice-init g c = λ plans hold.
    let opened = c.in_ok-play.ensures plans hold in (opened.0, opened.1, opened.2, made_none opened.0.history opened.3 opened.4)

pub loop-choice-preserved : goal.loop-choice-preserved
loop-choice-preserved g c = λ plans hold.
    let path = c.args.path.now in let i = c.loop-choice.choice-index in let choice = c.choice-item.result in let before = c.loop-choice.invariant plans hold in
    let after = c.in_default.ensures (map (actor_spec g.K.Actor.state) c.args.casts.items) plans before.0 before.1 in
    let more : take (i + 1) path ≡ take i path ++ choice ∷ [] =
    take_more path i choice c.loop-choice-test.true ∙ ap (λ x. take i path ++ x ∷ []) (sym c.choice-item.is) in (
      after.0,
      after.1,
      after.2,
      subst (λ l. HasMade l after.0.history) (sym more) (made_more (take i path) choice after.0.history before.3 after.3),
    )

pub returns : goal.returns
returns g c = rw (take_all c.loop-choice.choice-index c.args.path.now c.loop-choice-test.false) at c.loop-choice.invariant
