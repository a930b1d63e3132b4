use Rattle.act_explore.proofs.Common.{◌≡◌, true, false, All, ap, sym, ◌∙◌, subst, IsOk, opening, history, outcomes}
use Rattle.act_explore.proofs.Moved.{moved}
use Rattle.act_explore.proofs.Oks.{ok_weaker}
use Rattle.act_explore.proofs.search.visit_end.Goals as goal

pub returns-then-is_ended-clause-passed : goal.returns-then-is_ended-clause-passed
returns-then-is_ended-clause-passed g c = λ on casts plans at stands done.
    let events = c.into_parts-world.ensures.events in
    record {
      events = c.into_parts-world.result.1.items;
      history_is = stands.history ∙ ap (λ l. history casts l) (sym events);
      passed = c.visit.ensures.passed on casts (moved g.K.Actor.state casts c.args.play.events c.into_parts-world.result.1.items c.args.play.world
          c.into_parts-world.result.0 c.into_parts-world.ensures.world events stands.world);
    }

pub returns-then-is_ended-clause-keeps : goal.returns-then-is_ended-clause-keeps
returns-then-is_ended-clause-keeps g c =
    let events = c.into_parts-world.ensures.events in
    ok_weaker _ _ c.visit.result
    (λ visited keeps first casts plans at stands.
    let ended = (c.is_ended.ensures casts plans at stands).0 c.if-is_ended.true in
    keeps first casts plans (record {
      accepted = subst (λ l. All IsOk (outcomes (opening casts) l)) (sym events) stands.accepted;
      at = at;
      history_is = stands.history ∙ ap (λ l. history casts l) (sym events);
      play = stands.play;
      done = record { done = λ a. (ended a).0; answered = λ a. (ended a).1 };
    })
    (moved g.K.Actor.state casts c.args.play.events c.into_parts-world.result.1.items c.args.play.world c.into_parts-world.result.0
    c.into_parts-world.ensures.world events stands.world))
    c.visit.ensures.keeps

pub returns-else-is_ended-clause-passed : goal.returns-else-is_ended-clause-passed
returns-else-is_ended-clause-passed g c = λ on casts plans at stands done.
    let ended : c.is_ended.result ≡ true = (c.is_ended.ensures casts plans at stands).1 (λ a. (done.done a, done.answered a)) in
    let not_so : c.is_ended.result ≡ false = c.if-is_ended.false in absurd (cc)
