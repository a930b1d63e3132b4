use Rattle.act_drive.proofs.Common.{refl, rules, ◌≡◌, ◌∙◌, ap, true, handle_refusal, copies_in, OwnerView, is_known_dead}
use Rattle.act_drive.proofs.Drivers.{stays_trans, waits_trans}
use Rattle.act_drive.proofs.Kills.{kill_follows, kills_dead}
use Rattle.act_drive.proofs.CodeSteps.{on_err}
use Rattle.act_drive.proofs.Tracing.{traces_spared}
use Rattle.act_drive.proofs.driver.Driver.ask_until.Goals as goal

pub returns-then-is_dead : goal.returns-then-is_dead
returns-then-is_dead g c = record {
  follows =
      let driver = c.loop.self in let dead : is_known_dead driver.owner c.args.a ≡ true = search rules in
      kill_follows c.args.lines.now _ c.args.a c.loop.invariant.waits refl refl
      (λ steps. kills_dead c.args.lines.now.controls.now driver.passes.collects.taken driver.passes.kills.items c.args.a
      (c.loop.invariant.calling.hears.deaths c.args.a dead) steps);
  traced = λ none.
      let dead : is_known_dead c.loop.self.owner c.args.a ≡ true = search rules in
      traces_spared c.args.lines.now c.args.self.now c.loop.self c.args.a c.loop.invariant.traced dead;
  calling = c.loop.invariant.calling;
  stays = c.loop.invariant.waits.stay;
  hears = record { calls = c.loop.invariant.waits.calls; handles = c.loop.invariant.waits.handles; kills = refl };
  waits = search rules;
  on_refusal = search rules;
}

pub returns-then-ask : goal.returns-then-ask
returns-then-ask g c = record {
  follows =
      let driver = c.loop.self in let asked = c.ask.ensures.asked c.if-ask.true in
      kill_follows c.args.lines.now _ c.args.a c.loop.invariant.waits asked.owner asked.collects (asked.kills driver.passes.collects.taken);
  stays = stays_trans c.loop.invariant.waits.stay c.ask.ensures.stays;
  traced = λ none start done is. c.ask.ensures.traced
      (ap (λ h. handle_refusal (copies_in c.args.a h)) c.loop.invariant.waits.handles ∙ none) c.if-ask.true start done (c.loop.invariant.traced start done is);
  calling = c.ask.ensures.calling;
  hears =
      let same = (c.ask.ensures.asked c.if-ask.true).owner in
      record {
        calls = ap (λ (o : OwnerView). o.calls) same ∙ c.loop.invariant.waits.calls;
        handles = ap (λ (o : OwnerView). o.handles) same ∙ c.loop.invariant.waits.handles;
        kills = refl;
      };
  waits = search rules;
  on_refusal = search rules;
}

pub loop-preserved : goal.loop-preserved
loop-preserved g c = record {
  calling = c.in_ok-wait_turn.ensures.only_waits.calling;
  waits = waits_trans _ (waits_trans _ c.loop.invariant.waits (c.ask.ensures.refused c.if-ask.false)) c.in_ok-wait_turn.ensures.only_waits.waits;
  traced = λ start done is. c.in_ok-wait_turn.ensures.only_waits.traced start done
      (c.ask.ensures.on_refusal c.if-ask.false start done (c.loop.invariant.traced start done is));
}

pub returns-in_err-wait_turn : goal.returns-in_err-wait_turn
returns-in_err-wait_turn g c = record {
  waits = on_err c.from_residual.result
      (waits_trans _ (waits_trans _ c.loop.invariant.waits (c.ask.ensures.refused c.if-ask.false)) c.in_err-wait_turn.ensures.only_waits.waits);
  on_refusal = on_err c.from_residual.result (λ start done is. c.in_err-wait_turn.ensures.only_waits.traced start done
      (c.ask.ensures.on_refusal c.if-ask.false start done (c.loop.invariant.traced start done is)));
  calling = c.in_err-wait_turn.ensures.only_waits.calling;
  stays = stays_trans (stays_trans c.loop.invariant.waits.stay c.ask.ensures.stays) c.in_err-wait_turn.ensures.only_waits.waits.stay;
  hears =
      let waits = waits_trans _ (waits_trans _ c.loop.invariant.waits (c.ask.ensures.refused c.if-ask.false)) c.in_err-wait_turn.ensures.only_waits.waits in
      record { calls = waits.calls; handles = waits.handles; kills = refl };
  follows = search rules;
  traced = search rules;
}
