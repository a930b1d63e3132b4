use Rattle.act_plan_plays.proofs.Common.{◌≡◌, ℕ, true, Contains, contains, CallerSetup, world_view, shows_next, Run}
use Rattle.act_plan_plays.proofs.Gathered.{has_front}
use Rattle.act_plan_plays.proofs.Loops.{each_more, each_whole}
use Rattle.act_plan_plays.proofs.Chosen.{all_runs}
use Rattle.act_plan_plays.proofs.choices.add_all_runs.Goals as goal

pub loop-setup-preserved : goal.loop-setup-preserved
loop-setup-preserved g c =
    each_more (λ (setup : CallerSetup). (a : ℕ) → contains a setup.actors.items ≡ true → shows_next (world_view g.K.Actor.state c.args.world.now) a
    setup.caller ≡ true → Contains c.add_runs.new.choices.items (Run a setup.caller)) c.args.setups.now c.loop-setup-test.true
    c.setup-item.is c.in_ok-add_runs.ensures.runs
    (λ k d below a named next. has_front c.loop-setup.choices.items c.add_runs.new.choices.items _ c.add_runs.ensures.front
    (c.loop-setup.invariant k d below a named next))

pub returns : goal.returns
returns g c = λ casts plans hold. all_runs casts (world_view g.K.Actor.state c.args.world.now) c.loop-setup.choices.items hold (each_whole
    (λ (setup : CallerSetup). (a : ℕ) → contains a setup.actors.items ≡ true → shows_next (world_view g.K.Actor.state c.args.world.now) a setup.caller ≡ true →
    Contains c.loop-setup.choices.items (Run a setup.caller)) c.args.setups.now c.loop-setup-test.false c.loop-setup.invariant)
