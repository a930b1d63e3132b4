use Rattle.act_plan_plays.proofs.Common.{◌∙◌, ap, sym, subst, contains, world_view, Refines, Run}
use Rattle.act_plan_plays.proofs.Gathered.{has_front}
use Rattle.act_plan_plays.proofs.Chosen.{runs_found, kill_shown}
use Rattle.act_plan_plays.proofs.choices.choices_of.Goals as goal

pub returns-clause-runs : goal.returns-clause-runs
returns-clause-runs g c = λ casts plans at stands hold a own may next.
    let refines = subst (λ h. Refines h (world_view g.K.Actor.state c.args.played.now.world)) (sym stands.behind.is) stands.behind.reached in
    has_front c.add_all_runs.new.choices.items c.add_kills.new.choices.items (Run a own) c.add_kills.ensures.front
    (runs_found casts plans at c.add_all_runs.new.choices.items stands refines (c.in_ok-add_all_runs.ensures casts plans hold) a own may next)

pub returns-clause-kills : goal.returns-clause-kills
returns-clause-kills g c = λ casts plans at stands hold a may.
    let refines = subst (λ h. Refines h (world_view g.K.Actor.state c.args.played.now.world)) (sym stands.behind.is) stands.behind.reached in
    let shown = kill_shown at a stands refines may in c.in_ok-add_kills.ensures.kills a (ap (λ l. contains a l) c.as_slice.ensures.value ∙ shown.0) shown.1
