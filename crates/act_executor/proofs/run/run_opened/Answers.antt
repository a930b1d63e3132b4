use Rattle.act_executor.proofs.Common.{ℕ, map, sym, ap, ◌∙◌, subst, new_putter, ControlView, starter, AreStarters}
use Rattle.act_executor.proofs.OpenLines.Tasks.{all_served, all_driven}
use Rattle.act_executor.proofs.OpenLines.Prepared.{may_serve, may_drive, mail_lines, control_lines, reply_lines, actors_sit, callers_sit, starters_sit}
use Rattle.act_executor.proofs.run.run_opened.Goals as goal

pub servings-requires : goal.servings-requires
servings-requires g c = may_serve g.K.Actor.state c.args.prepared.casts.items c.args.prepared.setups.items c.args.opened c.requires.opening c.requires.matched

pub drivings-requires-clause-each : goal.drivings-requires-clause-each
drivings-requires-clause-each g c κs within = may_drive g.K.Actor.state c.args.prepared.casts.items c.args.prepared.setups.items c.args.opened
    c.requires.opening c.requires.matched c.requires.limits c.requires.fits

pub starter_at-requires : goal.starter_at-requires
starter_at-requires g c =
    c.requires.opening.at_lines.starters ∙ ap (map (λ (control : ControlView). new_putter control.line starter)) (sym c.as_slice-2.ensures.value)

pub run_tasks-requires-clause-servings : goal.run_tasks-requires-clause-servings
run_tasks-requires-clause-servings g c κs within = c.in_ok-servings.ensures.ready

pub run_tasks-requires-clause-drivings : goal.run_tasks-requires-clause-drivings
run_tasks-requires-clause-drivings g c κs within = c.in_ok-drivings.ensures.ready

pub compare_ends-requires : goal.compare_ends-requires
compare_ends-requires g c =
    let state = g.K.Actor.state in let casts = c.args.prepared.casts.items in let setups = c.args.prepared.setups.items in let opened = c.args.opened in
    let ok = c.requires.opening in
    let does = λ (caller : ℕ). g.D.One.Conduct.does (g.D.Conducts.of c.args.conducts caller) in
    let actors = c.in_ok-ends.ends.actors.items in let callers = c.in_ok-ends.ends.callers.items in
    let served = all_served state opened.lines casts opened.execs.items c.in_ok-servings.servings.items actors ok.execs.0 c.in_ok-servings.ensures.starts
    c.in_ok-ends.ensures.actors in
    let driven = all_driven g.D.One.Conduct.does opened.lines (g.D.Conducts.of c.args.conducts) setups opened.callers.items c.in_ok-drivings.drivings.items
    callers ok.callers.0 c.in_ok-drivings.ensures.starts c.in_ok-ends.ensures.callers in
    let of_endpoints = subst (λ l. AreStarters l c.in_ok-starter.starter.endpoints.items) c.as_slice-2.ensures.value c.in_ok-starter.ensures.starters in
    let starters = subst (λ l. AreStarters opened.lines.controls.items l) (sym c.in_ok-ends.ensures.starters) of_endpoints in
    record {
      mails = mail_lines state casts setups opened ok actors served;
      controls = control_lines state casts setups opened ok actors served;
      replies = reply_lines state casts setups opened ok does callers driven;
      actors = actors_sit state casts setups opened ok actors served;
      callers = callers_sit state casts setups opened ok does callers driven;
      starters = starters_sit starters;
    }

pub returns-clause-joined : goal.returns-clause-joined
returns-clause-joined g c =
    let state = g.K.Actor.state in let casts = c.args.prepared.casts.items in let setups = c.args.prepared.setups.items in let opened = c.args.opened in
    let ok = c.requires.opening in let ends = c.in_ok-ends.ends in
    let of_endpoints = subst (λ l. AreStarters l c.in_ok-starter.starter.endpoints.items) c.as_slice-2.ensures.value c.in_ok-starter.ensures.starters in
    record {
      opened = opened;
      ends = ends;
      matched = c.requires.matched;
      opening = ok;
      served = all_served state opened.lines casts opened.execs.items c.in_ok-servings.servings.items ends.actors.items ok.execs.0
          c.in_ok-servings.ensures.starts c.in_ok-ends.ensures.actors;
      driven = all_driven g.D.One.Conduct.does opened.lines (g.D.Conducts.of c.args.conducts) setups opened.callers.items c.in_ok-drivings.drivings.items
          ends.callers.items ok.callers.0 c.in_ok-drivings.ensures.starts c.in_ok-ends.ensures.callers;
      starters = subst (λ l. AreStarters opened.lines.controls.items l) (sym c.in_ok-ends.ensures.starters) of_endpoints;
      compared = c.in_ok-joined.ensures;
    }
