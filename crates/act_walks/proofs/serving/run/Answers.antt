use Rattle.act_walks.proofs.Common.{sym, ◌∙◌, subst, Parts, parts_of, Does}
use Rattle.act_rules.specs.declared.event.Event.TheVariants as event
use Rattle.act_walks.proofs.Runs.{runs_lost, runs_kept}
use Rattle.act_walks.proofs.serving.run.Goals as goal

pub returns-in_ok-_told : goal.returns-in_ok-_told
returns-in_ok-_told g c =
    let old : Parts = parts_of g.K.Actor.state c.args.walk.now in let mid : Parts = parts_of g.K.Actor.state c.must_do.new.walk in
    let new : Parts = parts_of g.K.Actor.state c.must_do-in-Reply.new.walk in
    runs_kept c.args.end.now c.args.a c.args.c c.args.k c.in-Ran.j old mid new
    (subst (λ d. Does (event.Run c.args.a c.args.c) old mid d) c.in-Ran.is c.in_ok-j.ensures) (sym c.left_of.ensures ∙ c.in-Reply.is) c.in_ok-_told.ensures

pub returns-in_default-left_of : goal.returns-in_default-left_of
returns-in_default-left_of g c =
    let old : Parts = parts_of g.K.Actor.state c.args.walk.now in let mid : Parts = parts_of g.K.Actor.state c.must_do.new.walk in
    runs_lost c.args.end.now c.args.a c.args.c c.args.k c.in-Ran.j old mid
    (subst (λ d. Does (event.Run c.args.a c.args.c) old mid d) c.in-Ran.is c.in_ok-j.ensures)
    (λ e. c.in_default-left_of.not-Reply (c.left_of.ensures ∙ e))
