use Rattle.act_walks.proofs.Common.{sym, ◌∙◌, subst, Parts, parts_of, TriesPost}
use Rattle.act_rules.specs.declared.event.Event.TheVariants as event
use Rattle.act_walks.proofs.Runs.{IsSaid, runs_none, runs_next, sends_next, send_waits}
use Rattle.act_walks.proofs.serving.run_next.Goals as goal

pub returns-in_default : goal.returns-in_default
returns-in_default g c =
    let old : Parts = parts_of g.K.Actor.state c.args.walk.now in
    runs_none c.args.end.now c.args.a old (subst (λ o. IsSaid c.args.end.now c.args.a old o) c.in_default.is c.next_run.ensures)

pub returns-then-may_run : goal.returns-then-may_run
returns-then-may_run g c =
    let old : Parts = parts_of g.K.Actor.state c.args.walk.now in
    runs_next c.args.a old
    (subst (λ o. IsSaid c.args.end.now c.args.a old o) c.in-Some.is c.next_run.ensures) c.in_ok-run.ensures

pub returns-then-not-branch : goal.returns-then-not-branch
returns-then-not-branch g c =
    let old : Parts = parts_of g.K.Actor.state c.args.walk.now in let new : Parts = parts_of g.K.Actor.state c.try_post.new.walk in
    send_waits c.args.end.now c.args.a old new
    (subst (λ o. IsSaid c.args.end.now c.args.a old o) c.in-Some.is c.next_run.ensures) (sym c.if-may_run.false ∙ c.may_run.ensures)
    (subst (λ b. TriesPost (event.Send c.in-Some.next.0 c.in-Some.next.1) old new b) c.if-not-branch.true c.in_ok-try_post.ensures)

pub returns : goal.returns
returns g c =
    let old : Parts = parts_of g.K.Actor.state c.args.walk.now in let new : Parts = parts_of g.K.Actor.state c.try_post.new.walk in
    sends_next c.args.end.now c.args.a old new c.may_run-2.result
    (subst (λ o. IsSaid c.args.end.now c.args.a old o) c.in-Some.is c.next_run.ensures)
    (subst (λ b. TriesPost (event.Send c.in-Some.next.0 c.in-Some.next.1) old new b) c.if-not-branch.false c.in_ok-try_post.ensures)
    c.may_run-2.ensures
