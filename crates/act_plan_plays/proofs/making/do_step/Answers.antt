use Rattle.act_plan_plays.proofs.Common.{sym, subst, OnOk, parts_of, Does}
use Rattle.act_plan_plays.proofs.making.do_step.Goals as goal

pub returns-in-Submit-clause-does : goal.returns-in-Submit-clause-does
returns-in-Submit-clause-does g c = subst (λ step. OnOk c.submit.result
    (Does c.args.c step (parts_of g.K.Actor.state c.args.played.now) (parts_of g.K.Actor.state c.submit.new.played))) (sym c.in-Submit.is) c.submit.ensures.does

pub returns-in-Copy-clause-does : goal.returns-in-Copy-clause-does
returns-in-Copy-clause-does g c = subst (λ step. OnOk c.copy.result
    (Does c.args.c step (parts_of g.K.Actor.state c.args.played.now) (parts_of g.K.Actor.state c.copy.new.played))) (sym c.in-Copy.is) c.copy.ensures.does

pub returns-in-Release-clause-does : goal.returns-in-Release-clause-does
returns-in-Release-clause-does g c = subst (λ step. OnOk c.release.result (Does c.args.c step (parts_of g.K.Actor.state c.args.played.now)
    (parts_of g.K.Actor.state c.release.new.played))) (sym c.in-Release.is) c.release.ensures.does

pub returns-in-Kill-clause-does : goal.returns-in-Kill-clause-does
returns-in-Kill-clause-does g c = subst (λ step. OnOk c.ask_kill.result (Does c.args.c step (parts_of g.K.Actor.state c.args.played.now)
    (parts_of g.K.Actor.state c.ask_kill.new.played))) (sym c.in-Kill.is) c.ask_kill.ensures.does

pub returns-in-Await-clause-does : goal.returns-in-Await-clause-does
returns-in-Await-clause-does g c = subst (λ step. OnOk c.go_on.result
    (Does c.args.c step (parts_of g.K.Actor.state c.args.played.now) (parts_of g.K.Actor.state c.go_on.new.played))) (sym c.in-Await.is) c.go_on.ensures.does
