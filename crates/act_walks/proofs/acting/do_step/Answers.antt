use Rattle.act_walks.proofs.Common.{inl, refl, sym, subst, Submit, Copy, Release, Kill, IfOk, Parts, parts_of, Tries, TriesPost, TriesStep}
use Rattle.act_rules.specs.declared.event.Event.TheVariants as event
use Rattle.act_walks.proofs.Steps.{if_ok, tries_step, tries_release, tries_await}
use Rattle.act_walks.proofs.acting.do_step.Goals as goal

pub returns-in_ok-args-in-Submit : goal.returns-in_ok-args-in-Submit
returns-in_ok-args-in-Submit g c =
    let old : Parts = parts_of g.K.Actor.state c.args.walk.now in let new : Parts = parts_of g.K.Actor.state c.try_do.new.walk in
    subst (λ step. IfOk c.try_do.result (TriesStep c.args.c step old new)) (sym c.in-Submit.is)
    (subst (λ args. IfOk c.try_do.result (TriesStep c.args.c (Submit c.in-Submit.a c.in-Submit.method args) old new)) c.in_ok-args-in-Submit.ensures
    (if_ok c.try_do.result (Tries (event.Submit c.args.c c.in-Submit.a c.in-Submit.method c.in_ok-args-in-Submit.args) old new)
    (TriesStep c.args.c (Submit c.in-Submit.a c.in-Submit.method c.in_ok-args-in-Submit.args) old new)
    (λ b tried. tries_step c.args.c (Submit c.in-Submit.a c.in-Submit.method c.in_ok-args-in-Submit.args) (event.Submit c.args.c c.in-Submit.a
    c.in-Submit.method c.in_ok-args-in-Submit.args) old new b (λ h e. e) (λ h e. e) (λ h. refl) (λ casts before. refl) tried) c.try_do.ensures))

pub returns-in-Copy : goal.returns-in-Copy
returns-in-Copy g c =
    let old : Parts = parts_of g.K.Actor.state c.args.walk.now in let new : Parts = parts_of g.K.Actor.state c.try_do-in-Copy.new.walk in
    subst (λ step. IfOk c.try_do-in-Copy.result (TriesStep c.args.c step old new)) (sym c.in-Copy.is)
    (if_ok c.try_do-in-Copy.result (Tries (event.Copy c.args.c c.in-Copy.a) old new) (TriesStep c.args.c (Copy c.in-Copy.a) old new)
    (λ b tried. tries_step c.args.c (Copy c.in-Copy.a) (event.Copy c.args.c c.in-Copy.a) old new b (λ h e. e) (λ h e. e) (λ h. refl)
    (λ casts before. refl) tried) c.try_do-in-Copy.ensures)

pub returns-in-Release : goal.returns-in-Release
returns-in-Release g c =
    let old : Parts = parts_of g.K.Actor.state c.args.walk.now in let new : Parts = parts_of g.K.Actor.state c.try_post.new.walk in
    subst (λ step. IfOk c.try_post.result (TriesStep c.args.c step old new)) (sym c.in-Release.is)
    (if_ok c.try_post.result (TriesPost (event.Release c.args.c c.in-Release.a) old new) (TriesStep c.args.c (Release c.in-Release.a) old new)
    (tries_release c.args.c c.in-Release.a old new) c.try_post.ensures)

pub returns-in-Kill : goal.returns-in-Kill
returns-in-Kill g c =
    let old : Parts = parts_of g.K.Actor.state c.args.walk.now in let new : Parts = parts_of g.K.Actor.state c.try_do-in-Kill.new.walk in
    subst (λ step. IfOk c.try_do-in-Kill.result (TriesStep c.args.c step old new)) (sym c.in-Kill.is)
    (if_ok c.try_do-in-Kill.result (Tries (event.AskKill c.args.c c.in-Kill.a) old new) (TriesStep c.args.c (Kill c.in-Kill.a) old new)
    (λ b tried. tries_step c.args.c (Kill c.in-Kill.a) (event.AskKill c.args.c c.in-Kill.a) old new b (λ h e. e) (λ h e. e) (λ h. refl)
    (λ casts before. inl refl) tried) c.try_do-in-Kill.ensures)

pub returns-in-Await : goal.returns-in-Await
returns-in-Await g c =
    let old : Parts = parts_of g.K.Actor.state c.args.walk.now in
    subst (λ step. TriesStep c.args.c step old old c.has_answer.result) (sym c.in-Await.is)
    (tries_await c.args.c c.in-Await.k old c.has_answer.result c.has_answer.ensures)
