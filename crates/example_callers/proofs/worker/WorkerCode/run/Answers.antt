use Rattle.example_callers.proofs.Common.{rules, ◌≡◌, ◌∷◌, [], ap, sym, ◌∙◌, Some, false, pos, option_copied, Int, Plain, is_job}
use Rattle.example_callers.proofs.Works.{works_more, worked}
use Rattle.example_callers.proofs.worker.WorkerCode.run.Goals as goal

pub loop-jobs-preserved : goal.loop-jobs-preserved
loop-jobs-preserved g c = λ fresh. works_more c.args.self.now c.loop-jobs.jobs (g.S.Session.seen c.loop-jobs.session) (g.S.Session.seen c.ask.new.self)
    c.in_ok-k.k c.dequeue.result c.new.result (c.loop-jobs.invariant fresh) c.dequeue.ensures c.new.ensures c.in_ok-k.ensures.future c.in_ok-k.ensures.submits
    c.ask.ensures.on (ap is_job (sym c.answer.ensures ∙ ap option_copied c.in-Some-Ok.is) ∙ ap (λ a. is_job (Some a)) c.in-Some-Ok.field-0-is)

pub returns-in_default : goal.returns-in_default
returns-in_default g c = λ fresh.
    let none : is_job (option_copied c.answer.result) ≡ false = search rules in
    let number : c.in_ok-args_of.field-0 ≡ Plain (Int (pos c.loop-jobs.jobs)) ∷ [] = search rules in
    worked c.args.self.now c.loop-jobs.jobs (g.S.Session.seen c.loop-jobs.session) (g.S.Session.seen c.ask.new.self) c.in_ok-k.k c.dequeue.result c.new.result
    (c.loop-jobs.invariant fresh) c.dequeue.ensures c.new.ensures c.in_ok-k.ensures.future c.in_ok-k.ensures.submits c.ask.ensures.on
    (g.S.Session.seen c.ask-in_default.new.self) c.in_ok-args_of.field-0 c.in_ok-k.ensures.answered (ap is_job (sym c.answer.ensures) ∙ none) number
    c.in_ok-ask.ensures.submits c.ask-in_default.ensures.on
