use Rattle.example_callers.proofs.Common.{rules, ◌≡◌, ◌<◌, ◌∷◌, [], ap, sym, ◌∙◌, false, true, inl, inr, subst, option_copied, Int, Plain, is_lacking}
use Rattle.example_callers.proofs.Common.{HasFailed}
use Rattle.example_callers.proofs.Tries.{fails_more, tried}
use Rattle.example_callers.proofs.retry.RetryCode.run.Goals as goal

pub loop-preserved : goal.loop-preserved
loop-preserved g c = λ fresh.
    let lacking : is_lacking (option_copied c.answer.result) ≡ true = search rules in
    let amount : c.in_ok-args.args ≡ Plain (Int c.args.self.now.amount) ∷ [] = search rules in
    fails_more c.args.self.now c.loop.counter (g.S.Session.seen c.loop.session) (g.S.Session.seen c.ask.new.self) c.in_ok-k.k c.in_ok-args.args
    (c.loop.invariant fresh) amount c.in_ok-k.ensures.future c.in_ok-k.ensures.submits c.ask.ensures.on
    (ap is_lacking (sym c.answer.ensures) ∙ lacking)

pub returns-in_default : goal.returns-in_default
returns-in_default g c = λ fresh.
    let other : is_lacking (option_copied c.answer.result) ≡ false = search rules in
    let few : c.loop.counter < c.args.self.now.most = search rules in
    let amount : c.in_ok-args.args ≡ Plain (Int c.args.self.now.amount) ∷ [] = search rules in
    inr (tried c.args.self.now c.loop.counter (g.S.Session.seen c.loop.session) (g.S.Session.seen c.ask.new.self) c.in_ok-k.k c.in_ok-args.args
    (c.loop.invariant fresh) amount c.in_ok-k.ensures.future c.in_ok-k.ensures.submits c.ask.ensures.on
    few c.in_ok-k.ensures.answered (ap is_lacking (sym c.answer.ensures) ∙ other))

pub returns-in_default-2 : goal.returns-in_default-2
returns-in_default-2 g c = λ fresh.
    let other : is_lacking (option_copied c.answer.result) ≡ false = search rules in
    let few : c.loop.counter < c.args.self.now.most = search rules in
    let amount : c.in_ok-args.args ≡ Plain (Int c.args.self.now.amount) ∷ [] = search rules in
    inr (tried c.args.self.now c.loop.counter (g.S.Session.seen c.loop.session) (g.S.Session.seen c.ask.new.self) c.in_ok-k.k c.in_ok-args.args
    (c.loop.invariant fresh) amount c.in_ok-k.ensures.future c.in_ok-k.ensures.submits c.ask.ensures.on
    few c.in_ok-k.ensures.answered (ap is_lacking (sym c.answer.ensures) ∙ other))

pub returns : goal.returns
returns g c = λ fresh.
    let all : c.loop.counter ≡ c.args.self.now.most = search rules in
    inl (subst (λ n. HasFailed c.args.self.now n (g.S.Session.seen c.loop.session)) all (c.loop.invariant fresh))
