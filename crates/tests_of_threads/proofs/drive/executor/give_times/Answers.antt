use Rattle.tests_of_threads.proofs.Common.{◌≡◌, ◌∙◌, List, [], ◌∷◌, ◌++◌, All, Ok, Err, Result, ap, subst, sym, append-nil, OnOk, OnErr, All-push, RunItem}
use Rattle.tests_of_threads.proofs.Common.{IsPrefix, ReplyExecView, IsNoDeath}
use Rattle.act_types.specs.declared.call.Reply.{Reply}
use Rattle.act_types.specs.declared.call.Notice.{Notice}
use Rattle.act_types.specs.declared.call.Notice.TheVariants.{Answered}
use Rattle.tests_of_threads.proofs.drive.executor.give_times.Goals as goal

-- a reply more was given, or none was and nothing changed
given_on : (result : Result Unit Notice) (old new : ReplyExecView) (log : List RunItem) (reply : Reply) →
    OnOk result (new ≡ record old { given = old.given ++ Answered reply ∷ []; stamps = old.stamps ++ 0 ∷ []; seen = log }) → OnErr result (new ≡ old) →
    IsPrefix old.seen log → All IsNoDeath old.given → (new.line ≡ old.line) × (new.actor ≡ old.actor) × IsPrefix new.seen log × All IsNoDeath new.given
given_on (Ok x) old new log reply ok err front alive = (
  ap (λ (p : ReplyExecView). p.line) ok,
  ap (λ (p : ReplyExecView). p.actor) ok,
  ([], append-nil new.seen ∙ ap (λ (p : ReplyExecView). p.seen) ok),
  subst (λ (p : ReplyExecView). All IsNoDeath p.given) (sym ok) (All-push IsNoDeath old.given (Answered reply) alive tt),
)
given_on (Err e) old new log reply ok err front alive = (
  ap (λ (p : ReplyExecView). p.line) err,
  ap (λ (p : ReplyExecView). p.actor) err,
  subst (λ (p : ReplyExecView). IsPrefix p.seen log) (sym err) front,
  subst (λ (p : ReplyExecView). All IsNoDeath p.given) (sym err) alive,
)

pub loop-preserved : goal.loop-preserved
loop-preserved g c =
    let was = c.loop.invariant in
    let log : c.log.result.now ≡ c.args.live.now.log = c.log.ensures.value in
    let front : IsPrefix c.loop.gives.seen c.log.result.now = subst (λ l. IsPrefix c.loop.gives.seen l) (sym log) was.grown in
    let now = given_on c.give.result c.loop.gives c.give.new.pass c.log.result.now _ c.give.ensures.ok c.give.ensures.err front was.alive in
    record { line = now.0 ∙ was.line; actor = now.1 ∙ was.actor; grown = subst (λ l. IsPrefix c.give.new.pass.seen l) log now.2; alive = now.3 }
