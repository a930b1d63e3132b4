use Rattle.act_told.proofs.Common.{map, [], ◌∷◌, ◌++◌, ◌∙◌, sym, ap, call_at, submission_of, end_view, Finished, call_told}
use Rattle.act_told.proofs.Going.{call_more}
use Rattle.act_told.proofs.calls.push_calls.Goals as goal

pub loop-number-preserved : goal.loop-number-preserved
loop-number-preserved g c =
    let ends = map (λ (actor : Finished _ _). end_view g.K.Actor.state actor.ended) c.args.actors.now in
    let owner = c.args.owner.now in let call = c.in-Some.call.now in
    call_more ends owner c.args.start c.loop-number.number call c.loop-number.calls _
    (sym (c.in-Some.ensures ∙ ap (λ k. call_at owner.calls k) c.new-k.ensures))
    (c.in_ok-push.ensures.ok ∙ ap (λ t. c.loop-number.calls ++ t ∷ []) (c.in_ok-call_of.ensures
    ∙ ap (λ k. call_told ends owner c.args.start k (submission_of call)) c.new-k.ensures))
    c.loop-number.invariant
