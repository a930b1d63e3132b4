use Rattle.act_told.proofs.Common.{map, [], ◌∷◌, ◌++◌, ◌∙◌, sym, ap, length, ◌<◌, ◌^◌, subst, arith, All-push, end_view, Finished, calls_from, AreSmall}
use Rattle.act_told.proofs.Going.{caller_more, start_more}
use Rattle.act_told.proofs.calls.push_all_calls.Goals as goal

pub loop-owner-preserved : goal.loop-owner-preserved
loop-owner-preserved g c =
    let ends = map (λ (actor : Finished _ _). end_view g.K.Actor.state actor.ended) c.args.actors.now in
    let inv = c.loop-owner.invariant in let owner = c.owner-item.result in let calls = c.loop-owner.calls in
    let more = c.in_ok-push_calls.ensures ∙ ap (λ t. calls ++ calls_from ends owner (length t) 0 owner.calls) c.as_slice-start.ensures in
    record {
      calls = caller_more ends c.args.owners.now owner calls _ c.loop-owner-test.true c.owner-item.is more inv.calls;
      starts = start_more ends c.args.owners.now owner calls c.loop-owner.starts.items _ c.loop-owner-test.true c.owner-item.is more
          (c.in_ok-push.ensures.items ∙ ap (λ id. c.loop-owner.starts.items ++ (id, length c.as_slice-start.result.now) ∷ []) c.id.ensures
          ∙ ap (λ t. c.loop-owner.starts.items ++ (owner.id, length t) ∷ []) c.as_slice-start.ensures) inv.starts;
      small = subst AreSmall (sym c.in_ok-push.ensures.items) (All-push (λ start. start.1 < 2 ^ 63) c.loop-owner.starts.items
          (c.id.result, length c.as_slice-start.result.now) inv.small (omega (arith, c.as_slice-start.type_inv.1)));
    }
