use Rattle.act_orders.proofs.Common.{◌≡◌, ap, sym, ◌∙◌, subst, searched, Actor, Call, call_of, actor_of, Rises}
use Rattle.act_orders.proofs.Finding.{found_role}
use Rattle.act_orders.proofs.ends.may_call.Goals as goal

pub returns : goal.returns
returns c =
    let told = c.args.told.now in let n = c.args.call in let call : c.call.result.now ≡ call_of told n = c.call.ensures in
    let again : c.call-2.result.now ≡ call_of told n = c.call-2.ensures in
    let actor : c.actor-actor.result.now ≡ actor_of told c.call.result.now.actor = c.actor-actor.ensures in
    let xs : c.as_slice.result.now ≡ (actor_of told (call_of told n).actor).callers =
    c.as_slice.ensures ∙ ap (λ (x : Actor). x.callers) actor ∙ ap (λ (x : Call). (actor_of told x.actor).callers) call in
    let rises : Rises c.as_slice.result.now = subst Rises (sym xs)
    (c.requires.whole.roles (call_of told n).actor (c.requires.whole.actors n c.requires.within)) in
    let found = searched c.as_slice.result.now c.call-2.result.now.caller c.binary_search.result
    c.binary_search.ensures.position rises in
    let says = found_role c.as_slice.result.now c.call-2.result.now.caller c.binary_search.result found
    c.is_ok.ensures.value in
    rw (← xs, ← again) says
