use Rattle.act_serve.proofs.Common.{rules, ◌≡◌, ◌<◌, ◌∙◌, ap, sym, refl, length, get_or, is_some, true, false, true≢false, position, get_or_default, next_call}
use Rattle.act_serve.proofs.Common.{ReplyExecView, Endpoint, caller_at, IsAtItsEndpoint, HasReplied, has_next}
use Rattle.act_serve.proofs.AtOnce.{IsFound, goes_on, one_longer, endpoints_on, has_given}
use Rattle.act_serve.proofs.Serving.{caller_here}
use Rattle.act_serve.proofs.Nexts.{next_is, nowhere, somewhere, replied_place}
use Rattle.act_serve.proofs.turn.run_one.Goals as goal

pub give_reply-requires-clause-endpoints : goal.give_reply-requires-clause-endpoints
give_reply-requires-clause-endpoints g c =
    let before = c.args.live.now in let after = c.run_next.new.live in
    let ran : HasReplied g.K.Actor.state c.caller.result c.in-Ok-Some.reply before after = rw c.in-Ok-Some.field-0-is at c.in-Ok-Some.ensures.ran in
    endpoints_on c.args.replies.now c.args.passes.now.notices.items ran c.requires.fit.at_places

pub give_reply-requires-clause-place : goal.give_reply-requires-clause-place
give_reply-requires-clause-place g c =
    let before = c.args.live.now in let after = c.run_next.new.live in
    let ran : HasReplied g.K.Actor.state c.caller.result c.in-Ok-Some.reply before after = rw c.in-Ok-Some.field-0-is at c.in-Ok-Some.ensures.ran in
    replied_place after.log ran refl

pub returns-in_default-clause-gone : goal.returns-in_default-clause-gone
returns-in_default-clause-gone g c = (
  refl,
  nowhere (has_next c.args.replies.now c.args.live.now) c.as_slice.result.now c.args.passes.now.notices.items c.next_endpoint.result c.next_endpoint.ensures
      c.as_slice.ensures.value c.in_default.is,
)

pub returns-in-Ok-None-clause-gone : goal.returns-in-Ok-None-clause-gone
returns-in-Ok-None-clause-gone g c =
    let before = c.args.live.now in let endpoint = c.index.result.now in
    let came : false ≡ is_some (next_call before.log before.inbox c.caller.result) = rw c.in-Ok-None.field-0-is at c.in-Ok-None.ensures.next in
    let was : IsAtItsEndpoint c.args.replies.now before.id before.log endpoint = search rules in
    let one : has_next c.args.replies.now before (get_or c.args.passes.now.notices.items c.in-Some.at endpoint) ≡ true =
    somewhere (has_next c.args.replies.now before) c.in-Some.at endpoint c.next_endpoint.ensures c.as_slice.ensures.value c.in-Some.is in
    let none : has_next c.args.replies.now before (get_or c.args.passes.now.notices.items c.in-Some.at endpoint) ≡ false =
    next_is c.args.replies.now before c.args.passes.now.notices.items {k = c.in-Some.at} endpoint false
    (search rules) c.index.ensures was.below c.index-replies-place.is c.caller.ensures came refl in
    absurd (true≢false (sym one ∙ none))

pub returns-in-Ok-Some : goal.returns-in-Ok-Some
returns-in-Ok-Some g c =
    let before = c.args.live.now in let after = c.run_next.new.live in
    let ran : HasReplied g.K.Actor.state c.caller.result c.in-Ok-Some.reply before after = rw c.in-Ok-Some.field-0-is at c.in-Ok-Some.ensures.ran in
    let replies = c.args.replies.now in let endpoints = c.args.passes.now.notices.items in let endpoint = c.index.result.now in
    let below : c.in-Some.at < length endpoints = search rules in
    let was : IsAtItsEndpoint replies before.id before.log endpoint = search rules in
    let one : IsFound replies c.caller.result c.in-Some.at endpoints = record {
      endpoint = endpoint;
      here = λ d. get_or_default endpoints c.in-Some.at d endpoint below ∙ sym c.index.ensures;
      below = below;
      mine = c.caller.ensures ∙ caller_here replies was.below c.index-replies-place.is;
    } in
    let given = has_given after ran c.args.passes.now c.give_reply.new.passes one c.requires.fit c.give_reply.ensures.taken
    (c.give_reply.ensures.given endpoint (sym (one.here endpoint))) in
    record {
      endpoints = given.endpoints;
      on = goes_on c.caller.result c.in-Ok-Some.reply before after ran;
      taken = c.give_reply.ensures.taken;
      gone = one_longer ran;
      first = λ _. (
        c.in-Some.at,
        ap (position (has_next replies before)) (sym c.as_slice.ensures.value) ∙ sym c.next_endpoint.ensures ∙ c.in-Some.is,
        ran.item,
        ran.log,
        λ d. ran.of_caller ∙ one.mine ∙ ap (λ (s : Endpoint ReplyExecView). caller_at replies s.place) (sym (one.here d)),
      );
      err = tt;
      serving = given.serving;
      traced = λ opening callers h. given.traced opening callers c.args.passes.now.letters.taken refl h;
    }
