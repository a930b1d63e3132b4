use Rattle.act_serve.proofs.Common.{[], ◌∷◌, ◌++◌, sym, refl, with_packet, Call}
use Rattle.act_serve.proofs.AtOnce.{serving_held, serving_refused, goes_on, one_longer, endpoints_on, found, has_given}
use Rattle.act_serve.proofs.Nexts.{replied_place}
use Rattle.act_serve.proofs.Serving.{serving_in}
use Rattle.act_serve.proofs.letter.take_call.Goals as goal

pub returns-in_err-hold-clause-serving : goal.returns-in_err-hold-clause-serving
returns-in_err-hold-clause-serving g c =
    λ opening callers letters h. serving_in (letters ++ Call c.args.packet ∷ []) c.hold.ensures.same (λ who. c.hold.ensures.fed who letters) h

pub returns-in_default-clause-serving : goal.returns-in_default-clause-serving
returns-in_default-clause-serving g c =
    λ opening callers letters h. serving_in (letters ++ Call c.args.packet ∷ []) c.hold.ensures.same (λ who. c.hold.ensures.fed who letters) h

pub returns-in_err-reply-clause-serving : goal.returns-in_err-reply-clause-serving
returns-in_err-reply-clause-serving g c = λ opening callers letters h. serving_refused opening callers letters c.args.packet c.in_err-reply.ensures.err h

pub give_reply-requires-clause-endpoints : goal.give_reply-requires-clause-endpoints
give_reply-requires-clause-endpoints g c =
    let before = with_packet c.args.packet c.args.live.now in let after = c.run_now.new.live in
    endpoints_on c.args.replies.now c.args.passes.now.notices.items c.in_ok-reply.ensures.ran c.requires.fit.at_places

pub give_reply-requires-clause-place : goal.give_reply-requires-clause-place
give_reply-requires-clause-place g c =
    let before = with_packet c.args.packet c.args.live.now in let after = c.run_now.new.live in replied_place after.log c.in_ok-reply.ensures.ran refl

pub returns : goal.returns
returns g c =
    let before = c.args.live.now in let after = c.run_now.new.live in let packet = c.args.packet in let replies = c.args.replies.now in
    let passes = c.args.passes.now in
    let one = found replies packet.caller c.in-Some.at passes.notices.items c.as_slice.result.now c.as_slice.ensures.value c.in-Some.ensures.endpoint in
    let given =
    has_given after c.in_ok-reply.ensures.ran passes c.give_reply.new.passes one
    (record { at_places = c.requires.fit.at_places; differ = c.requires.fit.differ })
    c.give_reply.ensures.taken (c.give_reply.ensures.given one.endpoint (sym (one.here one.endpoint))) in
    let on = goes_on packet.caller c.in_ok-reply.reply (with_packet packet before) after c.in_ok-reply.ensures.ran in
    record {
      endpoints = given.endpoints;
      on = record { id = on.id; front = on.front; long = on.long; last = on.last };
      taken = c.give_reply.ensures.taken;
      came = λ letters. ((packet, refl, c.in-Some.ensures.at_once), one_longer c.in_ok-reply.ensures.ran);
      err = tt;
      serving =
          λ opening callers letters h. given.serving opening callers (letters ++ Call packet ∷ []) (serving_held packet before c.in-Some.ensures.at_once h);
      traced = λ opening callers letters h shown. given.traced opening callers (letters ++ Call packet ∷ []) shown
          (serving_held packet before c.in-Some.ensures.at_once h);
    }
