use Rattle.act_world.proofs.Common.{◌≡◌, ◌++◌, ◌∷◌, [], length, refl, ap, sym, ◌∙◌, arith, common_steps, CallKey, CallEntry}
use Rattle.act_world.proofs.Changes.{grown_letter}
use Rattle.act_world.proofs.Lawful.{world_lawful}
use Rattle.act_world.proofs.OneCaller.{no_caller, put_back}
use Rattle.act_world.proofs.Sending.{unsent, send_refused, send_follows}
use Rattle.act_world.proofs.Stepping.{refused_there, done_there}
use Rattle.act_world.proofs.network.Network.send.Goals as goal

pub returns-in_default : goal.returns-in_default
returns-in_default c = no_caller _ _ _ _ (λ h. refl) c.self.view_is c.deref.ensures.value c.in_default.ensures

pub returns-then-is_err : goal.returns-then-is_err
returns-then-is_err c =
    let at = sym (rw c.deref.ensures.value at c.in-Some.ensures) in
    rw (c.reserve.ensures.items, ← c.self.view_is) (unsent _ c.args.c c.args.k c.in-Some.place c.index.result.now c.why_unsent.result
    (record { place_is = at; owner_is = c.index.ensures }) c.why_unsent.ensures.refused c.why_unsent.ensures.memory)

pub returns-in-Err : goal.returns-in-Err
returns-in-Err c =
    let at = sym (rw c.deref.ensures.value at c.in-Some.ensures) in
    rw (c.reserve.ensures.items, ← c.self.view_is) (refused_there _ _ _ _ (put_back _ _ c.index_mut.ensures.value c.in-Err.ensures.err) refl
    (λ slots casts before refines. send_refused _ slots c.args.c c.args.k c.in-Some.place c.index_mut.result.now refines
    (record { place_is = at; owner_is = c.index_mut.ensures.value }) c.in-Err.ensures.refusal))

pub returns : goal.returns
returns c =
    let at = sym (rw c.deref.ensures.value at c.in-Some.ensures) in
    let call : CallKey = record { caller = c.args.c; actor = c.in-Ok.address.0; number = c.in-Ok.address.1; future = c.args.k } in
    let mail : c.push_reserved.new.self.items ≡ c.self.inside.mail.items ++ CallEntry call ∷ [] =
    c.push_reserved.ensures.items ∙ ap (λ items. items ++ CallEntry call ∷ []) c.reserve.ensures.items in
    let last : c.len-i.result ≡ length c.reserve.new.self.items = grind (arith, common_steps) in
    rw (← c.self.view_is) (done_there _ _ _ _ (λ slots casts before refines. send_follows _ slots c.args.c c.args.k c.in-Some.place c.len-i.result
    c.index_mut.result.now c.send.new.self c.push_reserved.new.self.items (world_lawful casts before) refines
    (record { place_is = at; owner_is = c.index_mut.ensures.value }) c.in-Ok.ensures.accepted c.in-Ok.ensures.value c.in-Ok.ensures.ok
    (last ∙ ap (λ items. length items) c.reserve.ensures.items) mail) (grown_letter _ _ _ _ mail))
