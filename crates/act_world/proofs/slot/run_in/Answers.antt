use Rattle.act_world.proofs.Common.{◌≡◌, ◌++◌, ◌∷◌, [], List, length, refl, ap, sym, ◌∙◌, arith, common_steps, Answered, MailedNotice, live_view, Runs}
use Rattle.act_world.proofs.Common.{slot_view, bury_ended}
use Rattle.act_world.proofs.slot.run_in.Goals.{then-terminated, else-terminated}
use Rattle.act_world.proofs.slot.run_in.Goals as goal

pub returns-clause-ok : goal.returns-clause-ok
returns-clause-ok g c =
    let seen = slot_view g.K.Actor.state in let new = live_view g.K.Actor.state c.run.new.self in
    let slot_is : seen c.if-terminated.slot ≡ bury_ended (Runs new) = elim c.if-terminated.branch [
      | then-terminated w ↦ ap seen w.slot-is ∙ w.bury.ensures new refl ∙ rw (sym w.if-terminated.ensures) refl
      | else-terminated w ↦ ap seen w.slot-is ∙ rw (sym w.if-terminated.ensures) refl
    ] in
    let last : c.len-j.result ≡ length c.reserve.new.self.items = grind (arith, common_steps) in
    let notice : MailedNotice = record { caller = c.args.c; notice = Answered c.in-Some.reply } in
    rw c.in-Live.is (record {
      reply = c.in-Some.reply;
      new = new;
      next = record { reply_is = sym c.in-Some.is ∙ c.in_ok-reply.ensures.reply; gap = tt; ran = c.in_ok-reply.ensures.ran };
      slot_is = slot_is;
      place_is = refl;
      last = last ∙ ap (λ all. length all) c.reserve.ensures.items;
      posted_is = ◌∙◌ {A = List MailedNotice} c.push_reserved.ensures.items (ap (λ all. all ++ notice ∷ []) c.reserve.ensures.items);
    })
