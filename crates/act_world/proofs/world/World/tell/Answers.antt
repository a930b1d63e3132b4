use Rattle.act_world.proofs.Common.{◌≡◌, ◌++◌, ◌∷◌, [], List, length, refl, ap, sym, ◌∙◌, arith, common_steps, Death, MailedNotice}
use Rattle.act_world.proofs.Changes.{grown_reply}
use Rattle.act_world.proofs.Lawful.{world_lawful}
use Rattle.act_world.proofs.Stepping.{refused, wanting, done}
use Rattle.act_world.proofs.Telling.{tell_refused, tell_living, tell_unrefused, tell_follows}
use Rattle.act_world.proofs.world.World.tell.Goals as goal

pub returns-in-Some : goal.returns-in-Some
returns-in-Some g c = rw (← c.self.view_is) (refused _ _ _ _ _ refl c.in-Some.ensures.told
    (λ casts before reached. tell_refused _ _ c.args.a c.args.c reached (sym c.in-Some.ensures.refusal)))

pub returns-then-not-is_dead_in : goal.returns-then-not-is_dead_in
returns-then-not-is_dead_in g c =
    let free = rw (← c.self-inside.view_is) at c.in_default.ensures.refusal in
    rw (← c.self.view_is, ← c.self-inside.view_is) (refused _ _ _ _ _ refl refl
    (λ casts before reached. tell_living _ _ c.args.a c.args.c _ reached c.slot_at.ensures (sym free) (sym c.if-not-is_dead_in.ensures)))

pub returns-in_err-reserve : goal.returns-in_err-reserve
returns-in_err-reserve g c =
    let free = rw (← c.self-inside.view_is) at c.in_default.ensures.refusal in
    rw (c.in_err-reserve.ensures.items, ← c.self.view_is, ← c.self-inside.view_is) (wanting _ _ _ _ _ _ c.from_residual.ensures.1 refl (λ casts before reached.
    tell_unrefused _ _ c.args.a c.args.c _ reached c.slot_at.ensures (sym free) (sym c.if-not-is_dead_in.ensures)) (λ casts before reached. refl))

pub returns : goal.returns
returns g c =
    let free = rw (← c.self-inside.view_is) at c.in_default.ensures.refusal in
    let notice : MailedNotice = record { caller = c.args.c; notice = Death c.args.a } in
    let replies = ◌∙◌ {A = List MailedNotice} c.push_reserved.ensures.items (ap (λ all. all ++ notice ∷ []) c.in_ok-reserve.ensures.items) in
    let last : c.len-j.result ≡ length c.reserve.new.self.items = grind (arith, common_steps) in
    rw (← c.self.view_is, ← c.self-inside.view_is) (done _ _ _ _ _ (λ casts before reached. tell_follows _ _ c.args.a c.args.c c.len-j.result
    _ c.push_reserved.new.self.items (world_lawful casts before) reached c.slot_at.ensures (sym free) (sym c.if-not-is_dead_in.ensures)
    (last ∙ ap (λ all. length all) c.in_ok-reserve.ensures.items) replies) (grown_reply _ _ _ notice replies))
