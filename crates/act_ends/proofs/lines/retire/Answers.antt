use Rattle.act_ends.proofs.Common.{◌≡◌, ◌+◌, refl, world_view}
use Rattle.act_ends.proofs.Rest.{rest_more}
use Rattle.act_ends.proofs.lines.retire.Goals as goal

pub returns-in-Ok : goal.returns-in-Ok
returns-in-Ok g c casts h is =
    let number : c.unwrap-actor.result ≡ c.args.before + 1 = rw c.unwrap-actor.ensures at c.new.ensures.value in
    rest_more casts h
    (world_view g.K.Actor.state c.apply.new.self) c.in-Ok.field-0 number
    (λ events reached. c.in-Ok.ensures.outcome refl casts events reached) (λ events reached. c.in-Ok.ensures.reached refl casts events reached) is
