use Rattle.act_decisions.proofs.Common.{◌∙◌, sym, string_bytes, world_view}
use Rattle.act_decisions.proofs.Shown.{shown, told_shown}
use Rattle.act_decisions.proofs.compared.shows.Goals as goal

pub returns : goal.returns
returns g c = λ casts events reached.
    let world = world_view g.K.Actor.state c.args.world.now in let none = c.new-text.ensures.bytes in
    let is = c.in_ok-play_report.ensures.ok in (
      (λ holds. shown casts events world (string_bytes c.new-text.result) (string_bytes c.play_report.new.text) c.args.rest.now c.in_ok-told.told.items
          reached none is c.in_ok-told.ensures.told (sym c.as_bytes-shown.ensures.value ∙ c.same_bytes.ensures.0 holds ∙ c.deref.ensures.value)),
      (λ told. c.same_bytes.ensures.1 (told_shown casts events world c.args.rest.now c.in_ok-told.told.items reached none
          (c.as_bytes-shown.ensures.value ∙ is) c.in_ok-told.ensures.exact told ∙ sym c.deref.ensures.value)),
    )
