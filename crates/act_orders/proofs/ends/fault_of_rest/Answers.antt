use Rattle.act_orders.proofs.Common.{◌≡◌, true, is_some, sym, ◌∙◌, place_of}
use Rattle.act_orders.proofs.Finding.{has_run, is_some_place}
use Rattle.act_orders.proofs.ends.fault_of_rest.Goals as goal

pub returns-then-is_some : goal.returns-then-is_some
returns-then-is_some c =
    let told = c.args.told.now in let places = c.args.places.now in let n = c.args.call in
    let some : is_some (place_of places n) ≡ true = sym c.is_some.ensures ∙ c.if-is_some.true in
    let at = is_some_place (place_of places n) some in
    let ran = has_run told places n at.0 c.requires.places c.requires.within at.1 in record { retired = λ _. ran; answered = λ _ _. ran }
