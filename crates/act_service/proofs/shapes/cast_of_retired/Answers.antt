use Rattle.act_service.proofs.Common.{◌≡◌, ◌==◌, Some, None, ap, sym, ◌∙◌, subst, position, option_map, find-None, find_some, Shape, opened_in}
use Rattle.act_service.proofs.shapes.cast_of_retired.Goals as goal

pub returns-in_default : goal.returns-in_default
returns-in_default g c =
    let none = subst (λ a. position (λ (shape : Shape). shape.actor == a) c.args.shapes.now ≡ None) c.id.ensures (sym c.place_of_shape.ensures
    ∙ c.in_default.is) in
    sym (ap (option_map (opened_in (g.K.Actor.state c.args.retired.state)))
    (find-None (λ (shape : Shape). shape.actor == c.args.retired.id) c.args.shapes.now none))

pub returns : goal.returns
returns g c =
    let shape = c.index-shapes-place.result in let state = g.K.Actor.state in
    let some = subst (λ a. position (λ (one : Shape). one.actor == a) c.args.shapes.now ≡ Some c.in-Some.place) c.id.ensures (sym c.place_of_shape.ensures
    ∙ c.in-Some.is) in
    let found = (find_some (λ (one : Shape). one.actor == c.args.retired.id) c.args.shapes.now shape some).1 in
    let callers = c.in_ok-callers.ensures ∙ c.as_slice.ensures in
    let made : Some (record { actor = shape.actor; callers = c.in_ok-callers.callers; opening = state c.into_kind.result; pending = shape.pending }) ≡ Some
    (opened_in (state c.args.retired.state) shape) =
    (λ i. Some (record { actor = shape.actor; callers = callers i; opening = state (c.into_kind.ensures i); pending = shape.pending })) in
    made ∙ sym (ap (option_map (opened_in (state c.args.retired.state))) (found ∙ ap (λ one. Some one) (sym c.index-shapes-place.is)))
