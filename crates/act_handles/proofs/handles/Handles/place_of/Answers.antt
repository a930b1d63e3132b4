use Rattle.act_handles.proofs.Common.{◌∙◌, ap, position, is_of}
use Rattle.act_handles.proofs.Places.{place_is}
use Rattle.act_handles.proofs.handles.Handles.place_of.Goals as goal

pub returns : goal.returns
returns c =
    let handles = c.self.inside.handles.items in
    place_is c.args.actor c.args.self.now handles c.place_in.result c.self.view_is c.self.invariant
    (c.place_in.ensures ∙ ap (position (is_of c.args.actor)) c.deref.ensures.value)
