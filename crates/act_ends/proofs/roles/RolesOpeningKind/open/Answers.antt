use Rattle.act_ends.proofs.Common.{map, ap, ◌∙◌, actor_spec_of, state_of}
use Rattle.act_console.proofs.Roles.{casts_fit}
use Rattle.act_ends.proofs.roles.RolesOpeningKind.open.Goals as goal

pub returns-clause-fit : goal.returns-clause-fit
returns-clause-fit c =
    casts_fit state_of c.in_ok-casts.casts.items c.self.inside.roles (c.in_ok-casts.ensures ∙ ap (map actor_spec_of) c.as_slice.ensures) c.self.invariant
