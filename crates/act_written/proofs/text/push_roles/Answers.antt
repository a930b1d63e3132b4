use Rattle.act_written.proofs.Common.{string_bytes, role_line}
use Rattle.act_written.proofs.Each.{each_next}
use Rattle.act_written.proofs.text.push_roles.Goals as goal

pub loop-place-preserved : goal.loop-place-preserved
loop-place-preserved c =
    each_next (role_line c.args.told.now c.args.names.now) c.loop-place.place (string_bytes c.args.text.now) c.loop-place.invariant c.in_ok-push_role.ensures
