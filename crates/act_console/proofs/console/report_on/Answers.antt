use Rattle.act_console.proofs.Common.{map, arith, refl, IfOk-weaker, opening, report, actor_spec_of, actor_spec}
use Rattle.std.specs.String.{string_bytes}
use Rattle.act_console.proofs.Roles.{casts_fit}
use Rattle.act_console.proofs.Shown.{told_of_same}
use Rattle.act_console.proofs.console.report_on.Goals as goal

pub open-requires : goal.open-requires
open-requires g c = (
  omega arith,
  casts_fit (λ b. (goal.Actor-dyn g (b.vtable, b.value)).state b.value) c.in_ok-casts.casts.items c.args.roles c.in_ok-casts.ensures c.requires.roles,
)

pub returns : goal.returns
returns g c =
    let casts = map (actor_spec (λ b. (goal.Actor-dyn g (b.vtable, b.value)).state b.value)) c.in_ok-casts.casts.items in
    IfOk-weaker c.play_and_report.result _ _
    (λ text written. told_of_same (λ casts events. report (opening casts) events) (string_bytes text) casts
    (map actor_spec_of c.args.roles) c.args.events c.args.events c.in_ok-casts.ensures refl (written casts c.in_ok-world.ensures.reached))
    c.play_and_report.ensures.report
