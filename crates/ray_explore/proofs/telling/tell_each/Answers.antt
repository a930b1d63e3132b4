use Rattle.ray_explore.proofs.Common.{◌≡◌, map, None, Ok, refl, TellsEach}
use Rattle.act_rules.specs.Scripts.{actor_spec_of}
use Rattle.act_executor.specs.Runs.{plan_view}
use Rattle.act_explore.specs.declared.search.Searched.TheVariants.{Whole}
use Rattle.ray_explore.specs.declared.telling.Telling.{Telling}
use Rattle.ray_explore.proofs.Each.{none_told, each_told, when_ok, where_whole}
use Rattle.ray_explore.proofs.telling.tell_each.Goals as goal

pub returns : goal.returns
returns g c =
    let first : Telling _ = record { alloc = c.args.alloc; script = c.args.script; ends = c.new.result; count = 0; writer = c.args.writer; fault = None } in
    where_whole c.told_of.result (c.visit_ends-looked.result ≡ Ok Whole)
    (TellsEach (map actor_spec_of c.args.planned.roles) (map plan_view c.args.planned.plans.items) c.args.script.now (g.W.Write.contents c.args.writer)
    (g.W.Write.contents c.visit_ends-looked.new.visit.writer))
    c.told_of.ensures
    (λ whole. each_told (map actor_spec_of c.args.planned.roles) (map plan_view c.args.planned.plans.items) c.args.script.now c.visit_ends-looked.new.visit.ends
    (g.W.Write.contents c.args.writer) (g.W.Write.contents c.visit_ends-looked.new.visit.writer) (c.visit_ends-looked.ensures.ends whole)
    (when_ok c.visit_ends-looked.result Whole _ c.visit_ends-looked.ensures.keeps whole first
    (refl, none_told c.args.script.now c.new.result (g.W.Write.contents c.args.writer) c.new.ensures)).1)
