-- What each caller of a measured run does.
use Rattle.std.specs.Prelude.{ℕ, List, [], ◌∷◌, flat_map}
use Rattle.act_types.specs.declared.call.Method.TheVariants.{Add}
use Rattle.act_rules.specs.declared.script.Step.{Step}
use Rattle.act_rules.specs.declared.script.Step.TheVariants.{Submit, Await}
use Rattle.ray_bench_work.specs.Work.{actor_at, one_more, places}
use Rattle.ray_bench_work.specs.declared.work.Style.{Style}
use Rattle.ray_bench_work.specs.declared.work.Style.TheVariants.{Wait, Future}
use Rattle.ray_bench_work.specs.declared.work.Work.{Work}

-- what a caller does beside a call: it awaits its answer, or goes on
abbrev pub awaits : Style → ℕ → List Step
awaits Wait place = Await place ∷ []
awaits Future place = []

-- what a caller does at a place: a call that adds 1
abbrev pub steps_at : Work → ℕ → ℕ → List Step
steps_at work caller place = Submit (actor_at work caller place) Add one_more ∷ awaits work.style place

-- all that a caller does
abbrev pub bench_plan : Work → ℕ → List Step
bench_plan work caller = flat_map (steps_at work caller) (places work.calls)

-- a caller, and all that it does
abbrev pub bench_part : Work → ℕ → ℕ × List Step
bench_part work caller = (caller, bench_plan work caller)
