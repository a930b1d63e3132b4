-- What a measured run does, and at which actors.
use Rattle.std.specs.Prelude.{ℕ, zero, suc, ◌+◌, ◌-◌, ◌%◌, ◌==◌, Bool, true, List, [], ◌∷◌, ◌++◌, filter, pos}
use Rattle.act_types.specs.declared.call.Value.TheVariants.{Int}
use Rattle.act_types.specs.declared.call.Arg.{Arg}
use Rattle.act_types.specs.declared.call.Arg.TheVariants.{Plain}
use Rattle.act_rules.specs.Report.{one_to}
use Rattle.act_actor.specs.declared.cast.Cast.{Cast}
use Rattle.ray_bench_work.specs.declared.work.Reach.{Reach}
use Rattle.ray_bench_work.specs.declared.work.Reach.TheVariants.{Own, Both}
use Rattle.ray_bench_work.specs.declared.work.Work.{Work}

-- how far round the actors a call goes: as far as its caller's number, or as its place
abbrev pub turn_of : Reach → ℕ → ℕ → ℕ
turn_of Own caller place = caller - 1
turn_of Both caller place = place

-- the actor that a caller calls at a place
abbrev pub actor_at : Work → ℕ → ℕ → ℕ
actor_at work caller place = turn_of work.reach caller place % work.actors + 1

-- the arguments of a call that adds 1
abbrev pub one_more : List Arg
one_more = Plain (Int (pos 1)) ∷ []

-- the places of so many calls
abbrev pub places : ℕ → List ℕ
places zero = []
places (suc n) = places n ++ n ∷ []

-- whether a caller calls an actor, by its own one
abbrev pub is_reached : Reach → ℕ → ℕ → Bool
is_reached Own own actor = own == actor
is_reached Both own actor = true

-- the callers that call an actor
abbrev pub callers_in_work : Work → ℕ → List ℕ
callers_in_work work actor = filter (λ caller. is_reached work.reach (actor_at work caller 0) actor) (one_to work.callers)

-- an actor, and who calls it
abbrev pub cast_in_work : Work → ℕ → ℕ × List ℕ
cast_in_work work actor = (actor, callers_in_work work actor)

abbrev pub cast_view : {K : Type 0} → Cast K → ℕ × List ℕ
cast_view cast = (cast.actor, cast.callers)
