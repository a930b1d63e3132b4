-- What the short forms make.
use Rattle.std.specs.Prelude.{ℕ, ℤ, List, Option}
use Rattle.act_types.specs.declared.call.Value.TheVariants.{Int}
use Rattle.act_types.specs.declared.call.Arg.{Arg}
use Rattle.act_types.specs.declared.call.Arg.TheVariants.{Plain}
use Rattle.act_actor.specs.declared.cast.Cast.{Cast}

-- a number, as an argument
abbrev pub number_arg : ℤ → Arg
number_arg n = Plain (Int n)

-- the cast of an actor, by its parts
abbrev pub one_cast : {K : Type 0} → ℕ → List ℕ → K → Option ℕ → Cast K
one_cast actor callers kind pending = record { actor = actor; callers = callers; kind = kind; pending = pending }
