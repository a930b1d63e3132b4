-- Two purses, two callers of both, and what they do.
use Rattle.std.specs.Prelude.{ℕ, ◌+◌, List, [], ◌∷◌, None, pos, codes}
use Rattle.actors.specs.Arg.{Arg}
use Rattle.actors.specs.Arg.TheVariants.{Plain, Fut}
use Rattle.actors.specs.Value.TheVariants.{Int}
use Rattle.actors.specs.Method.TheVariants.{Own}
use Rattle.actors.specs.Step.{Step}
use Rattle.actors.specs.Step.TheVariants.{Submit}
use Rattle.actors.specs.Rules.{ActorSpec}
use Rattle.example_transfer.specs.declared.purses.Purses.{Purses}
use Rattle.example_transfer.specs.declared.purses.Manner.{Manner}
use Rattle.example_transfer.specs.declared.purses.Manner.TheVariants.{Careless, Careful}
use Rattle.example_transfer.specs.declared.together.Together.{Together}
use Rattle.example_transfer.specs.Purse.{purse_at}

-- an actor with a purse, which both callers may call
abbrev pub purse_cast : ℕ → ℕ → ActorSpec
purse_cast a held = record { actor = a; callers = 1 ∷ 2 ∷ []; opening = purse_at (record { held = held }); pending = None }

abbrev pub casts_of : Purses → List ActorSpec
casts_of purses = purse_cast 1 purses.first ∷ purse_cast 2 purses.second ∷ []

-- what the two hold together as they open
abbrev pub together_of : Purses → Together
together_of purses = record { one = 1; other = 2; sum = purses.first + purses.second }

-- a call to an actor, with one argument
abbrev pub call_of : ℕ → List ℕ → Arg → Step
call_of a name arg = Submit a (Own name) (arg ∷ [])

-- 40 out of the first purse, and the payment into the second
abbrev pub transfer_of : Arg → List Step
transfer_of payment = call_of 1 (codes "pay_out") (Plain (Int (pos 40))) ∷ call_of 2 (codes "pay_in") payment ∷ []

-- what a caller pays in: 40, or its future 0, which is what was paid out to it
abbrev pub payment_of : Manner → Arg
payment_of Careless = Plain (Int (pos 40))
payment_of Careful = Fut 0

-- both callers do the same
abbrev pub plans_of : Manner → List (ℕ × List Step)
plans_of manner = (1, transfer_of (payment_of manner)) ∷ (2, transfer_of (payment_of manner)) ∷ []
