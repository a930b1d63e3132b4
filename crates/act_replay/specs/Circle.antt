-- A run in threads with answers in a circle: what each thread left fits, and no list of events leaves it.
--
-- Each of two callers pushes 5 to a list of its own, and then the answer of that to the other caller's list. Each list
-- ran the other caller's call first. So each 5 is answered by the length 2, and the 2 that stands before it in its list
-- is what the other 5 is answered by.
use Rattle.std.specs.Prelude.{ℕ, ◌≡◌, false, true, List, [], ◌∷◌, replicate, Some, None, Ok, pos, All}
use Rattle.act_types.specs.KindState.{ItemsOf}
use Rattle.act_types.specs.declared.call.Value.TheVariants.{Int}
use Rattle.act_types.specs.declared.call.Method.TheVariants.{Push}
use Rattle.act_types.specs.declared.call.Arg.{Arg}
use Rattle.act_types.specs.declared.call.Arg.TheVariants.{Plain, Fut}
use Rattle.act_types.specs.declared.call.Settled.TheVariants.{Good}
use Rattle.act_rules.specs.declared.event.Event.{Event}
use Rattle.act_rules.specs.declared.history.RunItem.{RunItem}
use Rattle.act_rules.specs.declared.history.Submission.{Submission}
use Rattle.act_rules.specs.declared.script.Step.{Step}
use Rattle.act_rules.specs.declared.script.Step.TheVariants.{Submit}
use Rattle.act_rules.specs.History.{ActorSpec, History, calls_of, runs_of}
use Rattle.act_rules.specs.Laws.{history}
use Rattle.act_owner.specs.Owner.{OwnerView}
use Rattle.act_executor.specs.Plays.{IsPlayed}
use Rattle.act_serve.specs.Served.{EndView, Retired, end_id, end_log}

-- ---- when a run is no play

-- the history has all calls of these callers, and the run lists of these actors
pub record HasAllOf (h : History) (owners : List OwnerView) (ends : List EndView) : Type 0 where
  pub calls : All (λ owner. owner.calls ≡ calls_of owner.id h) owners
  pub runs : All (λ end. end_log end ≡ runs_of (end_id end) h) ends

-- no list of events leaves them
abbrev pub IsUnplayed : List ActorSpec → List OwnerView → List EndView → Type 0
IsUnplayed casts owners ends = (events : List Event) → HasAllOf (history casts events) owners ends → ⊥

-- no list of events is a play of them, so no run in threads leaves them
abbrev pub IsNoPlay : List ActorSpec → List OwnerView → List EndView → Type 0
IsNoPlay casts owners ends = IsPlayed casts owners ends → ⊥

-- ---- the circle: a caller and its own list have one number, and o is the other one

-- two lists, which both callers may call
abbrev pub circle_cast : ℕ → ActorSpec
circle_cast a = record { actor = a; callers = 1 ∷ 2 ∷ []; opening = ItemsOf []; pending = None }

abbrev pub circle_casts : List ActorSpec
circle_casts = circle_cast 1 ∷ circle_cast 2 ∷ []

-- the value 5, and the answer of the caller's first call
abbrev pub five_arg : Arg
five_arg = Plain (Int (pos 5))

abbrev pub first_future : Arg
first_future = Fut 0

abbrev pub circle_plan : ℕ → ℕ → List Step
circle_plan c o = Submit c Push (five_arg ∷ []) ∷ Submit o Push (first_future ∷ []) ∷ []

abbrev pub circle_plans : List (ℕ × List Step)
circle_plans = (1, circle_plan 1 2) ∷ (2, circle_plan 2 1) ∷ []

-- what the caller submitted
abbrev pub circle_push : ℕ → Arg → Submission
circle_push a arg = record { actor = a; method = Push; args = arg ∷ [] }

abbrev pub circle_calls : ℕ → ℕ → List Submission
circle_calls c o = circle_push c five_arg ∷ circle_push o first_future ∷ []

-- what the list ran: a caller's call k, with a number
abbrev pub circle_ran : ℕ → ℕ → ℕ → RunItem
circle_ran c k n = record { caller = c; number = 0; future = k; method = Push; args = Good (Int (pos n)) ∷ [] }

abbrev pub circle_log : ℕ → ℕ → List RunItem
circle_log a o = circle_ran o 1 2 ∷ circle_ran a 0 5 ∷ []

-- the caller at its end: both calls are answered by the length of the list
abbrev pub owner : ℕ → ℕ → OwnerView
owner c o = record {
  id = c;
  handles = record { actor = 1; copies = 0; given = 1 } ∷ record { actor = 2; copies = 0; given = 1 } ∷ [];
  calls = circle_calls c o;
  sent = true ∷ true ∷ [];
  kept = Some (Ok (Int (pos 2))) ∷ Some (Ok (Int (pos 1))) ∷ [];
  dead = replicate 9 false;
  limits = (1, None) ∷ (2, None) ∷ [];
}

abbrev pub circle_owners : List OwnerView
circle_owners = owner 1 2 ∷ owner 2 1 ∷ []

-- the list at its end
abbrev pub circle_end : ℕ → ℕ → EndView
circle_end a o = Retired (record { id = a; log = circle_log a o; state = ItemsOf (Int (pos 2) ∷ Int (pos 5) ∷ []) })

abbrev pub circle_ends : List EndView
circle_ends = circle_end 1 2 ∷ circle_end 2 1 ∷ []
