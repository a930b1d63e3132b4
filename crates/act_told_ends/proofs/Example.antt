-- A walk to an end that is told, at which a reply is lost and the actor lives on: the definitions compute to it.
use Rattle.act_told_ends.proofs.Common.{◌≡◌, ℕ, List, [], ◌∷◌, Option, Some, None, refl, Event, RunItem, Submission, Step, ActorSpec, History, opening, history}
use Rattle.act_told_ends.proofs.Common.{add_event, Told, told_of, Calls, Sends, Delivers, Runs, Collects, IsThrough, IsWalked, Begins, GoesOn}
use Rattle.act_types.specs.KindState.{ItemsOf}
use Rattle.act_types.specs.declared.call.Method.TheVariants as method
use Rattle.act_rules.specs.declared.event.Event.TheVariants as event

-- one actor, which two callers may call, each with one call that has no answer
abbrev casts : List ActorSpec
casts = record { actor = 1; callers = 1 ∷ 2 ∷ []; opening = ItemsOf []; pending = Some 1 } ∷ []

abbrev call : Submission
call = record { actor = 1; method = method.Get; args = [] }

-- the call of the second caller runs first, and its reply is lost
abbrev events : List Event
events =
    event.Submit 1 1 method.Get [] ∷ event.Submit 2 1 method.Get []
    ∷ event.Send 2 0 ∷ event.Deliver 0 ∷ event.Run 1 2
    ∷ event.Send 1 0 ∷ event.Deliver 1 ∷ event.Run 1 1 ∷ event.Collect 1
    ∷ []

abbrev told : Told
told = told_of (history casts events)

abbrev free : ℕ → Option (List Step)
free c = None

abbrev none : ℕ → ℕ
none c = 0

abbrev item_of : ℕ → RunItem
item_of c = record { caller = c; number = 0; future = 0; method = method.Get; args = [] }

abbrev h1 : History
h1 = add_event (opening casts) (event.Submit 1 1 method.Get [])

abbrev h2 : History
h2 = add_event h1 (event.Submit 2 1 method.Get [])

abbrev h3 : History
h3 = add_event h2 (event.Send 2 0)

abbrev h4 : History
h4 = add_event h3 (event.Deliver 0)

abbrev h5 : History
h5 = add_event h4 (event.Run 1 2)

abbrev h6 : History
h6 = add_event h5 (event.Send 1 0)

abbrev h7 : History
h7 = add_event h6 (event.Deliver 1)

abbrev h8 : History
h8 = add_event h7 (event.Run 1 1)

abbrev h9 : History
h9 = add_event h8 (event.Collect 1)

called : IsWalked casts free told none h2
called = GoesOn none h1 (Calls 2 call refl refl refl) (GoesOn none (opening casts) (Calls 1 call refl refl refl) Begins)

first_ran : IsWalked casts free told none h5
first_ran = GoesOn none h4 (Runs 1 (item_of 2) refl refl refl)
    (GoesOn none h3 (Delivers 1 0 (item_of 2) refl refl refl refl) (GoesOn none h2 (Sends 1 (item_of 2) refl refl refl) called))

second_ran : IsWalked casts free told none h8
second_ran = GoesOn none h7 (Runs 1 (item_of 1) refl refl refl)
    (GoesOn none h6 (Delivers 1 1 (item_of 1) refl refl refl refl) (GoesOn none h5 (Sends 1 (item_of 1) refl refl refl) first_ran))

pub walked : IsWalked casts free told none h9
walked = GoesOn none h8 (Collects 1 1 1 1 (item_of 1) refl refl refl refl) second_ran

pub through : IsThrough free told none h9
through = record {
  leaves = record { calls = λ c. refl; kept = λ c. refl; runs = λ a. refl; dead = λ a. refl };
  steps = λ c steps is. let bad : None ≡ Some steps = is in cc;
}
