-- Deeds of each sort that meet all premises: one caller, a counter that ran its call and retired, and one that died.
use Rattle.act_causes.proofs.Common.{◌≡◌, ◌≢◌, ℕ, zero, suc, ◌≤◌, Bool, true, false, List, ◌∷◌, ◌++◌, length, None, Ok, All, AllPairs, refl, subst, arith}
use Rattle.act_causes.proofs.Common.{Contains, ◌==◌, pos, eqb-true, All-nil, All-cons, CounterAt, Plain, Good, Answered, Death, Reply, ReleaseNote, RunItem}
use Rattle.act_causes.proofs.Common.{ActorSpec, items_of, All-two, Copied, Released, Submitted, Sent, Noticed, packet_of_item, Site, Action, AreCaused}
use Rattle.act_causes.proofs.Common.{SpecsFit, IsGiven, Actor, Caller, actions_of, owner_by, CallerMayDo, KillAsked, cast_at, contains, ActorMayDo, CallRun}
use Rattle.act_causes.proofs.Common.{DeathTold, KillTaken, CallTaken, NoteTaken, Retirement, Some, KillNote, IsCaused, [], ◌||◌, note_after_calls}
use Rattle.act_types.specs.declared.call.Method.TheVariants as method
use Rattle.act_types.specs.declared.call.Value.TheVariants as value

-- a counter that this caller may call
abbrev counter : ℕ → ActorSpec
counter a = record { actor = a; callers = 1 ∷ []; opening = CounterAt (pos 0); pending = None }

abbrev casts : List ActorSpec
casts = counter 1 ∷ counter 2 ∷ []

abbrev item : RunItem
item = record { caller = 1; number = 0; future = 0; method = method.Add; args = Good (value.Int (pos 5)) ∷ [] }

abbrev reply : Reply
reply = record { actor = 1; caller = 1; future = 0; place = 0; answer = Ok (value.Int (pos 5)) }

abbrev note : ReleaseNote
note = record { caller = 1; actor = 1; after = 1 }

-- somebody asked it
abbrev kill : KillNote
kill = record { caller = 1; actor = 2 }

abbrev by_one : Action → Site × Action
by_one action = (Caller 1, action)

abbrev front : List (Site × Action)
front =
    by_one (Submitted 1 method.Add (Plain (value.Int (pos 5)) ∷ [])) ∷ by_one (Copied 1) ∷ (Caller 1, KillAsked 2) ∷ by_one (Sent 0) ∷
    (Actor 1, CallTaken (packet_of_item 1 item)) ∷ (Actor 2, KillTaken 0 kill) ∷ (Actor 1, CallRun item) ∷ (Actor 2, DeathTold 1) ∷
    by_one (Noticed (Answered reply)) ∷ by_one (Released 1) ∷ by_one (Released 1) ∷ by_one (Noticed (Death 2)) ∷ (Actor 1, NoteTaken note) ∷ []

abbrev deeds : List (Site × Action)
deeds = front ++ (Actor 1, Retirement) ∷ []

-- what holds of one element holds of all of a list of it alone
pub all_one : {A : Type 0} (P : A → Type 0) (x : A) → P x → All P (x ∷ [])
all_one P x holds = All-cons P x [] holds (All-nil P)

pub fitting : SpecsFit casts
fitting = record {
  actors_differ = two;
  callers_differ = All-two (λ cast. AllPairs (λ one other. one ≢ other) cast.callers) (counter 1) (counter 2) one one;
  actors = All-two (λ cast. cast.actor ≤ 8) (counter 1) (counter 2) (omega arith) (omega arith);
  callers = All-two (λ cast. All (λ c. (1 ≤ c) × (c ≤ 16)) cast.callers) (counter 1) (counter 2) first first;
}
  where
    two : AllPairs (λ one other. one.actor ≢ other.actor) casts
    two zero zero d below within = absurd (omega arith)
    two zero (suc zero) d below within = λ same. cc
    two zero (suc (suc j)) d below within = absurd (omega arith)
    two (suc i) zero d below within = absurd (omega arith)
    two (suc i) (suc zero) d below within = absurd (omega arith)
    two (suc i) (suc (suc j)) d below within = absurd (omega arith)

    one : AllPairs (λ (one other : ℕ). one ≢ other) (1 ∷ [])
    one i j d below within = absurd (omega arith)

    first : All (λ c. (1 ≤ c) × (c ≤ 16)) (1 ∷ [])
    first = all_one (λ c. (1 ≤ c) × (c ≤ 16)) 1 (omega arith, omega arith)

-- the cast names no other caller
only_one : (c : ℕ) → ((1 == c) || false) ≡ true → 1 ≡ c
only_one c e = go (1 == c) refl e
  where
    go : (b : Bool) → (1 == c) ≡ b → (b || false) ≡ true → 1 ≡ c
    go true is e = eqb-true 1 c is
    go false is e = cc

-- what the caller does, and what an actor does
alone : {before : List (Site × Action)} (action : Action) → CallerMayDo (owner_by casts 1 before) action → IsGiven casts before (Caller 1, action) →
    IsCaused casts before (Caller 1, action)
alone action may given = record { may = (refl, may); given = given }

takes : {before : List (Site × Action)} (a : ℕ) (action : Action) → cast_at a casts ≡ Some (counter a) →
    ActorMayDo a (1 ∷ []) (actions_of (Actor a) before) action → IsGiven casts before (Actor a, action) → IsCaused casts before (Actor a, action)
takes a action at may given = record { may = (counter a, at, may); given = given }

-- the counter has the note of each caller that it knows
all_noted : (c : ℕ) → contains c (1 ∷ []) ≡ true → Contains (actions_of (Actor 1) front) (NoteTaken ((note_after_calls c 1 (length (items_of c (item ∷ []))))))
all_noted c named = subst (λ x. Contains (actions_of (Actor 1) front) (NoteTaken ((note_after_calls x 1 (length (items_of x (item ∷ []))))))) (only_one c named)
    (2, omega arith, refl)

-- one deed is caused, and the others after it
then : {A B : Type 0} → A → B → A × B
then one others = (one, others)

pub caused : AreCaused casts [] deeds
caused =
    then (alone _ refl tt) (then (alone _ refl tt)
    (then (alone _ refl tt) (then (alone _ refl tt) (then (takes 1 _ refl refl (record { to = refl; sent = (3, omega arith, refl); is = refl })) (then
    (takes 2 _ refl refl (1, (2, omega arith, refl))) (then (takes 1 _ refl (refl, (0, omega arith, refl), refl) tt) (then (takes 2 _ refl (refl, refl) tt)
    (then (alone _ tt (record { caller = refl; item = item; ran = refl; for_caller = refl; future = refl; cast = counter 1; at = refl; answered = refl }))
    (then (alone _ refl tt) (then (alone _ refl tt) (then (alone _ tt (7, omega arith, refl))
    (then (takes 1 _ refl refl (record { to = refl; named = refl; gone = refl; counts = refl })) (then (takes 1 _ refl (refl, all_noted) tt) tt)))))))))))))
