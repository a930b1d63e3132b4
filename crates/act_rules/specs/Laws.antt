-- The laws of every run.
use Rattle.std.specs.Prelude.{ℕ, ◌≡◌, ◌≢◌, ◌≤◌, ◌++◌, ◌^◌, ◌&&◌, Bool, true, false, nat_lt, nat_le, List, map, filter, All, AllPairs, Some, None, Result, Ok}
use Rattle.std.specs.Prelude.{IsTrue, codes, decimal}
use Rattle.act_types.specs.declared.limits.TheConstants.{MAX_ACTORS, MAX_CALLERS}
use Rattle.act_types.specs.declared.call.Value.{Value}
use Rattle.act_types.specs.declared.call.Value.TheVariants as value
use Rattle.act_types.specs.declared.call.Method.{Method}
use Rattle.act_types.specs.declared.call.Method.TheVariants as method
use Rattle.act_types.specs.declared.call.Arg.{Arg}
use Rattle.act_types.specs.declared.call.Arg.TheVariants.{Plain, Fut}
use Rattle.act_types.specs.GoodText.{is_good_text}
use Rattle.act_types.specs.Texts.{value_text}
use Rattle.act_rules.specs.declared.event.Event.{Event}
use Rattle.act_rules.specs.declared.script.Role.{Role}
use Rattle.act_rules.specs.declared.script.Step.{Step}
use Rattle.act_rules.specs.declared.script.Wrong.{Wrong}
use Rattle.act_rules.specs.Words.{Word}
use Rattle.act_rules.specs.Kinds.{is_in_range}
use Rattle.act_rules.specs.RunList.{Answer, items_of, NothingFollowsAnEnd}
use Rattle.act_rules.specs.Submissions.{calls_to, kept_at}
use Rattle.act_rules.specs.Consistent.{Consistent}
use Rattle.act_rules.specs.Plans.{planned, events_of, let_through, is_planned_by}
use Rattle.act_rules.specs.History.{ActorSpec, History, opening, opening_of, actors_naming, limit_of, calls_of, runs_of, kept_of, is_dead, is_retired, is_ended}
use Rattle.act_rules.specs.Rules.{unanswered, after_all}
use Rattle.act_rules.specs.Scripts.{actor_spec_of, actors_of_roles}

-- the history of a world of these actors after the events
abbrev pub history : List ActorSpec → List Event → History
history casts events = after_all (opening casts) events

-- nothing runs at an actor that is dead or retired
abbrev pub NothingRunsAfterTheEnd : Type 0
NothingRunsAfterTheEnd = (casts : List ActorSpec) (events later : List Event) (a : ℕ) →
    IsTrue (is_ended a (history casts events)) →
    runs_of a (history casts (events ++ later)) ≡ runs_of a (history casts events)

-- no item follows a `terminate` that ended its actor
abbrev pub NothingFollowsATerminate : Type 0
NothingFollowsATerminate = (casts : List ActorSpec) (events : List Event) (a : ℕ) →
    NothingFollowsAnEnd (runs_of a (history casts events))

-- an answer that is kept stays
abbrev pub KeptAnswersStay : Type 0
KeptAnswersStay = (casts : List ActorSpec) (events later : List Event) (c k : ℕ) (answer : Answer) →
    kept_at (kept_of c (history casts events)) k ≡ Some answer →
    kept_at (kept_of c (history casts (events ++ later))) k ≡ Some answer

-- a retired actor ran every call of every caller to it, in order
abbrev pub RetiredRanAll : Type 0
RetiredRanAll = (casts : List ActorSpec) (events : List Event) (a c : ℕ) →
    let w = history casts events in
    IsTrue (is_retired a w) →
    map (λ item. item.future) (items_of c (runs_of a w)) ≡ map (λ call. call.0) (calls_to a (calls_of c w))

-- a caller's calls to an actor that have no answer are never more than the limit
abbrev pub PendingStaysWithinTheLimit : Type 0
PendingStaysWithinTheLimit = (casts : List ActorSpec) (events : List Event) (c a limit : ℕ) →
    let w = history casts events in
    limit_of c a w ≡ Some limit → unanswered c a w ≤ limit

-- opening states, submissions, run lists, kept answers and dead actors fit one another
abbrev pub EachWorldIsConsistent : Type 0
EachWorldIsConsistent = (casts : List ActorSpec) (events : List Event) →
    let w = history casts events in
    Consistent (λ a. opening_of a w) (λ c. calls_of c w) (λ a. runs_of a w) (λ c. kept_of c w) (λ a. is_dead a w)

-- where no two casts have one actor and none has a limit, a world takes from a caller what its plan submits
abbrev pub PlannedIsTaken : Type 0
PlannedIsTaken = (casts : List ActorSpec) (c : ℕ) (plan : List Step) →
    AllPairs (λ one other. one.actor ≢ other.actor) casts →
    All (λ cast. cast.pending ≡ None) casts →
    planned (actors_naming c casts) plan ≡ calls_of c (history casts (events_of c plan))

-- the same among any other events and with limits, where the caller's submissions that no limit held back, its copies
-- and its releases are those of its plan, in order
abbrev pub PlannedIsTakenAmongOthers : Type 0
PlannedIsTakenAmongOthers = (casts : List ActorSpec) (c : ℕ) (plan : List Step) (events : List Event) →
    AllPairs (λ one other. one.actor ≢ other.actor) casts →
    filter (is_planned_by c) (let_through (opening casts) events) ≡ events_of c plan →
    planned (actors_naming c casts) plan ≡ calls_of c (history casts events)

-- the roles of a script name the same actors for a caller as the casts of its world
abbrev pub RolesNameAsCasts : Type 0
RolesNameAsCasts = (c : ℕ) (roles : List Role) → actors_of_roles c roles ≡ actors_naming c (map actor_spec_of roles)

-- ---- what words spell

-- an argument, as a script writes it: a value, or `@` and a future
abbrev pub arg_text : Arg → Word
arg_text (Plain value) = value_text value
arg_text (Fut k) = codes "@" ++ decimal k

-- each thing is spelled in one way: a word that spells it is its text
abbrev pub HasOneSpelling : {A : Type 0} → (Word → Result A Wrong) → (A → Word) → Type 0
HasOneSpelling {A} spelled_at text = (word : Word) (x : A) → spelled_at word ≡ Ok x → word ≡ text x

-- the text of each such thing spells it
abbrev pub ReadsBack : {A : Type 0} → (A → Bool) → (A → Word) → (Word → Result A Wrong) → Type 0
ReadsBack {A} is_such text spelled_at = (x : A) → IsTrue (is_such x) → spelled_at (text x) ≡ Ok x

-- a number that a script can write
abbrev pub is_number : ℕ → Bool
is_number n = nat_lt n (2 ^ 32)

-- a caller's number
abbrev pub is_caller_number : ℕ → Bool
is_caller_number c = nat_le 1 c && nat_le c MAX_CALLERS

-- an actor's number
abbrev pub is_actor_number : ℕ → Bool
is_actor_number a = nat_le 1 a && nat_le a MAX_ACTORS

-- a value that a script can write: any number, and a good text
abbrev pub is_sayable : Value → Bool
is_sayable value.Unit = true
is_sayable (value.Int n) = is_in_range n
is_sayable (value.Text text) = is_good_text text

-- an argument that a script can write
abbrev pub is_sayable_arg : Arg → Bool
is_sayable_arg (Plain value) = is_sayable value
is_sayable_arg (Fut k) = is_number k

-- a method that a script can write
abbrev pub is_sayable_method : Method → Bool
is_sayable_method (method.Own n) = false
is_sayable_method other = true

-- any of them
abbrev pub always : {A : Type 0} → A → Bool
always x = true
