-- What a rate limiter can be asked, what its calls do, and what it never grants.
use Rattle.std.specs.Prelude.{◌≡◌, ℕ, ◌+◌, ◌-◌, ◌≤◌, Bool, false, ◌&&◌, nat_lt, List, ◌++◌, length, filter, Result, Ok, Err, pos, if◌then◌else◌, bytes_eq}
use Rattle.std.specs.Prelude.{codes, decimal, is_ok}
use Rattle.std.specs.List.{list_any}
use Rattle.actors.specs.Value.{Value}
use Rattle.actors.specs.Value.TheVariants.{Unit as Nothing, Int}
use Rattle.actors.specs.Method.{Method}
use Rattle.actors.specs.Fault.{Fault}
use Rattle.actors.specs.Fault.TheVariants.{NoMethod, Own}
use Rattle.actors.specs.Kinds.{KindState, OwnAt, Ask, StepOf, behaves, by_calls, alone, Answer}
use Rattle.actors.specs.Texts.{method_text}
use Rattle.example_kinds.specs.declared.limiter.Limiter.{Limiter}
use Rattle.example_kinds.specs.declared.limiter.LimiterCall.{LimiterCall}
use Rattle.example_kinds.specs.declared.limiter.LimiterCall.TheVariants.{Acquire, Reset, Left}

-- what a method and its values ask for
abbrev pub limiter_call : Method → List Value → Result LimiterCall Fault
limiter_call method args =
    if bytes_eq (method_text method) (codes "acquire") then alone Acquire args else
    (if bytes_eq (method_text method) (codes "reset") then alone Reset args else
    (if bytes_eq (method_text method) (codes "left") then alone Left args else Err NoMethod))

-- what a call does
abbrev pub limiter_does : Limiter → LimiterCall → Result (Limiter × Value) Fault
limiter_does l Acquire =
    if nat_lt l.granted l.most
    then Ok (record l { granted = l.granted + 1 }, Int (pos (l.most - (l.granted + 1))))
    else Err (Own (codes "RateLimited"))
limiter_does l Reset = Ok (record l { granted = 0 }, Nothing)
limiter_does l Left = Ok (l, Int (pos (l.most - l.granted)))

abbrev pub limiter_step : StepOf Limiter
limiter_step = by_calls limiter_call limiter_does

-- how a limiter is written
abbrev pub limiter_text : Limiter → List ℕ
limiter_text l = codes "limiter " ++ decimal l.granted ++ codes " of " ++ decimal l.most

-- a limiter that has granted nothing
abbrev pub limiter_of : ℕ → Limiter
limiter_of most = record { granted = 0; most = most }

-- the actor of such a limiter
abbrev pub limiter_at : ℕ → KindState
limiter_at most = OwnAt (behaves limiter_step limiter_text (limiter_of most))

-- ---- what it grants

-- a call by this word that was answered with a value
abbrev pub is_value_answer : List ℕ → Ask × Answer → Bool
is_value_answer word told = bytes_eq (method_text told.0.method) word && is_ok told.1

abbrev pub is_grant : Ask × Answer → Bool
is_grant = is_value_answer (codes "acquire")

abbrev pub is_reset : Ask × Answer → Bool
is_reset = is_value_answer (codes "reset")

abbrev pub grants : List (Ask × Answer) → ℕ
grants told = length (filter is_grant told)

-- in no stretch without a reset are there more grants than this
abbrev pub NeverAbove : ℕ → List (Ask × Answer) → Type 0
NeverAbove most told = (before stretch after : List (Ask × Answer)) → told ≡ before ++ (stretch ++ after) →
    list_any is_reset stretch ≡ false → grants stretch ≤ most
