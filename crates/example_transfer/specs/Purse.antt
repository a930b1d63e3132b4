-- What a purse can be asked, what its calls do, and how it is written.
use Rattle.std.specs.Prelude.{ℕ, ◌+◌, ◌-◌, ◌^◌, List, [], ◌∷◌, ◌++◌, Bool, Result, Ok, Err, ℤ, pos, unsigned_abs, int_lt, nat_lt, nat_le, if◌then◌else◌}
use Rattle.std.specs.Prelude.{bytes_eq, codes, decimal}
use Rattle.actors.specs.Value.{Value}
use Rattle.actors.specs.Value.TheVariants.{Unit as Nothing, Int}
use Rattle.actors.specs.Method.{Method}
use Rattle.actors.specs.Fault.{Fault}
use Rattle.actors.specs.Fault.TheVariants.{NoMethod, BadArgs, BadAmount, Insufficient, Overflow}
use Rattle.actors.specs.Kinds.{KindState, OwnAt, StepOf, behaves, by_calls}
use Rattle.actors.specs.Texts.{method_text}
use Rattle.example_transfer.specs.declared.purse.Purse.{Purse}
use Rattle.example_transfer.specs.declared.purse.PurseCall.{PurseCall}
use Rattle.example_transfer.specs.declared.purse.PurseCall.TheVariants.{PayIn, PayOut}

-- a call of one amount
abbrev pub amount_at : (ℤ → PurseCall) → List Value → Result PurseCall Fault
amount_at call (Int amount ∷ []) = Ok (call amount)
amount_at call args = Err BadArgs

-- what a method and its values ask for
abbrev pub purse_call : Method → List Value → Result PurseCall Fault
purse_call method args =
    if bytes_eq (method_text method) (codes "pay_in") then amount_at PayIn args else
    (if bytes_eq (method_text method) (codes "pay_out") then amount_at PayOut args else Err NoMethod)

-- the fault where the condition fails, and else what comes next
abbrev pub purse_need : Bool → Fault → Result (Purse × Value) Fault → Result (Purse × Value) Fault
purse_need condition fault next = if condition then next else Err fault

-- what a call does
abbrev pub purse_does : Purse → PurseCall → Result (Purse × Value) Fault
purse_does purse (PayIn amount) =
    purse_need (int_lt (pos 0) amount) BadAmount (
    purse_need (nat_lt (purse.held + unsigned_abs amount) (2 ^ 64)) Overflow (
    Ok (record purse { held = purse.held + unsigned_abs amount }, Nothing)))
purse_does purse (PayOut amount) =
    purse_need (int_lt (pos 0) amount) BadAmount (
    purse_need (nat_le (unsigned_abs amount) purse.held) Insufficient (
    Ok (record purse { held = purse.held - unsigned_abs amount }, Int amount)))

abbrev pub purse_step : StepOf Purse
purse_step = by_calls purse_call purse_does

-- how a purse is written
abbrev pub purse_text : Purse → List ℕ
purse_text purse = codes "purse " ++ decimal purse.held

-- the actor of a purse
abbrev pub purse_at : Purse → KindState
purse_at purse = OwnAt (behaves purse_step purse_text purse)
