-- What a gauge can be asked, what its calls do, and how it is written.
use Rattle.std.specs.Prelude.{ℕ, List, [], ◌∷◌, ◌++◌, Result, Ok, Err, pos, ◌+ℤ◌, int_le, ◌&&◌}
use Rattle.std.specs.Prelude.{if◌then◌else◌, bytes_eq, codes}
use Rattle.std.specs.Fmt.{signed_decimal}
use Rattle.actors.specs.Value.{Value}
use Rattle.actors.specs.Value.TheVariants.{Int}
use Rattle.actors.specs.Method.{Method}
use Rattle.actors.specs.Fault.{Fault}
use Rattle.actors.specs.Fault.TheVariants.{NoMethod, BadArgs, Own}
use Rattle.actors.specs.Kinds.{StepOf, by_calls, alone, is_in_range}
use Rattle.actors.specs.Texts.{method_text}
use Rattle.example_kinds.specs.declared.gauge.Gauge.{Gauge}
use Rattle.example_kinds.specs.declared.gauge.GaugeCall.{GaugeCall}
use Rattle.example_kinds.specs.declared.gauge.GaugeCall.TheVariants.{Raise, Drain, Read}

abbrev pub raise_at : List Value → Result GaugeCall Fault
raise_at (Int by ∷ []) = Ok (Raise by)
raise_at args = Err BadArgs

-- what a method and its values ask for
abbrev pub gauge_call : Method → List Value → Result GaugeCall Fault
gauge_call method args =
    if bytes_eq (method_text method) (codes "raise") then raise_at args else
    (if bytes_eq (method_text method) (codes "drain") then alone Drain args else
    (if bytes_eq (method_text method) (codes "read") then alone Read args else Err NoMethod))

-- the values that a call has
abbrev pub gauge_values : GaugeCall → List Value
gauge_values (Raise by) = Int by ∷ []
gauge_values call = []

-- what a call does
abbrev pub gauge_does : Gauge → GaugeCall → Result (Gauge × Value) Fault
gauge_does g (Raise by) =
    if is_in_range (g.level +ℤ by) && int_le (g.level +ℤ by) g.top
    then Ok (record g { level = g.level +ℤ by }, Int (g.level +ℤ by))
    else Err (Own (codes "TooHigh"))
gauge_does g Drain = Ok (record g { level = pos 0 }, Int g.level)
gauge_does g Read = Ok (g, Int g.level)

abbrev pub gauge_step : StepOf Gauge
gauge_step = by_calls gauge_call gauge_does

-- how a gauge is written
abbrev pub gauge_text : Gauge → List ℕ
gauge_text g = codes "gauge " ++ signed_decimal g.level
