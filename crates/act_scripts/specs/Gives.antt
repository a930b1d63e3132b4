-- What a reader of words or lines returned, beside what they spell.
use Rattle.std.specs.Prelude.{◌≡◌, Result, Ok, Err}
use Rattle.act_rules.specs.declared.script.Wrong.{Wrong}
use Rattle.act_scripts.specs.declared.line.LineFault.{LineFault}
use Rattle.act_scripts.specs.declared.line.LineFault.TheVariants as faults

-- the fault is what was wrong, or want of memory
abbrev pub Fails : {Y : Type 0} → LineFault → Result Y Wrong → Type 0
Fails faults.Memory read = Unit {0}
Fails (faults.Wrong wrong) read = read ≡ Err wrong

-- the result, seen by view, is what was to be read, unless memory was refused
abbrev pub Gives : {X Y : Type 0} → (X → Y) → Result X LineFault → Result Y Wrong → Type 0
Gives view (Ok x) read = read ≡ Ok (view x)
Gives view (Err fault) read = Fails fault read
