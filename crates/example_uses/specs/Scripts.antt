-- Why a script was not played.
use Rattle.std.specs.Prelude.{◌≡◌, ℕ, List, take, Result, Ok}
use Rattle.actors.specs.Wrong.{Wrong}
use Rattle.actors.specs.Scripts.{Spelled, FailsAt}
use Rattle.actors.specs.Rules.{Outcome}
use Rattle.actors.specs.Worlds.{HasPlayed, WorldView}
use Rattle.example_uses.specs.declared.played.PartFault.{PartFault}
use Rattle.example_uses.specs.declared.played.PartFault.TheVariants.{Script, Stopped}

-- a fault of the script is what its bytes spell; the others are not its own
abbrev pub IsFaultOf : {Y : Type 0} → PartFault → Result Y (ℕ × Wrong) → Type 0
IsFaultOf (Script fault) read = FailsAt fault read
IsFaultOf fault read = Unit {0}

-- of the first events of a script those before the place were played, and with another fault nothing was
abbrev pub PlayedBefore : PartFault → Result Spelled (ℕ × Wrong) → ℕ → WorldView → WorldView → List Outcome →
    List Outcome → Type 0
PlayedBefore (Stopped place) read count old new told told_new = (script : Spelled) → read ≡ Ok script →
    HasPlayed (take place (take count script.events)) old new told told_new
PlayedBefore fault read count old new told told_new = (new ≡ old) × (told_new ≡ told)
