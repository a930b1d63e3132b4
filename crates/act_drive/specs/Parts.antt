-- What parts of a caller's work leave.
use Rattle.std.specs.Prelude.{◌≡◌, ◌⊎◌, true, ◌∷◌, ◌++◌, [], is_some}
use Rattle.act_types.specs.declared.call.Notice.{Notice}
use Rattle.act_rules.specs.declared.script.Step.{Step}
use Rattle.act_rules.specs.declared.script.Step.TheVariants.{Await}
use Rattle.act_rules.specs.Submissions.{kept_at}
use Rattle.act_owner.specs.Owner.{OwnerView, after_collect}
use Rattle.act_drive.specs.declared.driver.Driver.{Driver}

-- nothing came, or a notice came, and the owner collected it
abbrev pub IsHeard : Driver → Driver → Type 0
IsHeard old new = ((new.owner ≡ old.owner) × (new.passes.collects ≡ old.passes.collects))
    ⊎ ((notice : Notice) × (new.passes.collects.taken ≡ old.passes.collects.taken ++ notice ∷ [])
    × (new.owner ≡ after_collect old.owner notice))

-- a future that a step awaits is answered after it
abbrev pub IsAwaited : Step → OwnerView → Type 0
IsAwaited (Await k) owner = is_some (kept_at owner.kept k) ≡ true
IsAwaited step owner = Unit {0}
