-- Whom a world is opened with.
use Rattle.std.specs.Prelude.{◌≡◌, ℕ, List, find, Some, None, if◌then◌else◌}
use Rattle.act_rules.specs.History.{contains}
use Rattle.act_actor.specs.declared.cast.Cast.{Cast}
use Rattle.act_actor.specs.Casts.{limits_that_name}
use Rattle.act_owner.specs.Owner.{OwnerView, opened_with}
use Rattle.act_world.specs.View.{is_owner}

-- of each of these callers there is one, just opened, and there is no other
abbrev pub HasOwners : {K : Type 0} → List (Cast K) → List ℕ → List OwnerView → Type 0
HasOwners casts callers owners = (c : ℕ) →
    find (is_owner c) owners ≡ (if contains c callers then Some (opened_with c (limits_that_name c casts)) else None)
