-- When two callers are left with the same.
use Rattle.std.specs.Prelude.{◌≡◌, ℕ, ◌<◌, length}
use Rattle.act_rules.specs.Submissions.{kept_at}
use Rattle.act_owner.specs.Owner.{OwnerView}

-- two callers have the same calls, and for each the same answer
pub record AreSame (one other : OwnerView) : Type 0 where
  pub calls : one.calls ≡ other.calls
  pub answers : (k : ℕ) → k < length one.calls → kept_at one.kept k ≡ kept_at other.kept k
