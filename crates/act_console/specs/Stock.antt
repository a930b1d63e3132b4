-- What a play needs of the kinds that it is given.
use Rattle.std.specs.Prelude.{◌≡◌, ℕ, ◌≤◌, List, [], ◌∷◌, ◌++◌, length, All}
use Rattle.act_types.specs.declared.limits.TheConstants.{MAX_ACTORS}
use Rattle.act_types.specs.KindState.{KindState}
use Rattle.act_rules.specs.declared.script.KindName.{KindName}
use Rattle.act_rules.specs.declared.script.KindName.TheVariants as kind
use Rattle.act_rules.specs.Scripts.{opening_state}
use Rattle.act_console.specs.declared.console.Stock.{Stock}

-- there are so many kinds of this name at least, and each is in its opening state
pub record HasOf {K : Type 0} (state : K → KindState) (name : KindName) (count : ℕ) (kinds : List K) : Type 0 where
  pub enough : count ≤ length kinds
  pub opened : All (λ one. state one ≡ opening_state name) kinds

-- so much of each kind; `state` reads a kind
pub record HasEach {K : Type 0} (state : K → KindState) (count : ℕ) (stock : Stock K) : Type 0 where
  pub counters : HasOf state kind.Counter count stock.counters.items
  pub tables : HasOf state kind.Table count stock.tables.items
  pub accounts : HasOf state kind.Account count stock.accounts.items
  pub lists : HasOf state kind.ListKind count stock.lists.items

-- enough for every script
abbrev pub IsReady : {K : Type 0} → (K → KindState) → Stock K → Type 0
IsReady state stock = HasEach state MAX_ACTORS stock

-- each list has its kind more
pub record HasOneMore {K : Type 0} (counter table account list : K) (old new : Stock K) : Type 0 where
  pub counters : new.counters.items ≡ old.counters.items ++ counter ∷ []
  pub tables : new.tables.items ≡ old.tables.items ++ table ∷ []
  pub accounts : new.accounts.items ≡ old.accounts.items ++ account ∷ []
  pub lists : new.lists.items ≡ old.lists.items ++ list ∷ []

-- the lists have the same kinds
pub record HasSame {K : Type 0} (old new : Stock K) : Type 0 where
  pub counters : new.counters.items ≡ old.counters.items
  pub tables : new.tables.items ≡ old.tables.items
  pub accounts : new.accounts.items ≡ old.accounts.items
  pub lists : new.lists.items ≡ old.lists.items
