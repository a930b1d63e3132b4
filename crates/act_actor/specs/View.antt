-- What contracts see of an actor.
use Rattle.std.specs.Prelude.{ℕ, List}
use Rattle.act_types.specs.KindState.{KindState}
use Rattle.act_rules.specs.declared.history.RunItem.{RunItem}
use Rattle.act_inbox.specs.View.{InboxView}

-- an actor that runs: a name, the calls that came, those that ran, and the state that its kind is in, which is a kind
-- itself where no function reads it
pub record LiveView (S : Type 0) : Type 0 where
  pub id : ℕ
  pub inbox : InboxView
  pub log : List RunItem
  pub state : S

abbrev pub ActorView : Type 0
ActorView = LiveView KindState

-- a killed actor: its name, and what it ran
pub record DeadView : Type 0 where
  pub id : ℕ
  pub log : List RunItem

-- a retired actor: its name, what it ran, and the state that its kind was left in
pub record LeftView (S : Type 0) : Type 0 where
  pub id : ℕ
  pub log : List RunItem
  pub state : S

abbrev pub RetiredView : Type 0
RetiredView = LeftView KindState
