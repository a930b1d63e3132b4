-- What contracts see of a reply line and its notices.
use Rattle.std.specs.Prelude.{◌≡◌, ℕ, List, [], ◌∷◌, ◌++◌, Some, slice_get, All}
use Rattle.atomic_table.specs.Seated.{TableId}
use Rattle.act_types.specs.declared.call.Notice.{Notice}
use Rattle.act_types.specs.declared.call.Notice.TheVariants.{Answered, Death}
use Rattle.act_rules.specs.declared.history.RunItem.{RunItem}

-- which line it is, and whose
pub record RepliesView : Type 0 where
  pub line : TableId
  pub caller : ℕ

-- an executor's pass: its line and actor, the notices given, the stamp of each, and the log last shown
pub record ReplyExecView : Type 0 where
  pub line : TableId
  pub actor : ℕ
  pub given : List Notice
  pub stamps : List ℕ
  pub seen : List RunItem

-- an executor's pass that has given nothing
abbrev pub new_exec : TableId → ℕ → ReplyExecView
new_exec line actor = record { line = line; actor = actor; given = []; stamps = []; seen = [] }

-- the actor that a notice names
abbrev pub notice_actor : Notice → ℕ
notice_actor (Answered reply) = reply.actor
notice_actor (Death actor) = actor

-- a notice that is no death
abbrev pub IsNoDeath : Notice → Type 0
IsNoDeath (Answered reply) = Unit {0}
IsNoDeath (Death actor) = ⊥

-- a reply names a place of the log, and that place's caller and future
abbrev pub NamesPlace : List RunItem → Notice → Type 0
NamesPlace log (Answered reply) = (item : RunItem) × (slice_get log reply.place ≡ Some item)
    × (reply.caller ≡ item.caller) × (reply.future ≡ item.future)
NamesPlace log (Death actor) = Unit {0}

-- each notice names the actor, each reply a place of the log that was seen, and no notice follows a death
pub record IsGiven (actor : ℕ) (seen : List RunItem) (given : List Notice) : Type 0 where
  pub names : All (λ notice. notice_actor notice ≡ actor) given
  pub places : All (NamesPlace seen) given
  pub alive : (before : List Notice) (last : Notice) → given ≡ before ++ last ∷ [] → All IsNoDeath before
