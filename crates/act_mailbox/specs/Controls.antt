-- What contracts see of a control line and its kills.
use Rattle.std.specs.Prelude.{◌≡◌, ℕ, ◌+◌, ◌==◌, if◌then◌else◌, List, [], ◌∷◌, ◌++◌, Contains}
use Rattle.atomic_table.specs.Seated.{TableId}
use Rattle.act_types.specs.declared.call.KillNote.{KillNote}
use Rattle.act_mailbox.specs.declared.control.Asked.{Asked}

-- which line it is, and whose
pub record ControlView : Type 0 where
  pub line : TableId
  pub actor : ℕ

-- the executor's pass: its line and actor, the askers that have passes, the kills taken, the stamp that each was put
-- with, the log's length at each of them, and how many lengths were looked at
pub record ControlExecView : Type 0 where
  pub line : TableId
  pub actor : ℕ
  pub askers : List ℕ
  pub taken : List Asked
  pub stamps : List ℕ
  pub lengths : List ℕ
  pub looked : ℕ

-- the starter's number among the askers
abbrev pub starter : ℕ
starter = 0

-- who asked a kill
abbrev pub asker_of : Asked → ℕ
asker_of kill = kill.asker

-- a kill with its asker
abbrev pub kill_by : ℕ → KillNote → Asked
kill_by asker note = record { asker = asker; note = note }

-- one more where the log shown has exactly so many items
abbrev pub looked_after : ℕ → ℕ → ℕ
looked_after looked long = if looked == long then looked + 1 else looked

-- a kill of an asker that has a pass was taken, and the log was so long
pub record HasTakenKill (note : KillNote) (long : ℕ) (old new : ControlExecView) : Type 0 where
  pub asker : ℕ
  pub known : Contains old.askers asker
  pub taken : new ≡ record old {
    taken = old.taken ++ kill_by asker note ∷ [];
    stamps = new.stamps;
    lengths = old.lengths ++ long ∷ [];
    looked = new.looked;
  }
