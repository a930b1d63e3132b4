-- What callers and actors do, step by step.
use Rattle.std.specs.Prelude.{ℕ, ◌==◌, Bool, false, List, filter_map, Option, Some, None, if◌then◌else◌}
use Rattle.act_types.specs.declared.call.Method.{Method}
use Rattle.act_types.specs.declared.call.Arg.{Arg}
use Rattle.act_types.specs.declared.call.Packet.{Packet}
use Rattle.act_types.specs.declared.call.ReleaseNote.{ReleaseNote}
use Rattle.act_types.specs.declared.call.KillNote.{KillNote}
use Rattle.act_types.specs.declared.call.Notice.{Notice}
use Rattle.act_rules.specs.declared.history.RunItem.{RunItem}

-- who does something: a caller or an actor, by its number
pub data Site : Type 0 where
  Caller : (caller : ℕ) → Site
  Actor : (actor : ℕ) → Site

-- what is done in one step
pub data Action : Type 0 where
  -- a caller copies its handle of an actor
  Copied : (actor : ℕ) → Action
  -- it releases a copy
  Released : (actor : ℕ) → Action
  -- it submits a call to an actor
  Submitted : (actor : ℕ) (method : Method) (args : List Arg) → Action
  -- it sends a call, by its future
  Sent : (future : ℕ) → Action
  -- it collects a notice
  Noticed : (notice : Notice) → Action
  -- it asks the kill of an actor
  KillAsked : (actor : ℕ) → Action
  -- an actor takes a call
  CallTaken : (packet : Packet) → Action
  -- it takes the note of a caller's last release
  NoteTaken : (note : ReleaseNote) → Action
  -- a call runs, and its reply is to be given
  CallRun : (item : RunItem) → Action
  -- the actor takes a kill, with the number of who asked it
  KillTaken : (asker : ℕ) (note : KillNote) → Action
  -- its death is to be given to a caller
  DeathTold : (caller : ℕ) → Action
  -- it retires
  Retirement : Action

-- ---- who did what

abbrev pub is_site : Site → Site → Bool
is_site (Caller c) (Caller d) = c == d
is_site (Actor a) (Actor b) = a == b
is_site one other = false

-- the action, where this caller or actor did it
abbrev pub action_at : Site → Site × Action → Option Action
action_at site (other, action) = if is_site other site then Some action else None

-- what it did, in order
abbrev pub actions_of : Site → List (Site × Action) → List Action
actions_of site deeds = filter_map (action_at site) deeds
