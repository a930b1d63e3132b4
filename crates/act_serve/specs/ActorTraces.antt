-- What an actor's thread did, in order and in time.
use Rattle.std.specs.Prelude.{◌≡◌, ℕ, ◌≤◌, true, false, List, [], ◌++◌, map, flat_map, slice_get, Option, Some, None, All, Contains}
use Rattle.std.specs.List.{list_any, AllZip}
use Rattle.act_types.specs.declared.call.Notice.{Notice}
use Rattle.act_types.specs.declared.call.Notice.TheVariants.{Answered, Death}
use Rattle.act_rules.specs.declared.history.RunItem.{RunItem}
use Rattle.act_mailbox.specs.declared.control.Asked.{Asked}
use Rattle.act_mailbox.specs.declared.mail.Letter.{Letter}
use Rattle.act_mailbox.specs.declared.mail.Letter.TheVariants.{Call, Note}
use Rattle.act_mailbox.specs.Notices.{RepliesView}
use Rattle.act_mailbox.specs.Traces.{clock, steps_in, found_in, IsTimed, AreTakenLater}
use Rattle.act_serve.specs.declared.turn.ExecPasses.{ExecPasses}
use Rattle.act_serve.specs.Ends.{EndView, Killed, Retired, Starved, caller_at, endpoint_callers}
use Rattle.act_rules.specs.Actions.{Action, CallTaken, NoteTaken, KillTaken, DeathTold}
use Rattle.act_actor.specs.Life.{call_run, is_retirement, ActorMayDoAll}

-- what an actor does that takes this letter
abbrev pub taking : Letter → Action
taking (Call packet) = CallTaken packet
taking (Note note) = NoteTaken note

-- the letter that it takes
abbrev pub letter_taken : Action → Option Letter
letter_taken (CallTaken packet) = Some (Call packet)
letter_taken (NoteTaken note) = Some (Note note)
letter_taken action = None

-- the kill that it takes
abbrev pub kill_taken : Action → Option Asked
kill_taken (KillTaken asker note) = Some (record { asker = asker; note = note })
kill_taken action = None

-- what the clock of an executor's thread shows, by its passes
abbrev pub exec_clock : ExecPasses → ℕ
exec_clock passes = clock (flat_map (λ endpoint. endpoint.pass.stamps) passes.notices.items)
    (passes.letters.stamps ++ passes.kills.stamps)

-- a notice to a caller was given no earlier than what it tells of: the run of the call at the reply's place, or the
-- telling of the death
abbrev pub IsGivenAfter : List (ℕ × Action) → ℕ → Notice → ℕ → Type 0
IsGivenAfter trace c (Answered reply) stamp = (n : ℕ) × (item : RunItem)
    × (slice_get (found_in call_run trace) reply.place ≡ Some (n, item)) × (n ≤ stamp)
IsGivenAfter trace c (Death a) stamp = (n : ℕ) × Contains trace (n, DeathTold c) × (n ≤ stamp)

-- these are the steps of an actor with this log and these passes, each with the clock's number at its time
pub record IsActorTrace (a : ℕ) (lines : List RepliesView) (log : List RunItem) (passes : ExecPasses)
    (trace : List (ℕ × Action)) : Type 0 where
  pub timed : IsTimed (exec_clock passes) trace
  pub allowed : ActorMayDoAll a (endpoint_callers lines passes.notices.items) [] (steps_in trace)
  pub letters : map (λ x. x.1) (found_in letter_taken trace) ≡ passes.letters.taken
  pub letters_later : AreTakenLater (found_in letter_taken trace) passes.letters.stamps
  pub kills : map (λ x. x.1) (found_in kill_taken trace) ≡ passes.kills.taken
  pub kills_later : AreTakenLater (found_in kill_taken trace) passes.kills.stamps
  pub runs : map (λ x. x.1) (found_in call_run trace) ≡ log
  pub given : All (λ endpoint. AllZip (IsGivenAfter trace (caller_at lines endpoint.place))
      endpoint.pass.given endpoint.pass.stamps) passes.notices.items

-- an actor that was refused no memory did some such steps, and retired in one of them exactly where it is retired
abbrev pub IsActorTraced : ℕ → List RepliesView → EndView → ExecPasses → Type 0
IsActorTraced a lines (Killed dead) passes = (trace : List (ℕ × Action))
    × IsActorTrace a lines dead.log passes trace × (list_any is_retirement (steps_in trace) ≡ false)
IsActorTraced a lines (Retired retired) passes = (trace : List (ℕ × Action))
    × IsActorTrace a lines retired.log passes trace × (list_any is_retirement (steps_in trace) ≡ true)
IsActorTraced a lines (Starved dead) passes = Unit {0}
