-- All lines of a run, with the passes on them.
use Rattle.std.specs.Prelude.{◌≡◌, ℕ, true, List, [], ◌∷◌, length, map, slice_get, slice_index_or, Some, Contains}
use Rattle.std.specs.List.{range_with_len}
use Rattle.act_rules.specs.History.{contains}
use Rattle.act_actor.specs.declared.cast.Cast.{Cast}
use Rattle.act_mailbox.specs.Passes.{new_putter}
use Rattle.act_mailbox.specs.Mails.{MailView}
use Rattle.act_mailbox.specs.Controls.{ControlView, starter}
use Rattle.act_mailbox.specs.Notices.{RepliesView}
use Rattle.act_tasks.specs.Each.{Each}
use Rattle.act_mailbox.specs.declared.thread.Endpoint.{Endpoint}
use Rattle.act_serve.specs.declared.turn.ExecPasses.{ExecPasses}
use Rattle.act_serve.specs.Served.{endpoint_callers}
use Rattle.act_serve.specs.Turns.{PassesFit, IsUnusedExec}
use Rattle.act_drive.specs.declared.driver.CallerPasses.{CallerPasses}
use Rattle.act_drive.specs.Driven.{IsUnusedCaller as HasUnused}
use Rattle.act_plans.specs.declared.rising.CallerSetup.{CallerSetup}
use Rattle.act_executor.specs.declared.open.Lines.{Lines}
use Rattle.act_executor.specs.declared.open.Opened.{Opened}

-- an executor's passes are new, of the lines at its place, for the callers of its cast
pub record IsExec {K : Type 0} (lines : Lines) (cast : Cast K) (endpoint : Endpoint ExecPasses) : Type 0 where
  pub fit : (m : MailView) (k : ControlView) →
      PassesFit (slice_index_or lines.mails.items endpoint.place m).line
      (slice_index_or lines.controls.items endpoint.place k).line lines.replies.items cast.actor [] endpoint.pass
  pub unused : IsUnusedExec lines.replies.items
      (endpoint_callers lines.replies.items endpoint.pass.notices.items) endpoint.pass
  pub callers : (c : ℕ) → contains c (endpoint_callers lines.replies.items endpoint.pass.notices.items)
      ≡ contains c cast.callers
  pub askers : endpoint.pass.kills.askers ≡ starter ∷ cast.callers

-- a caller's passes are new, at its own line and at lines of its actors
abbrev pub IsCaller : Lines → CallerSetup → Endpoint CallerPasses → Type 0
IsCaller lines setup endpoint = (r : RepliesView) →
    HasUnused lines.mails.items lines.controls.items
    (slice_index_or lines.replies.items endpoint.place r) setup.caller endpoint.pass

-- a caller and an actor whose cast names it have passes on each other's lines, at places i and j
pub record IsPaired (i j c : ℕ) (exec : ExecPasses) (caller : CallerPasses) : Type 0 where
  pub letters : Contains (map (λ endpoint. endpoint.place) caller.letters.items) j
  pub kills : Contains {X = ℕ × ℕ} (map (λ endpoint. (endpoint.place, endpoint.pass.number)) caller.kills.items) (j, c)
  pub notices : Contains (map (λ endpoint. endpoint.place) exec.notices.items) i

abbrev pub ArePaired : {K : Type 0} → List (Cast K) → List CallerSetup → List (Endpoint ExecPasses) →
    List (Endpoint CallerPasses) → Type 0
ArePaired {K} casts setups execs callers = (i j : ℕ) (cast : Cast K) (setup : CallerSetup) (exec : Endpoint ExecPasses)
    (caller : Endpoint CallerPasses) →
    slice_get casts j ≡ Some cast → slice_get setups i ≡ Some setup → slice_get execs j ≡ Some exec →
    slice_get callers i ≡ Some caller →
    contains setup.caller cast.callers ≡ true → IsPaired i j setup.caller exec.pass caller.pass

-- the lines stand by their actors' casts and their callers' parts
pub record AreLines {K : Type 0} (casts : List (Cast K)) (setups : List CallerSetup) (lines : Lines) : Type 0 where
  pub mails : map (λ mail. mail.actor) lines.mails.items ≡ map (λ cast. cast.actor) casts
  pub controls : map (λ control. control.actor) lines.controls.items ≡ map (λ cast. cast.actor) casts
  pub replies : map (λ line. line.caller) lines.replies.items ≡ map (λ setup. setup.caller) setups

-- the passes stand as their lines do
pub record AreAtLines (opened : Opened) : Type 0 where
  pub exec_places : map (λ exec. exec.place) opened.execs.items ≡ range_with_len 0 (length opened.execs.items)
  pub caller_places : map (λ caller. caller.place) opened.callers.items ≡ range_with_len 0 (length opened.callers.items)
  pub mails : map (λ exec. exec.pass.letters.line) opened.execs.items ≡ map (λ mail. mail.line) opened.lines.mails.items
  pub controls : map (λ exec. exec.pass.kills.line) opened.execs.items
      ≡ map (λ control. control.line) opened.lines.controls.items
  pub replies : map (λ caller. caller.pass.collects.line) opened.callers.items
      ≡ map (λ line. line.line) opened.lines.replies.items
  pub starters : opened.starters.items ≡ map (λ control. new_putter control.line starter) opened.lines.controls.items

-- the lines of a run are opened, and nothing was done with the passes
pub record AreOpened {K : Type 0} (casts : List (Cast K)) (setups : List CallerSetup) (opened : Opened) : Type 0 where
  pub lines : AreLines casts setups opened.lines
  pub at_lines : AreAtLines opened
  pub execs : Each (IsExec opened.lines) casts opened.execs.items
  pub callers : Each (IsCaller opened.lines) setups opened.callers.items
  pub paired : ArePaired casts setups opened.execs.items opened.callers.items
