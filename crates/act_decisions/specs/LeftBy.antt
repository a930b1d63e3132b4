-- What a history leaves, as the data says it, but for answers that are left open.
use Rattle.std.specs.Prelude.{◌≡◌, ℕ, true, false, map, slice_get, Option, Some, is_some}
use Rattle.std.specs.List.{AllZip}
use Rattle.act_rules.specs.declared.history.RunItem.{RunItem}
use Rattle.act_rules.specs.History.{History, calls_of, kept_of, runs_of, is_dead, is_retired, cast_of}
use Rattle.act_rules.specs.RunList.{Answer}
use Rattle.act_rules.specs.Submissions.{kept_at}
use Rattle.act_walks.specs.declared.told.ToldCall.{ToldCall}
use Rattle.act_walks.specs.declared.told.ToldEnd.{ToldEnd}
use Rattle.act_walks.specs.declared.told.ToldRun.{ToldRun}
use Rattle.act_walks.specs.Fits.{calls_in, rans_in, is_dead_in, is_retired_in, FitsLeft}
use Rattle.act_decisions.specs.Placed.{IsRunIn}

-- the answer is of this sort, or some answer is kept and it is left open which
abbrev pub TellsLeft : ToldCall → Option Answer → Type 0
TellsLeft call answer = (call.is_open ≡ false → FitsLeft call.left answer)
    × (call.is_open ≡ true → is_some answer ≡ true)

-- the item is the call that is told
pub record IsSameRun (run : ToldRun) (item : RunItem) : Type 0 where
  pub caller : item.caller ≡ run.caller
  pub future : item.future ≡ run.future
  pub method : item.method ≡ run.method
  pub args : item.args ≡ run.args

pub record IsLeftBy (end : ToldEnd) (h : History) : Type 0 where
  pub calls : (c : ℕ) → map (λ call. call.actor) (calls_in end c) ≡ map (λ call. call.actor) (calls_of c h)
  pub left : (c k : ℕ) (call : ToldCall) → slice_get (calls_in end c) k ≡ Some call →
      TellsLeft call (kept_at (kept_of c h) k)
  pub runs : (a : ℕ) → AllZip IsSameRun (rans_in end a) (runs_of a h)
  pub cast : (a p : ℕ) (run : ToldRun) → IsRunIn end a p run → is_some (cast_of a h) ≡ true
  pub dead : (a : ℕ) → is_dead_in end a ≡ is_dead a h
  pub retired : (a : ℕ) → is_retired_in end a ≡ is_retired a h
