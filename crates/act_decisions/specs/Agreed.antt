-- What is told of an end, as the lines tell it, one by one.
use Rattle.std.specs.Prelude.{◌≡◌, ◌++◌, ℕ, Bool, true, false, not, List, [], ◌∷◌, map, filter, Option, Some, None, option_and_then}
use Rattle.std.specs.List.{AllZip}
use Rattle.act_rules.specs.Grammar.{is_skipped, lines_in}
use Rattle.act_summaries.specs.Stems.{Kept, Nothing, Reply, Death, Any, Call, Ran, End, Stem, stems_of, Agrees, AreAgreed}
use Rattle.act_walks.specs.declared.told.Left.{Left}
use Rattle.act_walks.specs.declared.told.Left.TheVariants as left
use Rattle.act_walks.specs.declared.told.ToldActor.{ToldActor}
use Rattle.act_walks.specs.declared.told.ToldCall.{ToldCall}
use Rattle.act_walks.specs.declared.told.ToldEnd.{ToldEnd}
use Rattle.act_walks.specs.declared.told.ToldRun.{ToldRun}
use Rattle.act_walks.specs.Fits.{calls_in, actor_in}

-- ---- the calls

-- what a line tells of an answer that is left so, where it may leave open which one is kept
abbrev pub kept_told : Left → Bool → Kept
kept_told left.Open b = Nothing
kept_told left.Reply true = Any
kept_told left.Reply false = Reply
kept_told left.Death true = Any
kept_told left.Death false = Death

abbrev pub call_told : ToldCall → Call
call_told call = record { actor = call.actor; kept = kept_told call.left call.is_open }

abbrev pub calls_told : ToldEnd → ℕ → List Call
calls_told end c = map call_told (calls_in end c)

-- ---- the runs

-- a call that an actor is told to have run, with its method and its arguments
abbrev pub ran_told : ToldRun → Ran
ran_told run = record { caller = run.caller; future = run.future; words = Some (run.method, run.args) }

-- ---- the actors

-- something of an actor that some callers may call
abbrev pub of_role : List ℕ → End → Option End
of_role [] end = None
of_role (c ∷ callers) end = Some end

abbrev pub end_told : ToldActor → Option End
end_told actor = of_role actor.callers.items (record {
  dead = actor.is_dead;
  retired = actor.is_retired;
  runs = map ran_told actor.runs.items;
})

abbrev pub ends_told : ToldEnd → ℕ → Option End
ends_told end a = option_and_then end_told (actor_in end a)

-- ---- the lines

-- those that are not skipped
abbrev pub lines_told : List ℕ → List (List ℕ)
lines_told bytes = filter (λ line. not (is_skipped line)) (lines_in bytes)

-- the first of them are of these stems, one by one, and the others are left
pub record AgreeUpTo (stems : List Stem) (bytes left : List ℕ) : Type 0 where
  pub front : List (List ℕ)
  pub lines : lines_told bytes ≡ front ++ lines_told left
  pub agree : AllZip Agrees stems front

-- all of them are of the stems of what is told
abbrev pub AgreesWith : ToldEnd → List ℕ → Type 0
AgreesWith end bytes = AreAgreed (stems_of (calls_told end) (ends_told end)) bytes
