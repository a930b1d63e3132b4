-- Further rows, of an end that waits its turn.
use Rattle.std.specs.Prelude.{◌≡◌, true, List, [], ◌∷◌, pos, None, Ok, codes}
use Rattle.act_types.specs.declared.call.Value.TheVariants.{Unit as Nothing, Int}
use Rattle.act_types.specs.declared.call.Arg.TheVariants.{Plain}
use Rattle.act_types.specs.declared.call.Method.TheVariants.{Add, Terminate}
use Rattle.act_types.specs.declared.call.Settled.TheVariants.{Good}
use Rattle.act_types.specs.KindState.{CounterAt}
use Rattle.act_rules.specs.declared.history.RunItem.{RunItem}
use Rattle.act_rules.specs.declared.script.KindName.TheVariants.{Counter}
use Rattle.act_rules.specs.declared.script.Step.TheVariants.{Submit}
use Rattle.act_rules.specs.Grammar.{Script}
use Rattle.act_rules.specs.RunList.{answers_from, has_terminated}
use Rattle.act_rules.specs.Scripts.{submissions_of}
use Rattle.act_rows.specs.ScriptRows.{Writes, SpellsPlans}

pub record EndRows : Type 0 where
  -- what is submitted after a terminate doesn't run, and its future dies
  pub waits_its_turn : Writes (
      codes "actor a1 counter c1" ∷ codes "submit c1 a1 add 5" ∷ codes "submit c1 a1 terminate" ∷
      codes "submit c1 a1 add 1" ∷ codes "send c1 0" ∷ codes "send c1 1" ∷ codes "send c1 2" ∷ codes "deliver 2" ∷
      codes "deliver 1" ∷ codes "deliver 0" ∷ codes "run a1 c1" ∷ codes "run a1 c1" ∷ codes "run a1 c1" ∷
      codes "collect 0" ∷ codes "collect 1" ∷ codes "tell a1 c1" ∷ codes "collect 2" ∷ []) (
      codes "0: future c1.0" ∷ codes "1: future c1.1" ∷ codes "2: future c1.2" ∷ codes "3: mail 0" ∷
      codes "4: mail 1" ∷ codes "5: mail 2" ∷ codes "6: new" ∷ codes "7: new" ∷ codes "8: new" ∷
      codes "9: place 0 reply 0" ∷ codes "10: place 1 reply 1" ∷ codes "11: refused ActorEnded" ∷
      codes "12: kept c1.0" ∷ codes "13: kept c1.1" ∷ codes "14: reply 2" ∷ codes "15: died 1" ∷
      codes "c1.0 a1 = 5" ∷ codes "c1.1 a1 = unit" ∷ codes "c1.2 a1 = ActorDied" ∷ codes "a1 dead" ∷
      codes "a1.0 c1.0 add 5" ∷ codes "a1.1 c1.1 terminate" ∷ [])
  -- with an argument a terminate is refused, and the actor lives on
  pub with_an_argument : Writes (
      codes "actor a1 counter c1" ∷ codes "submit c1 a1 terminate 1" ∷ codes "submit c1 a1 add 2" ∷
      codes "send c1 0" ∷ codes "send c1 1" ∷ codes "deliver 0" ∷ codes "deliver 1" ∷ codes "run a1 c1" ∷
      codes "run a1 c1" ∷ codes "collect 0" ∷ codes "collect 1" ∷ []) (
      codes "0: future c1.0" ∷ codes "1: future c1.1" ∷ codes "2: mail 0" ∷ codes "3: mail 1" ∷ codes "4: new" ∷
      codes "5: new" ∷ codes "6: place 0 reply 0" ∷ codes "7: place 1 reply 1" ∷ codes "8: kept c1.0" ∷
      codes "9: kept c1.1" ∷ codes "c1.0 a1 = BadArgs" ∷ codes "c1.1 a1 = 2" ∷ codes "a1 live counter 2" ∷
      codes "a1.0 c1.0 terminate 1" ∷ codes "a1.1 c1.1 add 2" ∷ [])
  -- a terminate waits for the calls before it
  pub held_by_a_gap : Writes (
      codes "actor a1 counter c1" ∷ codes "submit c1 a1 add 5" ∷ codes "submit c1 a1 terminate" ∷
      codes "send c1 0" ∷ codes "send c1 1" ∷ codes "deliver 1" ∷ codes "run a1 c1" ∷ codes "tell a1 c1" ∷
      codes "deliver 0" ∷ codes "run a1 c1" ∷ codes "run a1 c1" ∷ codes "deliver 0" ∷ codes "collect 0" ∷
      codes "collect 1" ∷ []) (
      codes "0: future c1.0" ∷ codes "1: future c1.1" ∷ codes "2: mail 0" ∷ codes "3: mail 1" ∷ codes "4: new" ∷
      codes "5: gap" ∷ codes "6: refused NotDead" ∷ codes "7: new" ∷ codes "8: place 0 reply 0" ∷
      codes "9: place 1 reply 1" ∷ codes "10: refused ActorEnded" ∷ codes "11: kept c1.0" ∷ codes "12: kept c1.1" ∷
      codes "c1.0 a1 = 5" ∷ codes "c1.1 a1 = unit" ∷ codes "a1 dead" ∷ codes "a1.0 c1.0 add 5" ∷
      codes "a1.1 c1.1 terminate" ∷ [])
  -- what another caller sent is answered by the death
  pub with_calls_of_another_held : Writes (
      codes "actor a1 counter c1 c2" ∷ codes "submit c1 a1 terminate" ∷ codes "submit c2 a1 add 1" ∷
      codes "submit c2 a1 add 2" ∷ codes "send c2 0" ∷ codes "send c2 1" ∷ codes "send c1 0" ∷ codes "deliver 0" ∷
      codes "deliver 2" ∷ codes "run a1 c1" ∷ codes "run a1 c2" ∷ codes "deliver 1" ∷ codes "tell a1 c2" ∷
      codes "tell a1 c1" ∷ codes "collect 0" ∷ codes "collect 1" ∷ codes "collect 2" ∷ codes "submit c1 a1 get" ∷
      codes "submit c2 a1 get" ∷ []) (
      codes "0: future c1.0" ∷ codes "1: future c2.0" ∷ codes "2: future c2.1" ∷ codes "3: mail 0" ∷
      codes "4: mail 1" ∷ codes "5: mail 2" ∷ codes "6: new" ∷ codes "7: new" ∷ codes "8: place 0 reply 0" ∷
      codes "9: refused ActorEnded" ∷ codes "10: refused ActorEnded" ∷ codes "11: reply 1" ∷ codes "12: reply 2" ∷
      codes "13: kept c1.0" ∷ codes "14: died 2" ∷ codes "15: died 0" ∷ codes "16: future c1.1" ∷
      codes "17: future c2.2" ∷ codes "c1.0 a1 = unit" ∷ codes "c1.1 a1 = ActorDied" ∷
      codes "c2.0 a1 = ActorDied" ∷ codes "c2.1 a1 = ActorDied" ∷ codes "c2.2 a1 = ActorDied" ∷ codes "a1 dead" ∷
      codes "a1.0 c1.0 terminate" ∷ [])
  -- a failed argument is told before one too many, and the actor lives on
  pub with_failed_arguments : Writes (
      codes "actor a1 table c1" ∷ codes "submit c1 a1 get \"x\"" ∷ codes "submit c1 a1 size" ∷ codes "send c1 0" ∷
      codes "send c1 1" ∷ codes "deliver 0" ∷ codes "deliver 1" ∷ codes "run a1 c1" ∷ codes "run a1 c1" ∷
      codes "collect 0" ∷ codes "collect 1" ∷ codes "submit c1 a1 terminate @0" ∷
      codes "submit c1 a1 terminate @1" ∷ codes "submit c1 a1 terminate 1 @0" ∷ codes "submit c1 a1 size" ∷
      codes "send c1 2" ∷ codes "send c1 3" ∷ codes "send c1 4" ∷ codes "send c1 5" ∷ codes "deliver 2" ∷
      codes "deliver 3" ∷ codes "deliver 4" ∷ codes "deliver 5" ∷ codes "run a1 c1" ∷ codes "run a1 c1" ∷
      codes "run a1 c1" ∷ codes "run a1 c1" ∷ codes "collect 2" ∷ codes "collect 3" ∷ codes "collect 4" ∷
      codes "collect 5" ∷ []) (
      codes "0: future c1.0" ∷ codes "1: future c1.1" ∷ codes "2: mail 0" ∷ codes "3: mail 1" ∷ codes "4: new" ∷
      codes "5: new" ∷ codes "6: place 0 reply 0" ∷ codes "7: place 1 reply 1" ∷ codes "8: kept c1.0" ∷
      codes "9: kept c1.1" ∷ codes "10: future c1.2" ∷ codes "11: future c1.3" ∷ codes "12: future c1.4" ∷
      codes "13: future c1.5" ∷ codes "14: mail 2" ∷ codes "15: mail 3" ∷ codes "16: mail 4" ∷ codes "17: mail 5" ∷
      codes "18: new" ∷ codes "19: new" ∷ codes "20: new" ∷ codes "21: new" ∷ codes "22: place 2 reply 2" ∷
      codes "23: place 3 reply 3" ∷ codes "24: place 4 reply 4" ∷ codes "25: place 5 reply 5" ∷
      codes "26: kept c1.2" ∷ codes "27: kept c1.3" ∷ codes "28: kept c1.4" ∷ codes "29: kept c1.5" ∷
      codes "c1.0 a1 = NoKey" ∷ codes "c1.1 a1 = 0" ∷ codes "c1.2 a1 = Dependency(0)" ∷ codes "c1.3 a1 = BadArgs" ∷
      codes "c1.4 a1 = Dependency(0)" ∷ codes "c1.5 a1 = 0" ∷ codes "a1 live table" ∷ codes "a1.0 c1.0 get \"x\"" ∷
      codes "a1.1 c1.1 size" ∷ codes "a1.2 c1.2 terminate !0" ∷ codes "a1.3 c1.3 terminate 0" ∷
      codes "a1.4 c1.4 terminate 1 !0" ∷ codes "a1.5 c1.5 size" ∷ [])
  -- a kill that was asked and not taken is met by the end
  pub before_a_kill_is_taken : Writes (
      codes "actor a1 list c1" ∷ codes "submit c1 a1 push 4" ∷ codes "submit c1 a1 terminate" ∷ codes "send c1 0" ∷
      codes "send c1 1" ∷ codes "deliver 0" ∷ codes "deliver 1" ∷ codes "kill c1 a1" ∷ codes "run a1 c1" ∷
      codes "run a1 c1" ∷ codes "take a1" ∷ codes "tell a1 c1" ∷ codes "collect 2" ∷ codes "collect 1" ∷
      codes "collect 0" ∷ []) (
      codes "0: future c1.0" ∷ codes "1: future c1.1" ∷ codes "2: mail 0" ∷ codes "3: mail 1" ∷ codes "4: new" ∷
      codes "5: new" ∷ codes "6: asked" ∷ codes "7: place 0 reply 0" ∷ codes "8: place 1 reply 1" ∷
      codes "9: refused ActorEnded" ∷ codes "10: reply 2" ∷ codes "11: died 2" ∷ codes "12: late c1.1" ∷
      codes "13: late c1.0" ∷ codes "c1.0 a1 = ActorDied" ∷ codes "c1.1 a1 = ActorDied" ∷ codes "a1 dead" ∷
      codes "a1.0 c1.0 push 4" ∷ codes "a1.1 c1.1 terminate" ∷ [])
  -- an actor that ended so doesn't retire
  pub leaves_nothing_to_retire : Writes (
      codes "actor a1 account c1" ∷ codes "submit c1 a1 terminate" ∷ codes "release c1 a1" ∷ codes "send c1 0" ∷
      codes "deliver 0" ∷ codes "deliver 1" ∷ codes "retire a1" ∷ codes "run a1 c1" ∷ codes "retire a1" ∷
      codes "deliver 0" ∷ codes "tell a1 c1" ∷ codes "collect 0" ∷ []) (
      codes "0: future c1.0" ∷ codes "1: mail 0" ∷ codes "2: mail 1" ∷ codes "3: new" ∷ codes "4: new" ∷
      codes "5: refused NotDrained" ∷ codes "6: place 0 reply 0" ∷ codes "7: refused ActorEnded" ∷
      codes "8: refused ActorEnded" ∷ codes "9: reply 1" ∷ codes "10: kept c1.0" ∷ codes "c1.0 a1 = unit" ∷
      codes "a1 dead" ∷ codes "a1.0 c1.0 terminate" ∷ [])

-- a plan that adds and then ends the actor, as it is spelled
abbrev pub ending_plan : Script
ending_plan = record {
  roles = record { actor = 1; callers = 1 ∷ []; kind = Counter; pending = None } ∷ [];
  events = [];
  steps = (1, Submit 1 Add (Plain (Int (pos 5)) ∷ []), 2) ∷ (1, Submit 1 Terminate [], 3) ∷ [];
}

-- what its actor runs
abbrev pub ended_run : List RunItem
ended_run =
    record { caller = 1; number = 0; future = 0; method = Add; args = Good (Int (pos 5)) ∷ [] } ∷
    record { caller = 1; number = 1; future = 1; method = Terminate; args = [] } ∷ []

-- such a plan, from its bytes to what is submitted, and how its run list is answered
pub record EndingPlan : Type 0 where
  pub spelled : SpellsPlans (codes "actor a1 counter c1" ∷ codes "submit c1 a1 add 5" ∷ codes "submit c1 a1 terminate" ∷ []) ending_plan
  pub submits : submissions_of 1 ending_plan ≡
      record { actor = 1; method = Add; args = Plain (Int (pos 5)) ∷ [] } ∷
      record { actor = 1; method = Terminate; args = [] } ∷ []
  pub answered : answers_from (CounterAt (pos 0)) ended_run ≡ Ok (Int (pos 5)) ∷ Ok Nothing ∷ []
  pub ended : has_terminated ended_run ≡ true
