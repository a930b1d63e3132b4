-- Further rows, of a limit on the calls that are pending.
use Rattle.std.specs.Prelude.{◌≡◌, pos, List, [], ◌∷◌, Some, codes}
use Rattle.act_types.specs.declared.call.Value.TheVariants.{Int}
use Rattle.act_types.specs.declared.call.Arg.TheVariants.{Plain}
use Rattle.act_types.specs.declared.call.Method.TheVariants.{Push}
use Rattle.act_rules.specs.declared.history.Submission.{Submission}
use Rattle.act_rules.specs.declared.script.KindName.TheVariants.{ListKind}
use Rattle.act_rules.specs.declared.script.Step.TheVariants.{Submit}
use Rattle.act_rules.specs.Grammar.{Script}
use Rattle.act_rules.specs.Scripts.{submissions_of}
use Rattle.act_rows.specs.ScriptRows.{Writes, SpellsPlans}

pub record PendingRows : Type 0 where
  -- a call counts until its answer is kept, though it ran
  pub counts_what_was_not_collected : Writes (
      codes "actor a1 counter max 2 c1" ∷ codes "submit c1 a1 add 1" ∷ codes "submit c1 a1 add 2" ∷
      codes "submit c1 a1 add 3" ∷ codes "send c1 0" ∷ codes "deliver 0" ∷ codes "run a1 c1" ∷
      codes "submit c1 a1 add 3" ∷ codes "collect 0" ∷ codes "submit c1 a1 add 3" ∷ []) (
      codes "0: future c1.0" ∷ codes "1: future c1.1" ∷ codes "2: refused PendingLimit" ∷ codes "3: mail 0" ∷
      codes "4: new" ∷ codes "5: place 0 reply 0" ∷ codes "6: refused PendingLimit" ∷ codes "7: kept c1.0" ∷
      codes "8: future c1.2" ∷ codes "c1.0 a1 = 1" ∷ codes "c1.1 a1 ?" ∷ codes "c1.2 a1 ?" ∷
      codes "a1 live counter 1" ∷ codes "a1.0 c1.0 add 1" ∷ [])
  -- a collected death answers what is pending, and the limit is met no more
  pub makes_room_at_the_death : Writes (
      codes "actor a1 counter max 1 c1" ∷ codes "submit c1 a1 get" ∷ codes "submit c1 a1 get @1" ∷
      codes "submit c1 a1 get" ∷ codes "kill c1 a1" ∷ codes "take a1" ∷ codes "tell a1 c1" ∷ codes "collect 0" ∷
      codes "submit c1 a1 get" ∷ []) (
      codes "0: future c1.0" ∷ codes "1: refused BadFuture" ∷ codes "2: refused PendingLimit" ∷ codes "3: asked" ∷
      codes "4: dead" ∷ codes "5: reply 0" ∷ codes "6: died 1" ∷ codes "7: future c1.1" ∷
      codes "c1.0 a1 = ActorDied" ∷ codes "c1.1 a1 = ActorDied" ∷ codes "a1 dead" ∷ [])
  -- each actor's limit counts its own calls
  pub chains_over_two_actors : Writes (
      codes "actor a1 counter max 1 c1" ∷ codes "actor a2 counter max 1 c1" ∷ codes "submit c1 a1 add 1" ∷
      codes "submit c1 a2 add @0" ∷ codes "submit c1 a1 add @1" ∷ codes "send c1 0" ∷ codes "deliver 0" ∷
      codes "run a1 c1" ∷ codes "submit c1 a1 add @1" ∷ codes "collect 0" ∷ codes "submit c1 a1 add @1" ∷
      codes "submit c1 a2 add 1" ∷ codes "send c1 1" ∷ codes "deliver 1" ∷ codes "run a2 c1" ∷ codes "collect 1" ∷
      codes "send c1 2" ∷ codes "deliver 2" ∷ codes "run a1 c1" ∷ codes "collect 2" ∷ []) (
      codes "0: future c1.0" ∷ codes "1: future c1.1" ∷ codes "2: refused PendingLimit" ∷ codes "3: mail 0" ∷
      codes "4: new" ∷ codes "5: place 0 reply 0" ∷ codes "6: refused PendingLimit" ∷ codes "7: kept c1.0" ∷
      codes "8: future c1.2" ∷ codes "9: refused PendingLimit" ∷ codes "10: mail 1" ∷ codes "11: new" ∷
      codes "12: place 0 reply 1" ∷ codes "13: kept c1.1" ∷ codes "14: mail 2" ∷ codes "15: new" ∷
      codes "16: place 1 reply 2" ∷ codes "17: kept c1.2" ∷ codes "c1.0 a1 = 1" ∷ codes "c1.1 a2 = 1" ∷
      codes "c1.2 a1 = 2" ∷ codes "a1 live counter 2" ∷ codes "a1.0 c1.0 add 1" ∷ codes "a1.1 c1.2 add 1" ∷
      codes "a2 live counter 1" ∷ codes "a2.0 c1.1 add 1" ∷ [])
  -- the limit is each caller's own; a death that wasn't collected makes no room
  pub counts_each_caller_alone : Writes (
      codes "actor a1 counter max 2 c1 c2" ∷ codes "submit c1 a1 add 1" ∷ codes "submit c1 a1 add 2" ∷
      codes "submit c1 a1 add 3" ∷ codes "submit c2 a1 add 4" ∷ codes "kill c2 a1" ∷ codes "take a1" ∷
      codes "submit c1 a1 add 3" ∷ codes "tell a1 c1" ∷ codes "submit c1 a1 add 3" ∷ codes "collect 0" ∷
      codes "submit c1 a1 add 3" ∷ codes "submit c1 a1 add 3" ∷ codes "submit c1 a1 add 3" ∷
      codes "submit c2 a1 add 4" ∷ codes "submit c2 a1 add 4" ∷ []) (
      codes "0: future c1.0" ∷ codes "1: future c1.1" ∷ codes "2: refused PendingLimit" ∷ codes "3: future c2.0" ∷
      codes "4: asked" ∷ codes "5: dead" ∷ codes "6: refused PendingLimit" ∷ codes "7: reply 0" ∷
      codes "8: refused PendingLimit" ∷ codes "9: died 2" ∷ codes "10: future c1.2" ∷ codes "11: future c1.3" ∷
      codes "12: future c1.4" ∷ codes "13: future c2.1" ∷ codes "14: refused PendingLimit" ∷
      codes "c1.0 a1 = ActorDied" ∷ codes "c1.1 a1 = ActorDied" ∷ codes "c1.2 a1 = ActorDied" ∷
      codes "c1.3 a1 = ActorDied" ∷ codes "c1.4 a1 = ActorDied" ∷ codes "c2.0 a1 ?" ∷ codes "c2.1 a1 ?" ∷
      codes "a1 dead" ∷ [])
  -- every other refusal of a submission comes before
  pub is_the_last_refusal : Writes (
      codes "actor a1 counter max 1 c1" ∷ codes "submit c1 a1 get" ∷ codes "submit c1 a1 get 1 2 3 4 5" ∷
      codes "submit c1 a1 get @1" ∷ codes "submit c1 a1 get" ∷ codes "release c1 a1" ∷ codes "submit c1 a1 get" ∷
      codes "submit c1 a2 get" ∷ codes "submit c2 a1 get" ∷ []) (
      codes "0: future c1.0" ∷ codes "1: refused TooManyArgs" ∷ codes "2: refused BadFuture" ∷
      codes "3: refused PendingLimit" ∷ codes "4: mail 0" ∷ codes "5: refused NoHandle" ∷
      codes "6: refused NoActor" ∷ codes "7: refused NoCaller" ∷ codes "c1.0 a1 ?" ∷ codes "a1 live counter 0" ∷ [])
  -- a reply that comes twice makes room once
  pub gets_no_room_by_a_late_reply : Writes (
      codes "actor a1 counter max 2 c1" ∷ codes "submit c1 a1 add 1" ∷ codes "submit c1 a1 add 2" ∷
      codes "send c1 0" ∷ codes "deliver 0" ∷ codes "run a1 c1" ∷ codes "collect 0" ∷ codes "collect 0" ∷
      codes "submit c1 a1 add 3" ∷ codes "submit c1 a1 add 4" ∷ []) (
      codes "0: future c1.0" ∷ codes "1: future c1.1" ∷ codes "2: mail 0" ∷ codes "3: new" ∷
      codes "4: place 0 reply 0" ∷ codes "5: kept c1.0" ∷ codes "6: late c1.0" ∷ codes "7: future c1.2" ∷
      codes "8: refused PendingLimit" ∷ codes "c1.0 a1 = 1" ∷ codes "c1.1 a1 ?" ∷ codes "c1.2 a1 ?" ∷
      codes "a1 live counter 1" ∷ codes "a1.0 c1.0 add 1" ∷ [])
  -- limits at the edge of the grammar
  pub limit_of_nothing : Writes (codes "actor a1 counter max 0 c1" ∷ []) (codes "line 1: BadLine" ∷ [])
  pub limit_above_all : Writes (codes "actor a1 counter max 65537 c1" ∷ []) (codes "line 1: BadLine" ∷ [])
  pub limit_with_a_zero : Writes (codes "actor a1 counter max 01 c1" ∷ []) (codes "line 1: BadLine" ∷ [])
  pub limit_without_its_number : Writes (codes "actor a1 counter max c1" ∷ []) (codes "line 1: BadLine" ∷ [])
  pub limit_alone : Writes (codes "actor a1 counter max" ∷ []) (codes "line 1: BadLine" ∷ [])
  pub limit_of_no_caller : Writes (codes "actor a1 counter max 1" ∷ []) (codes "line 1: BadLine" ∷ [])
  pub limit_twice : Writes (codes "actor a1 counter max 1 max 1 c1" ∷ []) (codes "line 1: BadLine" ∷ [])
  pub limit_after_the_callers : Writes (codes "actor a1 counter c1 max 1" ∷ []) (codes "line 1: BadLine" ∷ [])
  pub largest_limit : Writes (codes "actor a1 counter max 65536 c1" ∷ codes "submit c1 a1 get" ∷ []) (
      codes "0: future c1.0" ∷ codes "c1.0 a1 ?" ∷ codes "a1 live counter 0" ∷ [])

-- three pushes under a limit of one, as they are spelled
abbrev pub limited_plan : Script
limited_plan = record {
  roles = record { actor = 1; callers = 1 ∷ []; kind = ListKind; pending = Some 1 } ∷ [];
  events = [];
  steps =
      (1, Submit 1 Push (Plain (Int (pos 4)) ∷ []), 2) ∷
      (1, Submit 1 Push (Plain (Int (pos 5)) ∷ []), 3) ∷
      (1, Submit 1 Push (Plain (Int (pos 6)) ∷ []), 4) ∷ [];
}

-- what they submit
abbrev pub pushes : List Submission
pushes =
    record { actor = 1; method = Push; args = Plain (Int (pos 4)) ∷ [] } ∷
    record { actor = 1; method = Push; args = Plain (Int (pos 5)) ∷ [] } ∷
    record { actor = 1; method = Push; args = Plain (Int (pos 6)) ∷ [] } ∷ []

-- a plan submits all its calls, whatever the limit
pub record LimitedPlan : Type 0 where
  pub spelled : SpellsPlans (
      codes "actor a1 list max 1 c1" ∷ codes "submit c1 a1 push 4" ∷ codes "submit c1 a1 push 5" ∷
      codes "submit c1 a1 push 6" ∷ []) limited_plan
  pub submits : submissions_of 1 limited_plan ≡ pushes
