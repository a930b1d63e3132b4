-- The worked rows as scripts: what they write, from bytes to bytes.
use Rattle.std.specs.Prelude.{ℕ, ◌≡◌, ◌<◌, List, [], ◌∷◌, length, None, Ok, Err, codes, pos}
use Rattle.act_types.specs.declared.limits.TheConstants.{MAX_ACTORS, MAX_CALLERS}
use Rattle.act_types.specs.declared.call.Arg.TheVariants.{Plain, Fut}
use Rattle.act_types.specs.declared.call.Method.TheVariants.{Put, Get, Deposit, Withdraw}
use Rattle.act_types.specs.declared.call.Value.TheVariants.{Int, Text}
use Rattle.act_rules.specs.declared.script.KindName.TheVariants.{Counter, Table, Account}
use Rattle.act_rules.specs.declared.script.Step.TheVariants.{Submit, Copy, Kill}
use Rattle.act_rules.specs.declared.script.Wrong.{Wrong}
use Rattle.act_rules.specs.declared.script.Wrong.TheVariants.{BadPlan, TooMany}
use Rattle.act_rules.specs.Report.{line}
use Rattle.act_rules.specs.Plans.{kills_to}
use Rattle.act_rules.specs.Grammar.{Script}
use Rattle.act_rules.specs.Scripts.{output_of, spelled_plans, submissions_of}
use Rattle.act_rows.specs.Rows.{lines_text, one_call_report, reversed_report, repeated_report, lost_report, earlier_call_waits_report}
use Rattle.act_rows.specs.Rows.{another_caller_passes_report, failed_argument_report, one_packet_for_good_report, ran_and_yet_died_report}
use Rattle.act_rows.specs.Rows.{kill_with_held_calls_report, known_dead_report, refused_submissions_report, release_and_retire_report, nothing_there_report}

-- the script of these lines writes those
abbrev pub Writes : List (List ℕ) → List (List ℕ) → Type 0
Writes script lines = output_of (lines_text script) ≡ lines_text lines

-- in threads that serve every caller and every actor the script of these lines spells these plans
abbrev pub SpellsPlans : List (List ℕ) → Script → Type 0
SpellsPlans script plans = spelled_plans MAX_CALLERS MAX_ACTORS (lines_text script) ≡ Ok plans

-- in such threads the script of these lines has this fault
abbrev pub HasFault : List (List ℕ) → ℕ × Wrong → Type 0
HasFault script fault = spelled_plans MAX_CALLERS MAX_ACTORS (lines_text script) ≡ Err fault

-- empty
abbrev pub Empty : Type 0
Empty = Writes (
    []) (
    [])

-- one call
abbrev pub OneCall : Type 0
OneCall = Writes (
    codes "actor a1 counter c1" ∷ codes "submit c1 a1 add 5" ∷ codes "send c1 0" ∷ codes "deliver 0" ∷
    codes "run a1 c1" ∷ codes "collect 0" ∷ []) one_call_report

-- reversed
abbrev pub Reversed : Type 0
Reversed = Writes (
    codes "actor a1 counter c1" ∷ codes "submit c1 a1 add 1" ∷ codes "submit c1 a1 add 2" ∷
    codes "submit c1 a1 add 3" ∷ codes "send c1 0" ∷ codes "send c1 1" ∷ codes "send c1 2" ∷ codes "deliver 2" ∷
    codes "run a1 c1" ∷ codes "deliver 1" ∷ codes "run a1 c1" ∷ codes "deliver 0" ∷ codes "run a1 c1" ∷
    codes "run a1 c1" ∷ codes "run a1 c1" ∷ []) reversed_report

-- repeated
abbrev pub Repeated : Type 0
Repeated = Writes (
    codes "actor a1 counter c1" ∷ codes "submit c1 a1 add 5" ∷ codes "send c1 0" ∷ codes "deliver 0" ∷
    codes "deliver 0" ∷ codes "run a1 c1" ∷ codes "deliver 0" ∷ codes "run a1 c1" ∷ []) repeated_report

-- lost
abbrev pub Lost : Type 0
Lost = Writes (
    codes "actor a1 counter c1" ∷ codes "submit c1 a1 add 1" ∷ codes "submit c1 a1 add 2" ∷
    codes "submit c1 a1 add 3" ∷ codes "send c1 0" ∷ codes "send c1 1" ∷ codes "send c1 2" ∷ codes "deliver 0" ∷
    codes "deliver 2" ∷ codes "run a1 c1" ∷ codes "run a1 c1" ∷ codes "run a1 c1" ∷ []) lost_report

-- an earlier call waits
abbrev pub EarlierCallWaits : Type 0
EarlierCallWaits = Writes (
    codes "actor a1 counter c1 c2" ∷ codes "actor a2 counter c1" ∷ codes "submit c1 a2 add 7" ∷
    codes "submit c1 a1 add @0" ∷ codes "submit c1 a1 add 1" ∷ codes "send c1 1" ∷ codes "send c1 2" ∷
    codes "deliver 0" ∷ codes "run a1 c1" ∷ []) earlier_call_waits_report

-- another caller passes
abbrev pub AnotherCallerPasses : Type 0
AnotherCallerPasses = Writes (
    codes "actor a1 counter c1 c2" ∷ codes "actor a2 counter c1" ∷ codes "submit c1 a2 add 7" ∷
    codes "submit c1 a1 add @0" ∷ codes "submit c1 a1 add 1" ∷ codes "send c1 1" ∷ codes "send c1 2" ∷
    codes "deliver 0" ∷ codes "run a1 c1" ∷ codes "submit c2 a1 add 100" ∷ codes "send c2 0" ∷
    codes "deliver 1" ∷ codes "run a1 c2" ∷ codes "send c1 0" ∷ codes "deliver 2" ∷ codes "run a2 c1" ∷
    codes "collect 1" ∷ codes "send c1 1" ∷ codes "deliver 3" ∷ codes "run a1 c1" ∷ codes "run a1 c1" ∷
    codes "collect 0" ∷ codes "collect 2" ∷ codes "collect 3" ∷ []) another_caller_passes_report

-- failed argument
abbrev pub FailedArgument : Type 0
FailedArgument = Writes (
    codes "actor a1 table c1" ∷ codes "submit c1 a1 get \"x\"" ∷ codes "send c1 0" ∷ codes "deliver 0" ∷
    codes "run a1 c1" ∷ codes "collect 0" ∷ codes "submit c1 a1 put \"y\" @0" ∷ codes "submit c1 a1 size" ∷
    codes "send c1 1" ∷ codes "send c1 2" ∷ codes "deliver 2" ∷ codes "run a1 c1" ∷ codes "deliver 1" ∷
    codes "run a1 c1" ∷ codes "run a1 c1" ∷ codes "collect 1" ∷ codes "collect 2" ∷ []) failed_argument_report

-- one packet for good
abbrev pub OnePacketForGood : Type 0
OnePacketForGood = Writes (
    codes "actor a1 counter c1" ∷ codes "actor a2 list c1" ∷ codes "submit c1 a1 add 5" ∷
    codes "submit c1 a2 push @0" ∷ codes "send c1 0" ∷ codes "deliver 0" ∷ codes "run a1 c1" ∷
    codes "kill c1 a1" ∷ codes "take a1" ∷ codes "tell a1 c1" ∷ codes "collect 1" ∷ codes "send c1 1" ∷
    codes "collect 0" ∷ codes "send c1 1" ∷ codes "deliver 2" ∷ codes "deliver 1" ∷ codes "run a2 c1" ∷
    codes "collect 2" ∷ []) one_packet_for_good_report

-- ran and yet died
abbrev pub RanAndYetDied : Type 0
RanAndYetDied = Writes (
    codes "actor a1 counter c1" ∷ codes "submit c1 a1 add 5" ∷ codes "send c1 0" ∷ codes "deliver 0" ∷
    codes "run a1 c1" ∷ codes "kill c1 a1" ∷ codes "take a1" ∷ codes "tell a1 c1" ∷ codes "collect 1" ∷
    codes "collect 0" ∷ []) ran_and_yet_died_report

-- kill with held calls
abbrev pub KillWithHeldCalls : Type 0
KillWithHeldCalls = Writes (
    codes "actor a1 counter c1" ∷ codes "submit c1 a1 add 1" ∷ codes "submit c1 a1 add 2" ∷
    codes "submit c1 a1 add 3" ∷ codes "submit c1 a1 add 4" ∷ codes "send c1 0" ∷ codes "send c1 1" ∷
    codes "send c1 2" ∷ codes "send c1 3" ∷ codes "deliver 0" ∷ codes "run a1 c1" ∷ codes "deliver 2" ∷
    codes "deliver 3" ∷ codes "kill c1 a1" ∷ codes "take a1" ∷ codes "deliver 1" ∷ codes "run a1 c1" ∷
    codes "take a1" ∷ codes "retire a1" ∷ codes "tell a1 c1" ∷ codes "collect 1" ∷ []) kill_with_held_calls_report

-- known dead
abbrev pub KnownDead : Type 0
KnownDead = Writes (
    codes "actor a1 counter c1" ∷ codes "kill c1 a1" ∷ codes "tell a1 c1" ∷ codes "take a1" ∷
    codes "tell a1 c1" ∷ codes "collect 0" ∷ codes "submit c1 a1 get" ∷ codes "send c1 0" ∷
    codes "release c1 a1" ∷ codes "submit c1 a1 get" ∷ codes "kill c1 a1" ∷ codes "deliver 0" ∷ []) known_dead_report

-- largest number
abbrev pub LargestNumber : Type 0
LargestNumber = Writes (
    codes "actor a1 counter c1" ∷ codes "submit c1 a1 add 9223372036854775807" ∷ codes "submit c1 a1 add 1" ∷
    codes "submit c1 a1 get" ∷ codes "send c1 0" ∷ codes "send c1 1" ∷ codes "send c1 2" ∷ codes "deliver 0" ∷
    codes "deliver 1" ∷ codes "deliver 2" ∷ codes "run a1 c1" ∷ codes "run a1 c1" ∷ codes "run a1 c1" ∷
    codes "collect 0" ∷ codes "collect 1" ∷ codes "collect 2" ∷ []) (
    codes "0: future c1.0" ∷ codes "1: future c1.1" ∷ codes "2: future c1.2" ∷ codes "3: mail 0" ∷
    codes "4: mail 1" ∷ codes "5: mail 2" ∷ codes "6: new" ∷ codes "7: new" ∷ codes "8: new" ∷
    codes "9: place 0 reply 0" ∷ codes "10: place 1 reply 1" ∷ codes "11: place 2 reply 2" ∷
    codes "12: kept c1.0" ∷ codes "13: kept c1.1" ∷ codes "14: kept c1.2" ∷
    codes "c1.0 a1 = 9223372036854775807" ∷ codes "c1.1 a1 = Overflow" ∷ codes "c1.2 a1 = 9223372036854775807" ∷
    codes "a1 live counter 9223372036854775807" ∷ codes "a1.0 c1.0 add 9223372036854775807" ∷
    codes "a1.1 c1.1 add 1" ∷ codes "a1.2 c1.2 get" ∷ [])

-- refused submissions
abbrev pub RefusedSubmissions : Type 0
RefusedSubmissions = Writes (
    codes "actor a1 counter c1" ∷ codes "submit c1 a1 add @0" ∷ codes "submit c1 a1 add 1 2 3 4 5" ∷
    codes "submit c1 a2 get" ∷ codes "submit c2 a1 get" ∷ codes "submit c1 a1 add 1 2" ∷ codes "send c1 0" ∷
    codes "deliver 0" ∷ codes "run a1 c1" ∷ codes "collect 0" ∷ []) refused_submissions_report

-- release and retire
abbrev pub ReleaseAndRetire : Type 0
ReleaseAndRetire = Writes (
    codes "actor a1 counter c1" ∷ codes "submit c1 a1 add 2" ∷ codes "send c1 0" ∷ codes "copy c1 a1" ∷
    codes "release c1 a1" ∷ codes "release c1 a1" ∷ codes "retire a1" ∷ codes "deliver 1" ∷ codes "retire a1" ∷
    codes "deliver 1" ∷ codes "deliver 0" ∷ codes "retire a1" ∷ codes "run a1 c1" ∷ codes "retire a1" ∷
    codes "deliver 0" ∷ codes "collect 0" ∷ []) release_and_retire_report

-- nothing there
abbrev pub NothingThere : Type 0
NothingThere = Writes (
    codes "actor a1 counter c1" ∷ codes "deliver 0" ∷ codes "collect 0" ∷ codes "take a1" ∷ codes "send c1 0" ∷
    codes "run a1 c1" ∷ codes "run a2 c1" ∷ codes "run a1 c2" ∷ codes "tell a1 c1" ∷ []) nothing_there_report

-- a table
abbrev pub TableScript : Type 0
TableScript = Writes (
    codes "actor a1 table c1" ∷ codes "submit c1 a1 put \"k\" 5" ∷ codes "submit c1 a1 get \"k\"" ∷
    codes "send c1 0" ∷ codes "send c1 1" ∷ codes "deliver 1" ∷ codes "deliver 0" ∷ codes "run a1 c1" ∷
    codes "run a1 c1" ∷ codes "collect 1" ∷ codes "collect 0" ∷ []) (
    codes "0: future c1.0" ∷ codes "1: future c1.1" ∷ codes "2: mail 0" ∷ codes "3: mail 1" ∷ codes "4: new" ∷
    codes "5: new" ∷ codes "6: place 0 reply 0" ∷ codes "7: place 1 reply 1" ∷ codes "8: kept c1.1" ∷
    codes "9: kept c1.0" ∷ codes "c1.0 a1 = unit" ∷ codes "c1.1 a1 = 5" ∷ codes "a1 live table \"k\" 5" ∷
    codes "a1.0 c1.0 put \"k\" 5" ∷ codes "a1.1 c1.1 get \"k\"" ∷ [])

-- a number with a leading zero
abbrev pub LeadingZero : Type 0
LeadingZero = Writes (
    codes "actor a1 counter c1" ∷ codes "submit c1 a1 add 05" ∷ []) (
    codes "line 2: BadLine" ∷ [])

-- a role without a caller
abbrev pub RoleWithoutCaller : Type 0
RoleWithoutCaller = Writes (
    codes "actor a1 counter" ∷ []) (
    codes "line 1: BadLine" ∷ [])

-- a role after an event
abbrev pub RoleAfterEvent : Type 0
RoleAfterEvent = Writes (
    codes "actor a1 counter c1" ∷ codes "take a1" ∷ codes "actor a2 list c1" ∷ []) (
    codes "line 3: LateActor" ∷ [])

-- an actor with two roles
abbrev pub RoleTwice : Type 0
RoleTwice = Writes (
    codes "actor a1 counter c1" ∷ codes "actor a1 list c1" ∷ []) (
    codes "line 2: TwiceActor" ∷ [])

-- a caller twice in a role
abbrev pub CallerTwice : Type 0
CallerTwice = Writes (
    codes "actor a1 counter c1 c1" ∷ []) (
    codes "line 1: TwiceCaller" ∷ [])

-- a step of threads among events
abbrev pub StepOfThreads : Type 0
StepOfThreads = Writes (
    codes "actor a1 counter c1" ∷ codes "await c1 0" ∷ []) (
    codes "line 2: BadLine" ∷ [])

-- a script that is too long
abbrev pub TooLongScript : Type 0
TooLongScript = (bytes : List ℕ) → 1048576 < length bytes → output_of bytes ≡ line (codes "line 0: TooLong")

-- a submission after the release of the handle
abbrev pub SubmitAfterRelease : Type 0
SubmitAfterRelease = HasFault (codes "actor a1 counter c1" ∷ codes "release c1 a1" ∷ codes "submit c1 a1 get" ∷ []) (3, BadPlan)

-- a role of three callers
abbrev pub three_callers : List (List ℕ)
three_callers = codes "actor a1 counter c1 c2 c3" ∷ []

-- more callers than threads serve, where these serve two callers and two actors
abbrev pub TooManyCallers : Type 0
TooManyCallers = spelled_plans 2 2 (lines_text three_callers) ≡ Err (0, TooMany)

-- threads that serve every caller take the same script
abbrev pub ThreeCallers : Type 0
ThreeCallers = SpellsPlans three_callers (record {
  roles = record { actor = 1; callers = 1 ∷ 2 ∷ 3 ∷ []; kind = Counter; pending = None } ∷ [];
  events = [];
  steps = [];
})

-- two callers, each with an actor of its own
abbrev pub two_plans : List (List ℕ)
two_plans =
    codes "actor a1 table c1 c2" ∷ codes "actor a2 account c2" ∷ codes "submit c1 a1 put \"k\" 5" ∷
    codes "submit c1 a1 get \"k\"" ∷ codes "submit c2 a2 deposit 10" ∷ codes "submit c2 a2 withdraw @0" ∷ []

-- what they spell: the roles, and each step with its caller and its line
abbrev pub two_plans_spelled : Script
two_plans_spelled = record {
  roles =
      record { actor = 1; callers = 1 ∷ 2 ∷ []; kind = Table; pending = None } ∷
      record { actor = 2; callers = 2 ∷ []; kind = Account; pending = None } ∷ [];
  events = [];
  steps =
      (1, Submit 1 Put (Plain (Text (codes "k")) ∷ Plain (Int (pos 5)) ∷ []), 3) ∷
      (1, Submit 1 Get (Plain (Text (codes "k")) ∷ []), 4) ∷
      (2, Submit 2 Deposit (Plain (Int (pos 10)) ∷ []), 5) ∷
      (2, Submit 2 Withdraw (Fut 0 ∷ []), 6) ∷ [];
}

-- two plans, from their bytes to what each caller submits
pub record TwoPlans : Type 0 where
  pub spelled : SpellsPlans two_plans two_plans_spelled
  pub first_submits : submissions_of 1 two_plans_spelled ≡
      record { actor = 1; method = Put; args = Plain (Text (codes "k")) ∷ Plain (Int (pos 5)) ∷ [] } ∷
      record { actor = 1; method = Get; args = Plain (Text (codes "k")) ∷ [] } ∷ []
  pub second_submits : submissions_of 2 two_plans_spelled ≡
      record { actor = 2; method = Deposit; args = Plain (Int (pos 10)) ∷ [] } ∷
      record { actor = 2; method = Withdraw; args = Fut 0 ∷ [] } ∷ []

-- the kills of one actor among a plan's steps
abbrev pub KillsOfOneActor : Type 0
KillsOfOneActor = kills_to 1 (Kill 1 ∷ Submit 1 Get [] ∷ Kill 2 ∷ Copy 1 ∷ Kill 1 ∷ []) ≡ 2
