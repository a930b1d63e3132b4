-- The worked rows: what a list of events reports, line by line.
use Rattle.std.specs.Prelude.{ℕ, ◌≡◌, pos, List, [], ◌∷◌, flat_map, None, codes}
use Rattle.act_types.specs.declared.call.Value.TheVariants.{Int, Text}
use Rattle.act_types.specs.declared.call.Arg.{Arg}
use Rattle.act_types.specs.declared.call.Arg.TheVariants.{Plain, Fut}
use Rattle.act_types.specs.declared.call.Method.TheVariants.{Add, Get, Put, Size, Push, Deposit, Withdraw}
use Rattle.act_rules.specs.declared.event.Event.{Event}
use Rattle.act_rules.specs.declared.event.Event.TheVariants.{Submit, Copy, Release, Send, Deliver, Run, Collect, AskKill, TakeKill, Tell, Retire}
use Rattle.act_types.specs.KindState.{CounterAt, TableOf, AccountAt, ItemsOf}
use Rattle.act_rules.specs.History.{ActorSpec, opening}
use Rattle.act_rules.specs.Rules.{after_all}
use Rattle.act_rules.specs.Report.{line, report, summary}

abbrev pub number : ℕ → Arg
number n = Plain (Int (pos n))

-- the lines of a text, each with its end
abbrev pub lines_text : List (List ℕ) → List ℕ
lines_text lines = flat_map line lines

-- the events, in a world of these actors, report these lines
abbrev pub Reports : List ActorSpec → List Event → List (List ℕ) → Type 0
Reports casts events lines = report (opening casts) events ≡ lines_text lines

-- the events, in a world of these actors, leave this summary
abbrev pub Leaves : List ActorSpec → List Event → List (List ℕ) → Type 0
Leaves casts events lines = summary (after_all (opening casts) events) ≡ lines_text lines

-- the report of one call
abbrev pub one_call_report : List (List ℕ)
one_call_report =
    codes "0: future c1.0" ∷ codes "1: mail 0" ∷ codes "2: new" ∷ codes "3: place 0 reply 0" ∷
    codes "4: kept c1.0" ∷ codes "c1.0 a1 = 5" ∷ codes "a1 live counter 5" ∷ codes "a1.0 c1.0 add 5" ∷ []

-- one call
abbrev pub OneCall : Type 0
OneCall = Reports (
    record { actor = 1; callers = 1 ∷ []; opening = CounterAt (pos 0); pending = None } ∷ []) (
    Submit 1 1 Add (number 5 ∷ []) ∷ Send 1 0 ∷ Deliver 0 ∷ Run 1 1 ∷ Collect 0 ∷ []) one_call_report

-- the report of reversed
abbrev pub reversed_report : List (List ℕ)
reversed_report =
    codes "0: future c1.0" ∷ codes "1: future c1.1" ∷ codes "2: future c1.2" ∷ codes "3: mail 0" ∷
    codes "4: mail 1" ∷ codes "5: mail 2" ∷ codes "6: new" ∷ codes "7: gap" ∷ codes "8: new" ∷ codes "9: gap" ∷
    codes "10: new" ∷ codes "11: place 0 reply 0" ∷ codes "12: place 1 reply 1" ∷ codes "13: place 2 reply 2" ∷
    codes "c1.0 a1 ?" ∷ codes "c1.1 a1 ?" ∷ codes "c1.2 a1 ?" ∷ codes "a1 live counter 6" ∷
    codes "a1.0 c1.0 add 1" ∷ codes "a1.1 c1.1 add 2" ∷ codes "a1.2 c1.2 add 3" ∷ []

-- reversed
abbrev pub Reversed : Type 0
Reversed = Reports (
    record { actor = 1; callers = 1 ∷ []; opening = CounterAt (pos 0); pending = None } ∷ []) (
    Submit 1 1 Add (number 1 ∷ []) ∷ Submit 1 1 Add (number 2 ∷ []) ∷ Submit 1 1 Add (number 3 ∷ []) ∷ Send 1 0 ∷
    Send 1 1 ∷ Send 1 2 ∷ Deliver 2 ∷ Run 1 1 ∷ Deliver 1 ∷ Run 1 1 ∷ Deliver 0 ∷ Run 1 1 ∷ Run 1 1 ∷ Run 1 1 ∷ []) reversed_report

-- the report of repeated
abbrev pub repeated_report : List (List ℕ)
repeated_report =
    codes "0: future c1.0" ∷ codes "1: mail 0" ∷ codes "2: new" ∷ codes "3: repeat" ∷
    codes "4: place 0 reply 0" ∷ codes "5: repeat" ∷ codes "6: gap" ∷ codes "c1.0 a1 ?" ∷
    codes "a1 live counter 5" ∷ codes "a1.0 c1.0 add 5" ∷ []

-- repeated
abbrev pub Repeated : Type 0
Repeated = Reports (
    record { actor = 1; callers = 1 ∷ []; opening = CounterAt (pos 0); pending = None } ∷ []) (
    Submit 1 1 Add (number 5 ∷ []) ∷ Send 1 0 ∷ Deliver 0 ∷ Deliver 0 ∷ Run 1 1 ∷ Deliver 0 ∷ Run 1 1 ∷ []) repeated_report

-- the report of lost
abbrev pub lost_report : List (List ℕ)
lost_report =
    codes "0: future c1.0" ∷ codes "1: future c1.1" ∷ codes "2: future c1.2" ∷ codes "3: mail 0" ∷
    codes "4: mail 1" ∷ codes "5: mail 2" ∷ codes "6: new" ∷ codes "7: new" ∷ codes "8: place 0 reply 0" ∷
    codes "9: gap" ∷ codes "10: gap" ∷ codes "c1.0 a1 ?" ∷ codes "c1.1 a1 ?" ∷ codes "c1.2 a1 ?" ∷
    codes "a1 live counter 1" ∷ codes "a1.0 c1.0 add 1" ∷ []

-- lost
abbrev pub Lost : Type 0
Lost = Reports (
    record { actor = 1; callers = 1 ∷ []; opening = CounterAt (pos 0); pending = None } ∷ []) (
    Submit 1 1 Add (number 1 ∷ []) ∷ Submit 1 1 Add (number 2 ∷ []) ∷ Submit 1 1 Add (number 3 ∷ []) ∷ Send 1 0 ∷
    Send 1 1 ∷ Send 1 2 ∷ Deliver 0 ∷ Deliver 2 ∷ Run 1 1 ∷ Run 1 1 ∷ Run 1 1 ∷ []) lost_report

-- the report of earlier call waits
abbrev pub earlier_call_waits_report : List (List ℕ)
earlier_call_waits_report =
    codes "0: future c1.0" ∷ codes "1: future c1.1" ∷ codes "2: future c1.2" ∷ codes "3: refused NotReady" ∷
    codes "4: mail 0" ∷ codes "5: new" ∷ codes "6: gap" ∷ codes "c1.0 a2 ?" ∷ codes "c1.1 a1 ?" ∷
    codes "c1.2 a1 ?" ∷ codes "a1 live counter 0" ∷ codes "a2 live counter 0" ∷ []

-- an earlier call waits
abbrev pub EarlierCallWaits : Type 0
EarlierCallWaits = Reports (
    record { actor = 1; callers = 1 ∷ 2 ∷ []; opening = CounterAt (pos 0); pending = None } ∷
    record { actor = 2; callers = 1 ∷ []; opening = CounterAt (pos 0); pending = None } ∷ []) (
    Submit 1 2 Add (number 7 ∷ []) ∷ Submit 1 1 Add (Fut 0 ∷ []) ∷ Submit 1 1 Add (number 1 ∷ []) ∷ Send 1 1 ∷
    Send 1 2 ∷ Deliver 0 ∷ Run 1 1 ∷ []) earlier_call_waits_report

-- the report of another caller passes
abbrev pub another_caller_passes_report : List (List ℕ)
another_caller_passes_report =
    codes "0: future c1.0" ∷ codes "1: future c1.1" ∷ codes "2: future c1.2" ∷ codes "3: refused NotReady" ∷
    codes "4: mail 0" ∷ codes "5: new" ∷ codes "6: gap" ∷ codes "7: future c2.0" ∷ codes "8: mail 1" ∷
    codes "9: new" ∷ codes "10: place 0 reply 0" ∷ codes "11: mail 2" ∷ codes "12: new" ∷
    codes "13: place 0 reply 1" ∷ codes "14: kept c1.0" ∷ codes "15: mail 3" ∷ codes "16: new" ∷
    codes "17: place 1 reply 2" ∷ codes "18: place 2 reply 3" ∷ codes "19: kept c2.0" ∷ codes "20: kept c1.1" ∷
    codes "21: kept c1.2" ∷ codes "c1.0 a2 = 7" ∷ codes "c1.1 a1 = 107" ∷ codes "c1.2 a1 = 108" ∷
    codes "c2.0 a1 = 100" ∷ codes "a1 live counter 108" ∷ codes "a1.0 c2.0 add 100" ∷ codes "a1.1 c1.1 add 7" ∷
    codes "a1.2 c1.2 add 1" ∷ codes "a2 live counter 7" ∷ codes "a2.0 c1.0 add 7" ∷ []

-- another caller passes
abbrev pub AnotherCallerPasses : Type 0
AnotherCallerPasses = Reports (
    record { actor = 1; callers = 1 ∷ 2 ∷ []; opening = CounterAt (pos 0); pending = None } ∷
    record { actor = 2; callers = 1 ∷ []; opening = CounterAt (pos 0); pending = None } ∷ []) (
    Submit 1 2 Add (number 7 ∷ []) ∷ Submit 1 1 Add (Fut 0 ∷ []) ∷ Submit 1 1 Add (number 1 ∷ []) ∷ Send 1 1 ∷
    Send 1 2 ∷ Deliver 0 ∷ Run 1 1 ∷ Submit 2 1 Add (number 100 ∷ []) ∷ Send 2 0 ∷ Deliver 1 ∷ Run 1 2 ∷
    Send 1 0 ∷ Deliver 2 ∷ Run 2 1 ∷ Collect 1 ∷ Send 1 1 ∷ Deliver 3 ∷ Run 1 1 ∷ Run 1 1 ∷ Collect 0 ∷
    Collect 2 ∷ Collect 3 ∷ []) another_caller_passes_report

-- the report of failed argument
abbrev pub failed_argument_report : List (List ℕ)
failed_argument_report =
    codes "0: future c1.0" ∷ codes "1: mail 0" ∷ codes "2: new" ∷ codes "3: place 0 reply 0" ∷
    codes "4: kept c1.0" ∷ codes "5: future c1.1" ∷ codes "6: future c1.2" ∷ codes "7: mail 1" ∷
    codes "8: mail 2" ∷ codes "9: new" ∷ codes "10: gap" ∷ codes "11: new" ∷ codes "12: place 1 reply 1" ∷
    codes "13: place 2 reply 2" ∷ codes "14: kept c1.1" ∷ codes "15: kept c1.2" ∷ codes "c1.0 a1 = NoKey" ∷
    codes "c1.1 a1 = Dependency(0)" ∷ codes "c1.2 a1 = 0" ∷ codes "a1 live table" ∷ codes "a1.0 c1.0 get \"x\"" ∷
    codes "a1.1 c1.1 put \"y\" !0" ∷ codes "a1.2 c1.2 size" ∷ []

-- failed argument
abbrev pub FailedArgument : Type 0
FailedArgument = Reports (
    record { actor = 1; callers = 1 ∷ []; opening = TableOf []; pending = None } ∷ []) (
    Submit 1 1 Get (Plain (Text (codes "x")) ∷ []) ∷ Send 1 0 ∷ Deliver 0 ∷ Run 1 1 ∷ Collect 0 ∷
    Submit 1 1 Put (Plain (Text (codes "y")) ∷ Fut 0 ∷ []) ∷ Submit 1 1 Size [] ∷ Send 1 1 ∷ Send 1 2 ∷
    Deliver 2 ∷ Run 1 1 ∷ Deliver 1 ∷ Run 1 1 ∷ Run 1 1 ∷ Collect 1 ∷ Collect 2 ∷ []) failed_argument_report

-- the report of one packet for good
abbrev pub one_packet_for_good_report : List (List ℕ)
one_packet_for_good_report =
    codes "0: future c1.0" ∷ codes "1: future c1.1" ∷ codes "2: mail 0" ∷ codes "3: new" ∷
    codes "4: place 0 reply 0" ∷ codes "5: asked" ∷ codes "6: dead" ∷ codes "7: reply 1" ∷ codes "8: died 1" ∷
    codes "9: mail 1" ∷ codes "10: late c1.0" ∷ codes "11: mail 2" ∷ codes "12: new" ∷ codes "13: repeat" ∷
    codes "14: place 0 reply 2" ∷ codes "15: kept c1.1" ∷ codes "c1.0 a1 = ActorDied" ∷
    codes "c1.1 a2 = Dependency(0)" ∷ codes "a1 dead" ∷ codes "a1.0 c1.0 add 5" ∷ codes "a2 live list" ∷
    codes "a2.0 c1.1 push !0" ∷ []

-- one packet for good
abbrev pub OnePacketForGood : Type 0
OnePacketForGood = Reports (
    record { actor = 1; callers = 1 ∷ []; opening = CounterAt (pos 0); pending = None } ∷
    record { actor = 2; callers = 1 ∷ []; opening = ItemsOf []; pending = None } ∷ []) (
    Submit 1 1 Add (number 5 ∷ []) ∷ Submit 1 2 Push (Fut 0 ∷ []) ∷ Send 1 0 ∷ Deliver 0 ∷ Run 1 1 ∷
    AskKill 1 1 ∷ TakeKill 1 ∷ Tell 1 1 ∷ Collect 1 ∷ Send 1 1 ∷ Collect 0 ∷ Send 1 1 ∷ Deliver 2 ∷ Deliver 1 ∷
    Run 2 1 ∷ Collect 2 ∷ []) one_packet_for_good_report

-- the report of ran and yet died
abbrev pub ran_and_yet_died_report : List (List ℕ)
ran_and_yet_died_report =
    codes "0: future c1.0" ∷ codes "1: mail 0" ∷ codes "2: new" ∷ codes "3: place 0 reply 0" ∷ codes "4: asked" ∷
    codes "5: dead" ∷ codes "6: reply 1" ∷ codes "7: died 1" ∷ codes "8: late c1.0" ∷
    codes "c1.0 a1 = ActorDied" ∷ codes "a1 dead" ∷ codes "a1.0 c1.0 add 5" ∷ []

-- ran and yet died
abbrev pub RanAndYetDied : Type 0
RanAndYetDied = Reports (
    record { actor = 1; callers = 1 ∷ []; opening = CounterAt (pos 0); pending = None } ∷ []) (
    Submit 1 1 Add (number 5 ∷ []) ∷ Send 1 0 ∷ Deliver 0 ∷ Run 1 1 ∷ AskKill 1 1 ∷ TakeKill 1 ∷ Tell 1 1 ∷
    Collect 1 ∷ Collect 0 ∷ []) ran_and_yet_died_report

-- the report of kill with held calls
abbrev pub kill_with_held_calls_report : List (List ℕ)
kill_with_held_calls_report =
    codes "0: future c1.0" ∷ codes "1: future c1.1" ∷ codes "2: future c1.2" ∷ codes "3: future c1.3" ∷
    codes "4: mail 0" ∷ codes "5: mail 1" ∷ codes "6: mail 2" ∷ codes "7: mail 3" ∷ codes "8: new" ∷
    codes "9: place 0 reply 0" ∷ codes "10: new" ∷ codes "11: new" ∷ codes "12: asked" ∷ codes "13: dead" ∷
    codes "14: refused ActorEnded" ∷ codes "15: refused ActorEnded" ∷ codes "16: refused ActorEnded" ∷
    codes "17: refused ActorEnded" ∷ codes "18: reply 1" ∷ codes "19: died 4" ∷ codes "c1.0 a1 = ActorDied" ∷
    codes "c1.1 a1 = ActorDied" ∷ codes "c1.2 a1 = ActorDied" ∷ codes "c1.3 a1 = ActorDied" ∷ codes "a1 dead" ∷
    codes "a1.0 c1.0 add 1" ∷ []

-- kill with held calls
abbrev pub KillWithHeldCalls : Type 0
KillWithHeldCalls = Reports (
    record { actor = 1; callers = 1 ∷ []; opening = CounterAt (pos 0); pending = None } ∷ []) (
    Submit 1 1 Add (number 1 ∷ []) ∷ Submit 1 1 Add (number 2 ∷ []) ∷ Submit 1 1 Add (number 3 ∷ []) ∷
    Submit 1 1 Add (number 4 ∷ []) ∷ Send 1 0 ∷ Send 1 1 ∷ Send 1 2 ∷ Send 1 3 ∷ Deliver 0 ∷ Run 1 1 ∷
    Deliver 2 ∷ Deliver 3 ∷ AskKill 1 1 ∷ TakeKill 1 ∷ Deliver 1 ∷ Run 1 1 ∷ TakeKill 1 ∷ Retire 1 ∷ Tell 1 1 ∷
    Collect 1 ∷ []) kill_with_held_calls_report

-- the report of known dead
abbrev pub known_dead_report : List (List ℕ)
known_dead_report =
    codes "0: asked" ∷ codes "1: refused NotDead" ∷ codes "2: dead" ∷ codes "3: reply 0" ∷ codes "4: died 0" ∷
    codes "5: future c1.0" ∷ codes "6: refused Answered" ∷ codes "7: mail 0" ∷ codes "8: refused NoHandle" ∷
    codes "9: refused NoHandle" ∷ codes "10: refused ActorEnded" ∷ codes "c1.0 a1 = ActorDied" ∷
    codes "a1 dead" ∷ []

-- known dead
abbrev pub KnownDead : Type 0
KnownDead = Reports (
    record { actor = 1; callers = 1 ∷ []; opening = CounterAt (pos 0); pending = None } ∷ []) (
    AskKill 1 1 ∷ Tell 1 1 ∷ TakeKill 1 ∷ Tell 1 1 ∷ Collect 0 ∷ Submit 1 1 Get [] ∷ Send 1 0 ∷ Release 1 1 ∷
    Submit 1 1 Get [] ∷ AskKill 1 1 ∷ Deliver 0 ∷ []) known_dead_report

-- largest number
abbrev pub LargestNumber : Type 0
LargestNumber = Leaves (
    record { actor = 1; callers = 1 ∷ []; opening = CounterAt (pos 0); pending = None } ∷ []) (
    Submit 1 1 Add (number 9223372036854775807 ∷ []) ∷ Submit 1 1 Add (number 1 ∷ []) ∷ Submit 1 1 Get [] ∷
    Send 1 0 ∷ Send 1 1 ∷ Send 1 2 ∷ Deliver 0 ∷ Deliver 1 ∷ Deliver 2 ∷ Run 1 1 ∷ Run 1 1 ∷ Run 1 1 ∷
    Collect 0 ∷ Collect 1 ∷ Collect 2 ∷ []) (
    codes "c1.0 a1 = 9223372036854775807" ∷ codes "c1.1 a1 = Overflow" ∷ codes "c1.2 a1 = 9223372036854775807" ∷
    codes "a1 live counter 9223372036854775807" ∷ codes "a1.0 c1.0 add 9223372036854775807" ∷
    codes "a1.1 c1.1 add 1" ∷ codes "a1.2 c1.2 get" ∷ [])

-- the report of refused submissions
abbrev pub refused_submissions_report : List (List ℕ)
refused_submissions_report =
    codes "0: refused BadFuture" ∷ codes "1: refused TooManyArgs" ∷ codes "2: refused NoActor" ∷
    codes "3: refused NoCaller" ∷ codes "4: future c1.0" ∷ codes "5: mail 0" ∷ codes "6: new" ∷
    codes "7: place 0 reply 0" ∷ codes "8: kept c1.0" ∷ codes "c1.0 a1 = BadArgs" ∷ codes "a1 live counter 0" ∷
    codes "a1.0 c1.0 add 1 2" ∷ []

-- refused submissions
abbrev pub RefusedSubmissions : Type 0
RefusedSubmissions = Reports (
    record { actor = 1; callers = 1 ∷ []; opening = CounterAt (pos 0); pending = None } ∷ []) (
    Submit 1 1 Add (Fut 0 ∷ []) ∷ Submit 1 1 Add (number 1 ∷ number 2 ∷ number 3 ∷ number 4 ∷ number 5 ∷ []) ∷
    Submit 1 2 Get [] ∷ Submit 2 1 Get [] ∷ Submit 1 1 Add (number 1 ∷ number 2 ∷ []) ∷ Send 1 0 ∷ Deliver 0 ∷
    Run 1 1 ∷ Collect 0 ∷ []) refused_submissions_report

-- the report of release and retire
abbrev pub release_and_retire_report : List (List ℕ)
release_and_retire_report =
    codes "0: future c1.0" ∷ codes "1: mail 0" ∷ codes "2: copies 2" ∷ codes "3: copies 1" ∷ codes "4: mail 1" ∷
    codes "5: refused NotDrained" ∷ codes "6: new" ∷ codes "7: refused NotDrained" ∷ codes "8: repeat" ∷
    codes "9: new" ∷ codes "10: refused NotDrained" ∷ codes "11: place 0 reply 0" ∷ codes "12: retired" ∷
    codes "13: refused ActorEnded" ∷ codes "14: kept c1.0" ∷ codes "c1.0 a1 = 2" ∷ codes "a1 retired counter 2" ∷
    codes "a1.0 c1.0 add 2" ∷ []

-- release and retire
abbrev pub ReleaseAndRetire : Type 0
ReleaseAndRetire = Reports (
    record { actor = 1; callers = 1 ∷ []; opening = CounterAt (pos 0); pending = None } ∷ []) (
    Submit 1 1 Add (number 2 ∷ []) ∷ Send 1 0 ∷ Copy 1 1 ∷ Release 1 1 ∷ Release 1 1 ∷ Retire 1 ∷ Deliver 1 ∷
    Retire 1 ∷ Deliver 1 ∷ Deliver 0 ∷ Retire 1 ∷ Run 1 1 ∷ Retire 1 ∷ Deliver 0 ∷ Collect 0 ∷ []) release_and_retire_report

-- two actors in threads, in one schedule
abbrev pub TwoActors : Type 0
TwoActors = Leaves (
    record { actor = 1; callers = 1 ∷ 2 ∷ []; opening = TableOf []; pending = None } ∷
    record { actor = 2; callers = 2 ∷ []; opening = AccountAt (pos 0); pending = None } ∷ []) (
    Submit 1 1 Put (Plain (Text (codes "k")) ∷ number 5 ∷ []) ∷ Submit 1 1 Get (Plain (Text (codes "k")) ∷ []) ∷
    Submit 2 2 Deposit (number 10 ∷ []) ∷ Submit 2 2 Withdraw (Fut 0 ∷ []) ∷ Send 1 0 ∷ Send 1 1 ∷ Send 2 0 ∷
    Deliver 0 ∷ Deliver 1 ∷ Deliver 2 ∷ Run 1 1 ∷ Run 1 1 ∷ Run 2 2 ∷ Collect 0 ∷ Collect 1 ∷ Collect 2 ∷
    Send 2 1 ∷ Deliver 3 ∷ Run 2 2 ∷ Collect 3 ∷ Release 1 1 ∷ Release 2 1 ∷ Release 2 2 ∷ Deliver 4 ∷
    Deliver 5 ∷ Deliver 6 ∷ Retire 1 ∷ Retire 2 ∷ []) (
    codes "c1.0 a1 = unit" ∷ codes "c1.1 a1 = 5" ∷ codes "c2.0 a2 = 10" ∷ codes "c2.1 a2 = 0" ∷
    codes "a1 retired table \"k\" 5" ∷ codes "a1.0 c1.0 put \"k\" 5" ∷ codes "a1.1 c1.1 get \"k\"" ∷
    codes "a2 retired account 0" ∷ codes "a2.0 c2.0 deposit 10" ∷ codes "a2.1 c2.1 withdraw 10" ∷ [])

-- the report of nothing there
abbrev pub nothing_there_report : List (List ℕ)
nothing_there_report =
    codes "0: refused NoMail" ∷ codes "1: refused NoReply" ∷ codes "2: refused NoKill" ∷
    codes "3: refused NoFuture" ∷ codes "4: gap" ∷ codes "5: refused NoActor" ∷ codes "6: refused NoCaller" ∷
    codes "7: refused NotDead" ∷ codes "a1 live counter 0" ∷ []

-- nothing there
abbrev pub NothingThere : Type 0
NothingThere = Reports (
    record { actor = 1; callers = 1 ∷ []; opening = CounterAt (pos 0); pending = None } ∷ []) (
    Deliver 0 ∷ Collect 0 ∷ TakeKill 1 ∷ Send 1 0 ∷ Run 1 1 ∷ Run 2 1 ∷ Run 1 2 ∷ Tell 1 1 ∷ []) nothing_there_report
