-- The text of a report: a line for each outcome, a line for each future, and the actors with their run lists.
use Rattle.std.specs.Prelude.{ℕ, suc, zero, ◌+◌, Bool, true, false, List, [], ◌∷◌, ◌++◌, map, flat_map, Option, Some, None, option_map, Ok, Err, codes, decimal}
use Rattle.act_types.specs.declared.limits.TheConstants.{MAX_ACTORS, MAX_CALLERS}
use Rattle.act_types.specs.Texts.{space, with_spaces, caller_text, actor_text, method_text, answer_text, settled_text, state_text}
use Rattle.act_types.specs.KindState.{KindState}
use Rattle.act_rules.specs.declared.history.RunItem.{RunItem}
use Rattle.act_rules.specs.declared.history.Submission.{Submission}
use Rattle.act_rules.specs.declared.event.Event.{Event}
use Rattle.act_rules.specs.declared.outcome.Arrival.{Arrival}
use Rattle.act_rules.specs.declared.outcome.Arrival.TheVariants.{New, Repeat, Stranger}
use Rattle.act_rules.specs.declared.outcome.Did.{Did}
use Rattle.act_rules.specs.declared.outcome.Did.TheVariants.{Future, Copies, Mail, Arrived, Ran, Gap, Kept, Late, Died, Asked, Dead, Told, Retired}
use Rattle.act_rules.specs.declared.outcome.HandleRefusal.{HandleRefusal}
use Rattle.act_rules.specs.declared.outcome.HandleRefusal.TheVariants as handle
use Rattle.act_rules.specs.declared.outcome.SubmitRefusal.{SubmitRefusal}
use Rattle.act_rules.specs.declared.outcome.SubmitRefusal.TheVariants as submit
use Rattle.act_rules.specs.declared.outcome.SendRefusal.{SendRefusal}
use Rattle.act_rules.specs.declared.outcome.SendRefusal.TheVariants as sending
use Rattle.act_rules.specs.declared.outcome.WorldRefusal.{WorldRefusal}
use Rattle.act_rules.specs.declared.outcome.WorldRefusal.TheVariants as world
use Rattle.act_rules.specs.declared.script.Wrong.{Wrong}
use Rattle.act_rules.specs.declared.script.Wrong.TheVariants as wrong
use Rattle.act_rules.specs.RunList.{Answer, state_after}
use Rattle.act_rules.specs.Submissions.{kept_at}
use Rattle.act_rules.specs.History.{History, opening_of, calls_of, runs_of, kept_of, is_dead, is_retired}
use Rattle.act_rules.specs.Rules.{Outcome, after_all, outcomes}

-- ---- lines

-- a text and its line end
abbrev pub line : List ℕ → List ℕ
line text = text ++ 10 ∷ []

-- the lines of a list's members, one after another, each made of its place and the member
abbrev pub numbered_lines : {X : Type 0} → (ℕ → X → List ℕ) → ℕ → List X → List ℕ
numbered_lines line_of place [] = []
numbered_lines line_of place (x ∷ xs) = line_of place x ++ numbered_lines line_of (place + 1) xs

-- the numbers from 1 to n
abbrev pub one_to : ℕ → List ℕ
one_to zero = []
one_to (suc n) = one_to n ++ suc n ∷ []

-- a caller's future: `c1.0`
abbrev pub future_text : ℕ → ℕ → List ℕ
future_text c k = caller_text c ++ codes "." ++ decimal k

-- ---- faults

abbrev pub wrong_text : Wrong → List ℕ
wrong_text wrong.TooLong = codes "TooLong"
wrong_text wrong.BadLine = codes "BadLine"
wrong_text wrong.LateActor = codes "LateActor"
wrong_text wrong.TwiceActor = codes "TwiceActor"
wrong_text wrong.TwiceCaller = codes "TwiceCaller"
wrong_text wrong.TooMany = codes "TooMany"
wrong_text wrong.BadPlan = codes "BadPlan"

-- the line of a script's fault: the number of the faulty line, and what is wrong with it
abbrev pub fault_line : ℕ × Wrong → List ℕ
fault_line fault = line (codes "line " ++ decimal fault.0 ++ codes ": " ++ wrong_text fault.1)

-- ---- outcomes

abbrev pub handle_text : HandleRefusal → List ℕ
handle_text handle.NoActor = codes "NoActor"
handle_text handle.NoHandle = codes "NoHandle"
handle_text handle.TooManyCopies = codes "TooManyCopies"
handle_text handle.TooManyCalls = codes "TooManyCalls"

abbrev pub submit_text : SubmitRefusal → List ℕ
submit_text submit.NoActor = codes "NoActor"
submit_text submit.NoHandle = codes "NoHandle"
submit_text submit.TooManyArgs = codes "TooManyArgs"
submit_text submit.BadFuture = codes "BadFuture"
submit_text submit.TooManyCalls = codes "TooManyCalls"
submit_text submit.PendingLimit = codes "PendingLimit"
submit_text submit.NoMemory = codes "NoMemory"

abbrev pub sending_text : SendRefusal → List ℕ
sending_text sending.NoFuture = codes "NoFuture"
sending_text sending.NotReady = codes "NotReady"
sending_text sending.Answered = codes "Answered"
sending_text sending.NoMemory = codes "NoMemory"

abbrev pub refusal_text : WorldRefusal → List ℕ
refusal_text (world.Submit refusal) = submit_text refusal
refusal_text (world.Handle refusal) = handle_text refusal
refusal_text (world.Sending refusal) = sending_text refusal
refusal_text world.NoCaller = codes "NoCaller"
refusal_text world.NoMail = codes "NoMail"
refusal_text world.NoReply = codes "NoReply"
refusal_text world.ActorEnded = codes "ActorEnded"
refusal_text world.NoKill = codes "NoKill"
refusal_text world.NotDead = codes "NotDead"
refusal_text world.NotDrained = codes "NotDrained"
refusal_text world.NoMemory = codes "NoMemory"

abbrev pub arrival_text : Arrival → List ℕ
arrival_text New = codes "new"
arrival_text Repeat = codes "repeat"
arrival_text Stranger = codes "stranger"

abbrev pub did_text : Did → List ℕ
did_text (Future c k) = codes "future " ++ future_text c k
did_text (Copies n) = codes "copies " ++ decimal n
did_text (Mail i) = codes "mail " ++ decimal i
did_text (Arrived arrival) = arrival_text arrival
did_text (Ran place j) = codes "place " ++ decimal place ++ codes " reply " ++ decimal j
did_text Gap = codes "gap"
did_text (Kept c k) = codes "kept " ++ future_text c k
did_text (Late c k) = codes "late " ++ future_text c k
did_text (Died n) = codes "died " ++ decimal n
did_text Asked = codes "asked"
did_text Dead = codes "dead"
did_text (Told j) = codes "reply " ++ decimal j
did_text Retired = codes "retired"

abbrev pub outcome_text : Outcome → List ℕ
outcome_text (Ok did) = did_text did
outcome_text (Err refusal) = codes "refused " ++ refusal_text refusal

-- the line of the event at a place
abbrev pub outcome_line : ℕ → Outcome → List ℕ
outcome_line place outcome = line (decimal place ++ codes ": " ++ outcome_text outcome)

-- a line for each outcome, numbered from 0
abbrev pub outcome_lines : List Outcome → List ℕ
outcome_lines told = numbered_lines outcome_line 0 told

-- ---- the summary

-- what is kept of a future: its answer, or nothing yet
abbrev pub kept_text : Option Answer → List ℕ
kept_text None = codes " ?"
kept_text (Some answer) = codes " = " ++ answer_text answer

-- the line of a caller's future
abbrev pub future_line : ℕ → List (Option Answer) → ℕ → Submission → List ℕ
future_line c kept k call = line (future_text c k ++ space ++ actor_text call.actor ++ kept_text (kept_at kept k))

-- a line for each future of a caller
abbrev pub future_lines : ℕ → List Submission → List (Option Answer) → List ℕ
future_lines c calls kept = numbered_lines (future_line c kept) 0 calls

-- the line of the item at a place of an actor's run list
abbrev pub item_line : ℕ → ℕ → RunItem → List ℕ
item_line a place item = line (
    actor_text a ++ codes "." ++ decimal place ++ space ++ future_text item.caller item.future
    ++ space ++ method_text item.method ++ with_spaces (map settled_text item.args))

-- how an actor stands: dead, retired or live
abbrev pub stage_text : Bool → Bool → KindState → List ℕ
stage_text true retired state = codes "dead"
stage_text false true state = codes "retired " ++ state_text state
stage_text false false state = codes "live " ++ state_text state

-- an actor that stands, and its run list
abbrev pub actor_lines : ℕ → List RunItem → Option (List ℕ) → List ℕ
actor_lines a items None = []
actor_lines a items (Some stage) = line (actor_text a ++ space ++ stage) ++ numbered_lines (item_line a) 0 items

-- the futures of each caller, and then each actor with its stage and its run list, by rising number
abbrev pub summary_of : (ℕ → List Submission) → (ℕ → List (Option Answer)) → (ℕ → Option (List ℕ)) →
    (ℕ → List RunItem) → List ℕ
summary_of calls kept stages runs =
    flat_map (λ c. future_lines c (calls c) (kept c)) (one_to MAX_CALLERS)
    ++ flat_map (λ a. actor_lines a (runs a) (stages a)) (one_to MAX_ACTORS)

-- how the actor of a history stands, with its state after its run list
abbrev pub stage_of : ℕ → History → Option (List ℕ)
stage_of a h = option_map (λ state. stage_text (is_dead a h) (is_retired a h) (state_after state (runs_of a h)))
    (opening_of a h)

abbrev pub summary : History → List ℕ
summary h = summary_of (λ c. calls_of c h) (λ c. kept_of c h) (λ a. stage_of a h) (λ a. runs_of a h)

-- the whole report of events in a world
abbrev pub report : History → List Event → List ℕ
report h events = outcome_lines (outcomes h events) ++ summary (after_all h events)
