-- What an actor may do after what it did.
use Rattle.std.specs.Prelude.{◌≡◌, ℕ, ◌||◌, Bool, true, false, List, [], ◌∷◌, ◌++◌, length, filter_map, Option, Some, None, Contains}
use Rattle.std.specs.List.{list_any}
use Rattle.act_rules.specs.Actions.{Action, CallTaken, NoteTaken, CallRun, KillTaken, DeathTold, Retirement}
use Rattle.act_rules.specs.declared.history.RunItem.{RunItem}
use Rattle.act_rules.specs.RunList.{items_of, has_terminated}
use Rattle.act_rules.specs.History.{contains}
use Rattle.act_actor.specs.Actor.{packet_of_item, note_after_calls}

abbrev pub call_run : Action → Option RunItem
call_run (CallRun item) = Some item
call_run action = None

abbrev pub is_kill_taken : Action → Bool
is_kill_taken (KillTaken asker note) = true
is_kill_taken action = false

abbrev pub is_retirement : Action → Bool
is_retirement Retirement = true
is_retirement action = false

-- the calls that it ran
abbrev pub log_of : List Action → List RunItem
log_of actions = filter_map call_run actions

-- it took a kill, or what it ran ended it
abbrev pub has_died_in : List Action → Bool
has_died_in actions = list_any is_kill_taken actions || has_terminated (log_of actions)

abbrev pub has_ended_in : List Action → Bool
has_ended_in actions = has_died_in actions || list_any is_retirement actions

-- after what it did before the actor, whose cast names these callers, may do this: it runs a call that it took and
-- that is its caller's next, tells its death where it died, and retires where it ran as many calls as each caller's
-- note says
abbrev pub ActorMayDo : ℕ → List ℕ → List Action → Action → Type 0
ActorMayDo a callers before (CallTaken packet) = has_ended_in before ≡ false
ActorMayDo a callers before (NoteTaken note) = has_ended_in before ≡ false
ActorMayDo a callers before (KillTaken asker note) = has_ended_in before ≡ false
ActorMayDo a callers before (CallRun item) = (has_ended_in before ≡ false)
    × Contains before (CallTaken (packet_of_item a item))
    × (item.number ≡ length (items_of item.caller (log_of before)))
ActorMayDo a callers before (DeathTold c) = (has_died_in before ≡ true) × (contains c callers ≡ true)
ActorMayDo a callers before Retirement = (has_ended_in before ≡ false) × ((c : ℕ) → contains c callers ≡ true →
    Contains before (NoteTaken (note_after_calls c a (length (items_of c (log_of before))))))
ActorMayDo a callers before action = ⊥

-- each of these actions is one that the actor may do after those before it
abbrev pub ActorMayDoAll : ℕ → List ℕ → List Action → List Action → Type 0
ActorMayDoAll a callers before [] = Unit {0}
ActorMayDoAll a callers before (action ∷ actions) = ActorMayDo a callers before action
    × ActorMayDoAll a callers (before ++ action ∷ []) actions
