-- What an actor's thread did: its trace without letters of strangers, and what the audits and the run need of it.
use Rattle.act_executor.proofs.Common.{◌≡◌, ℕ, Bool, true, false, List, [], ◌∷◌, ◌++◌, length, None, refl, ap, sym, ◌∙◌, subst, Contains, filter}
use Rattle.act_executor.proofs.Common.{AllByRecursion, list_any, items_of, has_terminated, contains, Call, Note, caller_of, packet_of_item, note_after_calls}
use Rattle.act_executor.proofs.Common.{Action, CallTaken, NoteTaken, CallRun, KillTaken, DeathTold, Retirement, call_run, is_kill_taken, is_retirement, log_of}
use Rattle.act_executor.proofs.Common.{has_died_in, has_ended_in, ActorMayDo, ActorMayDoAll, letter_taken, ◌||◌, Letter, Some, in_from_contains}
use Rattle.act_executor.proofs.Common.{contains_from_in, in_filter}
use Rattle.act_executor.proofs.Lists.Kept.{kept_any, kept_found, kept_more, lost_more, kept_first, lost_first}

-- every step but the taking of a letter of a caller that isn't among these
abbrev pub is_of_these : List ℕ → Action → Bool
is_of_these callers (CallTaken packet) = contains packet.caller callers
is_of_these callers (NoteTaken note) = contains note.caller callers
is_of_these callers step = true

module _ (callers : List ℕ) where
  abbrev keep : Action → Bool
  keep = is_of_these callers

  -- whether the step of a letter stays is told by its caller
  pub kept_letter : (step : Action) {letter : Letter} → letter_taken step ≡ Some letter → keep step ≡ contains (caller_of letter) callers
  kept_letter (CallTaken packet) {letter} e = let same : Call packet ≡ letter = cc in ap (λ l. contains (caller_of l) callers) same
  kept_letter (NoteTaken note) {letter} e = let same : Note note ≡ letter = cc in ap (λ l. contains (caller_of l) callers) same
  kept_letter step e = cc

  pub lost_kill : (step : Action) → keep step ≡ false → is_kill_taken step ≡ false
  lost_kill (KillTaken asker note) e = cc
  lost_kill step e = refl

  pub lost_retirement : (step : Action) → keep step ≡ false → is_retirement step ≡ false
  lost_retirement Retirement e = cc
  lost_retirement step e = refl

  pub lost_run : (step : Action) → keep step ≡ false → call_run step ≡ None
  lost_run (CallRun item) e = cc
  lost_run step e = refl

  log_same : (steps : List Action) → log_of (filter keep steps) ≡ log_of steps
  log_same steps = kept_found keep call_run lost_run steps

  pub died_same : (steps : List Action) → has_died_in (filter keep steps) ≡ has_died_in steps
  died_same steps = λ i. kept_any keep is_kill_taken lost_kill steps i || has_terminated (log_same steps i)

  pub retired_same : (steps : List Action) → list_any is_retirement (filter keep steps) ≡ list_any is_retirement steps
  retired_same steps = kept_any keep is_retirement lost_retirement steps

  ended_same : (steps : List Action) → has_ended_in (filter keep steps) ≡ has_ended_in steps
  ended_same steps = λ i. died_same steps i || retired_same steps i

  still_in : (steps : List Action) (step : Action) → keep step ≡ true → Contains steps step → Contains (filter keep steps) step
  still_in steps step is has = contains_from_in (in_filter keep (in_from_contains steps step has) is)

  -- a call that runs is of one of these
  abbrev pub RunsFor : Action → Type 0
  RunsFor (CallRun item) = contains item.caller callers ≡ true
  RunsFor step = Unit {0}

  module _ (a : ℕ) (others : List ℕ) (same_callers : (c : ℕ) → contains c others ≡ contains c callers) where
    -- a step that stays may be done after those that stay
    may_still : (before : List Action) (step : Action) → RunsFor step → ActorMayDo a others before step → ActorMayDo a callers (filter keep before) step
    may_still before (CallRun item) runs may = (
      ended_same before ∙ may.0,
      still_in before (CallTaken (packet_of_item a item)) runs may.1,
      may.2 ∙ ap (λ log. length (items_of item.caller log)) (sym (log_same before)),
    )
    may_still before (DeathTold c) runs may = (died_same before ∙ may.0, sym (same_callers c) ∙ may.1)
    may_still before Retirement runs may = (
      ended_same before ∙ may.0,
      λ c named.
          let noted = may.1 c (same_callers c ∙ named) in
          subst (λ log. Contains (filter keep before) (NoteTaken (note_after_calls c a (length (items_of c log))))) (sym (log_same before))
          (still_in before (NoteTaken (note_after_calls c a (length (items_of c (log_of before))))) named noted),
    )
    may_still before (CallTaken packet) runs may = ended_same before ∙ may
    may_still before (NoteTaken note) runs may = ended_same before ∙ may
    may_still before (KillTaken asker note) runs may = ended_same before ∙ may
    may_still before step runs may = may

    pub may_all : (before steps : List Action) → AllByRecursion RunsFor steps → ActorMayDoAll a others before steps →
        ActorMayDoAll a callers (filter keep before) (filter keep steps)
    may_all before [] runs may = tt
    may_all before (step ∷ steps) runs may = go (keep step) refl (may_still before step runs.0 may.0) (may_all (before ++ step ∷ []) steps runs.1 may.1)
      where
        go : (b : Bool) → keep step ≡ b → ActorMayDo a callers (filter keep before) step → ActorMayDoAll a callers (filter keep (before ++ step ∷ []))
            (filter keep steps) → ActorMayDoAll a callers (filter keep before) (filter keep (step ∷ steps))
        go true is here rest =
            let after = subst (λ l. ActorMayDoAll a callers l (filter keep steps)) (kept_more keep before step is) rest in
            subst (λ l. ActorMayDoAll a callers (filter keep before) l) (sym (kept_first keep step steps is)) (here, after)
        go false is here rest =
            let after = subst (λ l. ActorMayDoAll a callers l (filter keep steps)) (lost_more keep before step is) rest in
            subst (λ l. ActorMayDoAll a callers (filter keep before) l) (sym (lost_first keep step steps is)) after
