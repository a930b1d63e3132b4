-- What a caller's thread did, without the notices of actors that don't name it: they step nothing of it.
use Rattle.act_executor.proofs.Common.{◌≡◌, ℕ, ◌+◌, ◌-◌, Bool, true, false, List, [], ◌∷◌, length, Some, None, inl, inr, refl, ap, sym, ◌∙◌, subst, ◌==◌, ◌&&◌}
use Rattle.act_executor.proofs.Common.{not, filter, Option, option_map, slice_get, is_some, if◌then◌else◌, option_or, AllByRecursion, eqb-true, eqb_tells}
use Rattle.act_executor.proofs.Common.{Notice, Answered, Death, Arg, Submission, contains, kept_at, submit_refusal, limit_refusal, All_at, All_more, Handle}
use Rattle.act_executor.proofs.Common.{copies_in, with_copy, without_copy, copies-with_copy, copies-without_copy, copies-with_copy-other}
use Rattle.act_executor.proofs.Common.{copies-without_copy-other, copies-with_number, copies-opened, First, Late, Stray, OwnerView, opened_under, owner_limit}
use Rattle.act_executor.proofs.Common.{pending, refusal_to_submit, is_sent, is_to, is_death, after_collect, after_reply_that, with_death, Action, Copied}
use Rattle.act_executor.proofs.Common.{Released, Submitted, Noticed, after_action, notice_actor, notice_keeps, notice_of, after_actions, CallerMayDo}
use Rattle.act_executor.proofs.Common.{CallerMayDoAll}
use Rattle.act_executor.proofs.Lists.Kept.{kept_first, lost_first}

-- every step but the collecting of a notice of an actor that isn't among these
abbrev pub is_from_these : List ℕ → Option Notice → Bool
is_from_these actors None = true
is_from_these actors (Some notice) = contains (notice_actor notice) actors

-- whether a step collects no notice, or one of an actor among these
abbrev pub is_by_these : List ℕ → Action → Bool
is_by_these actors step = is_from_these actors (notice_of step)

module _ (actors : List ℕ) where
  abbrev IsToThese : Submission → Type 0
  IsToThese call = contains call.actor actors ≡ true

  -- a caller holds handles of these alone, and its calls go to these
  pub record HoldsThese (owner : OwnerView) : Type 0 where
    pub strangers : (a : ℕ) → contains a actors ≡ false → copies_in a owner.handles ≡ None
    pub calls : AllByRecursion IsToThese owner.calls

  pub opened_holds : (limits : List (ℕ × Option ℕ)) (id : ℕ) → HoldsThese (opened_under limits id actors)
  opened_holds limits id = record { strangers = λ a none. copies-opened a actors ∙ ap (λ b. if b then Some 1 else None) none; calls = tt }

  -- ---- a notice of a stranger

  no_call : (a : ℕ) (calls : List Submission) (k : ℕ) → contains a actors ≡ false → AllByRecursion IsToThese calls → is_to a (slice_get calls k) ≡ false
  no_call a calls k none all = go (slice_get calls k) refl
    where
      other : (call : Submission) (b : Bool) → (call.actor == a) ≡ b → contains call.actor actors ≡ true → b ≡ false
      other call true is listed = let bad : contains a actors ≡ true = subst (λ n. contains n actors ≡ true) (eqb-true call.actor a is) listed in cc
      other call false is listed = refl

      go : (o : Option Submission) → slice_get calls k ≡ o → is_to a o ≡ false
      go None at = refl
      go (Some call) at = other call (call.actor == a) refl (All_at IsToThese calls k all at)

  not_of_call : (x : Bool) {b : Bool} (y z : Bool) → b ≡ false → (x && b && y && z) ≡ false
  not_of_call true y z e = ap (λ w. w && y && z) e
  not_of_call false y z e = refl

  stranger_ignored : (owner : OwnerView) (notice : Notice) → HoldsThese owner → contains (notice_actor notice) actors ≡ false →
      after_collect owner notice ≡ owner
  stranger_ignored owner (Answered reply) holds none =
      let k = reply.future in let to = no_call reply.actor owner.calls k none holds.calls in
      ap (λ b. after_reply_that (if b then (if is_some (kept_at owner.kept k) then Late k else First k) else Stray) owner reply)
      (not_of_call (reply.caller == owner.id) (is_sent owner k) (not (is_death reply.answer)) to)
  stranger_ignored owner (Death a) holds none = ap (λ o. if is_some o then with_death owner a else owner) (holds.strangers a none)

  -- ---- a step

  known_to_submit : (owner : OwnerView) (a : ℕ) (args : List Arg) → HoldsThese owner → refusal_to_submit owner a args ≡ None → contains a actors ≡ true
  known_to_submit owner a args holds may = go (contains a actors) refl
    where
      go : (b : Bool) → contains a actors ≡ b → contains a actors ≡ true
      go true is = is
      go false is = let bad = subst (λ o. option_or (submit_refusal o (length owner.calls) args)
          (limit_refusal (owner_limit owner a) (pending owner a)) ≡ None) (holds.strangers a is) may in cc

  copied_none : (a b : ℕ) (handles : List Handle) → copies_in b handles ≡ None → copies_in b (with_copy a handles) ≡ None
  copied_none a b handles none = elim (eqb_tells a b) [
    | inl t ↦ subst (λ n. copies_in n (with_copy a handles) ≡ None) t.1
        (copies-with_copy a handles ∙ ap (option_map (λ copies. copies + 1)) (subst (λ n. copies_in n handles ≡ None) (sym t.1) none))
    | inr f ↦ copies-with_copy-other a b handles f.1 ∙ none
  ]

  released_none : (a b : ℕ) (handles : List Handle) → copies_in b handles ≡ None → copies_in b (without_copy a handles) ≡ None
  released_none a b handles none = elim (eqb_tells a b) [
    | inl t ↦ subst (λ n. copies_in n (without_copy a handles) ≡ None) t.1
        (copies-without_copy a handles ∙ ap (option_map (λ copies. copies - 1)) (subst (λ n. copies_in n handles ≡ None) (sym t.1) none))
    | inr f ↦ copies-without_copy-other a b handles f.1 ∙ none
  ]

  pub step_holds : (owner : OwnerView) (step : Action) → HoldsThese owner → CallerMayDo owner step → HoldsThese (after_action owner step)
  step_holds owner (Copied a) holds may = record { strangers = λ b none. copied_none a b owner.handles (holds.strangers b none); calls = holds.calls }
  step_holds owner (Released a) holds may = record { strangers = λ b none. released_none a b owner.handles (holds.strangers b none); calls = holds.calls }
  step_holds owner (Submitted a method args) holds may = record {
    strangers = λ b none. copies-with_number a b owner.handles ∙ holds.strangers b none;
    calls = All_more IsToThese owner.calls (record { actor = a; method = method; args = args }) holds.calls (known_to_submit owner a args holds may);
  }
  step_holds owner (Noticed notice) holds may =
      let same = notice_keeps owner notice in
      record { strangers = λ b none. ap (copies_in b) same.2 ∙ holds.strangers b none; calls = subst (AllByRecursion IsToThese) (sym same.1) holds.calls }
  step_holds owner step holds may = record { strangers = holds.strangers; calls = holds.calls }

  -- ---- all steps

  abbrev keep : Action → Bool
  keep = is_by_these actors

  -- without what is left out, the caller may do the rest, and ends as it did
  pub record IsStill (owner : OwnerView) (steps : List Action) : Type 0 where
    pub may : CallerMayDoAll owner (filter keep steps)
    pub same : after_actions owner (filter keep steps) ≡ after_actions owner steps

  more : (owner : OwnerView) (step : Action) (steps : List Action) → CallerMayDo owner step → keep step ≡ true → IsStill (after_action owner step) steps →
      IsStill owner (step ∷ steps)
  more owner step steps may is rest =
      let first = kept_first keep step steps is in
      record { may = subst (CallerMayDoAll owner) (sym first) (may, rest.may); same = ap (after_actions owner) first ∙ rest.same }

  less : (owner : OwnerView) (step : Action) (steps : List Action) → keep step ≡ false → after_action owner step ≡ owner →
      IsStill (after_action owner step) steps → IsStill owner (step ∷ steps)
  less owner step steps is stays rest =
      let first = lost_first keep step steps is in
      record {
        may = subst (CallerMayDoAll owner) (sym first) (subst (λ o. CallerMayDoAll o (filter keep steps)) stays rest.may);
        same =
            ap (after_actions owner) first ∙ subst (λ o. after_actions o (filter keep steps) ≡ after_actions (after_action owner step) steps) stays rest.same;
      }

  one_more : (owner : OwnerView) (step : Action) (steps : List Action) → HoldsThese owner → CallerMayDo owner step → IsStill (after_action owner step) steps →
      IsStill owner (step ∷ steps)
  one_more owner (Noticed notice) steps holds may rest = go (contains (notice_actor notice) actors) refl
    where
      go : (b : Bool) → contains (notice_actor notice) actors ≡ b → IsStill owner (Noticed notice ∷ steps)
      go true is = more owner (Noticed notice) steps may is rest
      go false is = less owner (Noticed notice) steps is (stranger_ignored owner notice holds is) rest
  one_more owner step steps holds may rest = more owner step steps may refl rest

  -- a caller of these actors alone may do its steps without the notices of others, and ends as with them
  pub still : (owner : OwnerView) (steps : List Action) → HoldsThese owner → CallerMayDoAll owner steps → IsStill owner steps
  still owner [] holds may = record { may = tt; same = refl }
  still owner (step ∷ steps) holds may = one_more owner step steps holds may.0 (still (after_action owner step) steps (step_holds owner step holds may.0) may.1)
