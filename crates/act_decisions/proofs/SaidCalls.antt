-- What some events leave, as the data says it: other events leave what the data says, to the letter.
use Rattle.act_decisions.proofs.Common.{◌≡◌, ℕ, ◌≤◌, Bool, true, false, cond, List, [], ◌∷◌, map, Option, Some, None, inl, inr, ◌⊎◌, refl, ap, sym, ◌∙◌, subst}
use Rattle.act_decisions.proofs.Common.{slice_get, RunItem, Submission, Step, ActorSpec, History, calls_of, runs_of, told_of, arg_as_run, IsAsRun, Ran}
use Rattle.act_decisions.proofs.Common.{StandFor, MayStandFor, ToldCall, ToldCaller, ToldEnd, caller_in, calls_in, bound_of, call_of_item, submission_of_call}
use Rattle.act_decisions.proofs.Common.{bound_is, of_caller, map-slice_get, calls_of_steps, HasCalls, awaits, steps_of_caller, AllFitSteps, FitsSteps, IsCallIn}
use Rattle.act_decisions.proofs.Common.{RunsArePlaced, StandsThere, IsDecided, AllDecided, IsLeftBy, map_none}
use Rattle.act_decisions.proofs.SaidRuns.{same_call, item_of_said, said_of_item}
use Rattle.std.proofs.lemmas.Simd.{map-map}

-- ---- the calls

-- the calls that the data tells
abbrev pub data_calls : ToldEnd → ℕ → List Submission
data_calls end c = map submission_of_call (calls_in end c)

-- a call of the data, and what is submitted by it
pub call_there : (end : ToldEnd) (c k : ℕ) (sub : Submission) → slice_get (data_calls end c) k ≡ Some sub
    → (call : ToldCall) × IsCallIn end c k call × (submission_of_call call ≡ sub)
call_there end c k sub e = map-slice_get submission_of_call (calls_in end c) k e

-- the item of a call that is told to have run
pub ran_item : (end : ToldEnd) (h : History) (a p c k : ℕ) (call : ToldCall) → IsLeftBy end h → StandsThere end c k call → call.place ≡ Some (a, p)
    → (item : RunItem) × (slice_get (runs_of a h) p ≡ Some item) × (call_of_item item ≡ (c, k))
ran_item end h a p c k call fits stands at =
    let run = stands a p at in let item = item_of_said end h fits a p run.0 run.1 in (item.0, item.1, sym (same_call run.0 item.0 item.2) ∙ run.2)

-- what the data says of a caller's calls is the history's, or may stand for it
module _ (end : ToldEnd) (steps : List (ℕ × Step × ℕ)) (h : History) (fits : IsLeftBy end h) (lines : AllFitSteps end steps)
    {casts : List ActorSpec} (placed : RunsArePlaced end) (decided : AllDecided casts end) (numbered : (c : ℕ) → (1 ≤ c) × (c ≤ 16) ⊎ (calls_of c h ≡ []))
    (has : (c : ℕ) → 1 ≤ c → c ≤ 16 → HasCalls c steps h) where
  -- a caller that is told no line
  pub none_there : (c : ℕ) → calls_of c h ≡ [] → data_calls end c ≡ calls_of c h
  none_there c none =
      ap (map submission_of_call)
      (map_none (λ (call : ToldCall). call.actor) (calls_in end c) (fits.calls c ∙ ap (map (λ (call : Submission). call.actor)) none)) ∙ sym none

  -- one whose calls a script tells
  pub told_there : (c : ℕ) → 1 ≤ c → c ≤ 16 → data_calls end c ≡ calls_of_steps c steps → data_calls end c ≡ calls_of c h
  told_there c some few e = go (calls_of_steps c steps) refl
    where
      go : (l : List Submission) → calls_of_steps c steps ≡ l → data_calls end c ≡ calls_of c h
      go [] is = none_there c (map_none (λ (call : Submission). call.actor) (calls_of c h) (sym (fits.calls c)
          ∙ sym (map-map (λ (call : Submission). call.actor) submission_of_call (calls_in end c)) ∙ ap (map (λ (call : Submission). call.actor)) (e ∙ is)))
      go (sub ∷ subs) is = e ∙ sym (has c some few (λ none. let bad : [] ≡ sub ∷ subs = sym none ∙ is in cc))

  -- the call that stands for the caller's call k, if the caller has one
  abbrev Standing : ℕ → Type 0
  Standing c = StandFor (told_of h) c (data_calls end c)

  same_actors : (c : ℕ) → map (λ (call : Submission). call.actor) (data_calls end c) ≡ map (λ (call : Submission). call.actor) (calls_of c h)
  same_actors c = map-map (λ (call : Submission). call.actor) submission_of_call (calls_in end c) ∙ fits.calls c

  -- one that no line tells is as it ran
  as_ran : (c a p : ℕ) (caller : ToldCaller) (call : ToldCall) (item : RunItem) → caller_in end c ≡ Some caller → caller.has_lines ≡ false
      → slice_get (runs_of a h) p ≡ Some item → item.caller ≡ c → slice_get caller.calls.items item.future ≡ Some call → IsAsRun (submission_of_call call) item
  as_ran c a p caller call item there untold ran of at =
      let run = said_of_item end h fits a p ran in let put = placed a p run.0 run.1 in
      let own : IsCallIn end c item.future call = ap (λ l. slice_get l item.future) (of_caller end c caller there) ∙ at in
      let mine : IsCallIn end run.0.caller run.0.future call =
      (λ i. slice_get (calls_in end ((sym run.2.caller ∙ of) i)) (sym run.2.future i)) ∙ own in
      let one : Some put.0 ≡ Some call = sym put.1 ∙ mine in let same : put.0 ≡ call = cc in
      let place : call.place ≡ Some (a, p) = ap (λ (x : ToldCall). x.place) (sym same) ∙ put.2 in
      let is = (decided c item.future caller call there at).1.as_ran a p run.0 untold place run.1 in
      record { method = is.0 ∙ sym run.2.method; args = is.1 ∙ ap (map arg_as_run) (sym run.2.args) }

  stands : (c : ℕ) (caller : ToldCaller) → caller_in end c ≡ Some caller → caller.has_lines ≡ false → Standing c
  stands c caller there untold = record { actors = same_actors c; each = each; ran = ran }
    where
      own : calls_in end c ≡ caller.calls.items
      own = of_caller end c caller there

      each : (k : ℕ) (sub : Submission) → slice_get (data_calls end c) k ≡ Some sub → Ran (told_of h) c k sub ⊎ (sub.args ≡ [])
      each k sub at = go call.0.place refl
        where
          call : (call : ToldCall) × IsCallIn end c k call × (submission_of_call call ≡ sub)
          call = call_there end c k sub at

          mine : slice_get caller.calls.items k ≡ Some call.0
          mine = ap (λ l. slice_get l k) (sym own) ∙ call.1

          is : StandsThere end c k call.0 × IsDecided casts end c k caller call.0
          is = decided c k caller call.0 there mine

          go : (o : Option (ℕ × ℕ)) → call.0.place ≡ o → Ran (told_of h) c k sub ⊎ (sub.args ≡ [])
          go None none = inr (ap (λ (s : Submission). s.args) (sym call.2) ∙ is.1.untold untold none)
          go (Some (a, p)) some =
              let ran = ran_item end h a p c k call.0 fits is.0 some in let of : ran.0.caller ≡ c = ap (λ (r : ℕ × ℕ). r.0) ran.2 in
              let future : ran.0.future ≡ k = ap (λ (r : ℕ × ℕ). r.1) ran.2 in
              inl (record {
                actor = a;
                place = p;
                item = ran.0;
                at = ran.1;
                caller = of;
                future = future;
                is = subst (λ s. IsAsRun s ran.0) call.2
                    (as_ran c a p caller call.0 ran.0 there untold ran.1 of (ap (slice_get caller.calls.items) future ∙ mine));
              })

      ran : (a place : ℕ) (item : RunItem) (sub : Submission) → slice_get (runs_of a h) place ≡ Some item → item.caller ≡ c
          → slice_get (data_calls end c) item.future ≡ Some sub → IsAsRun sub item
      ran a place item sub at of there_sub =
          let call = call_there end c item.future sub there_sub in
          subst (λ s. IsAsRun s item) call.2
          (as_ran c a place caller call.0 item there untold at of (ap (λ l. slice_get l item.future) (sym own) ∙ call.1))

  -- one that awaits nothing isn't bound
  unbound : (c : ℕ) (caller : ToldCaller) → caller_in end c ≡ Some caller → FitsSteps c steps caller → caller.has_lines ≡ false → bound_of end c ≡ None
  unbound c caller there fit untold = bound_is end c there ∙ fit.bound ∙ go (awaits c steps) refl
    where
      go : (b : Bool) → awaits c steps ≡ b → cond b (Some (steps_of_caller c steps)) None ≡ None
      go false e = refl
      go true e = let bad : true ≡ false = sym (fit.lined e) ∙ untold in cc

  pub calls_may_stand : MayStandFor (bound_of end) (told_of h) (data_calls end)
  calls_may_stand c = go (numbered c)
    where
      go : (1 ≤ c) × (c ≤ 16) ⊎ (calls_of c h ≡ []) → (data_calls end c ≡ calls_of c h) ⊎ ((bound_of end c ≡ None) × Standing c)
      go (inr none) = inl (none_there c none)
      go (inl (some, few)) = by (line.0.has_lines) refl
        where
          line : (caller : ToldCaller) × (caller_in end c ≡ Some caller) × FitsSteps c steps caller
          line = lines c some few

          by : (b : Bool) → line.0.has_lines ≡ b → (data_calls end c ≡ calls_of c h) ⊎ ((bound_of end c ≡ None) × Standing c)
          by true e = inl (told_there c some few (ap (map submission_of_call) (of_caller end c line.0 line.1) ∙ line.2.told e))
          by false e = inr (unbound c line.0 line.1 line.2 e, stands c line.0 line.1 e)
