-- Where some events end as steps and lines tell, a walk after what was read ends so, too.
use Rattle.act_decisions.proofs.Common.{◌≡◌, ℕ, ◌≤◌, ◌&&◌, cond, Bool, true, false, List, [], ◌∷◌, map, Option, Some, None, inl, inr, ◌⊎◌, refl, ap, sym, ◌∙◌}
use Rattle.act_decisions.proofs.Common.{subst, slice_get, is_some, Event, Step, Submission, kept_at, ActorSpec, History, history, calls_of, kept_of, cast_of}
use Rattle.act_decisions.proofs.Common.{option_map, option_and_then, Role, actor_spec_of, list_all, option_map_or, IsTrue, slice_get-map, Told, Leaves, told_of}
use Rattle.act_decisions.proofs.Common.{IsReplyForDeath, with_calls, End, Any, FitHistory, IsActorSo, EndAlike, IsLeftOpen, KeepsDeath, is_sayable_role}
use Rattle.act_decisions.proofs.Common.{kept_for, valid_or_none, ToldActor, ToldCall, ToldCaller, ToldEnd, caller_in, calls_in, bound_of, actor_in, callers_of}
use Rattle.act_decisions.proofs.Common.{submission_of_call, Fits, of_caller, ran_told, kept_told, call_told, calls_told, of_role, ends_told, end_told}
use Rattle.act_decisions.proofs.Common.{FitsSteps, IsLeftBy, EndsSo, HasCalls, calls_of_steps, IsLined, IsRead, Matches, AreSayable, FollowsTold, WalksDecide}
use Rattle.act_decisions.proofs.Common.{NoRunIsMisplaced, IsMisplaced}
use Rattle.act_told_ends.specs.Retiring.{RetiredAsTold}
use Rattle.act_summaries.proofs.Facts.{Facts, facts, IsCallerNumber, cast_good}
use Rattle.act_summaries.proofs.Fitting.{agreed_lines_fit}
use Rattle.act_summaries.proofs.Filling.{told_alike}
use Rattle.act_walks.specs.declared.told.Left.TheVariants as left_told
use Rattle.act_walks.specs.Eager.{SomeEnd}
use Rattle.act_decisions.proofs.NotThere.{not_misplaced}
use Rattle.act_decisions.proofs.Chosen.{chosen_at, chosen_past, is_death, wants_reply, reply_there}
use Rattle.act_decisions.proofs.LeftBy.{left_by, actor_told, calls_left}
use Rattle.act_decisions.proofs.LeftOpen.{left_open}
use Rattle.act_decisions.proofs.SaidCalls.{data_calls}
use Rattle.act_decisions.proofs.SaidAnswers.{kept_may_stand, both_true, is_wanted}
use Rattle.act_decisions.proofs.SaidEnds.{as_told, said, kept_said, some_end}
use Rattle.std.proofs.lemmas.Simd.{map-map}

module _ (roles : List Role) (steps : List (ℕ × Step × ℕ)) (rest : List ℕ) (end : ToldEnd) (events : List Event)
    (said_roles : IsTrue (list_all is_sayable_role roles)) (sayable : AreSayable events)
    (lined : IsLined end roles rest) (so : EndsSo (map actor_spec_of roles) steps events rest) where
  abbrev casts_here : List ActorSpec
  casts_here = map actor_spec_of roles

  abbrev left : History
  left = history casts_here events

  f : Facts casts_here left
  f = facts roles events said_roles sayable

  fitting : FitHistory (calls_told end) (ends_told end) left
  fitting = agreed_lines_fit (calls_told end) (ends_told end) rest roles events said_roles sayable lined.agreed so.shown

  numbered : (c : ℕ) → (1 ≤ c) × (c ≤ 16) ⊎ (calls_of c left ≡ [])
  numbered c = go (valid_or_none casts_here left f c)
    where
      go : IsCallerNumber c ⊎ (calls_of c left ≡ []) → (1 ≤ c) × (c ≤ 16) ⊎ (calls_of c left ≡ [])
      go (inl number) = inl (number.0, number.1)
      go (inr none) = inr none

  -- an actor that no caller may call isn't there
  no_actor : (a : ℕ) → callers_of end a ≡ [] → cast_of a left ≡ None
  no_actor a none = go (cast_of a left) refl
    where
      untold : ends_told end a ≡ None
      untold = by (actor_in end a) refl
        where
          by : (o : Option ToldActor) → actor_in end a ≡ o → option_and_then end_told o ≡ None
          by None e = refl
          by (Some actor) e = empty actor.callers.items (record { dead = actor.is_dead; retired = actor.is_retired; runs = map ran_told actor.runs.items })
              (sym (ap (λ o. option_map_or (λ (x : ToldActor). x.callers.items) o []) e) ∙ none)
            where
              empty : (callers : List ℕ) (x : End) → callers ≡ [] → of_role callers x ≡ None
              empty [] x e = refl
              empty (c ∷ callers) x e = cc

      go : (o : Option ActorSpec) → cast_of a left ≡ o → cast_of a left ≡ None
      go None e = e
      go (Some cast) e = let number = cast_good left a f.good (ap (λ o. is_some o) e) in subst (IsActorSo a left) untold (fitting.ended a number.0 number.1)

  -- so no run is told that no events leave
  pub misplaced_refutes : IsMisplaced end → ⊥
  misplaced_refutes = not_misplaced end left f.sound (λ a. (actor_told end casts_here events lined.within a (no_actor a) (fitting.ended a)).runs)
      (calls_left end casts_here events lined.within numbered fitting)

module _ (roles : List Role) (steps : List (ℕ × Step × ℕ)) (rest : List ℕ) (end : ToldEnd) (events walk : List Event)
    (said_roles : IsTrue (list_all is_sayable_role roles)) (sayable : AreSayable events) (walk_sayable : AreSayable walk)
    (read : IsRead end roles steps rest) (so : EndsSo (map actor_spec_of roles) steps events rest) where
  abbrev casts_now : List ActorSpec
  casts_now = map actor_spec_of roles

  abbrev left_now : History
  left_now = history casts_now events

  abbrev come : History
  come = history casts_now walk

  g : Facts casts_now left_now
  g = facts roles events said_roles sayable

  so_numbered : (c : ℕ) → (1 ≤ c) × (c ≤ 16) ⊎ (calls_of c left_now ≡ [])
  so_numbered = numbered roles steps rest end events said_roles sayable read.lined so

  fits : IsLeftBy end left_now
  fits = left_by end casts_now events read.lined.within read.decided (no_actor roles steps rest end events said_roles sayable read.lined so) so_numbered
      (fitting roles steps rest end events said_roles sayable read.lined so)

  has : (c : ℕ) → 1 ≤ c → c ≤ 16 → HasCalls c steps left_now
  has c some few = so.calls c some few

  abbrev told_so : Told
  told_so = said end steps casts_now events read.lines read.lined.within fits read.placed read.decided so_numbered has g.sound g.same

  ends : SomeEnd casts_now (bound_of end) told_so × Fits end told_so
  ends = some_end end steps casts_now events read.lines read.lined.within fits read.placed read.decided so_numbered has g.sound g.same read.lost
      (as_told end steps casts_now events read.lines read.lined.within so.accepted so.does)

  -- so something is told that the data says, and as which some events end
  pub some_told : (told : Told) × SomeEnd casts_now (bound_of end) told × Fits end told
  some_told = (told_so, ends.0, ends.1)

  module _ (decides : FollowsTold end casts_now walk) where
    done : Leaves told_so come × RetiredAsTold told_so come
    done = decides told_so ends.0 ends.1

    same_actors : (c : ℕ) → map (λ (call : Submission). call.actor) (calls_of c come) ≡ map (λ (call : Submission). call.actor) (calls_of c left_now)
    same_actors c = ap (map (λ (call : Submission). call.actor)) (done.0.calls c)
        ∙ map-map (λ (call : Submission). call.actor) submission_of_call (calls_in end c) ∙ fits.calls c

    -- the answer is the same, or it is left_now open, and the events left_now a death
    answer : (c k : ℕ) → (kept_for c k come ≡ kept_for c k left_now) ⊎ (IsLeftOpen rest c k × KeepsDeath c k left_now × (is_some (kept_for c k come) ≡ true))
    answer c k = go ((kept_may_stand end steps casts_now left_now fits read.lines read.placed read.decided so_numbered has g.sound g.same read.lost c).1 k)
      where
        mine : kept_for c k come ≡ kept_at (told_so.kept c) k
        mine = ap (λ l. kept_at l k) (done.0.kept c)

        opened : (o : Option ToldCall) → slice_get (calls_in end c) k ≡ o → (kept_for c k come ≡ kept_for c k left_now) ⊎ IsLeftOpen rest c k
        opened None past = inl (mine ∙ chosen_past left_now (calls_in end c) (kept_of c left_now) k past)
        opened (Some call) at = by (is_death (kept_for c k left_now) && call.is_open && wants_reply call.left) refl
          where
            by : (b : Bool) → (is_death (kept_for c k left_now) && call.is_open && wants_reply call.left) ≡ b → (kept_for c k come ≡ kept_for c k left_now)
                ⊎ IsLeftOpen rest c k
            by false e = inl (mine ∙ chosen_at left_now (calls_in end c) (kept_of c left_now) k at
                ∙ ap (λ b. cond b (reply_there left_now (kept_for c k left_now) call.place) (kept_for c k left_now)) e)
            by true e = number (read.lined.within.callers c)
              where
                is_any : call.is_open ≡ true → call.left ≡ left_told.Reply → (call_told call).kept ≡ Any
                is_any o l = λ i. kept_told (l i) (o i)

                number : (1 ≤ c) × (c ≤ 16) ⊎ (calls_in end c ≡ []) × (bound_of end c ≡ None) → (kept_for c k come ≡ kept_for c k left_now)
                    ⊎ IsLeftOpen rest c k
                number (inr (empty, free)) = let past : slice_get (calls_in end c) k ≡ None = ap (λ l. slice_get l k) empty in
                    let bad : None ≡ Some call = sym past ∙ at in cc
                number (inl (some, few)) =
                    let one = both_true (is_death (kept_for c k left_now) && call.is_open) (wants_reply call.left) e in
                    let two = both_true (is_death (kept_for c k left_now)) call.is_open one.0 in
                    inr (left_open (calls_told end) (ends_told end) rest c k read.lined.agreed some few
                    (slice_get-map call_told (calls_in end c) k ∙ ap (option_map call_told) at) (is_any two.1 (is_wanted call.left one.1)))

        go : (kept_at (told_so.kept c) k ≡ kept_for c k left_now) ⊎ IsReplyForDeath casts_now (with_calls (data_calls end) (told_of left_now))
            (kept_said end steps casts_now events read.lines read.lined.within fits read.placed read.decided so_numbered has g.sound g.same) c k →
            (kept_for c k come ≡ kept_for c k left_now) ⊎ (IsLeftOpen rest c k × KeepsDeath c k left_now × (is_some (kept_for c k come) ≡ true))
        go (inl same) = inl (mine ∙ same)
        go (inr (death, reply, kept, may)) = either (opened (slice_get (calls_in end c) k) refl)
          where
            either : (kept_for c k come ≡ kept_for c k left_now) ⊎ IsLeftOpen rest c k
                → (kept_for c k come ≡ kept_for c k left_now) ⊎ (IsLeftOpen rest c k × KeepsDeath c k left_now × (is_some (kept_for c k come) ≡ true))
            either (inl same) = inl same
            either (inr open_line_there) = inr (open_line_there, death, ap (λ o. is_some o) (mine ∙ kept))

    alike : EndAlike rest come left_now
    alike = record {
      runs = done.0.runs;
      dead = done.0.dead;
      retired = done.1;
      calls = same_actors;
      kept = λ c k. some_alike c k (answer c k);
      answers = λ c k. answers_alike c k (answer c k);
      deaths = λ c k. deaths_alike c k (answer c k);
    }
      where
        Answered : ℕ → ℕ → Type 0
        Answered c k = (kept_for c k come ≡ kept_for c k left_now) ⊎ (IsLeftOpen rest c k × KeepsDeath c k left_now × (is_some (kept_for c k come) ≡ true))

        some_alike : (c k : ℕ) → Answered c k → is_some (kept_for c k come) ≡ is_some (kept_for c k left_now)
        some_alike c k (inl same) = ap (λ o. is_some o) same
        some_alike c k (inr (o, death, some)) = some ∙ sym (ap (λ o. is_some o) death)

        answers_alike : (c k : ℕ) → Answered c k → (kept_for c k come ≡ kept_for c k left_now) ⊎ IsLeftOpen rest c k
        answers_alike c k (inl same) = inl same
        answers_alike c k (inr (o, death, some)) = inr o

        deaths_alike : (c k : ℕ) → Answered c k → (kept_for c k come ≡ kept_for c k left_now) ⊎ (KeepsDeath c k come ⊎ KeepsDeath c k left_now)
        deaths_alike c k (inl same) = inl same
        deaths_alike c k (inr (o, death, some)) = inr (inr death)

    pub matches : Matches casts_now steps rest walk
    matches = record { calls = calls; shown = told_alike roles walk events rest said_roles walk_sayable sayable alike so.shown }
      where
        calls : (c : ℕ) → 1 ≤ c → c ≤ 16 → HasCalls c steps come
        calls c some few telling = by line.0.has_lines refl
          where
            line : (caller : ToldCaller) × (caller_in end c ≡ Some caller) × FitsSteps c steps caller
            line = read.lines c some few

            by : (b : Bool) → line.0.has_lines ≡ b → calls_of c come ≡ calls_of_steps c steps
            by true e = done.0.calls c ∙ ap (map submission_of_call) (of_caller end c line.0 line.1) ∙ line.2.told e
            by false e = absurd (telling (line.2.untold e))

-- a sayable walk that follows what was read matches steps and lines, where sayable roles and events end as they tell
pub walks_decide : WalksDecide
walks_decide roles steps rest end events walk said sayable walk_sayable read so follows =
    matches roles steps rest end events walk said sayable walk_sayable read so follows

-- no run of what was read is misplaced, where sayable roles and events end as steps and lines tell
pub none_misplaced : NoRunIsMisplaced
none_misplaced roles steps rest end events said sayable lined so = misplaced_refutes roles steps rest end events said sayable lined so
