-- What the steps of a kind keep, of every actor of a world and of a joined run.
use Rattle.std.proofs.Common.{◌≡◌, ℕ, List, [], ◌∷◌, Option, Some, None, refl, ap, sym, ◌∙◌, find}
use Rattle.std.specs.Prelude.{◌==◌, option_map}
use Rattle.std.proofs.lemmas.Bool.{eqb-true}
use Rattle.std.proofs.lemmas.Option.{same_Some}
use Rattle.act_types.specs.KindState.{KindState, OwnAt}
use Rattle.act_types.specs.Own.{Ask, StepOf, behaves}
use Rattle.act_rules.specs.declared.event.Event.{Event}
use Rattle.act_rules.specs.declared.history.RunItem.{RunItem}
use Rattle.act_rules.specs.declared.script.Step.{Step}
use Rattle.act_rules.specs.RunList.{Answer, state_after}
use Rattle.act_rules.specs.OwnRuns.{IsKept, Left}
use Rattle.act_rules.specs.History.{ActorSpec, History, opening, cast_of}
use Rattle.act_rules.specs.Rules.{refusal_of, after, after_by, after_all}
use Rattle.act_rules.specs.declared.outcome.WorldRefusal.{WorldRefusal}
use Rattle.act_rules.specs.Laws.{history}
use Rattle.act_rules.proofs.Growth.{added_grows}
use Rattle.act_rules.proofs.Finding.{find-tells}
use Rattle.act_rules.proofs.OwnRuns.{holds_in_each_run}
use Rattle.act_owner.specs.Owner.{OwnerView}
use Rattle.act_world.specs.View.{SlotView, Runs, Died, Ended, Vacant}
use Rattle.act_world.specs.Refines.{IsStage}
use Rattle.act_serve.specs.Served.{EndView, Killed, Retired, Starved, end_id, IfRetired}
use Rattle.act_executor.specs.Joined.{IsJoined, RanAll, end_of}
use Rattle.act_own.specs.Kept.{Keeps, SlotKeeps, EndKeeps, OpensAt}

-- ---- the casts stay

after_casts : (h : History) (event : Event) (refused : Option WorldRefusal) → (after_by h event refused).casts ≡ h.casts
after_casts h event None = (added_grows h event).casts
after_casts h event (Some refusal) = refl

all_casts : (h : History) (events : List Event) → (after_all h events).casts ≡ h.casts
all_casts h [] = refl
all_casts h (event ∷ events) = all_casts (after h event) events ∙ after_casts h event (refusal_of h event)

cast_is_opening : (casts : List ActorSpec) (events : List Event) (a : ℕ) → cast_of a (history casts events) ≡ cast_of a (opening casts)
cast_is_opening casts events a = ap (λ all. find (λ (cast : ActorSpec). cast.actor == a) all) (all_casts (opening casts) events)

module _ {S : Type 0} (step : StepOf S) (written : S → List ℕ) (holds : List (Ask × Answer) → S → Type 0) (kept : IsKept step holds) (start : S)
    (at_first : holds [] start) where
  abbrev opened : KindState
  opened = OwnAt (behaves step written start)

  left : (log : List RunItem) → Left step written holds opened log
  left log = holds_in_each_run step written holds kept start at_first log

  keeps : (cast : ActorSpec) (log : List RunItem) (seen : KindState) → option_map (λ (one : ActorSpec). one.opening) (Some cast) ≡ Some opened →
      seen ≡ state_after cast.opening log → Keeps step written holds opened log seen
  keeps cast log seen opens state =
      let one : Left step written holds opened log = left log in
      record { state = one.state; is = state ∙ ap (λ from. state_after from log) (same_Some cast.opening opened opens) ∙ one.left; kept = one.kept }

  -- an actor of a world
  pub slot_keeps : (casts : List ActorSpec) (events : List Event) (a : ℕ) → OpensAt step written casts a start
      → (slot : Option SlotView) → IsStage (history casts events) a slot → SlotKeeps step written holds opened slot
  slot_keeps casts events a opens None stage = tt
  slot_keeps casts events a opens (Some Vacant) stage = tt
  slot_keeps casts events a opens (Some (Died dead)) stage = left dead.log
  slot_keeps casts events a opens (Some (Runs live)) stage =
      keeps stage.cast live.log live.state
      (ap (λ o. option_map (λ (one : ActorSpec). one.opening) o) (sym stage.cast_is ∙ cast_is_opening casts events a) ∙ opens)
      (stage.state ∙ ap (λ log. state_after stage.cast.opening log) (sym stage.log))
  slot_keeps casts events a opens (Some (Ended retired)) stage =
      keeps stage.cast retired.log retired.state
      (ap (λ o. option_map (λ (one : ActorSpec). one.opening) o) (sym stage.cast_is ∙ cast_is_opening casts events a) ∙ opens)
      (stage.state ∙ ap (λ log. state_after stage.cast.opening log) (sym stage.log))

  -- an actor that threads left
  end_keeps : (casts : List ActorSpec) (owners : List OwnerView) (a : ℕ) → OpensAt step written casts a start
      → (end : EndView) → end_id end ≡ a → IfRetired end (RanAll casts owners) → EndKeeps step written holds opened (Some end)
  end_keeps casts owners a opens (Killed dead) named ran = left dead.log
  end_keeps casts owners a opens (Starved dead) named ran = left dead.log
  end_keeps casts owners a opens (Retired retired) named ran =
      keeps ran.cast retired.log retired.state
      (ap (λ o. option_map (λ (one : ActorSpec). one.opening) o) (sym ran.at ∙ ap (λ b. find (λ (cast : ActorSpec). cast.actor == b) casts) named) ∙ opens)
      ran.state

  -- what each step keeps holds, at the end of a joined run, of each actor that opened the kind at this state
  pub run_keeps : (casts : List ActorSpec) (plans : List (ℕ × List Step)) (owners : List OwnerView) (ends : List EndView) → IsJoined casts plans owners ends
      → (a : ℕ) → OpensAt step written casts a start → EndKeeps step written holds opened (end_of a ends)
  run_keeps casts plans owners ends joined a opens = go (end_of a ends) refl
    where
      go : (end : Option EndView) → end_of a ends ≡ end → EndKeeps step written holds opened end
      go None e = tt
      go (Some end) e =
          let found = find-tells (λ one. IfRetired one (RanAll casts owners)) (λ one. end_id one == a) ends joined.retired e in
          end_keeps casts owners a opens end (eqb-true (end_id end) a found.1) found.0
