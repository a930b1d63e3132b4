-- Actors that retire at the end of a play.
use Rattle.act_plan_plays.proofs.Common.{◌≡◌, ℕ, ◌+◌, ◌≤◌, Bool, true, false, List, [], ◌∷◌, ◌++◌, Option, Some, None, refl, ap, sym, ◌∙◌, subst, leb, arith}
use Rattle.act_plan_plays.proofs.Common.{slice_get, is_some, option_map_or, eq-eqb, leb-true, leb-false, Event, Retire, Step, ActorSpec, History, contains}
use Rattle.act_plan_plays.proofs.Common.{cast_of, runs_of, is_dead, is_retired, is_ended, refusal_of, add_event, ended_stays, SlotView, Runs, Died, Ended}
use Rattle.act_plan_plays.proofs.Common.{Vacant, WorldView, stage_of_slot, is_live_slot, Refines, IsStage, At, with_event, Happens, contains_push, or_right}
use Rattle.act_plan_plays.proofs.Common.{Parts, IsBehind, Stands, shows_live, AllOver, GoesOnRetired, IsRetiredFrom, or_left}

pub begins : (casts : List ActorSpec) (plans : ℕ → List Step) (at : At) (parts : Parts) → Stands casts plans at parts
    → IsRetiredFrom casts plans at at parts.world parts.events
begins casts plans at parts s = record {
  play = s.play;
  same = refl;
  stepped = refl;
  history = s.behind.is;
  reached = s.behind.reached;
  accepted = s.behind.accepted;
}

pub behind_of : {casts : List ActorSpec} {plans : ℕ → List Step} (at end : At) {world : WorldView} {events : List Event} →
    IsRetiredFrom casts plans at end world events → IsBehind casts end.history world events
behind_of at end r = record { is = r.history; reached = r.reached; accepted = r.accepted }

cast_same : {casts : List ActorSpec} {plans : ℕ → List Step} (at : At) {end : At} {world : WorldView} {events : List Event} (a : ℕ) →
    IsRetiredFrom casts plans at end world events → cast_of a end.history ≡ cast_of a at.history
cast_same at a r = ap (cast_of a) r.same

-- ---- one actor

pub retired_more : (casts : List ActorSpec) (plans : ℕ → List Step) (at end : At) {a n : ℕ} {old new : WorldView} {events more : List Event}
    → IsRetiredFrom casts plans at end old events → a ≡ n
    → refusal_of end.history (Retire a) ≡ None → IsBehind casts (add_event end.history (Retire a)) new more → GoesOnRetired casts plans at end n new more
retired_more casts plans at end {a} {new} {more} r same may behind = subst (λ m. GoesOnRetired casts plans at end m new more) same (record {
  next = with_event (Retire a) end;
  is = record {
    play = Happens end (Retire a) r.play refl may;
    same = ap (λ (h : History). record h { retired = end.history.retired ++ a ∷ [] }) r.same;
    stepped = r.stepped;
    history = behind.is;
    reached = behind.reached;
    accepted = behind.accepted;
  };
  over = λ some. or_right (is_dead a end.history) _ (contains_push a a end.history.retired ∙ or_right (contains a end.history.retired) _ (eq-eqb a a refl));
  stays = λ b ended. (ended_stays b (runs_of b end.history) end.history (Retire a) (record { ended = ended; same = refl }) may).ended;
})

over_slot : (h : History) (a : ℕ) (o : Option SlotView) → IsStage h a o → is_some (cast_of a h) ≡ true
    → option_map_or is_live_slot (stage_of_slot o) false ≡ false → is_ended a h ≡ true
over_slot h a None is some e = let bad : true ≡ false = sym some ∙ ap (λ o. is_some o) is in cc
over_slot h a (Some Vacant) is some e = let bad : true ≡ false = sym some ∙ ap (λ o. is_some o) is in cc
over_slot h a (Some (Runs one)) is some e = cc
over_slot h a (Some (Died dead)) is some e = or_left (is_dead a h) (is_retired a h) is.died
over_slot h a (Some (Ended retired)) is some e = or_right (is_dead a h) _ is.ended

pub retired_before : (casts : List ActorSpec) (plans : ℕ → List Step) (at end : At) {a n : ℕ} {world : WorldView} {events : List Event} →
    IsRetiredFrom casts plans at end world events → a ≡ n → shows_live world a ≡ false → GoesOnRetired casts plans at end n world events
retired_before casts plans at end {a} {world} {events} r same shown = subst (λ m. GoesOnRetired casts plans at end m world events) same (record {
  next = end;
  is = r;
  over = λ some.
      let refines : Refines end.history world = subst (λ (h : History). Refines h world) (sym r.history) r.reached in
      over_slot end.history a (slice_get world.slots a) (refines.actors a)
      (ap (λ o. is_some o) (cast_same at a r) ∙ some) shown;
  stays = λ b ended. ended;
})

-- ---- all of them

-- the first actors are over
abbrev pub AreOver : History → History → ℕ → Type 0
AreOver h g n = (a : ℕ) → 1 ≤ a → a ≤ n → is_some (cast_of a h) ≡ true → is_ended a g ≡ true

pub over_more : {casts : List ActorSpec} {plans : ℕ → List Step} (at : At) {end : At} (n : ℕ) {world : WorldView} {events : List Event} →
    AreOver at.history end.history n → (goes : GoesOnRetired casts plans at end (n + 1) world events) → AreOver at.history goes.next.history (n + 1)
over_more at n over goes a from upto some = go (leb a n) refl
  where
    go : (b : Bool) → leb a n ≡ b → is_ended a goes.next.history ≡ true
    go true below = goes.stays a (over a from (leb-true a n below) some)
    go false above =
        let past = leb-false a n above in let is : n + 1 ≡ a = omega arith in
        subst (λ m. is_some (cast_of m at.history) ≡ true → is_ended m goes.next.history ≡ true) is goes.over some

pub over_all : (casts : List ActorSpec) (plans : ℕ → List Step) (at end : At) (n : ℕ) {world : WorldView} {events : List Event} →
    IsRetiredFrom casts plans at end world events → 8 ≤ n → AreOver at.history end.history n → AllOver end.history
over_all casts plans at end n {world} {events} r enough over a from upto some = over a from (omega arith) (sym (ap (λ o. is_some o) (cast_same at a r)) ∙ some)
