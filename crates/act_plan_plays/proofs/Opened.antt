-- A play as it is opened, and as contracts see it.
use Rattle.act_plan_plays.proofs.Common.{◌≡◌, ℕ, zero, suc, ◌<◌, true, false, List, [], ◌∷◌, Some, refl, ap, sym, ◌∙◌, subst, arith, replicate, ◌||◌, map}
use Rattle.act_plan_plays.proofs.Common.{slice_get, IsOk, eq-eqb, All-nil, Did, WorldRefusal, Event, Step, RunItem, ActorSpec, History, contains, runs_of}
use Rattle.act_plan_plays.proofs.Common.{WorldView, IsReachedBy, At, opened, Opens, is_heard, HaveSameChoices, Parts, Stands, KindState, Slot, PlanPlayOf}
use Rattle.act_plan_plays.proofs.Common.{PlanPlayView, play_view, HoldPlans, StandsAt, map_none}

zeros : (n c : ℕ) → c < n → slice_get {X = ℕ} (replicate n 0) c ≡ Some 0
zeros zero c below = absurd (omega arith)
zeros (suc n) zero below = refl
zeros (suc n) (suc c) below = zeros n c (omega arith)

pub opens : (casts : List ActorSpec) (plans : ℕ → List Step) (world : WorldView) (events : List Event) (asked : List ℕ) → IsReachedBy casts [] world →
    events ≡ [] → asked ≡ [] → (at : At) × Stands casts plans at (record { world = world; events = events; done = replicate 17 0; asked = asked }) ×
    ((a : ℕ) → runs_of a at.history ≡ []) × (at.history.killed ≡ [])
opens casts plans world events asked reached none nobody =
    subst (λ l. (at : At) × Stands casts plans at (record { world = world; events = l; done = replicate 17 0; asked = asked })
    × ((a : ℕ) → runs_of a at.history ≡ []) × (at.history.killed ≡ [])) (sym none)
    (subst (λ l. (at : At) × Stands casts plans at (record { world = world; events = []; done = replicate 17 0; asked = l })
    × ((a : ℕ) → runs_of a at.history ≡ []) × (at.history.killed ≡ [])) (sym nobody) (
      opened casts,
      record {
        play = Opens;
        live = refl;
        behind = record { is = refl; reached = reached; accepted = All-nil (IsOk {T = Did} {E = WorldRefusal}) };
        steps = λ c below. zeros 17 c below;
        asked = λ a. refl;
        brought = λ letter there live. cc;
      },
      (λ a. refl),
      refl,
    ))

-- ---- the play as contracts see it

abbrev pub parts_in : PlanPlayView → Parts
parts_in seen = record { world = seen.world; events = seen.events; done = seen.done; asked = seen.asked }

-- where a play stands, so do its parts
pub stands_in : {casts : List ActorSpec} {plans : ℕ → List Step} {at : At} {seen : PlanPlayView} → StandsAt casts plans at seen
    → Stands casts plans at (parts_in seen)
stands_in s = record {
  play = s.play;
  live = s.live;
  behind = record { is = s.history; reached = s.world; accepted = s.accepted };
  steps = s.steps;
  asked = s.asked;
  brought = s.brought;
}

-- a play stands where its parts stand and its setups hold the plans
pub stands_at : {casts : List ActorSpec} {plans : ℕ → List Step} {at : At} (seen : PlanPlayView) → Stands casts plans at (parts_in seen)
    → HoldPlans casts plans seen.setups → StandsAt casts plans at seen
stands_at seen s hold = record {
  play = s.play;
  live = s.live;
  history = s.behind.is;
  world = s.behind.reached;
  accepted = s.behind.accepted;
  steps = s.steps;
  asked = s.asked;
  brought = s.brought;
  setups = hold;
}

-- what holds of the fields
pub inside : {K : Type 0} (state : K → KindState) (casts : List ActorSpec) (plans : ℕ → List Step) (at : At) (fields seen : PlanPlayOf (Slot K)) → fields ≡ seen
    → StandsAt casts plans at (play_view state seen) → StandsAt casts plans at (play_view state fields)
inside {K = K} state casts plans at fields seen is stands = subst (λ v. StandsAt casts plans at (play_view state v)) (sym is) stands

-- ---- no choice was made

-- a list that contains no number is empty
pub contained_none : (xs : List ℕ) → ((b : ℕ) → contains b xs ≡ false) → xs ≡ []
contained_none [] none = refl
contained_none (x ∷ xs) none =
    let is : contains x (x ∷ xs) ≡ true = ap (λ b. b || contains x xs) (eq-eqb x x refl) in
    let bad : true ≡ false = sym is ∙ none x in cc

pub no_runs : (a : ℕ) {h g : History} → runs_of a h ≡ [] → HaveSameChoices h g → runs_of a g ≡ []
no_runs a {h} {g} none same =
    map_none (λ (item : RunItem). (item.caller, is_heard g item)) (runs_of a g)
    (sym (same.choices a) ∙ ap (λ l. map (λ (item : RunItem). (item.caller, is_heard h item)) l) none)

pub no_kills : {h g : History} → h.killed ≡ [] → HaveSameChoices h g → g.killed ≡ []
no_kills {g} none same = contained_none g.killed (λ b. sym (same.killed b) ∙ ap (λ l. contains b l) none)
