-- What a world shows, as a report tells it.
use Rattle.act_console.proofs.Common.{◌≡◌, ℕ, true, false, Bool, List, [], ◌∷◌, ◌++◌, Option, Some, None, option_map, refl, ap, sym, ◌∙◌, subst, suc, ◌+◌}
use Rattle.act_console.proofs.Common.{append_assoc, add-one, find, slice_get, if◌then◌else◌, eqb-true, or_parts, flat_map-append, append-nil, option_map_or}
use Rattle.act_console.proofs.Common.{flat_map, KindState, Event, state_after, ActorSpec, History, opening, calls_of, kept_of, runs_of, cast_of, is_dead}
use Rattle.act_console.proofs.Common.{is_retired, history, one_to, outcome_lines, numbered_lines, future_line, stage_of, stage_text, summary, summary_of}
use Rattle.act_console.proofs.Common.{actor_lines, report, Outcome, outcomes, OwnerView, is_owner, SlotView, Runs, Died, Ended, Vacant, WorldView}
use Rattle.act_console.proofs.Common.{stage_of_slot, stage_in, IsStage, IsReachedBy, HasPlayed, world_kept, slot_log, world_log, world_lawful, calls_are}
use Rattle.act_console.proofs.Common.{kept_are, logs_are, owner_lines, standing_text, standing_in, world_report}
use Rattle.act_console.specs.Parts.{caller_lines, stage_lines, world_summary}

-- ---- one caller, one actor

-- a caller whom the world doesn't have
pub no_owner : (world : WorldView) (c : ℕ) {n : ℕ} → c ≡ n → find (is_owner c) world.network.owners ≡ None → caller_lines world n ≡ []
unfolding caller_lines
no_owner world c is none =
    ap (caller_lines world) (sym is)
    ∙ ap (λ owner. numbered_lines (future_line c (option_map_or (λ o. o.kept) owner [])) 0 (option_map_or (λ o. o.calls) owner [])) none

pub found_named : (c : ℕ) (owners : List OwnerView) (owner : OwnerView) → find (is_owner c) owners ≡ Some owner → owner.id ≡ c
found_named c [] owner e = cc
found_named c (one ∷ owners) owner e = go (is_owner c one) refl e (found_named c owners owner)
  where
    go : (b : Bool) → is_owner c one ≡ b → (if b then Some one else find (is_owner c) owners) ≡ Some owner →
        (find (is_owner c) owners ≡ Some owner → owner.id ≡ c) → owner.id ≡ c
    go true is found rest = ap (λ (o : Option OwnerView). option_map_or (λ o. o.id) o c) (sym found) ∙ eqb-true one.id c is
    go false is found rest = rest found

-- a caller whom the world has
pub one_owner : (world : WorldView) {owner : OwnerView} (c : ℕ) {n : ℕ} → c ≡ n → find (is_owner c) world.network.owners ≡ Some owner →
    owner_lines owner ≡ caller_lines world n
unfolding caller_lines
one_owner world {owner} c is found =
    ap (λ id. numbered_lines (future_line id owner.kept) 0 owner.calls) (found_named c world.network.owners owner found)
    ∙ ap (λ found. numbered_lines (future_line c (option_map_or (λ o. o.kept) found [])) 0 (option_map_or (λ o. o.calls) found [])) (sym found)
    ∙ ap (caller_lines world) is

-- an actor that the world doesn't have
pub no_stage : (world : WorldView) (a : ℕ) {n : ℕ} → a ≡ n → stage_in world a ≡ None → stage_lines world n ≡ []
unfolding stage_lines
no_stage world a is none = ap (stage_lines world) (sym is) ∙ ap (λ stage. actor_lines a (world_log world a) (option_map standing_text stage)) none

in_slot : (slot : Option SlotView) {seen : SlotView} → stage_of_slot slot ≡ Some seen → slot ≡ Some seen
in_slot None e = cc
in_slot (Some Vacant) e = cc
in_slot (Some view) e = e

-- an actor that the world has
pub one_stage : (world : WorldView) (seen : SlotView) (a : ℕ) {n : ℕ} → a ≡ n → stage_in world a ≡ Some seen →
    actor_lines a (slot_log seen) (Some (standing_text seen)) ≡ stage_lines world n
unfolding stage_lines
one_stage world seen a is found =
    ap (λ slot. actor_lines a (option_map_or slot_log slot []) (Some (standing_text seen))) (sym (in_slot (slice_get world.slots a) found))
    ∙ ap (λ stage. actor_lines a (world_log world a) (option_map standing_text stage)) (sym found)
    ∙ ap (stage_lines world) is

-- ---- all of them

-- how an actor without a cast stands, and how one with a cast does
pub uncast : (h : History) (a : ℕ) → cast_of a h ≡ None → stage_of a h ≡ None
uncast h a none = ap (λ (cast : Option ActorSpec). option_map (λ state. stage_text (is_dead a h) (is_retired a h) (state_after state (runs_of a h)))
    (option_map (λ cast. cast.opening) cast)) none

pub stage_at : (h : History) (a : ℕ) {cast : ActorSpec} {dead : Bool} (retired : Bool) (state : KindState) → cast_of a h ≡ Some cast → is_dead a h ≡ dead
    → is_retired a h ≡ retired → state ≡ state_after cast.opening (runs_of a h) → stage_of a h ≡ Some (stage_text dead retired state)
stage_at h a {cast} {dead} retired state is died ended same =
    ap (λ (cast : Option ActorSpec). option_map (λ state. stage_text (is_dead a h) (is_retired a h) (state_after state (runs_of a h)))
    (option_map (λ cast. cast.opening) cast)) is
    ∙ ap (λ b. Some (stage_text b (is_retired a h) (state_after cast.opening (runs_of a h)))) died
    ∙ ap (λ b. Some (stage_text dead b (state_after cast.opening (runs_of a h)))) ended
    ∙ ap (λ s. Some (stage_text dead retired s)) (sym same)

stages_are : (h : History) (a : ℕ) (slot : Option SlotView) → IsStage h a slot → stage_of a h ≡ option_map standing_text (stage_of_slot slot)
stages_are h a None is = uncast h a is
stages_are h a (Some Vacant) is = uncast h a is
stages_are h a (Some (Runs live)) is = let runs = or_parts (is_dead a h) (is_retired a h) is.runs in
    stage_at h a false live.state is.cast_is runs.0 runs.1 is.state
stages_are h a (Some (Died dead)) is = stage_at h a (is_retired a h) (state_after is.cast.opening (runs_of a h)) is.cast_is is.died refl refl
stages_are h a (Some (Ended retired)) is = stage_at h a true retired.state is.cast_is is.lived is.ended is.state

-- the lines of one number more
pub next_lines : (lines : ℕ → List ℕ) (n : ℕ) (old : List ℕ) {new text shown : List ℕ} → new ≡ text ++ shown → shown ≡ lines (n + 1)
    → text ≡ old ++ flat_map lines (one_to n) → new ≡ old ++ flat_map lines (one_to (n + 1))
next_lines lines n old {text} is one so_far =
    is ∙ ap (λ back. text ++ back) one
    ∙ ap (λ front. front ++ lines (n + 1)) so_far
    ∙ append_assoc old (flat_map lines (one_to n)) (lines (n + 1))
    ∙ ap (λ m. old ++ (flat_map lines (one_to n) ++ lines m)) (add-one n)
    ∙ ap (λ back. old ++ (flat_map lines (one_to n) ++ back)) (sym (append-nil (lines (suc n))))
    ∙ ap (λ all. old ++ all) (sym (flat_map-append lines (one_to n) (suc n ∷ [])))
    ∙ ap (λ m. old ++ flat_map lines (one_to m)) (sym (add-one n))

-- a text that was made part by part is the report
pub all_parts : (world : WorldView) (told : List Outcome) (empty first second whole : List ℕ) → empty ≡ [] → first ≡ empty ++ outcome_lines told →
    second ≡ first ++ flat_map (caller_lines world) (one_to 16) → whole ≡ second ++ flat_map (stage_lines world) (one_to 8) → whole ≡ world_report told world
unfolding caller_lines stage_lines world_summary
all_parts world told empty first second whole none one two three =
    three
    ∙ ap (λ text. text ++ flat_map (stage_lines world) (one_to 8))
    (two ∙ ap (λ text. text ++ flat_map (caller_lines world) (one_to 16)) (one ∙ ap (λ text. text ++ outcome_lines told) none))
    ∙ append_assoc (outcome_lines told) (flat_map (caller_lines world) (one_to 16)) (flat_map (stage_lines world) (one_to 8))

-- what is told of casts and events is told of others that are the same
pub told_of_same : (told : List ActorSpec → List Event → List ℕ) (text : List ℕ) (casts same_casts : List ActorSpec) (events same_events : List Event) →
    casts ≡ same_casts → events ≡ same_events → text ≡ told casts events → text ≡ told same_casts same_events
told_of_same told text casts same_casts events same_events one other is = is ∙ ap (λ cs. told cs events) one ∙ ap (told same_casts) other

-- a standing world shows what the history tells
pub summary_is : (casts : List ActorSpec) (events : List Event) (world : WorldView) → IsReachedBy casts events world →
    world_summary world ≡ summary (history casts events)
unfolding world_summary
summary_is casts events world refines =
    let h = history casts events in let lawful = world_lawful casts events in
    sym
    (subst (λ f. summary h ≡ summary_of f (world_kept world) (standing_in world) (world_log world)) (λ i c. calls_are h c (find (is_owner c)
    world.network.owners) lawful (refines.owners c) i) (subst (λ f. summary h ≡ summary_of (λ c. calls_of c h) f (standing_in world) (world_log world))
    (λ i c. kept_are h c (find (is_owner c) world.network.owners) lawful (refines.owners c) i) (subst (λ f. summary h ≡ summary_of (λ c. calls_of c h)
    (λ c. kept_of c h) f (world_log world)) (λ i a. stages_are h a (slice_get world.slots a) (refines.actors a) i) (subst (λ f. summary h ≡ summary_of
    (λ c. calls_of c h) (λ c. kept_of c h) (λ a. stage_of a h) f) (λ i a. logs_are a (slice_get world.slots a) lawful (refines.actors a) i) refl))))

-- the report of events that were told in full, and of the world after them
pub report_is : (casts : List ActorSpec) (events : List Event) (old new : WorldView) (empty told shown : List Outcome) → IsReachedBy casts [] old
    → HasPlayed events old new empty told → empty ≡ [] → shown ≡ told → world_report shown new ≡ report (opening casts) events
report_is casts events old new empty told shown opened played none same =
    let after = played casts [] opened in
    ap (λ told. world_report told new) (same ∙ after.1 ∙ ap (λ front. front ++ outcomes (opening casts) events) none)
    ∙ ap (λ text. outcome_lines (outcomes (opening casts) events) ++ text) (summary_is casts events new after.0)
