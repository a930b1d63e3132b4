-- A world that stands is consistent.
use Rattle.act_world.proofs.Common.{◌≡◌, ℕ, ◌<◌, Bool, true, false, List, [], ◌∷◌, ◌++◌, length, map, Some, None, refl, ap, sym, ◌∙◌, subst, arith, Option}
use Rattle.act_world.proofs.Common.{◌==◌, ◌||◌, find, slice_get, is_some, not, enumerate_from, option_map_or, eq-eqb, eqb-true, or_parts, Event, Run, TakeKill}
use Rattle.act_world.proofs.Common.{RunItem, Submission, NoActor, Handle, ActorEnded, NoKill, items_of, has_terminated, needs, Consistent, history, ActorSpec}
use Rattle.act_world.proofs.Common.{History, opening, contains, cast_of, opening_of, names, is_caller, calls_of, runs_of, ran_count, kept_of, first_answer}
use Rattle.act_world.proofs.Common.{has_letter, is_dead, is_retired, is_ended, next_item, refusal_of, after_run, IsKept, after_all_keeps, needs-none}
use Rattle.act_world.proofs.Common.{has_letter-sound, added_grows, consistent, OwnerView, is_owner, SlotView, Runs, Died, Ended, Vacant, WorldView, IsOwnerAt}
use Rattle.act_world.proofs.Common.{IsStage, Refines, is_dead_slot, world_calls, world_kept, slot_log, world_log, world_died, IsConsistent, CallLetter}
use Rattle.act_world.proofs.Common.{named_call}
use Rattle.act_world.proofs.Lawful.{IsLawful, IsNamedLetter, world_lawful, named_caller}

-- ---- the casts stay, and the killed have casts

abbrev HasCasts : List ActorSpec → History → Type 0
HasCasts casts h = h.casts ≡ casts

casts_step : (casts : List ActorSpec) → IsKept (HasCasts casts)
casts_step casts h event same accepted = (added_grows h event).casts ∙ same

abbrev KilledHaveCasts : History → Type 0
KilledHaveCasts h = (a : ℕ) → contains a h.killed ≡ true → is_some (cast_of a h) ≡ true

kill_needs : (h : History) (a : ℕ) → refusal_of h (TakeKill a) ≡ None → is_some (cast_of a h) ≡ true
kill_needs h a e = (needs-none (is_some (cast_of a h)) (Handle NoActor) (needs (not (is_ended a h)) ActorEnded (needs (contains a h.asked) NoKill None)) e).0

one_more : (xs : List ℕ) (a b : ℕ) → contains a (xs ++ b ∷ []) ≡ true → (contains a xs ≡ false) → b ≡ a
one_more [] a b e none = go (b == a) refl e
  where
    go : (same : Bool) → (b == a) ≡ same → (same || false) ≡ true → b ≡ a
    go true is e = eqb-true b a is
    go false is e = cc
one_more (x ∷ xs) a b e none = go (x == a) e none (one_more xs a b)
  where
    go : (same : Bool) → (same || contains a (xs ++ b ∷ [])) ≡ true → (same || contains a xs) ≡ false →
        (contains a (xs ++ b ∷ []) ≡ true → contains a xs ≡ false → b ≡ a) → b ≡ a
    go true e none rest = cc
    go false e none rest = rest e none

killed_step : IsKept KilledHaveCasts
killed_step h (Run a c) all accepted b killed = go (next_item a c h) killed
  where
    go : (o : Option RunItem) → contains b (after_run a c h o).killed ≡ true → is_some (cast_of b (after_run a c h o)) ≡ true
    go None killed = all b killed
    go (Some item) killed = all b killed
killed_step h (TakeKill a) all accepted b killed = go (contains b h.killed) refl
  where
    go : (before : Bool) → contains b h.killed ≡ before → is_some (cast_of b h) ≡ true
    go true is = all b is
    go false is = subst (λ x. is_some (cast_of x h) ≡ true) (one_more h.killed b a killed is) (kill_needs h a accepted)
killed_step h other all accepted b killed = all b killed

-- ---- who is no caller submitted nothing, and what has no cast ran nothing

no_calls : (h : History) (c : ℕ) (calls : List Submission) → calls_of c h ≡ calls → IsLawful h → is_caller c h ≡ false → calls ≡ []
no_calls h c [] is lawful stranger = refl
no_calls h c (call ∷ calls) is lawful stranger =
    let named = named_call h c 0 lawful.retires.named (ap (λ l. slice_get l 0) is) in
    let bad : true ≡ false = sym (named_caller c call.actor h named) ∙ stranger in absurd (cc)

first_counts : (item : RunItem) (items : List RunItem) → 0 < length (items_of item.caller (item ∷ items))
first_counts item items = rw (eq-eqb item.caller item.caller refl) (omega arith)

no_runs : (h : History) (a : ℕ) (items : List RunItem) → runs_of a h ≡ items → IsLawful h → cast_of a h ≡ None → items ≡ []
no_runs h a [] is lawful uncast = refl
no_runs h a (item ∷ items) is lawful uncast =
    let below : 0 < ran_count item.caller a h = subst (λ l. 0 < length (items_of item.caller l)) (sym is) (first_counts item items) in
    let arrived = lawful.came a item.caller 0 below in
    let sent = has_letter-sound (λ letter. has_letter letter h.mail ≡ true) (CallLetter item.caller a 0) h.arrived lawful.sent arrived in
    let named = has_letter-sound (IsNamedLetter h) (CallLetter item.caller a 0) h.mail lawful.named.mail sent in
    let bad : false ≡ true = ap (names item.caller) (sym uncast) ∙ named in absurd (cc)

-- ---- what the world shows is what the history tells

-- a caller's calls are those of its owner in the world, and none where it has no owner there
pub calls_are : (h : History) (c : ℕ) (owner : Option OwnerView) → IsLawful h → IsOwnerAt h c owner →
    calls_of c h ≡ option_map_or (λ (o : OwnerView). o.calls) owner []
calls_are h c None lawful is = no_calls h c (calls_of c h) refl lawful is
calls_are h c (Some owner) lawful is = sym is.1.calls

pub kept_are : (h : History) (c : ℕ) (owner : Option OwnerView) → IsLawful h → IsOwnerAt h c owner →
    kept_of c h ≡ option_map_or (λ (o : OwnerView). o.kept) owner []
kept_are h c None lawful is = ap (λ calls. map (first_answer h c) (enumerate_from 0 calls)) (no_calls h c (calls_of c h) refl lawful is)
kept_are h c (Some owner) lawful is = sym is.1.kept

-- an actor's run list is that of its slot in the world, and empty where it has no slot there
pub logs_are : {h : History} (a : ℕ) (slot : Option SlotView) → IsLawful h → IsStage h a slot → runs_of a h ≡ option_map_or slot_log slot []
logs_are {h} a None lawful is = no_runs h a (runs_of a h) refl lawful is
logs_are {h} a (Some Vacant) lawful is = no_runs h a (runs_of a h) refl lawful is
logs_are a (Some view) lawful is = sym is.log

not_killed : (h : History) (a : ℕ) → KilledHaveCasts h → cast_of a h ≡ None → contains a h.killed ≡ false
not_killed h a all uncast = go (contains a h.killed) refl
  where
    go : (b : Bool) → contains a h.killed ≡ b → b ≡ false
    go true e = let bad : false ≡ true = ap (λ o. is_some o) (sym uncast) ∙ all a e in absurd (cc)
    go false e = refl

not_dead : (h : History) (a : ℕ) → IsLawful h → KilledHaveCasts h → cast_of a h ≡ None → is_dead a h ≡ false
not_dead h a lawful all uncast =
    ap (λ b. b || has_terminated (runs_of a h)) (not_killed h a all uncast)
    ∙ ap has_terminated (no_runs h a (runs_of a h) refl lawful uncast)

deaths_are : (h : History) (a : ℕ) (slot : Option SlotView) → IsLawful h → KilledHaveCasts h → IsStage h a slot →
    is_dead a h ≡ option_map_or is_dead_slot slot false
deaths_are h a None lawful all is = not_dead h a lawful all is
deaths_are h a (Some Vacant) lawful all is = not_dead h a lawful all is
deaths_are h a (Some (Runs live)) lawful all is = (or_parts (is_dead a h) (is_retired a h) is.runs).0
deaths_are h a (Some (Died dead)) lawful all is = is.died
deaths_are h a (Some (Ended retired)) lawful all is = is.lived

opened : (casts : List ActorSpec) (h : History) (a : ℕ) → h.casts ≡ casts → opening_of a h ≡ opening_of a (opening casts)
opened casts h a same = ap (λ l. opening_of a (opening l)) same

-- the world is consistent, as its history is
pub stands_consistent : (casts : List ActorSpec) (events : List Event) {world : WorldView} → Refines (history casts events) world → IsConsistent casts world
stands_consistent casts events {world} refines =
    let h = history casts events in let lawful = world_lawful casts events in
    let same : h.casts ≡ casts = after_all_keeps (HasCasts casts) (casts_step casts) (opening casts) events refl in
    let killed : KilledHaveCasts h = after_all_keeps KilledHaveCasts killed_step (opening casts) events (λ a e. cc) in
    subst (λ f. Consistent f (world_calls world) (world_log world) (world_kept world) (world_died world)) (λ i a. opened casts h a same i)
    (subst (λ f. Consistent (λ a. opening_of a h) f (world_log world) (world_kept world) (world_died world))
    (λ i c. calls_are h c (find (is_owner c) world.network.owners) lawful (refines.owners c) i) (subst (λ f. Consistent (λ a. opening_of a h)
    (λ c. calls_of c h) f (world_kept world) (world_died world)) (λ i a. logs_are a (slice_get world.slots a) lawful (refines.actors a) i)
    (subst (λ f. Consistent (λ a. opening_of a h) (λ c. calls_of c h) (λ a. runs_of a h) f (world_died world)) (λ i c. kept_are h c (find
    (is_owner c) world.network.owners) lawful (refines.owners c) i) (subst (λ f. Consistent (λ a. opening_of a h) (λ c. calls_of c h) (λ a. runs_of a h)
    (λ c. kept_of c h) f) (λ i a. deaths_are h a (slice_get world.slots a) lawful killed (refines.actors a) i) (consistent h lawful.sound)))))
