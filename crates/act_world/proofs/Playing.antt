-- One event of the whole world, and one event after another.
use Rattle.act_world.proofs.Common.{◌≡◌, ℕ, ◌+◌, ◌<◌, ◌≤◌, arith, List, [], ◌∷◌, ◌++◌, length, take, ap, sym, ◌∙◌, subst, get_or, append_assoc, Some, IfSome}
use Rattle.act_world.proofs.Common.{slice_get-get_or, take_more, Event, ActorSpec, opening, history, Outcome, after, after_all, outcome_of, outcomes}
use Rattle.act_world.proofs.Common.{after_all-append, outcomes-append, NetworkView, WorldView, Refines, IsReachedBy, FollowsRules, IsUnrefused, IsUnrefusedAt}
use Rattle.act_world.proofs.Common.{HasPlayed, IsGrownBy, TakesMemory, TakesMemoryAt}

-- the world stands after one event more
pub stands_next : (casts : List ActorSpec) (before : List Event) (event : Event) {world : WorldView} → Refines (after (history casts before) event) world →
    IsReachedBy casts (before ++ event ∷ []) world
stands_next casts before event {world} refines = subst (λ h. Refines h world) (sym (after_all-append (opening casts) before (event ∷ []))) refines

pub grown_within : (events : List Event) (i : ℕ) (old new : NetworkView) → i ≤ length events → IsGrownBy i old new → IsGrownBy (length events) old new
grown_within events i old new within grown = omega arith

-- what is told of one event more
pub Played_next : (events : List Event) (i : ℕ) (d : Event) (old mid new : WorldView) (told told_mid : List Outcome) {told_new : List Outcome}
    (outcome : Outcome) → i < length events → HasPlayed (take i events) old mid told told_mid → FollowsRules (get_or events i d) mid new outcome →
    told_new ≡ told_mid ++ outcome ∷ [] → HasPlayed (take (i + 1) events) old new told told_new
Played_next events i d old mid new told told_mid {told_new} outcome below played follows more casts before reached =
    let first = played casts before reached in let next = follows casts (before ++ take i events) first.0 in let event = get_or events i d in
    let front = take i events in let h = history casts before in
    let shown : take (i + 1) events ≡ front ++ event ∷ [] = take_more events i d below in
    let joined : history casts (before ++ front) ≡ after_all h front = after_all-append (opening casts) before front in
    let told_all : told_new ≡ told ++ outcomes h (front ++ event ∷ []) =
    more
    ∙ ap (λ l. l ++ outcome ∷ []) first.1
    ∙ append_assoc told (outcomes h front) (outcome ∷ [])
    ∙ ap (λ o. told ++ (outcomes h front ++ o ∷ [])) (next.0 ∙ ap (λ g. outcome_of g event) joined)
    ∙ ap (λ l. told ++ l) (sym (outcomes-append h front (event ∷ []))) in
    subst (λ l. IsReachedBy casts (before ++ l) new × (told_new ≡ told ++ outcomes h l)) (sym shown)
    (subst (λ l. IsReachedBy casts l new) (append_assoc before front (event ∷ [])) (stands_next casts (before ++ front) event next.1), told_all)

-- nothing refuses the event that the world stopped at
pub unrefused_at : (events : List Event) (i : ℕ) (event : Event) (old new : WorldView) → i < length events → event ≡ get_or events i event → new ≡ old →
    IsUnrefused event old → IsUnrefusedAt i events new
unrefused_at events i event old new below is same unrefused =
    subst (λ world. IsUnrefusedAt i events world) (sym same)
    (subst (λ at. IfSome at (λ one. IsUnrefused one old)) (sym (slice_get-get_or events i event below ∙ ap Some (sym is))) unrefused)

-- the event that the world stopped at takes memory
pub memory_at : (events : List Event) (i : ℕ) (event : Event) (old new : WorldView) → i < length events → event ≡ get_or events i event → new ≡ old →
    TakesMemory event old → TakesMemoryAt i events new
memory_at events i event old new below is same takes =
    subst (λ world. TakesMemoryAt i events world) (sym same)
    (subst (λ at. IfSome at (λ one. TakesMemory one old)) (sym (slice_get-get_or events i event below ∙ ap Some (sym is))) takes)
