-- What an actor answers, one call after the other.
use Rattle.act_decisions.proofs.Common.{◌≡◌, ℕ, ◌+◌, ◌<◌, ◌≤◌, ◌==◌, ◌⊎◌, inl, inr, List, [], ◌∷◌, ◌++◌, length, map, take, get_or, slice_get}
use Rattle.act_decisions.proofs.Common.{Option, Some, None, option_map, refl, sym, ap, ◌∙◌, take_more, take_all, map-append, ActorSpec, actor_spec_of, Role}
use Rattle.act_decisions.proofs.Common.{ToldEnd, find, option_and_then, length-append, Answer, after_item, answer_at, answers_from, state_after}
use Rattle.act_decisions.proofs.Common.{opening_state, find-map, answers_from-append, ToldRun, rans_in, Answered, AreAnswers, item_told, answer_told}
use Rattle.act_types.specs.KindState.{KindState}
use Rattle.act_rules.proofs.RunLists.{state_after-push}
use Rattle.act_lists.proofs.Lists.{slice_get_pushed}

-- the answers to the calls so far, and the state after them
pub record AreSoFar (start : KindState) (runs : List ToldRun) (i : ℕ) (answers : List Answer) (now : KindState) : Type 0 where
  pub answers_are : answers ≡ answers_from start (map item_told (take i runs))
  pub state_is : now ≡ state_after start (map item_told (take i runs))

pub none_yet : (start : KindState) (runs : List ToldRun) → AreSoFar start runs 0 [] start
none_yet start runs = record { answers_are = refl; state_is = refl }

items_more : (runs : List ToldRun) (i : ℕ) (run : ToldRun) → i < length runs → run ≡ get_or runs i run
    → map item_told (take (i + 1) runs) ≡ map item_told (take i runs) ++ item_told run ∷ []
items_more runs i run within is =
    ap (map item_told) (take_more runs i run within ∙ ap (λ r. take i runs ++ r ∷ []) (sym is)) ∙ map-append item_told (take i runs) (run ∷ [])

-- one call more
pub one_answer : {start : KindState} {runs : List ToldRun} {i : ℕ} {run : ToldRun} {answers new : List Answer} {now next : KindState} {answer : Answer} →
    i < length runs → run ≡ get_or runs i run → AreSoFar start runs i answers now → answer ≡ (after_item now (item_told run)).1 →
    next ≡ (after_item now (item_told run)).0 → new ≡ answers ++ answer ∷ [] → AreSoFar start runs (i + 1) new next
one_answer {start} {runs} {i} {run} within is so_far answered moved added =
    let items = map item_told (take i runs) in
    record {
      answers_are = added ∙ (λ j. so_far.answers_are j ++ answered j ∷ []) ∙ ap (λ s. answers_from start items ++ (after_item s (item_told run)).1 ∷ [])
          so_far.state_is ∙ sym (answers_from-append start items (item_told run ∷ [])) ∙ ap (answers_from start) (sym (items_more runs i run within is));
      state_is = moved ∙ ap (λ s. (after_item s (item_told run)).0) so_far.state_is
          ∙ sym (state_after-push start items (item_told run)) ∙ ap (state_after start) (sym (items_more runs i run within is));
    }

-- all of them
pub all_answered : (start : KindState) (runs : List ToldRun) (i : ℕ) (answers : List Answer) (now : KindState) → length runs ≤ i →
    AreSoFar start runs i answers now → answers ≡ answers_from start (map item_told runs)
all_answered start runs i answers now whole so_far = so_far.answers_are ∙ ap (λ l. answers_from start (map item_told l)) (take_all i runs whole)

-- ---- by the actors' roles

find_role : (roles : List Role) (a : ℕ) → find (λ (cast : ActorSpec). cast.actor == a) (map actor_spec_of roles) ≡ option_map actor_spec_of
    (find (λ (role : Role). role.actor == a) roles)
find_role roles a = find-map (λ (cast : ActorSpec). cast.actor == a) actor_spec_of roles

-- what an actor is told to answer, by its role
pub told_by_role : (roles : List Role) (end : ToldEnd) (a p : ℕ) {found : Option Role} → found ≡ find (λ (role : Role). role.actor == a) roles → answer_told
    (map actor_spec_of roles) end a p ≡ option_and_then (λ (role : Role). answer_at (opening_state role.kind) (map item_told (rans_in end a)) p) found
told_by_role roles end a p {found} is =
    ap (λ o. option_and_then (λ state. answer_at state (map item_told (rans_in end a)) p) (option_map (λ (cast : ActorSpec). cast.opening) o))
    (find_role roles a ∙ ap (option_map actor_spec_of) (sym is)) ∙ go found
  where
    go : (o : Option Role) → option_and_then (λ state. answer_at state (map item_told (rans_in end a)) p) (option_map (λ (cast : ActorSpec). cast.opening)
        (option_map actor_spec_of o)) ≡ option_and_then (λ (role : Role). answer_at (opening_state role.kind) (map item_told (rans_in end a)) p) o
    go None = refl
    go (Some role) = refl

pub told_by_none : (roles : List Role) (end : ToldEnd) (a p : ℕ) {answers : List Answer} → answers ≡ [] → None ≡ find (λ (role : Role). role.actor == a) roles
    → slice_get answers p ≡ answer_told (map actor_spec_of roles) end a p
told_by_none roles end a p none is = ap (λ l. slice_get l p) none ∙ sym (told_by_role roles end a p is)

pub told_by_some : (roles : List Role) (end : ToldEnd) (a p : ℕ) {role : Role} {runs : List ToldRun} {answers : List Answer} →
    Some role ≡ find (λ (role : Role). role.actor == a) roles → runs ≡ rans_in end a → answers ≡ answers_from (opening_state role.kind) (map item_told runs) →
    slice_get answers p ≡ answer_told (map actor_spec_of roles) end a p
told_by_some roles end a p {role} is same are =
    ap (λ l. slice_get l p) (are ∙ ap (λ l. answers_from (opening_state role.kind) (map item_told l)) same)
    ∙ sym (told_by_role roles end a p is)

-- ---- of all actors

-- those of the actors so far
pub record AreAnswersTo (casts : List ActorSpec) (end : ToldEnd) (n : ℕ) (all : List Answered) : Type 0 where
  pub long : length all ≡ n
  pub are : AreAnswers casts end all

pub one_actor : (casts : List ActorSpec) (end : ToldEnd) (n : ℕ) (all new : List Answered) (told : Answered) → AreAnswersTo casts end n all →
    new ≡ all ++ told ∷ [] → ((p : ℕ) → slice_get told.answers.items p ≡ answer_told casts end n p) → AreAnswersTo casts end (n + 1) new
one_actor casts end n all new told so_far is own = record {
  long = ap (λ l. length l) is ∙ length-append all (told ∷ []) ∙ ap (λ m. m + 1) so_far.long;
  are = λ a other at p. go a other p (slice_get_pushed all told a (ap (λ l. slice_get l a) (sym is) ∙ at));
}
  where
    go : (a : ℕ) (other : Answered) (p : ℕ) → (slice_get all a ≡ Some other) ⊎ ((a ≡ length all) × (told ≡ other))
        → slice_get other.answers.items p ≡ answer_told casts end a p
    go a other p (inl at) = so_far.are a other at p
    go a other p (inr (here, same)) =
        ap (λ (x : Answered). slice_get x.answers.items p) (sym same) ∙ own p ∙ ap (λ b. answer_told casts end b p) (sym (here ∙ so_far.long))
