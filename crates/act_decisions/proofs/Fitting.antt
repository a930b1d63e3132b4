-- What was read, looked up by number, beside the roles of a script.
use Rattle.act_decisions.proofs.Common.{◌≡◌, ℕ, ◌+◌, ◌<◌, ◌≤◌, ◌==◌, ◌⊎◌, inl, inr, Bool, true, false, List, [], length, map, filter, get_or, Option, Some}
use Rattle.act_decisions.proofs.Common.{None, leb, leb-true, leb-false, refl, sym, ap, ◌∙◌, subst, arith, option_map, slice_get, ActorSpec}
use Rattle.act_decisions.proofs.Common.{actor_spec_of, Role, ToldEnd, ◌≢◌, AllPairs, find, cases_lt, actors_naming, callers_in, contains, AllPairs-map}
use Rattle.act_decisions.proofs.Common.{find-map, AreFitting, ToldActor, ToldRun, callers_of, rans_in, option_map_or, same_Some, slice_get_past}
use Rattle.act_decisions.proofs.Common.{slice_get_within}
use Rattle.std.proofs.lemmas.List.Kept.{AllPairs-filter}
use Rattle.act_lists.proofs.Lists.{item_at}

-- ---- places

-- what holds below a place, and there
pub below_more : (P : ℕ → Type 0) (n : ℕ) → ((i : ℕ) → i < n → P i) → P n → (i : ℕ) → i < n + 1 → P i
below_more P n front here i below = go (cases_lt i n)
  where
    go : (i < n) ⊎ (n ≤ i) → P i
    go (inl before) = front i before
    go (inr at) = let same : n ≡ i = omega arith in subst P same here

module _ {X : Type 0} (P : ℕ → X → Type 0) (xs : List X) where
  -- what holds of the items so far, and of the next
  pub item_more : {n : ℕ} {x : X} → n < length xs → x ≡ get_or xs n x → P n x → ((i : ℕ) → i < n → (y : X) → slice_get xs i ≡ Some y → P i y)
      → (i : ℕ) → i < n + 1 → (y : X) → slice_get xs i ≡ Some y → P i y
  item_more {n} {x} within is here front = below_more (λ j. (y : X) → slice_get xs j ≡ Some y → P j y) n front there
    where
      there : (y : X) → slice_get xs n ≡ Some y → P n y
      there y at = subst (P n) (same_Some x y (sym (item_at xs n x within is) ∙ at)) here

  -- of all of them
  pub all_items : (n : ℕ) → length xs ≤ n → ((i : ℕ) → i < n → (y : X) → slice_get xs i ≡ Some y → P i y) → (i : ℕ) {y : X} → slice_get xs i ≡ Some y → P i y
  all_items n whole front i {y} at = front i (let within = slice_get_within xs i y at in omega (arith, within, whole)) y at

-- ---- the callers, one after the other

pub one_further : (P : ℕ → Type 0) (n : ℕ) → ((c : ℕ) → 1 ≤ c → c ≤ n → P c) → P (n + 1) → (c : ℕ) → 1 ≤ c → c ≤ n + 1 → P c
one_further P n all last c from upto = go (leb c n) refl
  where
    go : (b : Bool) → leb c n ≡ b → P c
    go true below = all c from (leb-true c n below)
    go false above = let past = leb-false c n above in let is : n + 1 ≡ c = omega arith in subst P is last

-- ---- actors

-- nothing is said of one past the end
pub unsaid : (end : ToldEnd) (a : ℕ) → length end.actors.items ≤ a → callers_of end a ≡ []
unsaid end a past = ap (λ o. option_map_or (λ actor. actor.callers.items) o []) (slice_get_past end.actors.items a past)

-- what is said of one
pub callers_said : (end : ToldEnd) (a : ℕ) {actor : ToldActor} → slice_get end.actors.items a ≡ Some actor → callers_of end a ≡ actor.callers.items
callers_said end a {actor} at = ap (λ o. option_map_or (λ actor. actor.callers.items) o []) at

-- the runs that are told at an actor's number are those of the actor that the data has there
pub runs_said : (end : ToldEnd) (a : ℕ) {actor : ToldActor} → slice_get end.actors.items a ≡ Some actor → rans_in end a ≡ actor.runs.items
runs_said end a {actor} at = ap (λ o. option_map_or (λ actor. actor.runs.items) o []) at

-- where it holds of the runs of each actor, it holds of each run
pub all_runs : (end : ToldEnd) (P : ℕ → ℕ → ToldRun → Type 0) (n : ℕ) → length end.actors.items ≤ n → ((a : ℕ) → a < n → (p : ℕ) (run : ToldRun) →
    slice_get (rans_in end a) p ≡ Some run → P a p run) → (a p : ℕ) (run : ToldRun) → slice_get (rans_in end a) p ≡ Some run → P a p run
all_runs end P n whole front a p run at = go (cases_lt a n)
  where
    go : (a < n) ⊎ (n ≤ a) → P a p run
    go (inl below) = front a below p run at
    go (inr past) =
        let far : length end.actors.items ≤ a = omega (arith, whole, past) in
        let none : rans_in end a ≡ [] = ap (λ o. option_map_or (λ actor. actor.runs.items) o []) (slice_get_past end.actors.items a far) in
        let bad : ◌≡◌ {A = Option ToldRun} None (Some run) = sym (ap (λ l. slice_get l p) none) ∙ at in absurd (cc)

-- ---- roles

-- the callers that the role of an actor names are those of its cast
pub role_found : (roles : List Role) (a : ℕ) {found : Option Role} → found ≡ find (λ role. role.actor == a) roles
    → callers_in (option_map actor_spec_of found) ≡ callers_in (find (λ cast. cast.actor == a) (map actor_spec_of roles))
role_found roles a is =
    ap (λ o. callers_in (option_map actor_spec_of o)) is
    ∙ ap callers_in (sym (find-map (λ (cast : ActorSpec). cast.actor == a) actor_spec_of roles))

-- the actors whose casts name a caller differ
pub naming_differ : (c : ℕ) {casts : List ActorSpec} → AreFitting casts → AllPairs (λ one other. one ≢ other) (actors_naming c casts)
naming_differ c {casts} fitting =
    AllPairs-map (λ one other. one ≢ other) (λ (cast : ActorSpec). cast.actor) (filter (λ (cast : ActorSpec). contains c cast.callers) casts)
    (AllPairs-filter (λ (one other : ActorSpec). one.actor ≢ other.actor) (λ (cast : ActorSpec). contains c cast.callers) casts fitting.actors)
