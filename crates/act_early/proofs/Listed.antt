-- Lists of all callers and all actors, and going on for each of them.
use Rattle.act_early.proofs.Common.{◌≡◌, ℕ, Bool, true, false, cond, List, [], ◌∷◌, ◌++◌, Some, refl, ◌∙◌, ◌==◌, ◌||◌, map, find, AllByRecursion}
use Rattle.act_early.proofs.Common.{list_any, list_any-append, Step, ActorSpec, contains, names, All_weaker, At, IsPlay, some_cast, is_some}

-- ---- all callers and all actors

-- the callers that the casts name, cast by cast; one that two casts name is there twice
abbrev pub all_callers : List ActorSpec → List ℕ
all_callers [] = []
all_callers (cast ∷ casts) = cast.callers ++ all_callers casts

-- the actors of all casts, in order
abbrev pub all_actors : List ActorSpec → List ℕ
all_actors casts = map (λ (cast : ActorSpec). cast.actor) casts

-- whom a cast names is a caller, and listed
pub caller_listed : (c : ℕ) (casts : List ActorSpec) → list_any (λ (cast : ActorSpec). contains c cast.callers) casts ≡ true
    → contains c (all_callers casts) ≡ true
caller_listed c [] e = cc
caller_listed c (cast ∷ casts) e = list_any-append (λ m. m == c) cast.callers (all_callers casts) ∙ go (contains c cast.callers) (caller_listed c casts) e
  where
    Rest : Type 0
    Rest = list_any (λ (cast : ActorSpec). contains c cast.callers) casts ≡ true → contains c (all_callers casts) ≡ true

    go : (x : Bool) → Rest → (x || list_any (λ (cast : ActorSpec). contains c cast.callers) casts) ≡ true → (x || contains c (all_callers casts)) ≡ true
    go true rest e = refl
    go false rest e = rest e

-- an actor with a cast is listed
pub cast_listed : (a : ℕ) (casts : List ActorSpec) → is_some (find (λ (cast : ActorSpec). cast.actor == a) casts) ≡ true → contains a (all_actors casts) ≡ true
cast_listed a [] e = cc
cast_listed a (cast ∷ casts) e = go (cast.actor == a) (cast_listed a casts) e
  where
    Rest : Type 0
    Rest = is_some (find (λ (cast : ActorSpec). cast.actor == a) casts) ≡ true → contains a (all_actors casts) ≡ true

    go : (x : Bool) → Rest → is_some (cond x (Some cast) (find (λ (cast : ActorSpec). cast.actor == a) casts)) ≡ true
        → (x || contains a (all_actors casts)) ≡ true
    go true rest e = refl
    go false rest e = rest e

pub actor_listed : (c a : ℕ) (casts : List ActorSpec) → names c (find (λ (cast : ActorSpec). cast.actor == a) casts) ≡ true
    → contains a (all_actors casts) ≡ true
actor_listed c a casts e = cast_listed a casts (some_cast c (find (λ (cast : ActorSpec). cast.actor == a) casts) e)

-- ---- going on for each of a list

-- a play in which no actor retired
pub record IsOpen (specs : List ActorSpec) (plans : ℕ → List Step) (p : At) : Type 0 where
  pub play : IsPlay specs plans p
  pub live : p.history.retired ≡ []

-- how one may go on: what it keeps, and what it comes to
pub record IsWay (specs : List ActorSpec) (plans : ℕ → List Step) (Goes : At → At → Type 0) : Type 0 where
  pub stays : (p : At) → IsOpen specs plans p → Goes p p
  pub joins : (p q r : At) → Goes p q → Goes q r → Goes p r
  pub opens : (p q : At) → Goes p q → IsOpen specs plans q

-- one can go on from there, in this way, to a play of which this holds
abbrev pub Comes : (At → At → Type 0) → (At → Type 0) → At → Type 0
Comes Goes P p = (q : At) × Goes p q × P q

-- if from any open play one can go on to where this holds of a number, and it stays so, one can for a whole list
pub for_each : {specs : List ActorSpec} {plans : ℕ → List Step} {Goes : At → At → Type 0} (P : At → ℕ → Type 0) → IsWay specs plans Goes
    → ((p q : At) → Goes p q → (x : ℕ) → P p x → P q x) → ((p : At) → IsOpen specs plans p → (x : ℕ) → Comes Goes (λ q. P q x) p)
    → (xs : List ℕ) (p : At) → IsOpen specs plans p → Comes Goes (λ q. AllByRecursion (P q) xs) p
for_each P way keeps one [] p begun = (p, way.stays p begun, tt)
for_each {specs} {plans} {Goes} P way keeps one (x ∷ xs) p begun =
    let first = one p begun x in
    let rest = for_each P way keeps one xs first.0 (way.opens p first.0 first.1) in
    (rest.0, way.joins p first.0 rest.0 first.1 rest.1, (keeps first.0 rest.0 rest.1 x first.2, rest.2))

-- and of two lists
pub for_all : {specs : List ActorSpec} {plans : ℕ → List Step} {Goes : At → At → Type 0} (P : At → ℕ → ℕ → Type 0) → IsWay specs plans Goes
    → ((p q : At) → Goes p q → (x y : ℕ) → P p x y → P q x y) → ((p : At) → IsOpen specs plans p → (x y : ℕ) → Comes Goes (λ q. P q x y) p)
    → (xs ys : List ℕ) (p : At) → IsOpen specs plans p → Comes Goes (λ q. AllByRecursion (λ x. AllByRecursion (P q x) ys) xs) p
for_all {specs} {plans} {Goes} P way keeps one xs ys p begun =
    for_each (λ q x. AllByRecursion (P q x) ys) way
    (λ p q goes x all. All_weaker (P p x) (P q x) ys (λ y held. keeps p q goes x y held) all)
    (λ p begun x. for_each (λ q y. P q x y) way (λ p q goes y held. keeps p q goes x y held) (λ p begun y. one p begun x y) ys p begun)
    xs p begun
