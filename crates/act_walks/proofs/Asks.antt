-- The kill of each actor that is told dead is asked before anything else is done.
use Rattle.act_walks.proofs.Common.{◌≡◌, ℕ, ◌+◌, ◌<◌, ◌≤◌, ◌==◌, ◌||◌, ◌⊎◌, inl, inr, Bool, true, false, List, [], ◌∷◌, Option, Some, None, refl, ap, sym, ◌∙◌}
use Rattle.act_walks.proofs.Common.{subst, arith, find, is_none, cases_lt, eqb-true, eq-eqb, Event, Step, Kill, ActorSpec, History, contains, names, cast_of}
use Rattle.act_walks.proofs.Common.{opening, history, ◌++◌, add_event, cond, if◌then◌else◌, contains_push, option_map_or, Told, ToldActor, ToldEnd, IsEager}
use Rattle.act_walks.proofs.Common.{KillsAreAsked, bound_of, actor_in, callers_of, is_dead_in, step_of, Parts, done_in, IsEndOf, DoesEvent, AreAsked, IsAsking}
use Rattle.act_walks.proofs.Common.{AsksFrom, SetsOut, or_right}
use Rattle.act_rules.specs.declared.event.Event.TheVariants as event
use Rattle.act_walks.proofs.Eager.{going_of, opened, asked}
use Rattle.act_walks.proofs.Onward.{stands_event}
use Rattle.act_rules.proofs.Elements.{found_passes}
use Rattle.act_rules.proofs.Ended.{contains_or}

-- ---- who may ask

none_free : (o : Option (List Step)) → is_none o ≡ true → o ≡ None
none_free None e = refl
none_free (Some steps) e = cc

-- where none passes, none that is contained does
none_passes : (p : ℕ → Bool) (ns : List ℕ) (n : ℕ) → find p ns ≡ None → contains n ns ≡ true → p n ≡ true → ⊥
none_passes p [] n e has passes = cc
none_passes p (m ∷ ns) n e has passes = go (p m) refl (m == n) refl (λ none held. none_passes p ns n none held passes) e has
  where
    go : (b : Bool) → p m ≡ b → (s : Bool) → (m == n) ≡ s → (find p ns ≡ None → contains n ns ≡ true → ⊥) → cond b (Some m) (find p ns) ≡ None
        → (s || contains n ns) ≡ true → ⊥
    go true is s same rest e has = cc
    go false is true same rest e has = let one : m ≡ n = eqb-true m n same in let bad : true ≡ false = sym passes ∙ ap p (sym one) ∙ is in cc
    go false is false same rest e has = rest e has

-- an ask of a caller that isn't bound is no step of one that is
no_step : (end : ToldEnd) (c a : ℕ) → bound_of end c ≡ None → (d : ℕ) (steps : List Step) → bound_of end d ≡ Some steps → step_of d (event.AskKill c a) ≡ None
no_step end c a free d steps bound = go (c == d) refl
  where
    go : (b : Bool) → (c == d) ≡ b → step_of d (event.AskKill c a) ≡ None
    go true e = let same : c ≡ d = eqb-true c d e in let bad : None ≡ Some steps = sym free ∙ ap (bound_of end) same ∙ bound in absurd cc
    go false e = ap (λ b. if b then Some (Kill a) else None) e

-- ---- the actors below a number

-- whose kill is asked once it was asked of one more
more_asked : (end : ToldEnd) (told : Told) (c a : ℕ) (h : History) → AreAsked end told a h → AreAsked end told (a + 1) (add_event h (event.AskKill c a))
more_asked end told c a h before = record { asked = each; only = λ b has. last b (contains_or h.asked b a has) }
  where
    each : (d b : ℕ) → 1 ≤ b → b < a + 1 → bound_of end d ≡ None → told.dead b ≡ true → names d (cast_of b h) ≡ true → contains b (h.asked ++ a ∷ []) ≡ true
    each d b from upto free dead named = contains_push b a h.asked ∙ go (cases_lt b a)
      where
        go : (b < a) ⊎ (a ≤ b) → (contains b h.asked || (a == b)) ≡ true
        go (inl lt) = ap (λ x. x || (a == b)) (before.asked d b from lt free dead named)
        go (inr ge) = let same : a ≡ b = omega (arith, upto, ge) in or_right (contains b h.asked) (a == b) (eq-eqb a b same)

    last : (b : ℕ) → (contains b h.asked ≡ true) ⊎ (a ≡ b) → b < a + 1
    last b (inl has) = let below : b < a = before.only b has in omega (arith, below)
    last b (inr same) = omega (arith, same)

none_more : (end : ToldEnd) (told : Told) (a : ℕ) {h : History} → AreAsked end told a h
    → ((c : ℕ) → bound_of end c ≡ None → told.dead a ≡ true → names c (cast_of a h) ≡ true → ⊥) → AreAsked end told (a + 1) h
none_more end told a {h} before none = record { asked = each; only = λ b has. let below : b < a = before.only b has in omega (arith, below) }
  where
    each : (d b : ℕ) → 1 ≤ b → b < a + 1 → bound_of end d ≡ None → told.dead b ≡ true → names d (cast_of b h) ≡ true → contains b h.asked ≡ true
    each d b from upto free dead named = go (cases_lt b a)
      where
        go : (b < a) ⊎ (a ≤ b) → contains b h.asked ≡ true
        go (inl lt) = before.asked d b from lt free dead named
        go (inr ge) = let same : b ≡ a = omega (arith, upto, ge) in absurd
            (none d free (ap told.dead (sym same) ∙ dead) (ap (λ x. names d (cast_of x h)) (sym same) ∙ named))

-- ---- one actor

-- its kill is asked
pub asks_one : (end : ToldEnd) {c : ℕ} (a : ℕ) {actor : ToldActor} {old new : Parts} → actor_in end a ≡ Some actor → actor.is_dead ≡ true
    → find (λ c. is_none (bound_of end c)) actor.callers.items ≡ Some c → DoesEvent (event.AskKill c a) old new → AsksFrom end a (a + 1) old new
asks_one end {c} a {actor} {old} {new} at dead first does = record {
  stands = λ casts s. stands_event (no_step end c a free) does s;
  asks = λ casts told e s before.
      let h = history casts old.events in let done = does.behind casts h s.behind in
      let is_told : told.dead a ≡ true = sym (e.fits.dead a) ∙ ap (λ o. option_map_or (λ (one : ToldActor). one.is_dead) o false) at
      ∙ dead in
      let eager = asked casts (bound_of end) told e.some (done_in old.done) h before.eager c a free is_told
      (not_yet h before.asked (contains a h.asked) refl) done.0 in
      record {
        eager = subst (λ d. IsEager casts (bound_of end) told d (history casts new.events)) (ap (λ l. done_in l) (sym does.done))
            (subst (IsEager casts (bound_of end) told (done_in old.done)) done.1.is eager);
        asked = subst (AreAsked end told (a + 1)) done.1.is (more_asked end told c a h before.asked);
      };
}
  where
    free : bound_of end c ≡ None
    free = none_free (bound_of end c) (found_passes (λ c. is_none (bound_of end c)) actor.callers.items first)

    not_yet : {told : Told} (h : History) → AreAsked end told a h → (b : Bool) → contains a h.asked ≡ b → contains a h.asked ≡ false
    not_yet h before true e = let below : a < a = before.only a e in absurd (omega (arith, below))
    not_yet h before false e = e

-- it isn't told dead, or each of its callers is bound
pub asks_none : (end : ToldEnd) (a : ℕ) (walk : Parts) → ((c : ℕ) → bound_of end c ≡ None → is_dead_in end a ≡ true → contains c (callers_of end a) ≡ true → ⊥)
    → AsksFrom end a (a + 1) walk walk
asks_none end a walk none = record {
  stands = λ casts s. s;
  asks = λ casts told e s before. record {
    eager = before.eager;
    asked = none_more end told a before.asked (λ c free dead named. none c free (e.fits.dead a ∙ dead) (ap (λ l. contains c l) (e.cast.callers a) ∙
        ap (λ l. names c (find (λ (cast : ActorSpec). cast.actor == a) l)) (sym (going_of e.some before.eager.walked).world.casts) ∙ named));
  };
}

pub not_told : (end : ToldEnd) (a : ℕ) (walk : Parts) → is_dead_in end a ≡ false → AsksFrom end a (a + 1) walk walk
not_told end a walk none = asks_none end a walk (λ c free dead named. let bad : true ≡ false = sym dead ∙ none in cc)

pub all_bound : (end : ToldEnd) (a : ℕ) (walk : Parts) → find (λ c. is_none (bound_of end c)) (callers_of end a) ≡ None → AsksFrom end a (a + 1) walk walk
all_bound end a walk none = asks_none end a walk (λ c free dead named.
    none_passes (λ c. is_none (bound_of end c)) (callers_of end a) c none named (ap (λ o. is_none o) free))

-- ---- all of them

pub asks_start : (end : ToldEnd) (walk : Parts) → AsksFrom end 1 1 walk walk
asks_start end walk = record { stands = λ casts s. s; asks = λ casts told e s before. before }

pub asks_next : {end : ToldEnd} (n : ℕ) {a : ℕ} {p q r : Parts} → a ≡ n + 1 → AsksFrom end 1 (n + 1) p q → AsksFrom end a (a + 1) q r →
    AsksFrom end 1 (n + 1 + 1) p r
asks_next {end} n {q} {r} is first second = record {
  stands = λ casts s. second.stands casts (first.stands casts s);
  asks = λ casts told e s before. subst (λ m. IsAsking end casts told (m + 1) r) is
      (second.asks casts told e (first.stands casts s) (subst (λ m. IsAsking end casts told m q) (sym is) (first.asks casts told e s before)));
}

pub sets_out : {end : ToldEnd} {old new : Parts} → AsksFrom end 1 9 old new → SetsOut end old new
sets_out {end} {old} {new} all = record {
  stands = all.stands;
  walks = λ casts told e s empty still.
      let last = all.asks casts told e s (start casts told empty still) in
      record { eager = last.eager; asked = whole casts told e new.events last.eager last.asked };
}
  where
    start : (casts : List ActorSpec) (told : Told) → old.events ≡ [] → ((c : ℕ) → done_in old.done c ≡ 0) → IsAsking end casts told 1 old
    start casts told empty still = record {
      eager = subst (λ l. IsEager casts (bound_of end) told (done_in old.done) (history casts l)) (sym empty)
          (subst (λ d. IsEager casts (bound_of end) told d (opening casts)) (λ i c. sym (still c) i) (opened casts (bound_of end) told));
      asked = subst (λ l. AreAsked end told 1 (history casts l)) (sym empty)
          (record { asked = λ c a from upto free dead named. absurd (omega (arith, from, upto)); only = λ a has. cc });
    }

    whole : (casts : List ActorSpec) (told : Told) → IsEndOf end casts told → (events : List Event) → IsEager casts (bound_of end) told (done_in new.done)
        (history casts events) → AreAsked end told 9 (history casts events) → KillsAreAsked (bound_of end) told (history casts events)
    whole casts told e events eager asked = λ c a free dead named.
        let first : names c (cast_of a (opening casts)) ≡ true =
        ap (λ l. names c (find (λ (cast : ActorSpec). cast.actor == a) l))
        (sym (going_of e.some eager.walked).world.casts) ∙ named in
        let limits = e.cast.numbers c a first in let upto : a ≤ 8 = limits.1 in asked.asked c a limits.0 (omega (arith, upto)) free dead named
