-- A death is told only to a caller of its actor, and only a dead actor's is.
use Rattle.act_early.proofs.Common.{◌≡◌, ℕ, zero, suc, true, List, [], ◌∷◌, Option, Some, None, refl, ap, sym, ◌∙◌, subst, arith, Contains, ◌==◌, find}
use Rattle.act_early.proofs.Common.{slice_get, AllByRecursion, Post, RunItem, NoActor, NoCaller, Handle, NotDead, Step, needs, ActorSpec, History, names}
use Rattle.act_early.proofs.Common.{cast_of, is_caller, is_dead, next_item, refusal_of, and_also, after_run, All_more, All_at, IsKept, needs-none, IsSoundPost}
use Rattle.act_early.proofs.Common.{At, IsPlay, ReplyPost, DeathPost}
use Rattle.act_rules.specs.declared.event.Event.TheVariants as event
use Rattle.act_early.proofs.Worlds.{play_keeps, world}

abbrev IsNamedDeath : List ActorSpec → Post → Type 0
IsNamedDeath specs (ReplyPost c a place) = Unit {0}
IsNamedDeath specs (DeathPost c a) = names c (find (λ (cast : ActorSpec). cast.actor == a) specs) ≡ true

record AreNamedDeaths (specs : List ActorSpec) (h : History) : Type 0 where
  casts : h.casts ≡ specs
  posts : AllByRecursion (IsNamedDeath specs) h.posts
  collected : AllByRecursion (IsNamedDeath specs) h.collected

told_to_named : (h : History) (a c : ℕ) → refusal_of h (event.Tell a c) ≡ None → names c (cast_of a h) ≡ true
told_to_named h a c e =
    let first = needs-none (is_caller c h) NoCaller (needs (names c (cast_of a h)) (Handle NoActor) (needs (is_dead a h) NotDead None)) e in
    (needs-none (names c (cast_of a h)) (Handle NoActor) (needs (is_dead a h) NotDead None) first.1).0

named_deaths_step : (specs : List ActorSpec) → IsKept (AreNamedDeaths specs)
named_deaths_step specs h (event.Run a c) s accepted = go (next_item a c h)
  where
    go : (o : Option RunItem) → AreNamedDeaths specs (after_run a c h o)
    go None = s
    go (Some item) = record { casts = s.casts; posts = All_more (IsNamedDeath specs) h.posts _ s.posts tt; collected = s.collected }
named_deaths_step specs h (event.Collect j) s accepted = go (slice_get h.posts j) refl
  where
    go : (o : Option Post) → slice_get h.posts j ≡ o → AreNamedDeaths specs (record h { collected = and_also h.collected o })
    go None e = s
    go (Some post) e = record {
      casts = s.casts;
      posts = s.posts;
      collected = All_more (IsNamedDeath specs) h.collected post s.collected (All_at (IsNamedDeath specs) h.posts j s.posts e);
    }
named_deaths_step specs h (event.Tell a c) s accepted = record {
  casts = s.casts;
  posts = All_more (IsNamedDeath specs) h.posts (DeathPost c a) s.posts
      (ap (λ l. names c (find (λ (cast : ActorSpec). cast.actor == a) l)) (sym s.casts) ∙ told_to_named h a c accepted);
  collected = s.collected;
}
named_deaths_step specs h other s accepted = record { casts = s.casts; posts = s.posts; collected = s.collected }

contained : {A : Type 0} (P : A → Type 0) (xs : List A) (x : A) → AllByRecursion P xs → Contains xs x → P x
contained P [] x all has = absurd (let below = has.1 in omega arith)
contained P (y ∷ xs) x all (zero, below, is) = subst P is all.0
contained P (y ∷ xs) x all (suc i, below, is) = contained P xs x all.1 (i, omega arith, is)

-- a caller that collected a death is named by its actor, which is dead
pub collected_death : (specs : List ActorSpec) (plans : ℕ → List Step) (p : At) (c a : ℕ) → IsPlay specs plans p
    → Contains p.history.collected (DeathPost c a) → (names c (cast_of a p.history) ≡ true) × (is_dead a p.history ≡ true)
collected_death specs plans p c a play has =
    let named = play_keeps (AreNamedDeaths specs) (named_deaths_step specs) p (record { casts = refl; posts = tt; collected = tt }) play in (
      ap (λ l. names c (find (λ (cast : ActorSpec). cast.actor == a) l)) named.casts
          ∙ contained (IsNamedDeath specs) p.history.collected (DeathPost c a) named.collected has,
      contained (IsSoundPost p.history) p.history.collected (DeathPost c a) (world specs plans p play).sound.posts.collected has,
    )
