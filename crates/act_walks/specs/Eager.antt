-- Words of walks that do all at once that needs no choice, over histories alone.
use Rattle.std.specs.Prelude.{◌≡◌, ℕ, true, List, slice_get, Option, Some, None, is_some, Contains}
use Rattle.act_rules.specs.declared.event.Event.{Event}
use Rattle.act_rules.specs.declared.history.Post.TheVariants.{Reply as ReplyPost, Death as DeathPost}
use Rattle.act_rules.specs.declared.history.RunItem.{RunItem}
use Rattle.act_rules.specs.declared.script.Step.{Step}
use Rattle.act_rules.specs.History.{ActorSpec, History, cast_of, contains, names, kept_of, runs_of, is_retired}
use Rattle.act_rules.specs.Submissions.{kept_at}
use Rattle.act_early.specs.Early.{is_reply}
use Rattle.act_told_ends.specs.Told.{Told, Leaves, EndsAsTold}
use Rattle.act_told_ends.specs.Walked.{IsWalked}
use Rattle.act_plan_plays.specs.Parts.{IsBrought}

-- some events end as is told
abbrev pub SomeEnd : List ActorSpec → (ℕ → Option (List Step)) → Told → Type 0
SomeEnd casts bound told = (events : List Event) × EndsAsTold casts bound told events

-- each reply that was posted and is told is kept
abbrev pub RepliesAreKept : Told → History → Type 0
RepliesAreKept told h = (j c a place : ℕ) (item : RunItem) → slice_get h.posts j ≡ Some (ReplyPost c a place) →
    slice_get (runs_of a h) place ≡ Some item → is_reply (kept_at (told.kept c) item.future) ≡ true →
    is_some (kept_at (kept_of c h) item.future) ≡ true

-- each death that was posted was collected
abbrev pub DeathsAreHeard : History → Type 0
DeathsAreHeard h = (j c a : ℕ) → slice_get h.posts j ≡ Some (DeathPost c a) → Contains h.collected (DeathPost c a)

-- a walk that brings each letter, collects each reply that is told, and hears of each death
pub record IsEager (casts : List ActorSpec) (bound : ℕ → Option (List Step)) (told : Told) (done : ℕ → ℕ)
    (h : History) : Type 0 where
  pub walked : IsWalked casts bound told done h
  pub brought : IsBrought h
  pub replied : RepliesAreKept told h
  pub heard : DeathsAreHeard h

-- the kill of each actor that is told dead was asked, where a caller that isn't bound could ask for it
abbrev pub KillsAreAsked : (ℕ → Option (List Step)) → Told → History → Type 0
KillsAreAsked bound told h = (c a : ℕ) → bound c ≡ None → told.dead a ≡ true → names c (cast_of a h) ≡ true →
    contains a h.asked ≡ true

-- it left what is told, and only those retired that are told retired
pub record IsAtRest (told : Told) (h : History) : Type 0 where
  pub leaves : Leaves told h
  pub brought : IsBrought h
  pub only : (a : ℕ) → is_retired a h ≡ true → told.retired a ≡ true
