-- Each post names a place of the run list that stands, or an actor that is dead.
use Rattle.act_rules.proofs.Common.{◌≡◌, ℕ, Bool, true, false, cond, List, [], ◌∷◌, ◌++◌, length, Some, None, refl, ap, sym, Option, slice_get, option_map}
use Rattle.act_rules.proofs.Common.{AllByRecursion, eq-eqb, RunItem, Event, Run, Collect, Tell, NoCaller, Handle, NotDead, NoActor, Submission, calls_to, needs}
use Rattle.act_rules.proofs.Common.{Post, History, under, runs_of, calls_of, kept_of, cast_of, names, is_caller, is_dead, has_letter, ran_count, run_item}
use Rattle.act_rules.proofs.Common.{next_item, refusal_of, add_event, and_also, after_run, slice_get_last, CallLetter, ReplyPost, DeathPost}
use Rattle.act_rules.proofs.Lists.{slice_get_front, All_more, All_weaker, All_at}
use Rattle.act_rules.proofs.Growth.{added_grows, runs_grow}
use Rattle.act_rules.proofs.Steps.{IsKept}
use Rattle.act_rules.proofs.Ended.{needs-none, under-push, dead_stays}

-- the caller's call stands at the place of the run list; the actor is dead
abbrev pub IsSoundPost : History → Post → Type 0
IsSoundPost h (ReplyPost c a place) = (item : RunItem) × (slice_get (runs_of a h) place ≡ Some item) × (item.caller ≡ c)
IsSoundPost h (DeathPost c a) = is_dead a h ≡ true

-- each post is sound, and each that was collected
pub record PostsAreSound (h : History) : Type 0 where
  pub posts : AllByRecursion (IsSoundPost h) h.posts
  pub collected : AllByRecursion (IsSoundPost h) h.collected

pub sound_stays : (h : History) (event : Event) → refusal_of h event ≡ None → (post : Post) → IsSoundPost h post → IsSoundPost (add_event h event) post
sound_stays h event accepted (ReplyPost c a place) s =
    (s.0, slice_get_front (runs_of a h) (runs_of a (add_event h event)) place (runs_grow a (added_grows h event)) s.1, s.2)
sound_stays h event accepted (DeathPost c a) s = dead_stays a h event accepted s

-- the next item is the caller's
pub next_item_caller : (a c : ℕ) (h : History) {item : RunItem} → next_item a c h ≡ Some item → item.caller ≡ c
next_item_caller a c h {item} e = go (has_letter (CallLetter c a (ran_count c a h)) h.arrived) (slice_get (calls_to a (calls_of c h)) (ran_count c a h)) e
  where
    go : (b : Bool) (call : Option (ℕ × Submission)) → cond b (option_map (run_item c (ran_count c a h) (kept_of c h)) call) None ≡ Some item → item.caller ≡ c
    go true None e = cc
    go true (Some call) e = let same : run_item c (ran_count c a h) (kept_of c h) call ≡ item = cc in ap (λ (i : RunItem). i.caller) (sym same)
    go false call e = cc

-- a history with one run more
abbrev pub ran_on : History → ℕ → ℕ → RunItem → History
ran_on h a c item = after_run a c h (Some item)

-- the new item stands at the end of its actor's run list
pub run_stands : (a : ℕ) (ran : List (ℕ × RunItem)) (item : RunItem) → slice_get (under a (ran ++ (a, item) ∷ [])) (length (under a ran)) ≡ Some item
run_stands a ran item = rw (under-push a a ran item, eq-eqb a a refl) (slice_get_last (under a ran) item)

tell_needs : (h : History) (a c : ℕ) → refusal_of h (Tell a c) ≡ None → is_dead a h ≡ true
tell_needs h a c e =
    let first = needs-none (is_caller c h) NoCaller (needs (names c (cast_of a h)) (Handle NoActor) (needs (is_dead a h) NotDead None)) e in
    let second = needs-none (names c (cast_of a h)) (Handle NoActor) (needs (is_dead a h) NotDead None) first.1 in
    (needs-none (is_dead a h) NotDead None second.1).0

-- the posts that there are stay sound
all_stay : (h : History) (event : Event) (posts : List Post) → refusal_of h event ≡ None → AllByRecursion (IsSoundPost h) posts →
    AllByRecursion (IsSoundPost (add_event h event)) posts
all_stay h event posts accepted s = All_weaker (IsSoundPost h) (IsSoundPost (add_event h event)) posts (sound_stays h event accepted) s

-- an event that adds none
posts_stay : (h : History) (event : Event) → refusal_of h event ≡ None → PostsAreSound h → (add_event h event).posts ≡ h.posts →
    (add_event h event).collected ≡ h.collected → PostsAreSound (add_event h event)
posts_stay h event accepted s posts collected = record {
  posts = rw posts (all_stay h event h.posts accepted s.posts);
  collected = rw collected (all_stay h event h.collected accepted s.collected);
}

-- each accepted event keeps the posts sound
pub posts_step : IsKept PostsAreSound
posts_step h (Run a c) s accepted =
    go (next_item a c h) refl (all_stay h (Run a c) h.posts accepted s.posts) (all_stay h (Run a c) h.collected accepted s.collected)
  where
    go : (o : Option RunItem) → next_item a c h ≡ o → AllByRecursion (IsSoundPost (after_run a c h o)) h.posts →
        AllByRecursion (IsSoundPost (after_run a c h o)) h.collected → PostsAreSound (after_run a c h o)
    go None e posts collected = s
    go (Some item) e posts collected = record {
      posts = All_more (IsSoundPost (after_run a c h (Some item))) h.posts (ReplyPost c a (length (runs_of a h))) posts
          (item, run_stands a h.ran item, next_item_caller a c h e);
      collected = collected;
    }
posts_step h (Collect j) s accepted = go (slice_get h.posts j) refl
  where
    go : (o : Option Post) → slice_get h.posts j ≡ o → PostsAreSound (record h { collected = and_also h.collected o })
    go None e = s
    go (Some post) e = record {
      posts = s.posts;
      collected = All_more (IsSoundPost h) h.collected post s.collected (All_at (IsSoundPost h) h.posts j s.posts e);
    }
posts_step h (Tell a c) s accepted = record {
  posts = All_more (IsSoundPost h) h.posts (DeathPost c a) s.posts (tell_needs h a c accepted);
  collected = s.collected;
}
posts_step h other s accepted = posts_stay h other accepted s refl refl
