-- Where an eager walk can do nothing of what is told, it is through.
use Rattle.act_walks.proofs.Common.{◌≡◌, ℕ, true, false, List, [], ◌∷◌, ◌++◌, length, Option, Some, None, inl, inr, ◌⊎◌, refl, ap, sym, ◌∙◌, subst, Contains}
use Rattle.act_walks.proofs.Common.{slice_get, is_some, not, not-true, Letter, RunItem, Post, Submission, Step, ActorEnded}
use Rattle.act_walks.proofs.Common.{ActorSpec, History, opening, contains, names, cast_of, calls_of, runs_of, is_dead, is_ended}
use Rattle.act_walks.proofs.Common.{has_letter, next_item, refusal_of, add_event, and_also, letter_actor, deliver_refusal, needs-none, copies_named}
use Rattle.act_walks.proofs.Common.{MayTake, IsKept, after_all_keeps, Contains-append_left, IsPrefix, added_grows, DeathPost, Kill, Told, MayGoOn, Calls, Asks}
use Rattle.act_walks.proofs.Common.{DoesWithout, Sends, Delivers, Runs, Collects, TakesKill, Tells, IsThrough, IsNextRun, MayHear, IsWalked, push_at}
use Rattle.act_walks.proofs.Common.{walked_left, IsBrought, SomeEnd, IsEager, KillsAreAsked, IsAtRest, place_in, stands_in, has_letter-at}
use Rattle.act_rules.specs.declared.event.Event.TheVariants as event
use Rattle.act_rules.proofs.Events.{run_collected}
use Rattle.act_told_ends.proofs.Deciding.{stuck_through}
use Rattle.act_told_ends.proofs.Going.{ask_copies}
use Rattle.act_told_ends.specs.Walks.{Steps, Hears}
use Rattle.act_walks.proofs.Eager.{going_of}

-- ---- what was collected was posted

abbrev WasPosted : History → Type 0
WasPosted h = (post : Post) → Contains h.collected post → Contains h.posts post

more_posted : (h g : History) → WasPosted h → g.collected ≡ h.collected → IsPrefix h.posts g.posts → WasPosted g
more_posted h g was same more post has = subst (λ l. Contains l post) more.1
    (Contains-append_left h.posts more.0 post (was post (subst (λ l. Contains l post) same has)))

collect_posted : (h : History) (j : ℕ) → WasPosted h → WasPosted (add_event h (event.Collect j))
collect_posted h j was post has = go (slice_get h.posts j) refl has
  where
    either : (new : Post) (i : ℕ) → slice_get h.posts j ≡ Some new → (slice_get h.collected i ≡ Some post) ⊎ ((i ≡ length h.collected) × (post ≡ new))
        → Contains h.posts post
    either new i at (inl before) = was post (stands_in h.collected i before)
    either new i at (inr last) = subst (λ p. Contains h.posts p) (sym last.1) (stands_in h.posts j at)

    go : (o : Option Post) → slice_get h.posts j ≡ o → Contains (and_also h.collected o) post → Contains h.posts post
    go None at has = was post has
    go (Some new) at has = let place = place_in (h.collected ++ new ∷ []) post has in either new place.0 at (push_at h.collected new place.0 place.1)

was_posted_step : IsKept WasPosted
was_posted_step h (event.Run a c) was may =
    more_posted h (add_event h (event.Run a c)) was (run_collected a c h (next_item a c h)) (added_grows h (event.Run a c)).posts
was_posted_step h (event.Collect j) was may = collect_posted h j was
was_posted_step h (event.Tell a c) was may = more_posted h (add_event h (event.Tell a c)) was refl (added_grows h (event.Tell a c)).posts
was_posted_step h other was may = was

was_posted : (casts : List ActorSpec) (bound : ℕ → Option (List Step)) (told : Told) (done : ℕ → ℕ) (h : History) → IsWalked casts bound told done h
    → WasPosted h
was_posted casts bound told done h walked =
    let left = walked_left done h walked in
    subst WasPosted (sym left.left) (after_all_keeps WasPosted was_posted_step (opening casts) left.events
    (λ post has. let place = place_in [] post has in let bad : None ≡ Some post = place.1 in cc))

-- ---- letters

-- a letter that may be delivered has arrived
pub has_arrived : (h : History) (i : ℕ) {letter : Letter} → IsBrought h → slice_get h.mail i ≡ Some letter → refusal_of h (event.Deliver i) ≡ None
    → has_letter letter h.arrived ≡ true
has_arrived h i {letter} brought at may = brought letter (has_letter-at h.mail i at) (not-true (is_ended (letter_actor letter) h)
    (needs-none (not (is_ended (letter_actor letter) h)) ActorEnded None (ap (λ o. deliver_refusal o h) (sym at) ∙ may)).0)

-- ---- nothing to do

-- whoever may ask for a kill is named by the cast
ask_named : (h : History) (c a : ℕ) → refusal_of h (event.AskKill c a) ≡ None → names c (cast_of a h) ≡ true
ask_named h c a may = copies_named c a h (ask_copies h c a may)

pub stuck : (casts : List ActorSpec) (bound : ℕ → Option (List Step)) (told : Told) → SomeEnd casts bound told → (done : ℕ → ℕ) (h : History) → IsEager casts
    bound told done h → KillsAreAsked bound told h → ((c : ℕ) (call : Submission) → bound c ≡ None → slice_get (told.calls c) (length (calls_of c h)) ≡
    Some call → refusal_of h (event.Submit c call.actor call.method call.args) ≡ None → ⊥) → ((c : ℕ) (steps : List Step) (step : Step) → bound c ≡ Some steps →
    slice_get steps (done c) ≡ Some step → MayTake c step h → ⊥) → ((c a : ℕ) (steps : List Step) → bound c ≡ Some steps → slice_get steps (done c) ≡ Some
    (Kill a) → is_dead a h ≡ true → ⊥) → ((a : ℕ) (item : RunItem) → IsNextRun told a h item → refusal_of h (event.Send item.caller item.future) ≡ None → ⊥) →
    ((a : ℕ) (item : RunItem) → IsNextRun told a h item → next_item a item.caller h ≡ Some item → refusal_of h (event.Run a item.caller) ≡ None → ⊥) →
    ((a : ℕ) → told.dead a ≡ true → length (runs_of a h) ≡ length (told.runs a) → refusal_of h (event.TakeKill a) ≡ None → ⊥) →
    ((c a : ℕ) → MayHear told c a h → (Contains h.collected (DeathPost c a) → ⊥) → refusal_of h (event.Tell a c) ≡ None → ⊥) → IsThrough bound told done h
stuck casts bound told s done h e kills calls steps without sends runs takes tells = stuck_through casts bound told done h e.walked none s.0 s.1
  where
    none : MayGoOn bound told done h → ⊥
    none (Calls c call free next may) = calls c call free next may
    none (Asks c a free dead yet may) = let bad : true ≡ false = sym (kills c a free dead (ask_named h c a may)) ∙ yet in cc
    none (Steps c all step is next may) = steps c all step is next may
    none (DoesWithout c a all is next dead) = without c a all is next dead
    none (Sends a item next unsent may) = sends a item next may
    none (Delivers a i item next yet at may) = let bad : true ≡ false = sym (has_arrived h i e.brought at may) ∙ yet in cc
    none (Runs a item next is may) = runs a item next is may
    none (Collects j c a place item at there reply kept) =
        let bad : true ≡ false = sym (e.replied j c a place item at there reply) ∙ ap (λ o. is_some o) kept in cc
    none (TakesKill a dead last may) = takes a dead (ap (λ items. length items) last) may
    none (Tells c a hears untold may) = tells c a hears (λ has. untold (was_posted casts bound told done h e.walked (DeathPost c a) has)) may
    none (Hears j c a hears unheard at) = unheard (e.heard j c a at)

pub at_rest : (casts : List ActorSpec) {bound : ℕ → Option (List Step)} (told : Told) → SomeEnd casts bound told → {done : ℕ → ℕ} {h : History}
    → IsEager casts bound told done h → IsThrough bound told done h → IsAtRest told h
at_rest casts {bound} told s {done} {h} e through = record {
  leaves = through.leaves;
  brought = e.brought;
  only = λ a retired.
      let bad : true ≡ false = sym retired ∙ ap (contains a) (going_of s e.walked).walk.live in cc;
}
