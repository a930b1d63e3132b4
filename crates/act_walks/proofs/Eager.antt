-- What an eager walk may do next at once leaves it eager.
use Rattle.act_walks.proofs.Common.{◌≡◌, ℕ, true, false, List, length, Option, Some, None, refl, ap, sym, ◌∙◌, subst, arith, Contains, slice_get, is_some}
use Rattle.act_walks.proofs.Common.{Event, RunItem, Submission, Step, Submit, Copy, Release, Kill, Await, Answer, kept_at, ActorSpec, History, opening, under}
use Rattle.act_walks.proofs.Common.{contains, calls_of, runs_of, kept_of, is_dead, refusal_of, add_event, after, after_by, Grows, added_grows, IsSound}
use Rattle.act_walks.proofs.Common.{kept_extends, MayTake, WorldRefusal, Contains-append_left, DeathPost, Did, did, Told, Calls, Asks, DoesWithout, TakesKill}
use Rattle.act_walks.proofs.Common.{IsNextRun, IsWalked, Begins, Mails, Brings, one_step_more, late_play, going, IsGoing, IsBrought, after_mail, after_post}
use Rattle.act_walks.proofs.Common.{after_move, brought_kept, brought_release, brought_send, SomeEnd, RepliesAreKept, DeathsAreHeard, IsEager, front_whole}
use Rattle.act_rules.specs.declared.event.Event.TheVariants as event
use Rattle.act_rules.specs.declared.outcome.Did.TheVariants as did_so
use Rattle.act_told_ends.specs.Walks.{Steps}
use Rattle.act_told_ends.specs.Walked.{GoesOn}

-- what a walk keeps, where some events end as is told
pub going_of : {casts : List ActorSpec} {bound : ℕ → Option (List Step)} {told : Told} → SomeEnd casts bound told → {done : ℕ → ℕ} {h : History}
    → IsWalked casts bound told done h → IsGoing casts bound told done h
going_of {casts} {bound} {told} s {done} {h} walked = let found = late_play s.1 in going casts bound told found.0 found.1 done h found.2 walked

-- ---- what is kept stays so

pub some_stays : (c k : ℕ) (h g : History) → Grows h g → IsSound h → is_some (kept_at (kept_of c h) k) ≡ true → is_some (kept_at (kept_of c g) k) ≡ true
some_stays c k h g grows sound = go (kept_at (kept_of c h) k) refl
  where
    go : (o : Option Answer) → kept_at (kept_of c h) k ≡ o → is_some (kept_at (kept_of c h) k) ≡ true → is_some (kept_at (kept_of c g) k) ≡ true
    go None e some = let bad : true ≡ false = sym some ∙ ap (λ o. is_some o) e in cc
    go (Some answer) e some = ap (λ o. is_some o) (kept_extends c grows sound.posts k answer e)

-- where nothing is posted and nothing runs
pub same_replies : (told : Told) (h : History) {g : History} → Grows h g → IsSound h → g.posts ≡ h.posts → g.ran ≡ h.ran → RepliesAreKept told h →
    RepliesAreKept told g
same_replies told h {g} grows sound posts ran kept j c a place item at there reply =
    some_stays c item.future h g grows sound (kept j c a place item (ap (λ l. slice_get l j) (sym posts) ∙ at)
    (ap (λ l. slice_get (under a l) place) (sym ran) ∙ there) reply)

pub same_deaths : (h : History) {g : History} → Grows h g → g.posts ≡ h.posts → DeathsAreHeard h → DeathsAreHeard g
same_deaths h grows posts heard j c a at =
    let has = heard j c a (ap (λ l. slice_get l j) (sym posts) ∙ at) in
    subst (λ l. Contains l (DeathPost c a)) grows.collected.1 (Contains-append_left h.collected grows.collected.0 (DeathPost c a) has)

-- an eager walk, but for letters
pub record IsNear (casts : List ActorSpec) (bound : ℕ → Option (List Step)) (told : Told) (done : ℕ → ℕ) (h : History) : Type 0 where
  pub walked : IsWalked casts bound told done h
  pub replied : RepliesAreKept told h
  pub heard : DeathsAreHeard h

-- an event that posts nothing and runs nothing
quiet_near : {casts : List ActorSpec} {bound : ℕ → Option (List Step)} {told : Told} → SomeEnd casts bound told →
    {done next : ℕ → ℕ} (h : History) (other : Event) → IsNear casts bound told done h → (add_event h other).posts ≡ h.posts → (add_event h other).ran ≡ h.ran →
    IsWalked casts bound told next (add_event h other) → IsNear casts bound told next (add_event h other)
quiet_near {casts} {bound} {told} s {done} h other near posts ran walked = record {
  walked = walked;
  replied = same_replies told h (added_grows h other) (going_of s near.walked).world.sound posts ran near.replied;
  heard = same_deaths h (added_grows h other) posts near.heard;
}

near_of : {casts : List ActorSpec} {bound : ℕ → Option (List Step)} {told : Told} {done : ℕ → ℕ} (h : History) → IsEager casts bound told done h
    → IsNear casts bound told done h
near_of h e = record { walked = e.walked; replied = e.replied; heard = e.heard }

eager_of : {casts : List ActorSpec} {bound : ℕ → Option (List Step)} {told : Told} {done : ℕ → ℕ} {h : History} → IsNear casts bound told done h
    → IsBrought h → IsEager casts bound told done h
eager_of near brought = record { walked = near.walked; brought = brought; replied = near.replied; heard = near.heard }

-- and that sends nothing
quiet_eager : {casts : List ActorSpec} {bound : ℕ → Option (List Step)} {told : Told} → SomeEnd casts bound told → {done next : ℕ → ℕ} (h : History)
    (other : Event) → IsEager casts bound told done h → refusal_of h other ≡ None → (add_event h other).mail ≡ h.mail → (add_event h other).posts ≡ h.posts →
    (add_event h other).ran ≡ h.ran → IsWalked casts bound told next (add_event h other) → IsEager casts bound told next (add_event h other)
quiet_eager {casts} {bound} {told} s {done} {next} h other e may mail posts ran walked =
    eager_of
    (quiet_near s h other (near_of h e) posts ran walked) (brought_kept h other may mail e.brought)

-- the letter that is told is brought
near_brought : (casts : List ActorSpec) (bound : ℕ → Option (List Step)) (told : Told) → SomeEnd casts bound told → (done : ℕ → ℕ) {h : History} (i : ℕ)
    → IsNear casts bound told done h → IsNear casts bound told done (after h (event.Deliver i))
near_brought casts bound told s done {h} i near = go (refusal_of h (event.Deliver i)) refl
  where
    go : (o : Option WorldRefusal) → refusal_of h (event.Deliver i) ≡ o → IsNear casts bound told done (after_by h (event.Deliver i) o)
    go None may = quiet_near s h (event.Deliver i) near refl refl (Brings done h i may near.walked)
    go (Some refusal) may = near

near_mail : (casts : List ActorSpec) (bound : ℕ → Option (List Step)) (told : Told) → SomeEnd casts bound told → {done : ℕ → ℕ} (h : History) (d : Did)
    → IsNear casts bound told done h → IsNear casts bound told done (after_mail d h)
near_mail casts bound told s {done} h (did_so.Mail i) near = near_brought casts bound told s done i near
near_mail casts bound told s h d near = near

-- ---- each thing

pub opened : (casts : List ActorSpec) (bound : ℕ → Option (List Step)) (told : Told) → IsEager casts bound told (λ c. 0) (opening casts)
opened casts bound told = record { walked = Begins; brought = λ letter there live. cc; replied = λ j c a place item at there reply. cc; heard = λ j c a at. cc }

pub called : (casts : List ActorSpec) (bound : ℕ → Option (List Step)) (told : Told) → SomeEnd casts bound told → (done : ℕ → ℕ) (h : History) →
    IsEager casts bound told done h → (c : ℕ) (call : Submission) → bound c ≡ None → slice_get (told.calls c) (length (calls_of c h)) ≡ Some call → refusal_of h
    (event.Submit c call.actor call.method call.args) ≡ None → IsEager casts bound told done (add_event h (event.Submit c call.actor call.method call.args))
called casts bound told s done h e c call free next may =
    quiet_eager s h (event.Submit c call.actor call.method call.args) e may refl refl refl
    (GoesOn done h (Calls c call free next may) e.walked)

pub asked : (casts : List ActorSpec) (bound : ℕ → Option (List Step)) (told : Told) → SomeEnd casts bound told → (done : ℕ → ℕ) (h : History)
    → IsEager casts bound told done h → (c a : ℕ) → bound c ≡ None → told.dead a ≡ true → contains a h.asked ≡ false
    → refusal_of h (event.AskKill c a) ≡ None → IsEager casts bound told done (add_event h (event.AskKill c a))
asked casts bound told s done h e c a free dead yet may =
    quiet_eager s h (event.AskKill c a) e may refl refl refl (GoesOn done h (Asks c a free dead yet may) e.walked)

pub stepped : (casts : List ActorSpec) (bound : ℕ → Option (List Step)) (told : Told) → SomeEnd casts bound told → (done : ℕ → ℕ) (h : History)
    → IsEager casts bound told done h → (c : ℕ) (steps : List Step) (step : Step) → bound c ≡ Some steps → slice_get steps (done c) ≡ Some step
    → MayTake c step h → IsEager casts bound told (one_step_more c done) (after_move c step h)
stepped casts bound told s done h e c steps (Submit a method args) is next may =
    quiet_eager s h (event.Submit c a method args) e may refl refl refl
    (GoesOn done h (Steps c steps (Submit a method args) is next may) e.walked)
stepped casts bound told s done h e c steps (Copy a) is next may =
    quiet_eager s h (event.Copy c a) e may refl refl refl
    (GoesOn done h (Steps c steps (Copy a) is next may) e.walked)
stepped casts bound told s done h e c steps (Release a) is next may =
    let g : History = add_event h (event.Release c a) in
    eager_of
    (near_mail casts bound told s g (did h (event.Release c a)) (quiet_near s h (event.Release c a) (near_of h e) refl refl
    (GoesOn done h (Steps c steps (Release a) is next may) e.walked))) (brought_release h c a may e.brought)
stepped casts bound told s done h e c steps (Kill a) is next may =
    quiet_eager s h (event.AskKill c a) e may refl refl refl
    (GoesOn done h (Steps c steps (Kill a) is next may) e.walked)
stepped casts bound told s done h e c steps (Await k) is next may =
    record { walked = GoesOn done h (Steps c steps (Await k) is next may) e.walked; brought = e.brought; replied = e.replied; heard = e.heard }

pub without : (casts : List ActorSpec) (bound : ℕ → Option (List Step)) (told : Told) → SomeEnd casts bound told → (done : ℕ → ℕ) (h : History)
    → IsEager casts bound told done h → (c a : ℕ) (steps : List Step) → bound c ≡ Some steps → slice_get steps (done c) ≡ Some (Kill a)
    → is_dead a h ≡ true → IsEager casts bound told (one_step_more c done) h
without casts bound told s done h e c a steps is next dead =
    record { walked = GoesOn done h (DoesWithout c a steps is next dead) e.walked; brought = e.brought; replied = e.replied; heard = e.heard }

-- where some events end as is told, an eager walk stays so by sending the call told to run next and bringing its letter
pub sent : (casts : List ActorSpec) (bound : ℕ → Option (List Step)) (told : Told) → SomeEnd casts bound told → (done : ℕ → ℕ) (h : History)
    → IsEager casts bound told done h → (a : ℕ) (item : RunItem) → IsNextRun told a h item
    → refusal_of h (event.Send item.caller item.future) ≡ None → IsEager casts bound told done (after_post (event.Send item.caller item.future) h)
sent casts bound told s done h e a item next may =
    eager_of
    (near_brought casts bound told s done (length h.mail) (quiet_near s h (event.Send item.caller item.future) (near_of h e) refl refl
    (Mails done h item.caller item.future may e.walked))) (brought_send h item.caller item.future may e.brought)

pub killed : (casts : List ActorSpec) (bound : ℕ → Option (List Step)) (told : Told) → SomeEnd casts bound told → (done : ℕ → ℕ) (h : History)
    → IsEager casts bound told done h → (a : ℕ) → told.dead a ≡ true → length (runs_of a h) ≡ length (told.runs a)
    → refusal_of h (event.TakeKill a) ≡ None → IsEager casts bound told done (add_event h (event.TakeKill a))
killed casts bound told s done h e a dead long may =
    let w = going_of s e.walked in
    quiet_eager s h (event.TakeKill a) e may refl refl refl
    (GoesOn done h (TakesKill a dead (front_whole (runs_of a h) (told.runs a) (w.walk.runs a) (omega (arith, long))) may) e.walked)
