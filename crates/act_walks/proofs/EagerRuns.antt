-- A run that is told, whose reply is kept at once or lost, and a death that is heard at once, leave a walk eager.
use Rattle.act_walks.proofs.Common.{◌≡◌, ℕ, true, false, List, [], ◌∷◌, ◌++◌, length, Option, Some, None, inl, inr, ◌⊎◌, refl, ap, sym, ◌∙◌, subst, Contains}
use Rattle.act_walks.proofs.Common.{slice_get, is_some, RunItem, Post, Step, Answer, kept_at, ActorSpec, History, calls_of, runs_of, kept_of}
use Rattle.act_walks.proofs.Common.{next_item, refusal_of, add_event, after_run, and_also, Grows, added_grows, runs_grow, IsSound, IsSoundPost}
use Rattle.act_walks.proofs.Common.{IsPrefix, All_at, slice_get_front, slice_get_last, run_needs, is_reply, At, Contains-append_left, ReplyPost, DeathPost}
use Rattle.act_walks.proofs.Common.{next_unanswered, IsWorld, world, Told, Runs, Collects, Tells, IsNextRun, MayHear, IsWalked, IsLate, late_play, push_at}
use Rattle.act_walks.proofs.Common.{IsGoing, hear_more, quiet_kept, collect_may, IsBrought, brought_kept, SomeEnd, RepliesAreKept, DeathsAreHeard, IsEager}
use Rattle.act_walks.proofs.Common.{place_in, stands_in, run_stands, ran_on}
use Rattle.act_rules.proofs.Growth.{after_run_grows}
use Rattle.act_rules.specs.declared.event.Event.TheVariants as event
use Rattle.act_early.proofs.Items.{ready, same_item}
use Rattle.act_told_ends.specs.Walks.{Hears}
use Rattle.act_told_ends.specs.Walked.{GoesOn}
use Rattle.act_told_ends.proofs.Posted.{reply_answers}
use Rattle.act_walks.proofs.Eager.{going_of, some_stays}

-- ---- what runs next is what is told

pub is_told : (casts : List ActorSpec) (bound : ℕ → Option (List Step)) (told : Told) → SomeEnd casts bound told → (done : ℕ → ℕ) (h : History)
    → IsEager casts bound told done h → (a : ℕ) (item x : RunItem) → IsNextRun told a h item → next_item a item.caller h ≡ Some x
    → refusal_of h (event.Run a item.caller) ≡ None → x ≡ item
is_told casts bound told s done h e a item x next is may =
    sym (same_item a c h late.history x item (world casts plans late l.play).sound (ready a c h x w.world.sound is)
    (subst (λ items. IsPrefix (runs_of a h) items) (sym (l.leaves.runs a)) (w.walk.runs a))
    (subst (λ calls. IsPrefix (calls_of c h) calls) (sym (l.leaves.calls c)) (w.walk.calls c)) (λ k answer kept. ap (λ l. kept_at l k) (l.leaves.kept c) ∙
    w.walk.kept c k answer kept) (ap (λ items. slice_get items (length (runs_of a h))) (l.leaves.runs a) ∙ next) refl)
  where
    c : ℕ
    c = item.caller

    plans : ℕ → List Step
    plans = (late_play s.1).0

    late : At
    late = (late_play s.1).1

    l : IsLate casts bound told plans late
    l = (late_play s.1).2

    w : IsGoing casts bound told done h
    w = going_of s e.walked

-- ---- what stays kept

-- replies that were posted before
old_reply : (told : Told) (h g : History) → Grows h g → IsSound h → RepliesAreKept told h → (j c a place : ℕ) (item : RunItem)
    → slice_get h.posts j ≡ Some (ReplyPost c a place) → slice_get (runs_of a g) place ≡ Some item → is_reply (kept_at (told.kept c) item.future) ≡ true
    → is_some (kept_at (kept_of c g) item.future) ≡ true
old_reply told h g grows sound kept j c a place item at there reply =
    let post = All_at (IsSoundPost h) h.posts j sound.posts.posts at in
    let both : Some post.0 ≡ Some item = sym (slice_get_front (runs_of a h) (runs_of a g) place (runs_grow a grows) post.1) ∙ there in
    let one : post.0 ≡ item = cc in some_stays c item.future h g grows sound (kept j c a place item at (post.1 ∙ ap (λ i. Some i) one) reply)

-- deaths that were heard before
old_death : (h g : History) → Grows h g → DeathsAreHeard h → (j c a : ℕ) → slice_get h.posts j ≡ Some (DeathPost c a) → Contains g.collected (DeathPost c a)
old_death h g grows heard j c a at =
    subst (λ l. Contains l (DeathPost c a)) grows.collected.1
    (Contains-append_left h.collected grows.collected.0 (DeathPost c a) (heard j c a at))

-- ---- a run

-- an eager walk, the item that is told next, and that it runs
record MayRun (casts : List ActorSpec) (bound : ℕ → Option (List Step)) (told : Told) (done : ℕ → ℕ) (h : History) (a : ℕ) (item : RunItem) : Type 0 where
  some : SomeEnd casts bound told
  eager : IsEager casts bound told done h
  next : IsNextRun told a h item
  is : next_item a item.caller h ≡ Some item
  may : refusal_of h (event.Run a item.caller) ≡ None

may_run : (casts : List ActorSpec) (bound : ℕ → Option (List Step)) (told : Told) → SomeEnd casts bound told → (done : ℕ → ℕ) (h : History)
    → IsEager casts bound told done h → (a : ℕ) (item : RunItem) → IsNextRun told a h item → refusal_of h (event.Run a item.caller) ≡ None
    → is_some (next_item a item.caller h) ≡ true → MayRun casts bound told done h a item
may_run casts bound told s done h e a item next may some = go (next_item a item.caller h) refl some
  where
    go : (o : Option RunItem) → next_item a item.caller h ≡ o → is_some o ≡ true → MayRun casts bound told done h a item
    go None is some = cc
    go (Some x) is some = record {
      some = s;
      eager = e;
      next = next;
      is = is ∙ ap (λ i. Some i) (is_told casts bound told s done h e a item x next is may);
      may = may;
    }

abbrev reply_of : ℕ → RunItem → History → Post
reply_of a item h = ReplyPost item.caller a (length (runs_of a h))

run_walked : (casts : List ActorSpec) (bound : ℕ → Option (List Step)) (told : Told) (done : ℕ → ℕ) (h : History) (a : ℕ) (item : RunItem)
    → MayRun casts bound told done h a item → IsWalked casts bound told done (ran_on h a item.caller item)
run_walked casts bound told done h a item r =
    subst (λ o. IsWalked casts bound told done (after_run a item.caller h o)) r.is
    (GoesOn done h (Runs a item r.next r.is r.may) r.eager.walked)

-- a reply that is posted once it ran was posted before, or is the new one, of this item
which_reply : (P : ℕ → ℕ → Type 0) (h : History) (a : ℕ) (item : RunItem) (j d b place : ℕ) (other : RunItem)
    → slice_get (h.posts ++ reply_of a item h ∷ []) j ≡ Some (ReplyPost d b place) → slice_get (runs_of b (ran_on h a item.caller item)) place ≡ Some other
    → (slice_get h.posts j ≡ Some (ReplyPost d b place) → P d other.future) → P item.caller item.future → P d other.future
which_reply P h a item j d b place other at there old new = go (push_at h.posts (reply_of a item h) j at)
  where
    go : (slice_get h.posts j ≡ Some (ReplyPost d b place)) ⊎ ((j ≡ length h.posts) × (ReplyPost d b place ≡ reply_of a item h)) → P d other.future
    go (inl before) = old before
    go (inr last) =
        let post : ReplyPost d b place ≡ ReplyPost item.caller a (length (runs_of a h)) = last.1 in
        let caller : d ≡ item.caller = cc in let actor : b ≡ a = cc in let here : place ≡ length (runs_of a h) = cc in
        let first : slice_get (runs_of a (ran_on h a item.caller item)) (length (runs_of a h)) ≡ Some other =
        subst (λ n. slice_get (runs_of n (ran_on h a item.caller item)) (length (runs_of a h)) ≡ Some other) actor
        (subst (λ n. slice_get (runs_of b (ran_on h a item.caller item)) n ≡ Some other) here there) in
        let both : Some item ≡ Some other = sym (run_stands a h.ran item) ∙ first in let one : item ≡ other = cc in
        subst (λ n. P n other.future) (sym caller) (subst (λ (i : RunItem). P item.caller i.future) one new)

-- a death that is posted once it ran was posted before
which_death : (h : History) (a : ℕ) (item : RunItem) (j d b : ℕ) → slice_get (h.posts ++ reply_of a item h ∷ []) j ≡ Some (DeathPost d b)
    → slice_get h.posts j ≡ Some (DeathPost d b)
which_death h a item j d b at = go (push_at h.posts (reply_of a item h) j at)
  where
    go : (slice_get h.posts j ≡ Some (DeathPost d b)) ⊎ ((j ≡ length h.posts) × (DeathPost d b ≡ reply_of a item h))
        → slice_get h.posts j ≡ Some (DeathPost d b)
    go (inl before) = before
    go (inr last) = let bad : DeathPost d b ≡ ReplyPost item.caller a (length (runs_of a h)) = last.1 in cc

-- ---- its reply is lost

lost : (casts : List ActorSpec) (bound : ℕ → Option (List Step)) (told : Told) (done : ℕ → ℕ) (h : History) (a : ℕ) (item : RunItem) → MayRun casts bound told
    done h a item → is_reply (kept_at (told.kept item.caller) item.future) ≡ false → IsEager casts bound told done (add_event h (event.Run a item.caller))
lost casts bound told done h a item r none = record {
  walked = GoesOn done h (Runs a item r.next r.is r.may) r.eager.walked;
  brought = brought_kept h (event.Run a item.caller) r.may (ap (λ o. (after_run a item.caller h o).mail) r.is) r.eager.brought;
  replied = subst (λ o. RepliesAreKept told (after_run a item.caller h o)) (sym r.is) (λ j d b place other at there. which_reply
      (λ d k. is_reply (kept_at (told.kept d) k) ≡ true → is_some (kept_at (kept_of d g) k) ≡ true) h a item j d b place other at there (λ before reply.
      old_reply told h g grows sound r.eager.replied j d b place other before there reply) (λ reply. let bad : true ≡ false = sym reply ∙ none in cc));
  heard = subst (λ o. DeathsAreHeard (after_run a item.caller h o)) (sym r.is)
      (λ j d b at. old_death h g grows r.eager.heard j d b (which_death h a item j d b at));
}
  where
    g : History
    g = ran_on h a item.caller item

    grows : Grows h g
    grows = after_run_grows a item.caller h (Some item)

    sound : IsSound h
    sound = (going_of r.some r.eager.walked).world.sound

pub ran_lost : (casts : List ActorSpec) {bound : ℕ → Option (List Step)} (told : Told) → SomeEnd casts bound told → {done : ℕ → ℕ} (h : History) → IsEager casts
    bound told done h → (a : ℕ) (item : RunItem) → IsNextRun told a h item → refusal_of h (event.Run a item.caller) ≡ None → is_some (next_item a item.caller
    h) ≡ true → is_reply (kept_at (told.kept item.caller) item.future) ≡ false → IsEager casts bound told done (add_event h (event.Run a item.caller))
ran_lost casts {bound} told s {done} h e a item next may some none =
    lost casts bound told done h a item (may_run casts bound told s done h e a item next may some) none

-- ---- its reply is kept

-- the call that runs has no answer before
unanswered : (casts : List ActorSpec) (bound : ℕ → Option (List Step)) (told : Told) (done : ℕ → ℕ) (h : History) (a : ℕ) (item : RunItem)
    → MayRun casts bound told done h a item → kept_at (kept_of item.caller (ran_on h a item.caller item)) item.future ≡ None
unanswered casts bound told done h a item r =
    let sound = (going_of r.some r.eager.walked).world.sound in let is = ready a item.caller h item sound r.is in
    let none = next_unanswered h a item.caller sound is.next.at (run_needs h a item.caller r.may).2 in
    quiet_kept h item.caller item.future (after_run_grows a item.caller h (Some item)) sound refl refl
    ∙ ap (kept_at (kept_of item.caller h)) (sym (ap (λ (i : RunItem). i.future) is.next.is)) ∙ none

kept_now : (casts : List ActorSpec) (bound : ℕ → Option (List Step)) (told : Told) (done : ℕ → ℕ) (h : History) (a : ℕ) (item : RunItem)
    → MayRun casts bound told done h a item → is_reply (kept_at (told.kept item.caller) item.future) ≡ true
    → IsEager casts bound told done (add_event (ran_on h a item.caller item) (event.Collect (length h.posts)))
kept_now casts bound told done h a item r reply = record {
  walked = walked;
  brought = brought_kept g (event.Collect (length h.posts)) (collect_may g (length h.posts) at) refl (subst (λ o. IsBrought (after_run a item.caller h o)) r.is
      (brought_kept h (event.Run a item.caller) r.may (ap (λ o. (after_run a item.caller h o).mail) r.is) r.eager.brought));
  replied = λ j d b place other at there. which_reply (λ d k. is_reply (kept_at (told.kept d) k) ≡ true →
      is_some (kept_at (kept_of d q) k) ≡ true) h a item j d b place other at there (λ before reply. some_stays d other.future g q more v.sound
      (old_reply told h g grows sound r.eager.replied j d b place other before there reply)) (λ _. ap (λ o. is_some o) kept.1);
  heard = λ j d b at. subst (λ l. Contains l (DeathPost d b)) more.collected.1
      (Contains-append_left h.collected more.collected.0 (DeathPost d b) (r.eager.heard j d b (which_death h a item j d b at)));
}
  where
    g : History
    g = ran_on h a item.caller item

    q : History
    q = add_event g (event.Collect (length h.posts))

    new : Post
    new = reply_of a item h

    grows : Grows h g
    grows = after_run_grows a item.caller h (Some item)

    more : Grows g q
    more = added_grows g (event.Collect (length h.posts))

    sound : IsSound h
    sound = (going_of r.some r.eager.walked).world.sound

    v : IsWorld casts g
    v = (going_of r.some (run_walked casts bound told done h a item r)).world

    at : slice_get g.posts (length h.posts) ≡ Some new
    at = slice_get_last h.posts new

    walked : IsWalked casts bound told done q
    walked = GoesOn done g (Collects (length h.posts) item.caller a (length (runs_of a h)) item at (run_stands a h.ran item) reply
        (unanswered casts bound told done h a item r)) (run_walked casts bound told done h a item r)

    w : IsWorld casts q
    w = (going_of r.some walked).world

    has : slice_get q.collected (length h.collected) ≡ Some new
    has = ap (λ o. slice_get (and_also h.collected o) (length h.collected)) at ∙ slice_get_last h.collected new

    kept : (answer : Answer) × (kept_at (kept_of item.caller q) item.future ≡ Some answer)
    kept = reply_answers q item.caller a (length (runs_of a h)) (length h.collected) w.sound w.retires.named has (run_stands a h.ran item) refl

pub ran_kept : (casts : List ActorSpec) {bound : ℕ → Option (List Step)} (told : Told) → SomeEnd casts bound told → {done : ℕ → ℕ} (h : History) →
    IsEager casts bound told done h → (a : ℕ) (item : RunItem) → IsNextRun told a h item → refusal_of h (event.Run a item.caller) ≡ None → is_some (next_item a
    item.caller h) ≡ true → is_reply (kept_at (told.kept item.caller) item.future) ≡ true → (refusal_of (add_event h (event.Run a item.caller)) (event.Collect
    (length h.posts)) ≡ None) × IsEager casts bound told done (add_event (add_event h (event.Run a item.caller)) (event.Collect (length h.posts)))
ran_kept casts {bound} told s {done} h e a item next may some reply =
    let r = may_run casts bound told s done h e a item next may some in
    subst (λ o. (refusal_of (after_run a item.caller h o) (event.Collect (length h.posts)) ≡ None)
    × IsEager casts bound told done (add_event (after_run a item.caller h o) (event.Collect (length h.posts)))) (sym r.is) (
      collect_may (ran_on h a item.caller item) (length h.posts) (slice_get_last h.posts (reply_of a item h)),
      kept_now casts bound told done h a item r reply,
    )

-- ---- a death

pub heard : (casts : List ActorSpec) (bound : ℕ → Option (List Step)) (told : Told) → SomeEnd casts bound told → (done : ℕ → ℕ) (h : History)
    → IsEager casts bound told done h → (c a : ℕ) → MayHear told c a h → (Contains h.collected (DeathPost c a) → ⊥) → refusal_of h (event.Tell a c) ≡ None
    → (refusal_of (add_event h (event.Tell a c)) (event.Collect (length h.posts)) ≡ None)
    × IsEager casts bound told done (add_event (add_event h (event.Tell a c)) (event.Collect (length h.posts)))
heard casts bound told s done h e c a hears none may = (
  collect_may g (length h.posts) at,
  record {
    walked = GoesOn done g (Hears (length h.posts) c a (hear_more c h grows sound hears) none at) walked;
    brought = brought_kept g (event.Collect (length h.posts)) (collect_may g (length h.posts) at) refl (brought_kept h (event.Tell a c) may refl e.brought);
    replied = λ j d b place item there stands reply. replied j d b place item stands reply (push_at h.posts new j there);
    heard = λ j d b there. told_of j d b (push_at h.posts new j there);
  },
)
  where
    g : History
    g = add_event h (event.Tell a c)

    q : History
    q = add_event g (event.Collect (length h.posts))

    new : Post
    new = DeathPost c a

    grows : Grows h g
    grows = added_grows h (event.Tell a c)

    more : Grows g q
    more = added_grows g (event.Collect (length h.posts))

    sound : IsSound h
    sound = (going_of s e.walked).world.sound

    at : slice_get g.posts (length h.posts) ≡ Some new
    at = slice_get_last h.posts new

    untold : Contains h.posts (DeathPost c a) → ⊥
    untold has = let place = place_in h.posts (DeathPost c a) has in none (e.heard place.0 c a place.1)

    walked : IsWalked casts bound told done g
    walked = GoesOn done h (Tells c a hears untold may) e.walked

    v : IsWorld casts g
    v = (going_of s walked).world

    replied : (j d b place : ℕ) (item : RunItem) → slice_get (runs_of b h) place ≡ Some item → is_reply (kept_at (told.kept d) item.future) ≡ true → (slice_get
        h.posts j ≡ Some (ReplyPost d b place)) ⊎ ((j ≡ length h.posts) × (ReplyPost d b place ≡ new)) → is_some (kept_at (kept_of d q) item.future) ≡ true
    replied j d b place item stands reply (inl before) = some_stays d item.future g q more v.sound
        (some_stays d item.future h g grows sound (e.replied j d b place item before stands reply))
    replied j d b place item stands reply (inr last) = let bad : ReplyPost d b place ≡ DeathPost c a = last.1 in cc

    told_of : (j d b : ℕ) → (slice_get h.posts j ≡ Some (DeathPost d b)) ⊎ ((j ≡ length h.posts) × (DeathPost d b ≡ new)) → Contains q.collected (DeathPost d b)
    told_of j d b (inl before) = subst (λ l. Contains l (DeathPost d b)) more.collected.1
        (Contains-append_left h.collected more.collected.0 (DeathPost d b) (e.heard j d b before))
    told_of j d b (inr last) = subst (λ p. Contains q.collected p) (sym last.1) (stands_in q.collected (length h.collected) has)
      where
        has : slice_get q.collected (length h.collected) ≡ Some new
        has = ap (λ o. slice_get (and_also h.collected o) (length h.collected)) at ∙ slice_get_last h.collected new
