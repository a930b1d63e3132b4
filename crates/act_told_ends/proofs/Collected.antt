-- A post that the play collects: the walk has its answer, or may collect it.
use Rattle.act_told_ends.proofs.Common.{◌≡◌, ℕ, Bool, true, false, [], ◌∷◌, ◌++◌, length, Option, Some, None, inl, inr, ◌⊎◌, refl, ap, sym, ◌∙◌, subst}
use Rattle.act_told_ends.proofs.Common.{Contains, slice_get, is_some, RunItem, Submission, Answer, Err, ActorDied, kept_at, History, names, cast_of, is_caller}
use Rattle.act_told_ends.proofs.Common.{calls_of, runs_of, kept_of, is_dead, refusal_of, add_event, and_also, slice_get_front, slice_get_last, All_at}
use Rattle.act_told_ends.proofs.Common.{IsSoundPost, held_submission, At, with_event, IsPlay, Happens, is_reply, Post, ReplyPost, DeathPost, named_among}
use Rattle.act_told_ends.proofs.Common.{death_answers, reply_some, IsWorld, world, Collects, Tells, Hears, MayHear, place_in, stands_in}
use Rattle.act_rules.specs.declared.event.Event.TheVariants as event
use Rattle.act_early.proofs.Deaths.{collected_death}
use Rattle.act_told_ends.proofs.Lists.{push_at}
use Rattle.act_told_ends.proofs.Later.{IsLater}
use Rattle.act_told_ends.proofs.Posted.{CameBy, Replied, Died, came_by, reply_answers}
use Rattle.act_told_ends.proofs.Covered.{IsCovered, runs_told, runs_covered, calls_covered, dead_covered, cast_same}
use Rattle.act_told_ends.proofs.Going.{Case, Here, Goal}
use Rattle.act_told_ends.proofs.Covers.{Near, idle, death_in}

-- the play once the post was collected
abbrev with_post : Post → At → At
with_post post p = record { history = record p.history { collected = p.history.collected ++ post ∷ [] }; stepped = p.stepped }

-- one that collects this post
record IsCollecting (x : Case) (p : At) (post : Post) : Type 0 where
  here : Here x p
  world : IsWorld x.casts (with_post post p).history
  sound : IsSoundPost p.history post
  later : IsLater (with_post post p).history x.late.history

told_at : (x : Case) (p : At) (post : Post) (c k : ℕ) (answer : Answer) → IsCollecting x p post → kept_at (kept_of c (with_post post p).history) k ≡ Some answer
    → kept_at (x.told.kept c) k ≡ Some answer
told_at x p post c k answer t e = ap (λ kept. kept_at kept k) (sym (t.here.setting.end.leaves.kept c)) ∙ t.later.early.kept c k answer e

-- no answer is a reply and a death
no_death : {answer : Answer} → is_reply (Some answer) ≡ true → answer ≡ Err ActorDied → ⊥
no_death reply died = let bad : is_reply (Some (Err ActorDied)) ≡ true = subst (λ a. is_reply (Some a) ≡ true) died reply in cc

-- ---- a reply

reply_covered : (x : Case) (p : At) (c a place : ℕ) (item : RunItem) → Here x p → slice_get (runs_of a p.history) place ≡ Some item
    → is_some (kept_at (kept_of c x.g) item.future) ≡ true → IsCovered x.bound x.told x.done (with_post (ReplyPost c a place) p) x.g
reply_covered x p c a place item at there some = record {
  steps = at.covered.steps;
  calls = at.covered.calls;
  runs = at.covered.runs;
  replies = λ i d b q other has told. reply d b q other told i (push_at p.history.collected (ReplyPost c a place) i has);
  deaths = λ i d b has. death d b i (push_at p.history.collected (ReplyPost c a place) i has);
  killed = at.covered.killed;
  asked = at.covered.asked;
}
  where
    told_here : slice_get (x.told.runs a) place ≡ Some item
    told_here = slice_get_front (runs_of a p.history) (x.told.runs a) place (runs_told x.casts x.bound x.told x.plans x.late p a at.setting.end at.later) there

    reply : (d b q : ℕ) (other : RunItem) → slice_get (x.told.runs b) q ≡ Some other → (i : ℕ) → (slice_get p.history.collected i ≡ Some (ReplyPost d b q)) ⊎
        ((i ≡ length p.history.collected) × (ReplyPost d b q ≡ ReplyPost c a place)) → is_some (kept_at (kept_of d x.g) other.future) ≡ true
    reply d b q other told i (inl old) = at.covered.replies i d b q other old told
    reply d b q other told i (inr last) =
        let same : ReplyPost d b q ≡ ReplyPost c a place = last.1 in let caller : d ≡ c = cc in let actor : b ≡ a = cc in let here : q ≡ place = cc in
        let first : slice_get (x.told.runs a) place ≡ Some other =
        subst (λ n. slice_get (x.told.runs n) place ≡ Some other) actor (subst (λ n. slice_get (x.told.runs b) n ≡ Some other) here told) in
        let both : Some item ≡ Some other = sym told_here ∙ first in let one : item ≡ other = cc in
        subst (λ n. is_some (kept_at (kept_of n x.g) other.future) ≡ true) (sym caller)
        (subst (λ (y : RunItem). is_some (kept_at (kept_of c x.g) y.future) ≡ true) one some)

    death : (d b : ℕ) → (i : ℕ) → (slice_get p.history.collected i ≡ Some (DeathPost d b))
        ⊎ ((i ≡ length p.history.collected) × (DeathPost d b ≡ ReplyPost c a place)) → Contains x.g.collected (DeathPost d b)
    death d b i (inl old) = at.covered.deaths i d b old
    death d b i (inr last) = let bad : DeathPost d b ≡ ReplyPost c a place = last.1 in cc

reply_goes : (x : Case) (p : At) (c a place : ℕ) (item : RunItem) → IsCollecting x p (ReplyPost c a place) → slice_get (runs_of a p.history) place ≡ Some item
    → item.caller ≡ c → is_some (kept_at (kept_of c x.g) item.future) ≡ false → Goal x
reply_goes x p c a place item t there mine none = go (is_reply (Some answer)) refl
  where
    q : History
    q = (with_post (ReplyPost c a place) p).history

    mine_there : slice_get (runs_of a x.g) place ≡ Some item
    mine_there = slice_get_front (runs_of a p.history) (runs_of a x.g) place (runs_covered a t.here) there

    kept : (answer : Answer) × (kept_at (kept_of c q) item.future ≡ Some answer)
    kept = reply_answers q c a place (length p.history.collected) t.world.sound t.world.retires.named
        (slice_get_last p.history.collected (ReplyPost c a place)) there mine

    answer : Answer
    answer = kept.0

    -- no death came before
    dead : CameBy q c item.future answer → is_reply (Some answer) ≡ false → ⊥
    dead (Replied i b k other has at caller future reply) never = let bad : true ≡ false = sym reply ∙ never in cc
    dead (Died i call has at died) never = came (push_at p.history.collected (ReplyPost c a place) i has)
      where
        came : (slice_get p.history.collected i ≡ Some (DeathPost c call.actor))
            ⊎ ((i ≡ length p.history.collected) × (DeathPost c call.actor ≡ ReplyPost c a place)) → ⊥
        came (inl old) =
            let here = slice_get_front (calls_of c p.history) (calls_of c x.g) item.future
            (calls_covered x.g p c t.here) at in
            let answers = death_answers x.g c item.future here (t.here.covered.deaths i c call.actor old) in
            let bad : true ≡ false = sym (ap (λ o. is_some o) answers.1) ∙ none in cc
        came (inr last) = let bad : DeathPost c call.actor ≡ ReplyPost c a place = last.1 in cc

    empty : (o : Option Answer) → kept_at (kept_of c x.g) item.future ≡ o → is_some o ≡ false → kept_at (kept_of c x.g) item.future ≡ None
    empty None e never = e
    empty (Some other) e never = cc

    go : (y : Bool) → is_reply (Some answer) ≡ y → Goal x
    go false never = absurd (dead (came_by c item.future t.world.sound kept.1) never)
    go true reply =
        let posted = place_in x.g.posts (ReplyPost c a place)
        (subst (λ d. Contains x.g.posts (ReplyPost d a place)) mine (t.here.setting.posted a place item mine_there)) in
        Collects posted.0 c a place item posted.1 mine_there
        (ap is_reply (told_at x p (ReplyPost c a place) c item.future answer t kept.1) ∙ reply) (empty (kept_at (kept_of c x.g) item.future) refl none)

reply_near : (x : Case) (p : At) (c a place : ℕ) → IsCollecting x p (ReplyPost c a place)
    → IsCovered x.bound x.told x.done (with_post (ReplyPost c a place) p) x.g ⊎ Goal x
reply_near x p c a place t = go (is_some (kept_at (kept_of c x.g) t.sound.0.future)) refl
  where
    go : (y : Bool) → is_some (kept_at (kept_of c x.g) t.sound.0.future) ≡ y → IsCovered x.bound x.told x.done (with_post (ReplyPost c a place) p) x.g ⊎ Goal x
    go true some = inl (reply_covered x p c a place t.sound.0 t.here t.sound.1 some)
    go false none = inr (reply_goes x p c a place t.sound.0 t t.sound.1 t.sound.2 none)

-- ---- a death

death_covered : (x : Case) (p : At) (c a : ℕ) → Here x p → Contains x.g.collected (DeathPost c a)
    → IsCovered x.bound x.told x.done (with_post (DeathPost c a) p) x.g
death_covered x p c a at has_it = record {
  steps = at.covered.steps;
  calls = at.covered.calls;
  runs = at.covered.runs;
  replies = λ i d b q other has told. reply d b q other told i (push_at p.history.collected (DeathPost c a) i has);
  deaths = λ i d b has. death d b i (push_at p.history.collected (DeathPost c a) i has);
  killed = at.covered.killed;
  asked = at.covered.asked;
}
  where
    reply : (d b q : ℕ) (other : RunItem) → slice_get (x.told.runs b) q ≡ Some other → (i : ℕ) → (slice_get p.history.collected i ≡ Some (ReplyPost d b q)) ⊎
        ((i ≡ length p.history.collected) × (ReplyPost d b q ≡ DeathPost c a)) → is_some (kept_at (kept_of d x.g) other.future) ≡ true
    reply d b q other told i (inl old) = at.covered.replies i d b q other old told
    reply d b q other told i (inr last) = let bad : ReplyPost d b q ≡ DeathPost c a = last.1 in cc

    death : (d b : ℕ) → (i : ℕ) → (slice_get p.history.collected i ≡ Some (DeathPost d b))
        ⊎ ((i ≡ length p.history.collected) × (DeathPost d b ≡ DeathPost c a)) → Contains x.g.collected (DeathPost d b)
    death d b i (inl old) = at.covered.deaths i d b old
    death d b i (inr last) = subst (λ post. Contains x.g.collected post) (sym last.1) has_it

may_hear : (x : Case) (p : At) (c a : ℕ) → IsCollecting x p (DeathPost c a) → MayHear x.told c a x.g
may_hear x p c a t =
    let late_has : Contains late.collected (DeathPost c a) =
    stands_in late.collected (length h.collected)
    (slice_get_front q.collected late.collected (length h.collected) t.later.collected (slice_get_last h.collected (DeathPost c a))) in
    let call_there : (k : ℕ) (call : Submission) → slice_get (x.told.calls c) k ≡ Some call → slice_get (calls_of c late) k ≡ Some call =
    λ k call e. ap (λ calls. slice_get calls k) (t.here.setting.end.leaves.calls c) ∙ e in
    let answered : (k : ℕ) (call : Submission) → slice_get (x.told.calls c) k ≡ Some call → call.actor ≡ a → is_some (kept_at (x.told.kept c) k) ≡ true =
    λ k call e to. let answers = death_answers late c k (call_there k call e)
    (subst (λ b. Contains late.collected (DeathPost c b)) (sym to) late_has) in
    ap (λ o. is_some o) (ap (λ kept. kept_at kept k) (sym (t.here.setting.end.leaves.kept c)) ∙ answers.1) in
    let heard : (k : ℕ) (call : Submission) → slice_get (x.told.calls c) k ≡ Some call → call.actor ≡ a → is_reply (kept_at (x.told.kept c) k) ≡ true
    → is_some (kept_at (kept_of c x.g) k) ≡ true =
    λ k call e to reply. let some = reply_some (kept_at (x.told.kept c) k) reply in
    let kept : kept_at (kept_of c late) k ≡ Some some.0 =
    ap (λ kept. kept_at kept k) (t.here.setting.end.leaves.kept c) ∙ some.1 in
    let is : is_reply (Some some.0) ≡ true = ap is_reply (sym some.1) ∙ reply in
    let made = ran k call (call_there k call e) to is (came_by c k w.sound kept) in
    let answers = death_answers q c k made.1
    (subst (λ b. Contains q.collected (DeathPost c b)) (sym made.2)
    (stands_in q.collected (length h.collected) (slice_get_last h.collected (DeathPost c a)))) in
    let both : Some answers.0 ≡ Some some.0 = sym (t.later.early.kept c k answers.0 answers.1) ∙ kept in
    let one : answers.0 ≡ some.0 = cc in
    before k (ap (λ answer. is_reply (Some answer)) one ∙ is) (came_by c k t.world.sound answers.1) in
    record { answered = answered; heard = heard }
  where
    h : History
    h = p.history

    q : History
    q = (with_post (DeathPost c a) p).history

    late : History
    late = x.late.history

    w : IsWorld x.casts late
    w = world x.casts x.plans x.late t.here.setting.end.play

    -- a reply that the play keeps once the death came was collected before
    before : (k : ℕ) {answer : Answer} → is_reply (Some answer) ≡ true → CameBy q c k answer → is_some (kept_at (kept_of c x.g) k) ≡ true
    before k {answer} reply (Died i call has at died) = absurd (no_death reply died)
    before k reply (Replied i b place item has at caller future is) = came (push_at h.collected (DeathPost c a) i has)
      where
        came : (slice_get h.collected i ≡ Some (ReplyPost c b place)) ⊎ ((i ≡ length h.collected) × (ReplyPost c b place ≡ DeathPost c a))
            → is_some (kept_at (kept_of c x.g) k) ≡ true
        came (inl old) = subst (λ j. is_some (kept_at (kept_of c x.g) j) ≡ true) future (t.here.covered.replies i c b place item old
            (slice_get_front (runs_of b h) (x.told.runs b) place (runs_told x.casts x.bound x.told x.plans x.late p b t.here.setting.end t.here.later) at))
        came (inr last) = let bad : ReplyPost c b place ≡ DeathPost c a = last.1 in cc

    -- the call of a reply that is told ran before its actor died
    ran : (k : ℕ) (call : Submission) {answer : Answer} → slice_get (calls_of c late) k ≡ Some call → call.actor ≡ a → is_reply (Some answer) ≡ true
        → CameBy late c k answer → (made : Submission) × (slice_get (calls_of c h) k ≡ Some made) × (made.actor ≡ a)
    ran k call {answer} at to reply (Died i other has there died) = absurd (no_death reply died)
    ran k call at to reply (Replied i b place item has there caller future is) =
        let held = held_submission late b k place w.sound.order there caller future in
        let both : Some held.0 ≡ Some call = sym held.1 ∙ at in let one : held.0 ≡ call = cc in
        let actor : b ≡ a = sym held.2 ∙ ap (λ (s : Submission). s.actor) one ∙ to in
        let last : runs_of a late ≡ runs_of a h = t.later.early.last a t.sound in
        let here : slice_get (runs_of a h) place ≡ Some item =
        ap (λ items. slice_get items place) (sym last) ∙ subst (λ n. slice_get (runs_of n late) place ≡ Some item) actor there in
        held_submission h a k place (world x.casts x.plans p t.here.play).sound.order here caller future

death_goes : (x : Case) (p : At) (c a : ℕ) → IsCollecting x p (DeathPost c a) → names c (cast_of a p.history) ≡ true
    → (Contains x.g.collected (DeathPost c a) → ⊥) → Goal x
death_goes x p c a t named none = go (death_in x.g.posts c a)
  where
    hear : MayHear x.told c a x.g
    hear = may_hear x p c a t

    named_here : names c (cast_of a x.g) ≡ true
    named_here = ap (λ o. names c o) (cast_same a (world x.casts x.plans p t.here.play) t.here.setting.world) ∙ named

    known : is_caller c x.g ≡ true
    known = named_among c a x.g.casts named_here

    dead : is_dead a x.g ≡ true
    dead = dead_covered x.g p a t.here t.sound

    go : Contains x.g.posts (DeathPost c a) ⊎ (Contains x.g.posts (DeathPost c a) → ⊥) → Goal x
    go (inl has) = let place = place_in x.g.posts (DeathPost c a) has in Hears place.0 c a hear none place.1
    go (inr never) = Tells c a hear never (rw (known, named_here, dead) refl)

death_near : (x : Case) (p : At) (c a : ℕ) → IsCollecting x p (DeathPost c a) → names c (cast_of a p.history) ≡ true
    → IsCovered x.bound x.told x.done (with_post (DeathPost c a) p) x.g ⊎ Goal x
death_near x p c a t named = go (death_in x.g.collected c a)
  where
    go : Contains x.g.collected (DeathPost c a) ⊎ (Contains x.g.collected (DeathPost c a) → ⊥)
        → IsCovered x.bound x.told x.done (with_post (DeathPost c a) p) x.g ⊎ Goal x
    go (inl has) = inl (death_covered x p c a t.here has)
    go (inr none) = inr (death_goes x p c a t named none)

-- ---- either

pub collect_near : (x : Case) (p : At) (j : ℕ) → Here x p → refusal_of p.history (event.Collect j) ≡ None
    → IsLater (add_event p.history (event.Collect j)) x.late.history → Near x (with_event (event.Collect j) p)
collect_near x p j at may later = go (slice_get h.posts j) refl later (world x.casts x.plans (with_event (event.Collect j) p) after) named
  where
    h : History
    h = p.history

    after : IsPlay x.casts x.plans (with_event (event.Collect j) p)
    after = Happens p (event.Collect j) at.play refl may

    named : (c a : ℕ) → Contains (and_also h.collected (slice_get h.posts j)) (DeathPost c a) → names c (cast_of a h) ≡ true
    named c a has = (collected_death x.casts x.plans (with_event (event.Collect j) p) c a after has).0

    go : (o : Option Post) → slice_get h.posts j ≡ o → IsLater (record h { collected = and_also h.collected o }) x.late.history → IsWorld x.casts
        (record h { collected = and_also h.collected o }) → ((c a : ℕ) → Contains (and_also h.collected o) (DeathPost c a) → names c (cast_of a h) ≡ true) →
        IsCovered x.bound x.told x.done (record { history = record h { collected = and_also h.collected o }; stepped = p.stepped }) x.g ⊎ Goal x
    go None e later w named = inl (idle x p h at.covered refl refl refl refl refl)
    go (Some (ReplyPost c a place)) e later w named = reply_near x p c a place (record {
      here = at;
      world = w;
      sound = All_at (IsSoundPost h) h.posts j (world x.casts x.plans p at.play).sound.posts.posts e;
      later = later;
    })
    go (Some (DeathPost c a)) e later w named = death_near x p c a (record {
      here = at;
      world = w;
      sound = All_at (IsSoundPost h) h.posts j (world x.casts x.plans p at.play).sound.posts.posts e;
      later = later;
    }) (named c a (stands_in (h.collected ++ DeathPost c a ∷ []) (length h.collected) (slice_get_last h.collected (DeathPost c a))))
