-- Whatever is done that may be done next, the walk stays one.
use Rattle.act_told_ends.proofs.Common.{◌≡◌, ℕ, ◌+◌, ◌-◌, ◌<◌, Bool, true, false, cond, List, [], ◌∷◌, ◌++◌, length, Option, Some, None, inl, inr, ◌⊎◌, refl}
use Rattle.act_told_ends.proofs.Common.{ap, sym, ◌∙◌, subst, arith, ◌==◌, find, slice_get, option_and_then, is_some, append-nil, eqb-true, slice_get_within}
use Rattle.act_told_ends.proofs.Common.{Event, KindState, RunItem, Post, Submission, Step, Answer, Err, ActorDied, answer_at, answer_at-front, kept_at}
use Rattle.act_told_ends.proofs.Common.{ActorSpec, History, under, names, contains, count_pairs, calls_of, copies_of, runs_of, kept_of, opening_of, is_dead}
use Rattle.act_told_ends.proofs.Common.{next_item, refusal_of, add_event, after_run, and_also, under-push, IsPrefix, slice_get_front, front_next, Grows}
use Rattle.act_told_ends.proofs.Common.{added_grows, IsSound, answers_are, dead_stays, kept_at_is, kept_by, kept_extends, At, is_free, is_reply, option_map}
use Rattle.act_told_ends.proofs.Common.{ReplyPost, DeathPost, IsIdle, free_idle, death_answers, reply_some, reply_died, reply_alive, IsWorld, world, either_of}
use Rattle.act_told_ends.proofs.Common.{contains_push, world_step, Told, IsWalk, DidFirst, MayHear, stands_in}
use Rattle.act_rules.specs.Consistent.{IsAnswerOfRun}
use Rattle.act_rules.specs.declared.event.Event.TheVariants as event
use Rattle.act_early.proofs.Choices.{kept_first}
use Rattle.act_told_ends.proofs.Lists.{push_at}
use Rattle.act_told_ends.proofs.Bridge.{IsLate}
use Rattle.act_told_ends.proofs.Posted.{RunsPosted, CameBy, Replied, Died, came_by, reply_answers, posted_step}
use Rattle.act_told_ends.proofs.Covered.{cast_same}
use Rattle.act_rules.proofs.Table.{first_answer-same}
use Rattle.act_rules.proofs.Events.{run_collected}

-- what a walk keeps: it is one, and a death that it collected could be heard
pub record IsGoing (casts : List ActorSpec) (bound : ℕ → Option (List Step)) (told : Told) (done : ℕ → ℕ) (h : History) : Type 0 where
  pub walk : IsWalk bound told done h
  pub world : IsWorld casts h
  pub posted : RunsPosted h
  pub heard : (i c a : ℕ) → slice_get h.collected i ≡ Some (DeathPost c a) → MayHear told c a h

-- ---- answers

-- what is kept is still told, where each new answer is
pub new_kept : {casts : List ActorSpec} {bound : ℕ → Option (List Step)} (told : Told) {done : ℕ → ℕ} (h g : History) → IsGoing casts bound told done h
    → Grows h g → ((c k : ℕ) (answer : Answer) → kept_at (kept_of c h) k ≡ None → kept_at (kept_of c g) k ≡ Some answer → kept_at (told.kept c) k ≡ Some answer)
    → (c k : ℕ) (answer : Answer) → kept_at (kept_of c g) k ≡ Some answer → kept_at (told.kept c) k ≡ Some answer
new_kept told h g w grows new c k answer e = go (kept_at (kept_of c h) k) refl
  where
    go : (o : Option Answer) → kept_at (kept_of c h) k ≡ o → kept_at (told.kept c) k ≡ Some answer
    go None none = new c k answer none e
    go (Some old) is = w.walk.kept c k old is ∙ sym (kept_extends c grows w.world.sound.posts k old is) ∙ e

-- no answer is new where nothing is collected and no call made
pub quiet_kept : (h : History) {g : History} (c k : ℕ) → Grows h g → IsSound h → g.submitted ≡ h.submitted → g.collected ≡ h.collected
    → kept_at (kept_of c g) k ≡ kept_at (kept_of c h) k
quiet_kept h {g} c k grows sound calls collected = go (slice_get (calls_of c h) k) refl
  where
    there : slice_get (calls_of c g) k ≡ slice_get (calls_of c h) k
    there = ap (λ l. slice_get (under c l) k) calls

    go : (o : Option Submission) → slice_get (calls_of c h) k ≡ o → kept_at (kept_of c g) k ≡ kept_at (kept_of c h) k
    go None at = kept_at_is g c k ∙ ap (kept_by g c k) (there ∙ at) ∙ sym (kept_at_is h c k ∙ ap (kept_by h c k) at)
    go (Some call) at = kept_first g c k (there ∙ at) ∙ first_answer-same h g c (k, call) grows sound.posts collected ∙ sym (kept_first h c k at)

-- a reply that is collected already was an answer
pub old_reply : {casts : List ActorSpec} {bound : ℕ → Option (List Step)} {told : Told} {done : ℕ → ℕ} (h : History) (i c a place k : ℕ) (item : RunItem)
    → IsGoing casts bound told done h → slice_get h.collected i ≡ Some (ReplyPost c a place) → slice_get (runs_of a h) place ≡ Some item → item.caller ≡ c
    → item.future ≡ k → kept_at (kept_of c h) k ≡ None → ⊥
old_reply h i c a place k item w has at caller future none =
    let kept = reply_answers h c a place i w.world.sound w.world.retires.named has at caller in
    let bad : None ≡ Some kept.0 = sym none ∙ ap (kept_at (kept_of c h)) (sym future) ∙ kept.1 in cc

-- a death that may be heard is told of a call that has no answer
pub told_death : (told : Told) (c : ℕ) {a : ℕ} (k : ℕ) (h : History) (call : Submission) → MayHear told c a h → slice_get (told.calls c) k ≡ Some call →
    call.actor ≡ a → kept_at (kept_of c h) k ≡ None → kept_at (told.kept c) k ≡ Some (Err ActorDied)
told_death told c {a} k h call hear at to none = go (kept_at (told.kept c) k) refl (hear.answered k call at to)
  where
    died : {answer : Answer} → kept_at (told.kept c) k ≡ Some answer → (x : Bool) → is_reply (Some answer) ≡ x → kept_at (told.kept c) k ≡ Some (Err ActorDied)
    died {answer} e false never = e ∙ ap (λ a. Some a) (reply_died answer never)
    died e true indeed = let some = hear.heard k call at to (ap is_reply e ∙ indeed) in let bad : true ≡ false = sym some ∙ ap (λ o. is_some o) none in cc

    go : (o : Option Answer) → kept_at (told.kept c) k ≡ o → is_some o ≡ true → kept_at (told.kept c) k ≡ Some (Err ActorDied)
    go None e some = cc
    go (Some answer) e some = died e (is_reply (Some answer)) refl

-- a reply that a walk keeps is the one that is told, where one is
told_reply : (casts : List ActorSpec) (bound : ℕ → Option (List Step)) (told : Told) (plans : ℕ → List Step) (late : At) (g : History) (c k : ℕ)
    (answer : Answer) → IsLate casts bound told plans late → IsWorld casts g → ((a : ℕ) → IsPrefix (runs_of a g) (told.runs a)) →
    is_reply (kept_at (told.kept c) k) ≡ true → kept_at (kept_of c g) k ≡ Some answer → is_reply (Some answer) ≡ true → kept_at (told.kept c) k ≡ Some answer
told_reply casts bound told plans late g c k answer l v runs reply e alive =
    let w : IsWorld casts late.history = world casts plans late l.play in
    let some : (other : Answer) × (kept_at (told.kept c) k ≡ Some other) = reply_some (kept_at (told.kept c) k) reply in
    let kept : kept_at (kept_of c late.history) k ≡ Some some.0 = ap (λ kept. kept_at kept k) (l.leaves.kept c) ∙ some.1 in
    let his : IsAnswerOfRun (λ x. opening_of x late.history) (λ x. runs_of x late.history) c k some.0 =
    answers_are c k w.sound kept (reply_alive some.0 (ap is_reply (sym some.1) ∙ reply)) in
    let same : (mine.actor ≡ his.actor) × (mine.place ≡ his.place) =
    his.only mine.actor mine.place mine.item
    (slice_get_front (runs_of mine.actor g) (runs_of mine.actor late.history) mine.place front mine.at) mine.caller mine.future in
    let late_answer : answered (runs_of mine.actor late.history) (opening_of mine.actor late.history) ≡ Some some.0 =
    subst (λ a. answered (runs_of a late.history) (opening_of a late.history) ≡ Some some.0) (sym same.0)
    (subst (λ n. option_and_then (λ state. answer_at state (runs_of his.actor late.history) n) (opening_of his.actor late.history)
    ≡ Some some.0) (sym same.1) his.answered) in
    let openings : opening_of mine.actor late.history ≡ opening_of mine.actor g =
    ap (λ o. option_map (λ (cast : ActorSpec). cast.opening) o) (cast_same mine.actor v w) in
    let join : Some some.0 ≡ Some answer =
    sym late_answer ∙ ap (answered (runs_of mine.actor late.history)) openings ∙ go (opening_of mine.actor g) ∙ mine.answered in
    some.1 ∙ join
  where
    mine : IsAnswerOfRun (λ x. opening_of x g) (λ x. runs_of x g) c k answer
    mine = answers_are c k v.sound e (reply_alive answer alive)

    front : IsPrefix (runs_of mine.actor g) (runs_of mine.actor late.history)
    front = subst (λ items. IsPrefix (runs_of mine.actor g) items) (sym (l.leaves.runs mine.actor)) (runs mine.actor)

    answered : (items : List RunItem) → Option KindState → Option Answer
    answered items o = option_and_then (λ state. answer_at state items mine.place) o

    go : (o : Option KindState) → answered (runs_of mine.actor late.history) o ≡ answered (runs_of mine.actor g) o
    go None = refl
    go (Some state) = answer_at-front state (runs_of mine.actor g) (runs_of mine.actor late.history) mine.place front mine.at

-- ---- deaths that may be heard

-- a death that may reach a caller may still reach it once the sound history grew
pub hear_more : {told : Told} (c : ℕ) {a : ℕ} (h : History) {g : History} → Grows h g → IsSound h → MayHear told c a h → MayHear told c a g
hear_more c h {g} grows sound hear = record {
  answered = hear.answered;
  heard = λ k call at to reply. stays k (kept_at (kept_of c h) k) refl (hear.heard k call at to reply);
}
  where
    stays : (k : ℕ) (o : Option Answer) → kept_at (kept_of c h) k ≡ o → is_some o ≡ true → is_some (kept_at (kept_of c g) k) ≡ true
    stays k None e some = cc
    stays k (Some answer) e some = ap (λ o. is_some o) (kept_extends c grows sound.posts k answer e)

-- ---- an event that is no caller's step

abbrev copies_by : ℕ → ℕ → List ActorSpec → List (ℕ × ℕ) → List (ℕ × ℕ) → Option ℕ
copies_by c a casts made gone = cond (names c (find (λ (cast : ActorSpec). cast.actor == a) casts))
    (Some ((1 + count_pairs c a made) - count_pairs c a gone)) None

copies_same : (c a : ℕ) (h g : History) → g.casts ≡ h.casts → g.copied ≡ h.copied → g.released ≡ h.released → copies_of c a h ≡ copies_of c a g
copies_same c a h g casts copied released = sym (ap (λ l. copies_by c a l g.copied g.released) casts
    ∙ ap (λ l. copies_by c a h.casts l g.released) copied ∙ ap (copies_by c a h.casts h.copied) released)

free_going : {casts : List ActorSpec} {bound : ℕ → Option (List Step)} {told : Told} {done : ℕ → ℕ} (h : History) (other : Event) →
    IsGoing casts bound told done h → is_free other ≡ true → refusal_of h other ≡ None → (add_event h other).retired ≡ h.retired →
    ((a : ℕ) → IsPrefix (runs_of a (add_event h other)) (told.runs a)) → ((c k : ℕ) (answer : Answer) → kept_at (kept_of c h) k ≡ None →
    kept_at (kept_of c (add_event h other)) k ≡ Some answer → kept_at (told.kept c) k ≡ Some answer) →
    ((a : ℕ) → contains a (add_event h other).killed ≡ true → (told.dead a ≡ true) × (runs_of a (add_event h other) ≡ told.runs a)) → ((i c a : ℕ) →
    slice_get (add_event h other).collected i ≡ Some (DeathPost c a) → MayHear told c a (add_event h other)) → IsGoing casts bound told done (add_event h other)
free_going {casts} {bound} {told} {done} h other w free may retired runs kept killed heard =
    let copies_are : (c a : ℕ) → copies_of c a h ≡ copies_of c a g = λ c a. copies_same c a h g (added_grows h other).casts idle.copied idle.released in
    record {
      walk = record {
        calls = λ c. subst (λ l. IsPrefix (under c l) (told.calls c)) (sym idle.submitted) (w.walk.calls c);
        runs = runs;
        kept = new_kept told h g w (added_grows h other) kept;
        dead = λ a e. (killed a e).0;
        last = λ a e. (killed a e).1;
        steps = λ c steps is. did c (done c) (w.walk.steps c steps is);
        holds = λ c a none gone. ap (λ l. under c l) idle.submitted ∙ w.walk.holds c a none (copies_are c a ∙ gone);
        asks = λ c a none gone dead. ap (contains a) idle.asked ∙ w.walk.asks c a none (copies_are c a ∙ gone) dead;
        live = retired ∙ w.walk.live;
      };
      world = world_step casts h other w.world may;
      posted = posted_step h other w.posted may;
      heard = heard;
    }
  where
    g : History
    g = add_event h other

    idle : IsIdle h g
    idle = free_idle h other free

    did : (c n : ℕ) {steps : List Step} → DidFirst c n steps h → DidFirst c n steps g
    did c n first = record {
      calls = ap (λ l. under c l) idle.submitted ∙ first.calls;
      copied = λ a. ap (λ l. count_pairs c a l) idle.copied ∙ first.copied a;
      released = λ a lt. ap (λ l. count_pairs c a l) idle.released ∙ first.released a lt;
      asked = λ a e. either a (first.asked a e);
    }
      where
        either : (a : ℕ) → (contains a h.asked ≡ true) ⊎ (is_dead a h ≡ true) → (contains a g.asked ≡ true) ⊎ (is_dead a g ≡ true)
        either a (inl asked) = inl (ap (contains a) idle.asked ∙ asked)
        either a (inr dead) = inr (dead_stays a h other may dead)

-- one that runs and collects nothing, and kills none
pub quiet_going : {casts : List ActorSpec} {bound : ℕ → Option (List Step)} {told : Told} {done : ℕ → ℕ} (h : History) (other : Event) →
    IsGoing casts bound told done h → is_free other ≡ true → refusal_of h other ≡ None → (add_event h other).retired ≡ h.retired →
    (add_event h other).ran ≡ h.ran → (add_event h other).collected ≡ h.collected → ((a : ℕ) → contains a (add_event h other).killed ≡ true →
    (told.dead a ≡ true) × (runs_of a h ≡ told.runs a)) → IsGoing casts bound told done (add_event h other)
quiet_going {casts} {bound} {told} {done} h other w free may retired ran collected killed =
    free_going h other w free may retired
    (λ a. subst (λ l. IsPrefix (under a l) (told.runs a)) (sym ran) (w.walk.runs a))
    (λ c k answer none e. let bad : None ≡ Some answer = sym none
    ∙ sym (quiet_kept h c k (added_grows h other) w.world.sound (free_idle h other free).submitted collected) ∙ e in cc)
    (λ a e. ((killed a e).0, ap (λ l. under a l) ran ∙ (killed a e).1))
    (λ i c a at. hear_more c h (added_grows h other) w.world.sound (w.heard i c a (ap (λ l. slice_get l i) (sym collected) ∙ at)))

pub still_killed : {casts : List ActorSpec} {bound : ℕ → Option (List Step)} {told : Told} {done : ℕ → ℕ} {h : History} → IsGoing casts bound told done h
    → (a : ℕ) → contains a h.killed ≡ true → (told.dead a ≡ true) × (runs_of a h ≡ told.runs a)
still_killed w a e = (w.walk.dead a e, w.walk.last a e)

pub kill_going : (casts : List ActorSpec) (bound : ℕ → Option (List Step)) (told : Told) (done : ℕ → ℕ) (h : History) (a : ℕ) → IsGoing casts bound told done
    h → told.dead a ≡ true → runs_of a h ≡ told.runs a → refusal_of h (event.TakeKill a) ≡ None → IsGoing casts bound told done (add_event h (event.TakeKill a))
kill_going casts bound told done h a w dead last may = quiet_going h (event.TakeKill a) w refl may refl refl refl
    (λ b e. either_of (contains b h.killed) (a == b) ((told.dead b ≡ true) × (runs_of b h ≡ told.runs b)) (sym (contains_push b a h.killed) ∙ e)
    (still_killed w b) (λ same. subst (λ n. (told.dead n ≡ true) × (runs_of n h ≡ told.runs n)) (eqb-true a b same) (dead, last)))

-- ---- a run

pub run_going : (casts : List ActorSpec) (bound : ℕ → Option (List Step)) (told : Told) (done : ℕ → ℕ) (h : History) (a c : ℕ) (item : RunItem)
    → IsGoing casts bound told done h → slice_get (told.runs a) (length (runs_of a h)) ≡ Some item → next_item a c h ≡ Some item
    → refusal_of h (event.Run a c) ≡ None → IsGoing casts bound told done (add_event h (event.Run a c))
run_going casts bound told done h a c item w next is may =
    free_going h (event.Run a c) w refl may (retired (next_item a c h))
    runs
    (λ d k answer none e. let bad : None ≡ Some answer = sym none
    ∙ sym (quiet_kept h d k (added_grows h (event.Run a c)) w.world.sound (free_idle h (event.Run a c) refl).submitted
    (run_collected a c h (next_item a c h))) ∙ e in cc)
    (λ b e. (w.walk.dead b (ap (contains b) (sym (killed (next_item a c h))) ∙ e), last b (ap (contains b) (sym (killed (next_item a c h))) ∙ e)))
    (λ i d b at. hear_more d h (added_grows h (event.Run a c)) w.world.sound
    (w.heard i d b (ap (λ l. slice_get l i) (sym (run_collected a c h (next_item a c h))) ∙ at)))
  where
    g : History
    g = add_event h (event.Run a c)

    retired : (o : Option RunItem) → (after_run a c h o).retired ≡ h.retired
    retired None = refl
    retired (Some item) = refl

    killed : (o : Option RunItem) → (after_run a c h o).killed ≡ h.killed
    killed None = refl
    killed (Some item) = refl

    after : (b : ℕ) → runs_of b g ≡ runs_of b h ++ cond (a == b) (item ∷ []) []
    after b = ap (λ o. runs_of b (after_run a c h o)) is ∙ under-push b a h.ran item

    runs : (b : ℕ) → IsPrefix (runs_of b g) (told.runs b)
    runs b = subst (λ items. IsPrefix items (told.runs b)) (sym (after b)) (go (a == b) refl)
      where
        go : (y : Bool) → (a == b) ≡ y → IsPrefix (runs_of b h ++ cond y (item ∷ []) []) (told.runs b)
        go false e = subst (λ items. IsPrefix items (told.runs b)) (sym (append-nil (runs_of b h))) (w.walk.runs b)
        go true e = subst (λ n. IsPrefix (runs_of n h ++ item ∷ []) (told.runs n)) (eqb-true a b e)
            (front_next (runs_of a h) (told.runs a) (w.walk.runs a) next)

    last : (b : ℕ) → contains b h.killed ≡ true → runs_of b g ≡ told.runs b
    last b e = after b ∙ go (a == b) refl
      where
        go : (y : Bool) → (a == b) ≡ y → runs_of b h ++ cond y (item ∷ []) [] ≡ told.runs b
        go false same = append-nil (runs_of b h) ∙ w.walk.last b e
        go true same =
            let whole = w.walk.last b e in
            let there : slice_get (told.runs b) (length (runs_of b h)) ≡ Some item =
            subst (λ n. slice_get (told.runs n) (length (runs_of n h)) ≡ Some item) (eqb-true a b same) next in
            let within : length (runs_of b h) < length (runs_of b h) = slice_get_within (runs_of b h) (length (runs_of b h)) item
            (ap (λ items. slice_get items (length (runs_of b h))) whole ∙ there) in
            absurd (omega (arith, within))

-- ---- a post

collect_going : (casts : List ActorSpec) (bound : ℕ → Option (List Step)) (told : Told) (done : ℕ → ℕ) (h : History) (j : ℕ) {post : Post} →
    IsGoing casts bound told done h → slice_get h.posts j ≡ Some post → ((c k : ℕ) (answer : Answer) → kept_at (kept_of c h) k ≡ None →
    kept_at (kept_of c (add_event h (event.Collect j))) k ≡ Some answer → kept_at (told.kept c) k ≡ Some answer) →
    ((c a : ℕ) → DeathPost c a ≡ post → MayHear told c a h) → IsGoing casts bound told done (add_event h (event.Collect j))
collect_going casts bound told done h j {post} w at kept hears =
    let may : refusal_of h (event.Collect j) ≡ None =
    let some : is_some (slice_get h.posts j) ≡ true = ap (λ o. is_some o) at in rw some refl in
    free_going h (event.Collect j) w refl may refl w.walk.runs kept (still_killed w)
    (λ i c a there. hear_more c h (added_grows h (event.Collect j)) w.world.sound
    (either i c a (push_at h.collected post i (ap (λ o. slice_get (and_also h.collected o) i) (sym at) ∙ there))))
  where
    either : (i c a : ℕ) → (slice_get h.collected i ≡ Some (DeathPost c a)) ⊎ ((i ≡ length h.collected) × (DeathPost c a ≡ post)) → MayHear told c a h
    either i c a (inl old) = w.heard i c a old
    either i c a (inr new) = hears c a new.1

-- how an answer came that is new once a post is collected
new_by : {casts : List ActorSpec} {bound : ℕ → Option (List Step)} {told : Told} {done : ℕ → ℕ} (h : History) (j : ℕ) {post : Post} (P : Type 0) → IsGoing casts
    bound told done h → slice_get h.posts j ≡ Some post → (c k : ℕ) {answer : Answer} → kept_at (kept_of c h) k ≡ None → ((a place : ℕ) (item : RunItem) →
    ReplyPost c a place ≡ post → slice_get (runs_of a h) place ≡ Some item → item.future ≡ k → is_reply (Some answer) ≡ true → P) → ((call : Submission) →
    DeathPost c call.actor ≡ post → slice_get (calls_of c h) k ≡ Some call → answer ≡ Err ActorDied → P) → CameBy (add_event h (event.Collect j)) c k answer → P
new_by {casts} {bound} {told} {done} h j {post} P w at c k none replied died (Replied i a place item has there caller future reply) =
    either (push_at h.collected post i (ap (λ o. slice_get (and_also h.collected o) i) (sym at) ∙ has))
  where
    either : (slice_get h.collected i ≡ Some (ReplyPost c a place)) ⊎ ((i ≡ length h.collected) × (ReplyPost c a place ≡ post)) → P
    either (inl old) = absurd (old_reply h i c a place k item w old there caller future none)
    either (inr new) = replied a place item new.1 there future reply
new_by h j {post} P w at c k none replied died (Died i call has there is) =
    either (push_at h.collected post i (ap (λ o. slice_get (and_also h.collected o) i) (sym at) ∙ has))
  where
    either : (slice_get h.collected i ≡ Some (DeathPost c call.actor)) ⊎ ((i ≡ length h.collected) × (DeathPost c call.actor ≡ post)) → P
    either (inl old) = let answers = death_answers h c k there (stands_in h.collected i old) in let bad : None ≡ Some answers.0 = sym none ∙ answers.1 in cc
    either (inr new) = died call new.1 there is

pub reply_going : (casts : List ActorSpec) (bound : ℕ → Option (List Step)) (told : Told) (plans : ℕ → List Step) (late : At) (done : ℕ → ℕ) (h : History)
    (j c a place : ℕ) (item : RunItem) → IsLate casts bound told plans late → IsGoing casts bound told done h
    → slice_get h.posts j ≡ Some (ReplyPost c a place) → slice_get (runs_of a h) place ≡ Some item → is_reply (kept_at (told.kept c) item.future) ≡ true
    → IsGoing casts bound told done (add_event h (event.Collect j))
reply_going casts bound told plans late done h j c a place item l w at there reply =
    let g = add_event h (event.Collect j) in
    let may : refusal_of h (event.Collect j) ≡ None =
    let some : is_some (slice_get h.posts j) ≡ true = ap (λ o. is_some o) at in rw some refl in
    let v : IsWorld casts g = world_step casts h (event.Collect j) w.world may in
    let told_here : (d b q k : ℕ) (other : RunItem) → ReplyPost d b q ≡ ReplyPost c a place → slice_get (runs_of b h) q ≡ Some other → other.future ≡ k
    → is_reply (kept_at (told.kept d) k) ≡ true =
    λ d b q k other is stands future. let caller : d ≡ c = cc in
    let actor : b ≡ a = cc in let here : q ≡ place = cc in
    let first : slice_get (runs_of a h) place ≡ Some other =
    subst (λ n. slice_get (runs_of n h) place ≡ Some other) actor (subst (λ n. slice_get (runs_of b h) n ≡ Some other) here stands) in
    let both : Some item ≡ Some other = sym there ∙ first in let one : item ≡ other = cc in
    subst (λ n. is_reply (kept_at (told.kept n) k) ≡ true) (sym caller)
    (subst (λ n. is_reply (kept_at (told.kept c) n) ≡ true) (ap (λ (i : RunItem). i.future) one ∙ future) reply) in
    collect_going casts bound told done h j w at
    (λ d k answer none e. new_by h j (kept_at (told.kept d) k ≡ Some answer) w at d k none (λ b q other is stands future alive. told_reply casts bound told
    plans late g d k answer l v w.walk.runs (told_here d b q k other is stands future) e alive)
    (λ call is _ _. let bad : DeathPost d call.actor ≡ ReplyPost c a place = is in cc) (came_by d k v.sound e))
    (λ d b is. let bad : DeathPost d b ≡ ReplyPost c a place = is in cc)

pub death_going : (casts : List ActorSpec) (bound : ℕ → Option (List Step)) (told : Told) (done : ℕ → ℕ) (h : History) (j c a : ℕ) → IsGoing casts bound told
    done h → slice_get h.posts j ≡ Some (DeathPost c a) → MayHear told c a h → IsGoing casts bound told done (add_event h (event.Collect j))
death_going casts bound told done h j c a w at hear =
    let g = add_event h (event.Collect j) in
    let may : refusal_of h (event.Collect j) ≡ None =
    let some : is_some (slice_get h.posts j) ≡ true = ap (λ o. is_some o) at in rw some refl in
    let v : IsWorld casts g = world_step casts h (event.Collect j) w.world may in
    let hears : (d b : ℕ) → DeathPost d b ≡ DeathPost c a → MayHear told d b h =
    λ d b is. let caller : d ≡ c = cc in
    let actor : b ≡ a = cc in
    subst (λ n. MayHear told n b h) (sym caller) (subst (λ n. MayHear told c n h) (sym actor) hear) in
    let told_here : (d : ℕ) (call : Submission) → DeathPost d call.actor ≡ DeathPost c a → (k : ℕ) → slice_get (calls_of d h) k ≡ Some call
    → kept_at (kept_of d h) k ≡ None → kept_at (told.kept d) k ≡ Some (Err ActorDied) =
    λ d call is k stands none. told_death told d k h call (hears d call.actor is)
    (slice_get_front (calls_of d h) (told.calls d) k (w.walk.calls d) stands) refl none in
    collect_going casts bound told done h j w at
    (λ d k answer none e. new_by h j (kept_at (told.kept d) k ≡ Some answer) w at d k none (λ b q other is _ _ _. let bad : ReplyPost d b q ≡ DeathPost c a =
    is in cc) (λ call is stands died. told_here d call is k stands none ∙ ap (λ x. Some x) (sym died)) (came_by d k v.sound e))
    (λ d b is. hears d b is)
