-- Once a call ran whose reply stands for a death, its reply is collected.
use Rattle.act_told_ends.proofs.Common.{◌≡◌, ℕ, Bool, true, false, cond, List, [], ◌∷◌, ◌++◌, length, All, All-cons, All-nil, IsOk, Option, Some, None, refl}
use Rattle.act_told_ends.proofs.Common.{ap, sym, ◌∙◌, subst, ◌==◌, filter_map, slice_get, option_map, option_and_then, find, eq-eqb, and_from}
use Rattle.act_told_ends.proofs.Common.{filter_map-append, Event, RunItem, Submission, Post, Answer, KindState, answer_at, kept_at, ActorSpec, History, opening}
use Rattle.act_told_ends.proofs.Common.{opening_of, calls_of, runs_of, kept_of, next_item, answer_in, answer_of, is_item_of, ran_count, refusal_of, add_event}
use Rattle.act_told_ends.proofs.Common.{after_run, and_also, after, after_all, outcome_by, outcome_of, outcomes, slice_get_last, slice_get_front, run_stands}
use Rattle.act_told_ends.proofs.Common.{run_needs, next_item_caller, kept_at_is, kept_by, answer_at-front, answer_in_stays, added_grows, filter_map-same}
use Rattle.act_told_ends.proofs.Common.{All_weaker, IsSound, sound_step, IsSoundPost, one_place, IsNext, next_item_is, calls_to-at, Grows, ReplyPost}
use Rattle.act_told_ends.proofs.Common.{next_unanswered, IsReplyForDeath, not_so, ran_on}
use Rattle.act_rules.specs.declared.event.Event.TheVariants as event
use Rattle.act_told_ends.proofs.Later.{IsLater}
use Rattle.act_told_ends.proofs.Along.{after_is}
use Rattle.act_told_ends.proofs.Sent.{AreSent, sent_step}
use Rattle.act_told_ends.proofs.LeftOpen.{Open, is_replaced, replaced, IsPut, more_put, with_collected, answer_same}
use Rattle.act_told_ends.proofs.LeftOpenEvents.{IsBeside, event_there, next_posts, next_same, given_stays, beside_next}
use Rattle.act_told_ends.proofs.Resting.{collect_may}
use Rattle.act_told_ends.proofs.Posted.{ran_each}

-- ---- what is done then

abbrev pub collect_then : Open → ℕ → History → Option RunItem → List Event
collect_then x c h None = []
collect_then x c h (Some item) = cond (is_replaced x c item.future) (event.Collect (length h.posts) ∷ []) []

-- after the run of a call whose reply stands for a death, its reply is collected
abbrev pub extra : Open → History → Event → List Event
extra x h (event.Run a c) = collect_then x c h (next_item a c h)
extra x h other = []

-- the event and what is done then are accepted, and leave the same but for the replies
pub record Goes (x : Open) (h : History) (posts : List Post) (other : Event) (more : List Event) (next : History) : Type 0 where
  pub ok : All IsOk (outcomes (with_collected h posts) (other ∷ more))
  pub after : List Post
  pub left : after_all (with_collected h posts) (other ∷ more) ≡ with_collected next after
  pub beside : IsBeside x next after

one_ok : (g : History) (other : Event) (more : List Event) → refusal_of g other ≡ None → All IsOk (outcomes (after g other) more)
    → All IsOk (outcomes g (other ∷ more))
one_ok g other more may rest = All-cons IsOk (outcome_of g other) (outcomes (after g other) more) (subst (λ o. IsOk (outcome_by g other o)) (sym may) refl) rest

-- an event by which no such call ran
plain : (x : Open) (h : History) (posts : List Post) (other : Event) → IsBeside x h posts → refusal_of h other ≡ None → IsLater (add_event h other) x.last
    → ((a place : ℕ) (item : RunItem) → slice_get (runs_of a (add_event h other)) place ≡ Some item → is_replaced x item.caller item.future ≡ true
    → slice_get (runs_of a h) place ≡ Some item) → Goes x h posts other [] (add_event h other)
plain x h posts other b may later old =
    let there = event_there x h posts other b may later in
    record {
      ok = one_ok (with_collected h posts) other [] there.may (All-nil IsOk);
      after = next_posts h posts other;
      left = after_is (with_collected h posts) other there.may ∙ there.left;
      beside = beside_next x h posts other b may later old;
    }

-- ---- the run of such a call

-- the first answer of a call, where none was collected before
first_then : (f : Post → Option Answer) (posts : List Post) (p : Post) {answer : Answer} → slice_get (filter_map f posts) 0 ≡ None → f p ≡ Some answer
    → slice_get (filter_map f (posts ++ p ∷ [])) 0 ≡ Some answer
first_then f posts p none gives =
    ap (λ l. slice_get l 0) (filter_map-append f posts (p ∷ []) ∙ ap (λ l. l ++ filter_map f (p ∷ [])) (empty (filter_map f posts) none))
    ∙ rw gives refl
  where
    empty : (l : List Answer) → slice_get l 0 ≡ None → l ≡ []
    empty [] e = refl
    empty (y ∷ l) e = cc

-- a run of a call whose reply stands for a death
pub record IsRunOf (x : Open) (h : History) (posts : List Post) (a c : ℕ) (item : RunItem) : Type 0 where
  pub beside : IsBeside x h posts
  pub may : refusal_of h (event.Run a c) ≡ None
  pub is : next_item a c h ≡ Some item
  pub put : is_replaced x c item.future ≡ true
  pub later : IsLater (after_run a c h (Some item)) x.last

abbrev own_post : History → ℕ → ℕ → Post
own_post h a c = ReplyPost c a (length (runs_of a h))

item_told : (x : Open) (h : History) (posts : List Post) (a c : ℕ) (item : RunItem) → IsRunOf x h posts a c item
    → slice_get (runs_of a x.last) (length (runs_of a h)) ≡ Some item
item_told x h posts a c item r = slice_get_front (runs_of a (ran_on h a c item)) (runs_of a x.last) (length (runs_of a h)) (r.later.early.runs a)
    (run_stands a h.ran item)

is_put : (x : Open) (h : History) (posts : List Post) (a c : ℕ) (item : RunItem) → IsRunOf x h posts a c item → IsPut x (own_post h a c)
is_put x h posts a c item r = (
  item,
  ap (λ l. slice_get l (length (runs_of a h))) (sym (x.leaves.runs a)) ∙ item_told x h posts a c item r,
  next_item_caller a c h r.is,
  r.put,
)

-- its reply is the answer that stands for the death
own_answer : (x : Open) (h : History) (posts : List Post) (a c : ℕ) (item : RunItem) (r : IsRunOf x h posts a c item)
    → answer_of a (length (runs_of a h)) (ran_on h a c item) ≡ kept_at (x.kept c) item.future
own_answer x h posts a c item r =
    let caller : item.caller ≡ c = next_item_caller a c h r.is in
    let reply : IsReplyForDeath x.casts x.told x.kept c item.future = replaced x c item.future r.put in
    -- the call ran there
    let same : (reply.3.actor ≡ a) × (reply.3.place ≡ n) =
    one_place x.last a n reply.3.actor reply.3.place x.sound.order (item_told x h posts a c item r) caller refl
    (ap (λ l. slice_get l reply.3.place) (x.leaves.runs reply.3.actor) ∙ reply.3.at) reply.3.caller reply.3.future in
    let opens : option_and_then (λ state. answer_at state (runs_of a x.last) n) (opening_of a (ran_on h a c item))
    ≡ option_and_then (λ state. answer_at state (runs_of a x.last) n) (opening_of a (opening x.casts)) =
    ap (λ casts. option_and_then (λ state. answer_at state (runs_of a x.last) n)
    (option_map (λ (cast : ActorSpec). cast.opening) (find (λ (cast : ActorSpec). cast.actor == a) casts))) r.beside.opened in
    let there : option_and_then (λ state. answer_at state (runs_of reply.3.actor x.last) reply.3.place)
    (opening_of reply.3.actor (opening x.casts))
    ≡ option_and_then (λ state. answer_at state (runs_of a x.last) n) (opening_of a (opening x.casts)) =
    ap (λ b. option_and_then (λ state. answer_at state (runs_of b x.last) reply.3.place) (opening_of b (opening x.casts))) same.0
    ∙ ap (λ place. option_and_then (λ state. answer_at state (runs_of a x.last) place) (opening_of a (opening x.casts))) same.1 in
    let told : option_and_then (λ state. answer_at state (runs_of reply.3.actor x.last) reply.3.place)
    (opening_of reply.3.actor (opening x.casts))
    ≡ option_and_then (λ state. answer_at state (x.told.runs reply.3.actor) reply.3.place) (opening_of reply.3.actor (opening x.casts)) =
    ap (λ l. option_and_then (λ state. answer_at state l reply.3.place) (opening_of reply.3.actor (opening x.casts)))
    (x.leaves.runs reply.3.actor) in
    go (opening_of a (ran_on h a c item)) ∙ opens ∙ sym there ∙ told ∙ reply.3.is ∙ sym reply.2
  where
    n : ℕ
    n = length (runs_of a h)

    go : (o : Option KindState) → option_and_then (λ state. answer_at state (runs_of a (ran_on h a c item)) n) o
        ≡ option_and_then (λ state. answer_at state (runs_of a x.last) n) o
    go None = refl
    go (Some state) = sym (answer_at-front state (runs_of a (ran_on h a c item)) (runs_of a x.last) n (r.later.early.runs a) (run_stands a h.ran item))

-- it is kept once it is collected
own_kept : (x : Open) (h : History) (posts : List Post) (a c : ℕ) (item : RunItem) → IsRunOf x h posts a c item
    → add_event (with_collected h posts) (event.Run a c) ≡ with_collected (ran_on h a c item) posts
    → kept_at (kept_of c (with_collected (ran_on h a c item) (posts ++ own_post h a c ∷ []))) item.future ≡ kept_at (x.kept c) item.future
own_kept x h posts a c item r left =
    subst (λ k. kept_at (kept_of c f) k ≡ kept_at (x.kept c) item.future) future
    (kept_at_is f c call.0 ∙ ap (kept_by f c call.0) stands
    ∙ go (answer_of a (length (runs_of a h)) (ran_on h a c item)) refl (own_answer x h posts a c item r))
  where
    g : History
    g = with_collected h posts

    f : History
    f = with_collected (ran_on h a c item) (posts ++ own_post h a c ∷ [])

    is : IsNext a c h item
    is = next_item_is a c h r.is

    call : ℕ × Submission
    call = is.call

    future : call.0 ≡ item.future
    future = ap (λ (i : RunItem). i.future) is.is

    stands : slice_get (calls_of c h) call.0 ≡ Some call.1
    stands = (calls_to-at a (calls_of c h) (ran_count c a h) is.at).at

    answers : Post → Option Answer
    answers p = answer_in f c call.0 call.1.actor p

    grows : Grows g (with_collected (ran_on h a c item) posts)
    grows = subst (λ k. Grows g k) left (added_grows g (event.Run a c))

    -- nothing answered it before
    none : slice_get (filter_map answers posts) 0 ≡ None
    none = ap (λ l. slice_get l 0) (filter_map-same answers (answer_in g c call.0 call.1.actor) posts
        (All_weaker (IsSoundPost g) (λ p. answers p ≡ answer_in g c call.0 call.1.actor p) posts (λ p sound. answer_same
        (with_collected (ran_on h a c item) posts) (posts ++ own_post h a c ∷ []) c call.0 call.1.actor p
        ∙ answer_in_stays g c call.0 call.1.actor grows p sound) r.beside.other.posts.collected)) ∙
        sym (ap (kept_by g c call.0) stands) ∙ sym (kept_at_is g c call.0) ∙ next_unanswered g a c r.beside.other is.at (run_needs h a c r.may).2

    own : answers (own_post h a c) ≡ answer_of a (length (runs_of a h)) (ran_on h a c item)
    own = ap (λ y. cond y (answer_of a (length (runs_of a h)) (ran_on h a c item)) None) (
        and_from (c == c) (is_item_of c call.0 (slice_get (runs_of a (ran_on h a c item)) (length (runs_of a h)))) (eq-eqb c c refl)
        (ap (λ o. is_item_of c call.0 o) (run_stands a h.ran item)
        ∙ and_from (item.caller == c) (item.future == call.0) (eq-eqb item.caller c (next_item_caller a c h r.is))
        (eq-eqb item.future call.0 (sym future))))

    go : (o : Option Answer) → answer_of a (length (runs_of a h)) (ran_on h a c item) ≡ o → o ≡ kept_at (x.kept c) item.future
        → slice_get (filter_map answers (posts ++ own_post h a c ∷ [])) 0 ≡ kept_at (x.kept c) item.future
    go None e same = let bad : ◌≡◌ {A = Option Answer} None (Some (replaced x c item.future r.put).1) = same ∙ (replaced x c item.future r.put).2 in cc
    go (Some answer) e same = first_then answers posts (own_post h a c) none (own ∙ e) ∙ same

-- the run of such a call, and the collecting of its reply
run_goes : (x : Open) (h : History) (posts : List Post) (a c : ℕ) (item : RunItem) → IsRunOf x h posts a c item
    → Goes x h posts (event.Run a c) (event.Collect (length h.posts) ∷ []) (ran_on h a c item)
run_goes x h posts a c item r =
    let is_one : after g (event.Run a c) ≡ one = after_is g (event.Run a c) may_run ∙ left_one in
    record {
      ok = one_ok g (event.Run a c) (event.Collect (length h.posts) ∷ []) may_run (subst (λ k. All IsOk (outcomes k (event.Collect (length h.posts) ∷ [])))
          (sym is_one) (one_ok one (event.Collect (length h.posts)) [] may_collect (All-nil IsOk)));
      after = posts ++ own_post h a c ∷ [];
      left = ap (λ k. after k (event.Collect (length h.posts))) is_one ∙ after_is one (event.Collect (length h.posts)) may_collect ∙ left_two;
      beside = record {
        sound = subst (λ k. IsSound k) is_ran (sound_step h (event.Run a c) r.beside.sound r.may);
        sent = subst (λ k. AreSent k) is_ran (sent_step h (event.Run a c) r.beside.sent r.may);
        opened = r.beside.opened;
        later = r.later;
        other = subst (λ k. IsSound k) left_two (sound_step one (event.Collect (length h.posts)) sound_one may_collect);
        more = more_put x posts (own_post h a c) (is_put x h posts a c item r) r.beside.more;
        given = given;
      };
    }
  where
    g : History
    g = with_collected h posts

    one : History
    one = with_collected (ran_on h a c item) posts

    two : History
    two = with_collected (ran_on h a c item) (posts ++ own_post h a c ∷ [])

    is_ran : add_event h (event.Run a c) ≡ ran_on h a c item
    is_ran = ap (after_run a c h) r.is

    later : IsLater (add_event h (event.Run a c)) x.last
    later = subst (λ k. IsLater k x.last) (sym is_ran) r.later

    may_run : refusal_of g (event.Run a c) ≡ None
    may_run = r.may

    left_one : add_event g (event.Run a c) ≡ one
    left_one = ap (after_run a c g) (next_same x h posts a c r.beside later ∙ r.is)

    sound_one : IsSound one
    sound_one = subst (λ k. IsSound k) left_one (sound_step g (event.Run a c) r.beside.other may_run)

    may_collect : refusal_of one (event.Collect (length h.posts)) ≡ None
    may_collect = collect_may one (length h.posts) (slice_get_last h.posts (own_post h a c))

    left_two : add_event one (event.Collect (length h.posts)) ≡ two
    left_two = ap (λ o. record one { collected = and_also posts o }) (slice_get_last h.posts (own_post h a c))

    -- what was kept before stays
    stays : (d k : ℕ) → is_replaced x d k ≡ true → kept_at (kept_of d g) k ≡ kept_at (x.kept d) k → kept_at (kept_of d two) k ≡ kept_at (x.kept d) k
    stays d k put e = given_stays x one (event.Collect (length h.posts)) d k sound_one may_collect left_two put
        (given_stays x g (event.Run a c) d k r.beside.other may_run left_one put e)

    given : (d k b place : ℕ) (other : RunItem) → is_replaced x d k ≡ true → slice_get (runs_of b (ran_on h a c item)) place ≡ Some other → other.caller ≡ d
        → other.future ≡ k → kept_at (kept_of d two) k ≡ kept_at (x.kept d) k
    given d k b place other put at caller future =
        ran_each (λ b place (other : RunItem). other.caller ≡ d → other.future ≡ k → kept_at (kept_of d two) k ≡ kept_at (x.kept d) k) h a c item
        (λ b place other there caller future. stays d k put (r.beside.given d k b place other put there caller future))
        (λ caller future. subst (λ e. kept_at (kept_of e two) k ≡ kept_at (x.kept e) k) (sym (next_item_caller a c h r.is) ∙ caller)
        (subst (λ j. kept_at (kept_of c two) j ≡ kept_at (x.kept c) j) future (own_kept x h posts a c item r left_one)))
        b place other at caller future

-- ---- each event

run_plain : (x : Open) (h : History) (posts : List Post) (a c : ℕ) (item : RunItem) → IsBeside x h posts → refusal_of h (event.Run a c) ≡ None
    → next_item a c h ≡ Some item → is_replaced x c item.future ≡ false → IsLater (add_event h (event.Run a c)) x.last
    → Goes x h posts (event.Run a c) [] (add_event h (event.Run a c))
run_plain x h posts a c item b may is not later = plain x h posts (event.Run a c) b may later
    (λ d place other at. ran_each (λ d place (other : RunItem). is_replaced x other.caller other.future ≡ true → slice_get (runs_of d h) place ≡ Some other) h a
    c item (λ d place other there put. there) (λ put. absurd (not_so (subst (λ e. is_replaced x e item.future ≡ true) (next_item_caller a c h is) put) not)) d
    place other (subst (λ o. slice_get (runs_of d (after_run a c h o)) place ≡ Some other) is at))

pub event_goes : (x : Open) (h : History) (posts : List Post) (other : Event) → IsBeside x h posts → refusal_of h other ≡ None
    → IsLater (add_event h other) x.last → Goes x h posts other (extra x h other) (add_event h other)
event_goes x h posts (event.Run a c) b may later = go (next_item a c h) refl
  where
    put : (item : RunItem) → next_item a c h ≡ Some item → (y : Bool) → is_replaced x c item.future ≡ y
        → Goes x h posts (event.Run a c) (cond y (event.Collect (length h.posts) ∷ []) []) (add_event h (event.Run a c))
    put item e false is = run_plain x h posts a c item b may e is later
    put item e true is = subst (λ o. Goes x h posts (event.Run a c) (event.Collect (length h.posts) ∷ []) (after_run a c h o)) (sym e)
        (run_goes x h posts a c item (record { beside = b; may = may; is = e; put = is; later = subst (λ o. IsLater (after_run a c h o) x.last) e later }))

    go : (o : Option RunItem) → next_item a c h ≡ o → Goes x h posts (event.Run a c) (collect_then x c h o) (add_event h (event.Run a c))
    go None e = plain x h posts (event.Run a c) b may later (λ d place other at is.
        subst (λ o. slice_get (runs_of d (after_run a c h o)) place ≡ Some other) e at)
    go (Some item) e = put item e (is_replaced x c item.future) refl
event_goes x h posts other b may later = plain x h posts other b may later (λ d place item at is. at)
