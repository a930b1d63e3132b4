-- An event where more replies were collected: it is accepted, too, and leaves the same but for these.
use Rattle.act_told_ends.proofs.Common.{◌≡◌, ℕ, Bool, true, false, cond, List, [], ◌∷◌, length, map, Option, Some, None, refl, ap, sym, ◌∙◌, subst, arith, ◌||◌}
use Rattle.act_told_ends.proofs.Common.{not, nat_lt, slice_get, option_map, is_some, list_all, and_parts, and_from, nat_tests, Arg, Method, Event, RunItem}
use Rattle.act_told_ends.proofs.Common.{Submission, Post, Letter, Answer, NoCaller, Sending, SubmitRefusal, PendingLimit, calls_to, kept_at, is_known, settle}
use Rattle.act_told_ends.proofs.Common.{needs, send_refusal, submit_refusal, limit_refusal, History, is_caller, calls_of, copies_of, limit_of, runs_of, kept_of}
use Rattle.act_told_ends.proofs.Common.{has_letter, ran_count, run_item, next_item, refusal_of, add_event, after_run, and_also, unanswered, call_letter}
use Rattle.act_told_ends.proofs.Common.{was_sent, deliver_refusal, needs-none, option_map-none, option_or-none, option_or-none_second, slice_get_front}
use Rattle.act_told_ends.proofs.Common.{run_stands, kept_step, added_grows, IsSound, sound_step, IsNext, next_item_is, Contains, Ok, Err, answers_are}
use Rattle.act_told_ends.proofs.Common.{option_or, settled_future, Plain, Fut, Bad, CallLetter, SubmitRefused, NotReady, Answered}
use Rattle.act_rules.specs.declared.event.Event.TheVariants as event
use Rattle.act_told_ends.proofs.Later.{IsLater}
use Rattle.act_told_ends.proofs.Sent.{AreSent, sent_step, was_mailed}
use Rattle.act_told_ends.proofs.LeftOpen.{Open, is_replaced, replaced, IsMore, more_both, with_collected, kept_same, kept_more, unanswered_less, settled_same}
use Rattle.act_rules.proofs.Events.{run_collected}

-- more replies were collected, and by now each that stands for a death of a call that ran
pub record IsBeside (x : Open) (h : History) (posts : List Post) : Type 0 where
  pub sound : IsSound h
  pub sent : AreSent h
  pub opened : h.casts ≡ x.casts
  pub later : IsLater h x.last
  pub other : IsSound (with_collected h posts)
  pub more : IsMore x h.collected posts
  pub given : (c k a place : ℕ) (item : RunItem) → is_replaced x c k ≡ true → slice_get (runs_of a h) place ≡ Some item → item.caller ≡ c
      → item.future ≡ k → kept_at (kept_of c (with_collected h posts)) k ≡ kept_at (x.kept c) k

-- ---- it is accepted

submit_may : (x : Open) (h : History) (posts : List Post) (c a : ℕ) (method : Method) (args : List Arg) → IsMore x h.collected posts
    → refusal_of h (event.Submit c a method args) ≡ None → refusal_of (with_collected h posts) (event.Submit c a method args) ≡ None
submit_may x h posts c a method args more may =
    let own : Option SubmitRefusal = submit_refusal (copies_of c a h) (length (calls_of c h)) args in
    let known : (is_caller c h ≡ true) × (option_map SubmitRefused (option_or own (limit_refusal (limit_of c a h) (unanswered c a h))) ≡ None) =
    needs-none (is_caller c h) NoCaller (option_map SubmitRefused (option_or own (limit_refusal (limit_of c a h) (unanswered c a h)))) may in
    let none : option_or own (limit_refusal (limit_of c a h) (unanswered c a h)) ≡ None =
    option_map-none SubmitRefused (option_or own (limit_refusal (limit_of c a h) (unanswered c a h))) known.1 in
    allowed own known.0
    (option_or-none own (limit_refusal (limit_of c a h) (unanswered c a h)) none)
    (limited (limit_of c a h) (option_or-none_second own (limit_refusal (limit_of c a h) (unanswered c a h)) none))
  where
    limited : (o : Option ℕ) → limit_refusal o (unanswered c a h) ≡ None → limit_refusal o (unanswered c a (with_collected h posts)) ≡ None
    limited None e = refl
    limited (Some limit) e =
        let less = unanswered_less x h posts c a more in
        let within = (needs-none (nat_lt (unanswered c a h) limit) PendingLimit None e).0 in
        let there : nat_lt (unanswered c a (with_collected h posts)) limit ≡ true = grind (arith, nat_tests) in rw there refl

    allowed : {b : Bool} (o : Option SubmitRefusal) → b ≡ true → o ≡ None → {p : Option SubmitRefusal} → p ≡ None
        → needs b NoCaller (option_map SubmitRefused (option_or o p)) ≡ None
    allowed o y z {p} w = rw (y, z, w) refl

send_may : (x : Open) (h : History) (posts : List Post) (c k : ℕ) → IsBeside x h posts → refusal_of h (event.Send c k) ≡ None
    → refusal_of (with_collected h posts) (event.Send c k) ≡ None
send_may x h posts c k b may = go (slice_get (calls_of c h) k) refl (needs-none (is_caller c h) NoCaller
    (option_map Sending (send_refusal (kept_of c h) k (was_sent c k (slice_get (calls_of c h) k) h) (slice_get (calls_of c h) k))) may)
  where
    g : History
    g = with_collected h posts

    known : (args : List Arg) → list_all (is_known (kept_of c h)) args ≡ true → list_all (is_known (kept_of c g)) args ≡ true
    known [] e = refl
    known (arg ∷ args) e =
        let parts = and_parts (is_known (kept_of c h) arg) (list_all (is_known (kept_of c h)) args) e in
        and_from (is_known (kept_of c g) arg) (list_all (is_known (kept_of c g)) args) (one arg parts.0) (known args parts.1)
      where
        one : (arg : Arg) → is_known (kept_of c h) arg ≡ true → is_known (kept_of c g) arg ≡ true
        one (Plain value) e = refl
        one (Fut j) e = kept_more x h c j b.more e

    -- an answer that isn't kept in the first history is that of a call that ran, and so was sent
    sent_or_same : (call : Submission) → slice_get (calls_of c h) k ≡ Some call → (y : Bool) → has_letter (call_letter c k call h) h.mail ≡ y
        → (y || not (is_some (kept_at (kept_of c h) k))) ≡ true → (y || not (is_some (kept_at (kept_of c g) k))) ≡ true
    sent_or_same call at true letter e = refl
    sent_or_same call at false letter e = ap (λ o. not (is_some o)) (kept_same x h posts c k b.later b.more (λ a place item there caller future is. let sent =
        was_mailed h a c k place item call b.sound b.sent there caller future at in let bad : true ≡ false = sym sent ∙ letter in cc)) ∙ e

    go : (o : Option Submission) → slice_get (calls_of c h) k ≡ o → (is_caller c h ≡ true) × (option_map Sending (send_refusal (kept_of c h) k
        (was_sent c k o h) o) ≡ None) → needs (is_caller c h) NoCaller (option_map Sending (send_refusal (kept_of c g) k (was_sent c k o g) o)) ≡ None
    go None e f = let bad = f.1 in cc
    go (Some call) e f =
        let none = option_map-none Sending (send_refusal (kept_of c h) k (was_sent c k (Some call) h) (Some call)) f.1 in
        let first = needs-none (list_all (is_known (kept_of c h)) call.args) NotReady
        (needs (has_letter (call_letter c k call h) h.mail || not (is_some (kept_at (kept_of c h) k))) Answered None) none in
        let second = needs-none (has_letter (call_letter c k call h) h.mail || not (is_some (kept_at (kept_of c h) k))) Answered None first.1 in
        let one = f.0 in let two = known call.args first.0 in
        let three = sent_or_same call e (has_letter (call_letter c k call h) h.mail) refl second.0 in rw (one, two, three) refl

deliver_may : (h : History) (posts : List Post) (o : Option Letter) → deliver_refusal o (with_collected h posts) ≡ deliver_refusal o h
deliver_may h posts None = refl
deliver_may h posts (Some letter) = refl

-- ---- what runs is the same

pub next_same : (x : Open) (h : History) (posts : List Post) (a c : ℕ) → IsBeside x h posts → IsLater (add_event h (event.Run a c)) x.last
    → next_item a c (with_collected h posts) ≡ next_item a c h
next_same x h posts a c b later = go (next_item a c h) refl later
  where
    g : History
    g = with_collected h posts

    n : ℕ
    n = ran_count c a h

    none_next : (y : Bool) (o : Option (ℕ × Submission)) → cond y (option_map (run_item c n (kept_of c h)) o) None ≡ None
        → cond y (option_map (run_item c n (kept_of c g)) o) None ≡ None
    none_next false o e = refl
    none_next true None e = refl
    none_next true (Some call) e = cc

    go : (o : Option RunItem) → next_item a c h ≡ o → IsLater (after_run a c h o) x.last → next_item a c g ≡ o
    go None e later = none_next (has_letter (CallLetter c a n) h.arrived) (slice_get (calls_to a (calls_of c h)) n) e
    go (Some item) e later =
        ap (λ y. cond y (option_map (run_item c n (kept_of c g)) (slice_get (calls_to a (calls_of c h)) n)) None) is.arrived
        ∙ ap (option_map (run_item c n (kept_of c g))) is.at
        ∙ ap (λ settled. Some (record { caller = c; number = n; future = is.call.0; method = is.call.1.method; args = settled })) args
        ∙ ap (λ i. Some i) is.is
      where
        is : IsNext a c h item
        is = next_item_is a c h e

        there : slice_get (x.told.runs a) (length (runs_of a h)) ≡ Some item
        there = ap (λ l. slice_get l (length (runs_of a h))) (sym (x.leaves.runs a)) ∙
            slice_get_front (runs_of a (after_run a c h (Some item))) (runs_of a x.last) (length (runs_of a h)) (later.early.runs a) (run_stands a h.ran item)

        args : map (settle (kept_of c g)) is.call.1.args ≡ map (settle (kept_of c h)) is.call.1.args
        args = settled_same x h c is.call.1.args b.later b.more (λ j has put.
            failed j put (subst (λ (i : RunItem). Contains i.args (Bad j)) is.is has) (kept_at (kept_of c g) j) refl)
          where
            -- a value that is kept here is that which stands for the death, and no failure of it was given
            failed : (j : ℕ) → is_replaced x c j ≡ true → Contains item.args (Bad j) → (o : Option Answer) → kept_at (kept_of c g) j ≡ o
                → settled_future j o ≡ Bad j
            failed j put has None e = refl
            failed j put has (Some (Err fault)) e = refl
            failed j put has (Some (Ok value)) e =
                let own = answers_are c j b.other e (λ same. cc) in let r = replaced x c j put in
                let kept : Some (Ok value) ≡ Some r.1 = sym e ∙ b.given c j own.actor own.place own.item put own.at own.caller own.future ∙ r.2 in
                let answer : r.1 ≡ Ok value = cc in
                absurd (r.3.unused value answer a (length (runs_of a h)) item there (ap (λ (i : RunItem). i.caller) (sym is.is)) has)

-- ---- one event

-- the posts that are collected after an event
abbrev pub next_posts : History → List Post → Event → List Post
next_posts h posts (event.Collect j) = and_also posts (slice_get h.posts j)
next_posts h posts other = posts

run_left : (h : History) (posts : List Post) (a c : ℕ) (o : Option RunItem)
    → after_run a c (with_collected h posts) o ≡ with_collected (after_run a c h o) posts
run_left h posts a c None = refl
run_left h posts a c (Some item) = refl

-- the event is accepted, and leaves the same but for the replies
pub record IsThere (x : Open) (h : History) (posts : List Post) (other : Event) : Type 0 where
  pub may : refusal_of (with_collected h posts) other ≡ None
  pub left : add_event (with_collected h posts) other ≡ with_collected (add_event h other) (next_posts h posts other)
  pub more : IsMore x (add_event h other).collected (next_posts h posts other)

pub event_there : (x : Open) (h : History) (posts : List Post) (other : Event) → IsBeside x h posts → refusal_of h other ≡ None
    → IsLater (add_event h other) x.last → IsThere x h posts other
event_there x h posts (event.Submit c a method args) b may later = record { may = submit_may x h posts c a method args b.more may; left = refl; more = b.more }
event_there x h posts (event.Send c k) b may later = record { may = send_may x h posts c k b may; left = refl; more = b.more }
event_there x h posts (event.Deliver i) b may later = record { may = deliver_may h posts (slice_get h.mail i) ∙ may; left = refl; more = b.more }
event_there x h posts (event.Run a c) b may later = record {
  may = may;
  left = ap (after_run a c (with_collected h posts)) (next_same x h posts a c b later) ∙ run_left h posts a c (next_item a c h);
  more = subst (λ l. IsMore x l posts) (sym (run_collected a c h (next_item a c h))) b.more;
}
event_there x h posts (event.Collect j) b may later = record { may = may; left = refl; more = go (slice_get h.posts j) }
  where
    go : (o : Option Post) → IsMore x (and_also h.collected o) (and_also posts o)
    go None = b.more
    go (Some p) = more_both x h.collected posts p b.more
event_there x h posts other b may later = record { may = may; left = refl; more = b.more }

-- the answer that stands for a death stays
pub given_stays : (x : Open) (g : History) {f : History} (other : Event) (c k : ℕ) → IsSound g → refusal_of g other ≡ None → add_event g other ≡ f
    → is_replaced x c k ≡ true → kept_at (kept_of c g) k ≡ kept_at (x.kept c) k → kept_at (kept_of c f) k ≡ kept_at (x.kept c) k
given_stays x g other c k sound may is put e =
    let r = replaced x c k put in
    let held = kept_step c k r.1 g other (record { sound = sound.posts; kept = e ∙ r.2 }) may in
    subst (λ h. kept_at (kept_of c h) k ≡ Some r.1) is held.kept ∙ sym r.2

-- the same is known after an event by which no such call ran
pub beside_next : (x : Open) (h : History) (posts : List Post) (other : Event) → IsBeside x h posts → refusal_of h other ≡ None →
    IsLater (add_event h other) x.last → ((a place : ℕ) (item : RunItem) → slice_get (runs_of a (add_event h other)) place ≡ Some item →
    is_replaced x item.caller item.future ≡ true → slice_get (runs_of a h) place ≡ Some item) → IsBeside x (add_event h other) (next_posts h posts other)
beside_next x h posts other b may later old =
    let g = with_collected h posts in
    let there : IsThere x h posts other = event_there x h posts other b may later in
    let turned : (c k : ℕ) (item : RunItem) → item.caller ≡ c → item.future ≡ k → is_replaced x c k ≡ true → is_replaced x item.caller item.future ≡ true =
    λ c k item caller future put. subst (λ j. is_replaced x item.caller j ≡ true) (sym future)
    (subst (λ d. is_replaced x d k ≡ true) (sym caller) put) in
    record {
      sound = sound_step h other b.sound may;
      sent = sent_step h other b.sent may;
      opened = (added_grows h other).casts ∙ b.opened;
      later = later;
      other = subst (λ k. IsSound k) there.left (sound_step g other b.other there.may);
      more = there.more;
      given = λ c k a place item put at caller future. given_stays x g other c k b.other there.may
          there.left put (b.given c k a place item put (old a place item at (turned c k item caller future put)) caller future);
    }
