-- Where the call that is told to run next can be sent, its letter comes to its actor, which can run it.
use Rattle.act_walks.proofs.Common.{◌≡◌, ℕ, ◌+◌, ◌-◌, ◌<◌, Bool, true, false, List, [], ◌∷◌, ◌++◌, length, take, Option, Some, None, refl, ap, sym, ◌∙◌, subst}
use Rattle.act_walks.proofs.Common.{arith, ◌==◌, ◌||◌, map, filter, slice_get, option_map, is_some, eq-eqb, slice_get_within, Event, Letter, RunItem}
use Rattle.act_walks.proofs.Common.{Submission, Step, WorldRefusal, NoCaller, Sending, ActorSpec, History, history, contains, names, cast_of, is_caller}
use Rattle.act_walks.proofs.Common.{calls_of, kept_of, runs_of, is_ended, has_letter, ran_count, next_item, needs, refusal_of, add_event, after_by, and_also}
use Rattle.act_walks.proofs.Common.{call_letter, number_of, calls_to, send_refusal, was_sent, items_of, has_terminated, IsPrefix, slice_get_front}
use Rattle.act_walks.proofs.Common.{slice_get-filter, slice_get-enumerate_from, calls_to_grow, calls_to-at, map-slice_get, numbered, numbers, IsSound}
use Rattle.act_walks.proofs.Common.{world_sound, nothing_follows_step, after_all_keeps, opening, Retires, slice_get-map, take-append_seam, number_is}
use Rattle.act_walks.proofs.Common.{NothingFollows, calls_to-number, has_last, after_post, Told, IsNextRun, IsGoing, SomeEnd, IsEager, named_call}
use Rattle.act_rules.specs.RunList.{ends_actor}
use Rattle.act_rules.specs.declared.event.Event.TheVariants as event
use Rattle.act_rules.specs.declared.history.Letter.TheVariants.{Call as CallLetter}
use Rattle.act_walks.proofs.Eager.{going_of, sent}

-- ---- the item that is told, in the end that is told

-- the call of an item stands among its caller's calls to the actor, at the place of how many ran before it
item_call : (a : ℕ) (play late : History) (item : RunItem) → IsSound late → IsPrefix (runs_of a play) (runs_of a late)
    → slice_get (runs_of a late) (length (runs_of a play)) ≡ Some item
    → (call : ℕ × Submission) × (slice_get (calls_to a (calls_of item.caller late)) (ran_count item.caller a play) ≡ Some call) × (call.0 ≡ item.future)
item_call a play late item sound front at =
    map-slice_get (λ (call : ℕ × Submission). call.0) (calls_to a (calls_of c late)) m (future (slice_get futures m) refl)
  where
    c : ℕ
    c = item.caller

    n : ℕ
    n = length (runs_of a play)

    m : ℕ
    m = ran_count c a play

    futures : List ℕ
    futures = map (λ (call : ℕ × Submission). call.0) (calls_to a (calls_of c late))

    rank : length (filter (λ (i : RunItem). i.caller == c) (take n (runs_of a late))) ≡ m
    rank = ap (λ items. length (filter (λ (i : RunItem). i.caller == c) items)) (sym (ap (λ l. take n l) front.1) ∙ take-append_seam (runs_of a play) front.0)

    there : slice_get (items_of c (runs_of a late)) m ≡ Some item
    there = subst (λ k. slice_get (items_of c (runs_of a late)) k ≡ Some item) rank
        (slice_get-filter (λ (i : RunItem). i.caller == c) (runs_of a late) n at (eq-eqb item.caller c refl))

    stands : slice_get (numbers a (calls_of c late)) m ≡ Some (numbered item)
    stands = slice_get_front (map numbered (items_of c (runs_of a late))) (numbers a (calls_of c late)) m (sound.order a c)
        (slice_get-map numbered (items_of c (runs_of a late)) m ∙ ap (option_map numbered) there)

    future : (o : Option ℕ) → slice_get futures m ≡ o → slice_get futures m ≡ Some item.future
    future None e = let bad : Some (numbered item) ≡ None = sym stands ∙ slice_get-enumerate_from 0 futures m ∙ ap (option_map (λ k. (0 + m, k))) e in cc
    future (Some k) e =
        let both : Some (numbered item) ≡ Some (0 + m, k) = sym stands ∙ slice_get-enumerate_from 0 futures m ∙ ap (option_map (λ k. (0 + m, k))) e in
        let pair : (item.number, item.future) ≡ (0 + m, k) = cc in let same : k ≡ item.future = sym (ap (λ (p : ℕ × ℕ). p.1) pair) in e ∙ ap (λ x. Some x) same

-- ---- who lives

not_over : (y z : Bool) {w : Bool} → (y ≡ true → ⊥) → (z ≡ true → ⊥) → w ≡ false → ((y || z) || w) ≡ false
not_over true z one two three = absurd (one refl)
not_over false true one two three = absurd (two refl)
not_over false false one two three = three

-- an actor that is told to run more hasn't ended
lives_on : (a : ℕ) (play late : History) (told : Told) (item : RunItem) → NothingFollows late → IsPrefix (runs_of a play) (runs_of a late)
    → slice_get (runs_of a late) (length (runs_of a play)) ≡ Some item → (contains a play.killed ≡ true → runs_of a play ≡ runs_of a late) → play.retired ≡ []
    → is_ended a play ≡ false
lives_on a play late told item follows front at last live =
    not_over (contains a play.killed) (has_terminated (runs_of a play)) killed terminated (ap (contains a) live)
  where
    n : ℕ
    n = length (runs_of a play)

    within : n < length (runs_of a late)
    within = slice_get_within (runs_of a late) n item at

    killed : contains a play.killed ≡ true → ⊥
    killed e = let same : n ≡ length (runs_of a late) = ap (λ l. length l) (last e) in absurd (omega (arith, within, same))

    terminated : has_terminated (runs_of a play) ≡ true → ⊥
    terminated e = go (slice_get (runs_of a play) (n - 1)) refl e
      where
        go : (o : Option RunItem) → slice_get (runs_of a play) (n - 1) ≡ o → ends_actor o ≡ true → ⊥
        go None at e = cc
        go (Some one) at e =
            let there : slice_get (runs_of a late) (n - 1) ≡ Some one = slice_get_front (runs_of a play) (runs_of a late) (n - 1) front at in
            let end : length (runs_of a late) ≡ (n - 1) + 1 = follows a (n - 1) (ap ends_actor there ∙ e) in
            let some = slice_get_within (runs_of a play) (n - 1) one at in absurd (omega (arith, within, end, some))

follows_all : (casts : List ActorSpec) (events : List Event) → NothingFollows (history casts events)
follows_all casts events = after_all_keeps NothingFollows nothing_follows_step (opening casts) events (λ a place ends. cc)

-- ---- the letter that is sent

send_needs : (named sent : Bool) (h : History) (c k : ℕ) (o : Option Submission) →
    needs named NoCaller (option_map Sending (send_refusal (kept_of c h) k sent o)) ≡ None → (named ≡ true) × ((call : Submission) × (o ≡ Some call))
send_needs true sent h c k None e = cc
send_needs true sent h c k (Some call) e = (refl, (call, refl))
send_needs false sent h c k o e = cc

-- what is there once the letter was sent and brought
pub record HasCome (a c : ℕ) (g : History) : Type 0 where
  pub named : names c (cast_of a g) ≡ true
  pub live : is_ended a g ≡ false
  pub next : is_some (next_item a c g) ≡ true

pub record IsSame (h g : History) : Type 0 where
  casts : g.casts ≡ h.casts
  submitted : g.submitted ≡ h.submitted
  ran : g.ran ≡ h.ran
  killed : g.killed ≡ h.killed
  retired : g.retired ≡ h.retired

deliver_same : (h : History) (i : ℕ) (o : Option WorldRefusal) → IsSame h (after_by h (event.Deliver i) o)
deliver_same h i None = record { casts = refl; submitted = refl; ran = refl; killed = refl; retired = refl }
deliver_same h i (Some refusal) = record { casts = refl; submitted = refl; ran = refl; killed = refl; retired = refl }

-- the mail stays
deliver_mail : (h : History) (i : ℕ) (o : Option WorldRefusal) → (after_by h (event.Deliver i) o).mail ≡ h.mail
deliver_mail h i None = refl
deliver_mail h i (Some refusal) = refl

next_some : (a c : ℕ) (h g : History) {call : ℕ × Submission} → IsSame h g → has_letter (CallLetter c a (ran_count c a h)) g.arrived ≡ true
    → slice_get (calls_to a (calls_of c h)) (ran_count c a h) ≡ Some call → is_some (next_item a c g) ≡ true
next_some a c h g same arrived at = rw (same.submitted, same.ran, arrived, at) refl

still_live : (a : ℕ) (h g : History) → IsSame h g → is_ended a h ≡ false → is_ended a g ≡ false
still_live a h g same live = rw (same.killed, same.ran, same.retired) live

still_named : (a c : ℕ) (h g : History) → IsSame h g → names c (cast_of a h) ≡ true → names c (cast_of a g) ≡ true
still_named a c h g same named = rw same.casts named

-- where some events end as is told: once an eager walk sent the call that is told to run next, its actor can run it
pub comes : (casts : List ActorSpec) (bound : ℕ → Option (List Step)) (told : Told) → SomeEnd casts bound told → (done : ℕ → ℕ) (h : History)
    → IsEager casts bound told done h → (a : ℕ) (item : RunItem) → IsNextRun told a h item
    → refusal_of h (event.Send item.caller item.future) ≡ None → HasCome a item.caller (after_post (event.Send item.caller item.future) h)
comes casts bound told s done h e a item next may = record { named = still_named a c h g same named; live = live_now; next = next_some a c h g same arrived at }
  where
    c : ℕ
    c = item.caller

    k : ℕ
    k = item.future

    late : History
    late = history casts s.0

    w : IsGoing casts bound told done h
    w = going_of s e.walked

    runs : IsPrefix (runs_of a h) (runs_of a late)
    runs = subst (λ items. IsPrefix (runs_of a h) items) (sym (s.1.leaves.runs a)) (w.walk.runs a)

    calls : IsPrefix (calls_of c h) (calls_of c late)
    calls = subst (λ l. IsPrefix (calls_of c h) l) (sym (s.1.leaves.calls c)) (w.walk.calls c)

    there : slice_get (runs_of a late) (length (runs_of a h)) ≡ Some item
    there = ap (λ items. slice_get items (length (runs_of a h))) (s.1.leaves.runs a) ∙ next

    live : is_ended a h ≡ false
    live = lives_on a h late told item (follows_all casts s.0) runs there (λ killed. w.walk.last a killed ∙ sym (s.1.leaves.runs a)) w.walk.live

    m : ℕ
    m = ran_count c a h

    found : (call : ℕ × Submission) × (slice_get (calls_to a (calls_of c late)) m ≡ Some call) × (call.0 ≡ k)
    found = item_call a h late item (world_sound casts s.0) runs there

    needed : (is_caller c h ≡ true) × ((call : Submission) × (slice_get (calls_of c h) k ≡ Some call))
    needed = send_needs (is_caller c h) (was_sent c k (slice_get (calls_of c h) k) h) h c k (slice_get (calls_of c h) k) may

    own : Submission
    own = needed.1.0

    g : History
    g = after_post (event.Send c k) h

    same : IsSame h g
    same =
        let s = deliver_same (add_event h (event.Send c k)) (length h.mail) (refusal_of (add_event h (event.Send c k)) (event.Deliver (length h.mail))) in
        record { casts = s.casts; submitted = s.submitted; ran = s.ran; killed = s.killed; retired = s.retired }

    live_now : is_ended a g ≡ false
    live_now = still_live a h g same live

    call : ℕ × Submission
    call = found.0

    own_late : slice_get (calls_of c late) k ≡ Some own
    own_late = slice_get_front (calls_of c h) (calls_of c late) k calls needed.1.1

    is_own : own ≡ call.1
    is_own =
        let both : Some own ≡ Some call.1 = sym own_late ∙ ap (slice_get (calls_of c late)) (sym found.2)
        ∙ (calls_to-at a (calls_of c late) m found.1).at in
        cc

    actor : own.actor ≡ a
    actor = ap (λ (one : Submission). one.actor) is_own ∙ (calls_to-at a (calls_of c late) m found.1).actor

    number : ℕ
    number = number_of a k (calls_of c h)

    by_number : slice_get (calls_to a (calls_of c h)) number ≡ Some (k, own)
    by_number = calls_to-number a (calls_of c h) k needed.1.1 (eq-eqb own.actor a actor)

    counted : number ≡ m
    counted = sym (number_is a number (calls_of c late) (slice_get_front (calls_to a (calls_of c h)) (calls_to a (calls_of c late)) number (calls_to_grow a
        (calls_of c h) (calls_of c late) calls) by_number)) ∙ ap (λ j. number_of a j (calls_of c late)) (sym found.2) ∙ number_is a m (calls_of c late) found.1

    at : slice_get (calls_to a (calls_of c h)) m ≡ Some (k, own)
    at = ap (slice_get (calls_to a (calls_of c h))) (sym counted) ∙ by_number

    letter : Letter
    letter = CallLetter c a m

    letter_so : call_letter c k own h ≡ letter
    letter_so = ap (λ b. CallLetter c b (number_of b k (calls_of c h))) actor ∙ ap (CallLetter c a) counted

    mail : g.mail ≡ h.mail ++ letter ∷ []
    mail = deliver_mail (add_event h (event.Send c k)) (length h.mail) (refusal_of (add_event h (event.Send c k)) (event.Deliver (length h.mail))) ∙
        ap (λ o. and_also h.mail (option_map (λ one. call_letter c k one h) o)) needed.1.1 ∙ ap (λ l. h.mail ++ l ∷ []) letter_so

    arrived : has_letter letter g.arrived ≡ true
    arrived = (sent casts bound told s done h e a item next may).brought letter (ap (has_letter letter) mail ∙ has_last letter h.mail) live_now

    retires : Retires h
    retires = w.world.retires

    named : names c (cast_of a h) ≡ true
    named = ap (λ b. names c (cast_of b h)) (sym actor) ∙ named_call h c k retires.named needed.1.1

pub post_casts : (h : History) (c k : ℕ) → (after_post (event.Send c k) h).casts ≡ h.casts
post_casts h c k = (deliver_same (add_event h (event.Send c k)) (length h.mail)
    (refusal_of (add_event h (event.Send c k)) (event.Deliver (length h.mail)))).casts
