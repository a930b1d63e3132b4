-- An event with a call that stands for the one made: it is accepted, too, and leaves the same but for that call.
use Rattle.act_told_ends.proofs.Common.{◌≡◌, ℕ, Bool, true, false, cond, List, [], ◌∷◌, ◌++◌, length, take, map, filter, Option, Some, None, inl, inr, ◌⊎◌}
use Rattle.act_told_ends.proofs.Common.{refl, ap, sym, ◌∙◌, subst, ◌==◌, ◌||◌, not, filter_map, slice_get, option_map, is_some, is_none, list_all, nat_lt}
use Rattle.act_told_ends.proofs.Common.{append-nil, eqb-true, eq-eqb, Arg, Method, Event, RunItem, Submission, Letter, Step, Answer, NoCaller, Sending}
use Rattle.act_told_ends.proofs.Common.{SubmitRefusal, calls_to, number_of, kept_at, is_known, settle, needs, send_refusal, submit_refusal, limit_refusal}
use Rattle.act_told_ends.proofs.Common.{ActorSpec, History, under, is_caller, calls_of, copies_of, limit_of, runs_of, kept_of, has_letter, ran_count, run_item}
use Rattle.act_told_ends.proofs.Common.{next_item, answer_in, refusal_of, add_event, after_run, and_also, unanswered, call_letter, was_sent, deliver_refusal}
use Rattle.act_told_ends.proofs.Common.{is_last, under-push, slice_get_front, slice_get_last, option_map-none, option_or-none, option_or-none_second}
use Rattle.act_told_ends.proofs.Common.{needs-none, kept_at_is, kept_by, IsPrefix, IsAsSubmitted, All_at, consistent, IsNext, next_item_is, calls_to-at, At}
use Rattle.act_told_ends.proofs.Common.{nat_le, option_or, is_earlier, copies_held, CallLetter, NoteLetter, WorldRefusal, SubmitRefused, NoSuchActor, NoCopy}
use Rattle.act_told_ends.proofs.Common.{TooManyArgs, BadFuture, TooManyCalls, NotReady, Answered, length_push, take-at, same_kept, kept_size, IsWorld, world}
use Rattle.act_told_ends.proofs.Common.{take-front, Told, StandFor, MayStandFor, Ran, IsAsRun, arg_as_run}
use Rattle.act_rules.specs.declared.event.Event.TheVariants as event
use Rattle.act_told_ends.proofs.Bridge.{IsLate}
use Rattle.act_told_ends.proofs.Later.{IsLater}
use Rattle.act_told_ends.proofs.Twins.{actors, length_same, at_same, none_same, number_same, calls_to_same, count_same, passing_same, map-take, slice_get-take}
use Rattle.act_told_ends.proofs.Twins.{as_run, as_run_length, as_run_earlier, as_run_known, as_run_settles}

-- calls that may stand for those of a play
pub record Stand : Type 0 where
  pub casts : List ActorSpec
  pub bound : ℕ → Option (List Step)
  pub told : Told
  pub calls : ℕ → List Submission
  pub plans : ℕ → List Step
  pub late : At
  pub is_late : IsLate casts bound told plans late
  pub stand : MayStandFor bound told calls

abbrev pub by_call : ℕ → ℕ → Method → List Arg → Option Submission → Event
by_call c a method args None = event.Submit c a method args
by_call c a method args (Some call) = event.Submit c a call.method call.args

-- the event, with the call that stands for it
abbrev pub swap : (ℕ → List Submission) → History → Event → Event
swap calls h (event.Submit c a method args) = by_call c a method args (slice_get (calls c) (length (calls_of c h)))
swap calls h other = other

-- the history with other submissions
abbrev pub with_subs : History → List (ℕ × Submission) → History
with_subs h subs = record h { submitted = subs }

-- the first of the calls that stand for others, as many as were made
abbrev pub AreFirst : (ℕ → List Submission) → History → List (ℕ × Submission) → Type 0
AreFirst calls h subs = (c : ℕ) → under c subs ≡ take (length (calls_of c h)) (calls c)

-- ---- what stays the same

pub stand_actors : (x : Stand) (c : ℕ) → actors (x.calls c) ≡ actors (x.told.calls c)
stand_actors x c = go (x.stand c)
  where
    go : (x.calls c ≡ x.told.calls c) ⊎ ((x.bound c ≡ None) × StandFor x.told c (x.calls c)) → actors (x.calls c) ≡ actors (x.told.calls c)
    go (inl same) = ap (λ calls. actors calls) same
    go (inr stands) = stands.1.actors

told_front : (x : Stand) {h : History} (c : ℕ) → IsLater h x.late.history → IsPrefix (calls_of c h) (x.told.calls c)
told_front x {h} c later = subst (λ calls. IsPrefix (calls_of c h) calls) (x.is_late.leaves.calls c) (later.calls c)

pub same_actors : (x : Stand) (h : History) (subs : List (ℕ × Submission)) (c : ℕ) → IsLater h x.late.history → AreFirst x.calls h subs
    → actors (under c subs) ≡ actors (calls_of c h)
same_actors x h subs c later first =
    ap (λ calls. actors calls) (first c) ∙ map-take (length (calls_of c h)) (x.calls c)
    ∙ ap (take (length (calls_of c h))) (stand_actors x c) ∙ sym (map-take (length (calls_of c h)) (x.told.calls c))
    ∙ ap (λ calls. actors calls) (take-front (calls_of c h) (x.told.calls c) (told_front x c later))

pub kept_as : (c : ℕ) (h : History) (subs : List (ℕ × Submission)) → actors (under c subs) ≡ actors (calls_of c h) → kept_of c (with_subs h subs) ≡ kept_of c h
kept_as c h subs same = same_kept (kept_of c g) (kept_of c h) (kept_size c g ∙ length_same (under c subs) (calls_of c h) same ∙ sym (kept_size c h)) at
  where
    g : History
    g = with_subs h subs

    at : (k : ℕ) → kept_at (kept_of c g) k ≡ kept_at (kept_of c h) k
    at k = go (slice_get (calls_of c h) k) refl
      where
        go : (o : Option Submission) → slice_get (calls_of c h) k ≡ o → kept_at (kept_of c g) k ≡ kept_at (kept_of c h) k
        go None e = kept_at_is g c k ∙ ap (kept_by g c k) (none_same (λ (call : Submission). call.actor) (under c subs) (calls_of c h) k same e)
            ∙ sym (kept_at_is h c k ∙ ap (kept_by h c k) e)
        go (Some call) e =
            let twin = at_same (λ (call : Submission). call.actor) (under c subs) (calls_of c h) k same e in
            kept_at_is g c k ∙ ap (kept_by g c k) twin.1
            ∙ ap (λ a. slice_get (filter_map (answer_in h c k a) h.collected) 0) twin.2
            ∙ sym (kept_at_is h c k ∙ ap (kept_by h c k) e)

-- ---- the call that stands for another

-- how a call stands for one of the play
pub record IsTwin (x : Stand) (c k : ℕ) (call twin : Submission) : Type 0 where
  pub at : slice_get (x.calls c) k ≡ Some twin
  pub actor : twin.actor ≡ call.actor
  pub is : (twin ≡ call) ⊎ ((twin.args ≡ as_run (kept_of c x.late.history) call.args) ⊎ (twin.args ≡ []))
  pub ran : (a place : ℕ) (item : RunItem) → slice_get (x.told.runs a) place ≡ Some item → item.caller ≡ c → item.future ≡ k → (twin ≡ call) ⊎ IsAsRun twin item

ran_as : (x : Stand) (c k : ℕ) (call twin : Submission) → slice_get (x.told.calls c) k ≡ Some call → Ran x.told c k twin
    → twin.args ≡ as_run (kept_of c x.late.history) call.args
ran_as x c k call twin at r =
    let late = x.late.history in
    let w : IsWorld x.casts late = world x.casts x.plans x.late x.is_late.play in
    let submitted : IsAsSubmitted (λ d. calls_of d late) (λ d. kept_of d late) r.item =
    All_at (IsAsSubmitted (λ d. calls_of d late) (λ d. kept_of d late)) (runs_of r.actor late) r.place
    ((consistent late w.sound).as_submitted r.actor) (ap (λ items. slice_get items r.place) (x.is_late.leaves.runs r.actor) ∙ r.at) in
    let there : slice_get (x.told.calls c) k ≡ Some submitted.call =
    ap (λ calls. slice_get calls k) (sym (x.is_late.leaves.calls c))
    ∙ subst (λ d. slice_get (calls_of d late) k ≡ Some submitted.call) r.caller
    (subst (λ j. slice_get (calls_of r.item.caller late) j ≡ Some submitted.call) r.future submitted.at) in
    let one : submitted.call ≡ call = let e : Some submitted.call ≡ Some call = sym there ∙ at in cc in
    r.is.args ∙ ap (map arg_as_run) (submitted.args ∙ ap (λ d. map (settle (kept_of d late)) submitted.call.args) r.caller
    ∙ ap (λ (s : Submission). map (settle (kept_of c late)) s.args) one)

pub twin_of : (x : Stand) (c k : ℕ) {call : Submission} → slice_get (x.told.calls c) k ≡ Some call → (twin : Submission) × IsTwin x c k call twin
twin_of x c k {call} at = go (x.stand c)
  where
    go : (x.calls c ≡ x.told.calls c) ⊎ ((x.bound c ≡ None) × StandFor x.told c (x.calls c)) → (twin : Submission) × IsTwin x c k call twin
    go (inl same) = (
      call,
      record { at = ap (λ calls. slice_get calls k) same ∙ at; actor = refl; is = inl refl; ran = λ a place item _ _ _. inl refl },
    )
    go (inr stands) =
        let twin = at_same (λ (call : Submission). call.actor) (x.calls c) (x.told.calls c) k stands.1.actors at in (
          twin.0,
          record {
            at = twin.1;
            actor = twin.2;
            is = inr (either twin.0 (stands.1.each k twin.0 twin.1));
            ran = λ a place item there caller future. inr (stands.1.ran a place item twin.0 there caller (ap (λ j. slice_get (x.calls c) j) future ∙ twin.1));
          },
        )
      where
        either : (twin : Submission) → Ran x.told c k twin ⊎ (twin.args ≡ []) → (twin.args ≡ as_run (kept_of c x.late.history) call.args) ⊎ (twin.args ≡ [])
        either twin (inl r) = inl (ran_as x c k call twin at r)
        either twin (inr none) = inr none

-- ---- one event

pub record IsSwapped (x : Stand) (h : History) (subs : List (ℕ × Submission)) (other : Event) : Type 0 where
  pub may : refusal_of (with_subs h subs) (swap x.calls h other) ≡ None
  pub next : List (ℕ × Submission)
  pub left : add_event (with_subs h subs) (swap x.calls h other) ≡ with_subs (add_event h other) next
  pub first : AreFirst x.calls (add_event h other) next

fits_args : (count : ℕ) {call twin : Submission} (kept : List (Option Answer)) → (twin ≡ call) ⊎ ((twin.args ≡ as_run kept call.args) ⊎ (twin.args ≡ [])) →
    nat_le (length call.args) 4 ≡ true → list_all (is_earlier count) call.args ≡ true →
    (nat_le (length twin.args) 4 ≡ true) × (list_all (is_earlier count) twin.args ≡ true)
fits_args count kept (inl same) few earlier =
    (ap (λ (s : Submission). nat_le (length s.args) 4) same ∙ few, ap (λ (s : Submission). list_all (is_earlier count) s.args) same ∙ earlier)
fits_args count {call} kept (inr (inl is)) few earlier = (
  ap (λ args. nat_le (length args) 4) is ∙ ap (λ n. nat_le n 4) (as_run_length kept call.args) ∙ few,
  ap (λ args. list_all (is_earlier count) args) is ∙ as_run_earlier count kept call.args earlier,
)
fits_args count kept (inr (inr none)) few earlier = (ap (λ args. nat_le (length args) 4) none, ap (λ args. list_all (is_earlier count) args) none)

known_args : (now kept : List (Option Answer)) {call twin : Submission} → (twin ≡ call) ⊎ ((twin.args ≡ as_run kept call.args) ⊎ (twin.args ≡ []))
    → list_all (is_known now) call.args ≡ true → list_all (is_known now) twin.args ≡ true
known_args now kept (inl same) known = ap (λ (s : Submission). list_all (is_known now) s.args) same ∙ known
known_args now kept {call} (inr (inl is)) known = ap (λ args. list_all (is_known now) args) is ∙ as_run_known now kept call.args known
known_args now kept (inr (inr none)) known = ap (λ args. list_all (is_known now) args) none

-- a submission that isn't refused isn't with other arguments that fit
other_args : (o : Option ℕ) (count : ℕ) (args others : List Arg) → submit_refusal o count args ≡ None → (nat_le (length args) 4 ≡ true → list_all
    (is_earlier count) args ≡ true → (nat_le (length others) 4 ≡ true) × (list_all (is_earlier count) others ≡ true)) → submit_refusal o count others ≡ None
other_args o count args others e fit =
    let last : Option SubmitRefusal = needs (nat_lt count 65536) TooManyCalls None in
    let rest : List Arg → Option SubmitRefusal = λ args. needs (nat_le (length args) 4) TooManyArgs (needs (list_all (is_earlier count) args) BadFuture last) in
    let first = needs-none (is_some o) NoSuchActor (needs (nat_lt 0 (copies_held o)) NoCopy (rest args)) e in
    let second = needs-none (nat_lt 0 (copies_held o)) NoCopy (rest args) first.1 in
    let third = needs-none (nat_le (length args) 4) TooManyArgs (needs (list_all (is_earlier count) args) BadFuture last) second.1 in
    let fourth = needs-none (list_all (is_earlier count) args) BadFuture last third.1 in
    let fits = fit third.0 fourth.0 in let one = first.0 in let two = second.0 in let three = fits.0 in let four = fits.1 in rw (one, two, three, four) fourth.1

-- an event of which no call is asked
plain : (x : Stand) (h : History) (subs : List (ℕ × Submission)) (other : Event) (next : List (ℕ × Submission)) (g : History) → refusal_of (with_subs h subs)
    (swap x.calls h other) ≡ None → add_event h other ≡ g → add_event (with_subs h subs) (swap x.calls h other) ≡ with_subs g next →
    ((c : ℕ) → calls_of c g ≡ calls_of c h) → ((c : ℕ) → under c next ≡ under c subs) → AreFirst x.calls h subs → IsSwapped x h subs other
plain x h subs other next g may is left calls same first = record {
  may = may;
  next = next;
  left = left ∙ ap (λ k. with_subs k next) (sym is);
  first = λ c. same c ∙ first c ∙ ap (λ l. take (length l) (x.calls c)) (sym (calls c)) ∙ ap (λ k. take (length (calls_of c k)) (x.calls c)) (sym is);
}

submit_swapped : (x : Stand) (h : History) (subs : List (ℕ × Submission)) (c a : ℕ) (method : Method) (args : List Arg)
    → refusal_of h (event.Submit c a method args) ≡ None → IsLater h x.late.history → IsLater (add_event h (event.Submit c a method args)) x.late.history
    → AreFirst x.calls h subs → IsSwapped x h subs (event.Submit c a method args)
submit_swapped x h subs c a method args may was later first =
    let g = with_subs h subs in
    let swapped : swap x.calls h (event.Submit c a method args) ≡ event.Submit c a twin.method twin.args = ap (by_call c a method args) found.1.at in
    let left : add_event g (swap x.calls h (event.Submit c a method args)) ≡ with_subs (add_event h (event.Submit c a method args)) next =
    ap (add_event g) swapped in
    let same : (d : ℕ) → actors (under d subs) ≡ actors (calls_of d h) = λ d. same_actors x h subs d was first in
    let kept : kept_of c g ≡ kept_of c h = kept_as c h subs (same c) in
    let pending : unanswered c a g ≡ unanswered c a h =
    ap (λ kept. length (filter (λ (call : ℕ × Submission). is_none (kept_at kept call.0)) (calls_to a (under c subs)))) kept
    ∙ passing_same (λ k. is_none (kept_at (kept_of c h) k)) (calls_to a (under c subs)) (calls_to a (calls_of c h))
    (calls_to_same a (under c subs) (calls_of c h) (same c)) in
    let known : (is_caller c h ≡ true) × (option_map SubmitRefused (option_or (submit_refusal (copies_of c a h) n args)
    (limit_refusal (limit_of c a h) (unanswered c a h))) ≡ None) =
    needs-none (is_caller c h) NoCaller (option_map SubmitRefused (option_or (submit_refusal (copies_of c a h) n args)
    (limit_refusal (limit_of c a h) (unanswered c a h)))) may in
    let none : option_or (submit_refusal (copies_of c a h) n args) (limit_refusal (limit_of c a h) (unanswered c a h)) ≡ None =
    option_map-none SubmitRefused (option_or (submit_refusal (copies_of c a h) n args) (limit_refusal (limit_of c a h) (unanswered c a h))) known.1 in
    let own : submit_refusal (copies_of c a h) n args ≡ None =
    option_or-none (submit_refusal (copies_of c a h) n args) (limit_refusal (limit_of c a h) (unanswered c a h)) none in
    let limit : limit_refusal (limit_of c a h) (unanswered c a h) ≡ None =
    option_or-none_second (submit_refusal (copies_of c a h) n args) (limit_refusal (limit_of c a h) (unanswered c a h)) none in
    let own_twin : submit_refusal (copies_of c a h) n twin.args ≡ None =
    other_args (copies_of c a h) n args twin.args own (λ few earlier. fits_args n (kept_of c x.late.history) found.1.is few earlier) in
    let may_twin : refusal_of g (event.Submit c a twin.method twin.args) ≡ None =
    let one = known.0 in let two = length_same (under c subs) (calls_of c h) (same c) in
    rw (one, two, own_twin, pending, limit) refl in
    let may_swapped : refusal_of g (swap x.calls h (event.Submit c a method args)) ≡ None = ap (refusal_of g) swapped ∙ may_twin in
    record { may = may_swapped; next = next; left = left; first = first_next }
  where
    n : ℕ
    n = length (calls_of c h)

    call : Submission
    call = record { actor = a; method = method; args = args }

    after : calls_of c (add_event h (event.Submit c a method args)) ≡ calls_of c h ++ call ∷ []
    after = under-push c c h.submitted call ∙ ap (λ b. calls_of c h ++ cond b (call ∷ []) []) (eq-eqb c c refl)

    told : slice_get (x.told.calls c) n ≡ Some call
    told = slice_get_front (calls_of c (add_event h (event.Submit c a method args))) (x.told.calls c) n (told_front x c later)
        (ap (λ calls. slice_get calls n) after ∙ slice_get_last (calls_of c h) call)

    found : (twin : Submission) × IsTwin x c n call twin
    found = twin_of x c n told

    twin : Submission
    twin = found.0

    next : List (ℕ × Submission)
    next = subs ++ (c, record { actor = a; method = twin.method; args = twin.args }) ∷ []

    -- the twin has the call's actor
    is_twin : ◌≡◌ {A = Submission} (record { actor = a; method = twin.method; args = twin.args }) twin
    is_twin = λ i. record { actor = sym found.1.actor i; method = twin.method; args = twin.args }

    first_next : AreFirst x.calls (add_event h (event.Submit c a method args)) next
    first_next d = under-push d c subs (record { actor = a; method = twin.method; args = twin.args }) ∙ go (c == d) refl
        ∙ ap (λ l. take (length l) (x.calls d)) (sym (under-push d c h.submitted call))
      where
        mine : under c subs ++ record { actor = a; method = twin.method; args = twin.args } ∷ [] ≡ take (length (calls_of c h ++ call ∷ [])) (x.calls c)
        mine = ap (λ s. under c subs ++ s ∷ []) is_twin ∙ ap (λ l. l ++ twin ∷ []) (first c)
            ∙ sym (take-at (x.calls c) n found.1.at) ∙ ap (λ m. take m (x.calls c)) (sym (length_push (calls_of c h) call))

        go : (y : Bool) → (c == d) ≡ y → under d subs ++ cond y (record { actor = a; method = twin.method; args = twin.args } ∷ []) []
            ≡ take (length (calls_of d h ++ cond y (call ∷ []) [])) (x.calls d)
        go false e = append-nil (under d subs) ∙ first d ∙ ap (λ l. take (length l) (x.calls d)) (sym (append-nil (calls_of d h)))
        go true e = subst (λ m. under m subs ++ record { actor = a; method = twin.method; args = twin.args } ∷ []
            ≡ take (length (calls_of m h ++ call ∷ [])) (x.calls m)) (eqb-true c d e) mine

-- the letter of a call that stands for another is the same
letter_same : (c k : ℕ) (h : History) (subs : List (ℕ × Submission)) (call twin : Submission) → twin.actor ≡ call.actor
    → actors (under c subs) ≡ actors (calls_of c h) → call_letter c k twin (with_subs h subs) ≡ call_letter c k call h
letter_same c k h subs call twin actor same = ap (CallLetter c twin.actor) (number_same twin.actor k (under c subs) (calls_of c h) same)
    ∙ ap (λ a. CallLetter c a (number_of a k (calls_of c h))) actor

send_swapped : (x : Stand) (h : History) (subs : List (ℕ × Submission)) (c k : ℕ) → refusal_of h (event.Send c k) ≡ None → IsLater h x.late.history
    → AreFirst x.calls h subs → IsSwapped x h subs (event.Send c k)
send_swapped x h subs c k may was first = go (slice_get (calls_of c h) k) refl
  where
    g : History
    g = with_subs h subs

    same : actors (under c subs) ≡ actors (calls_of c h)
    same = same_actors x h subs c was first

    sending : Option Submission → Bool → List (Option Answer) → Type 0
    sending o sent kept = needs (is_caller c h) NoCaller (option_map Sending (send_refusal kept k sent o)) ≡ None

    go : (o : Option Submission) → slice_get (calls_of c h) k ≡ o → IsSwapped x h subs (event.Send c k)
    go None e =
        let bad = needs-none (is_caller c h) NoCaller (option_map Sending (send_refusal (kept_of c h) k (was_sent c k (slice_get (calls_of c h) k) h)
        (slice_get (calls_of c h) k))) may in
        let refused = option_map-none Sending (send_refusal (kept_of c h) k (was_sent c k (slice_get (calls_of c h) k) h) (slice_get (calls_of c h) k)) bad.1 in
        absurd (no_future (slice_get (calls_of c h) k) e refused)
      where
        no_future : (o : Option Submission) → o ≡ None → send_refusal (kept_of c h) k (was_sent c k (slice_get (calls_of c h) k) h) o ≡ None → ⊥
        no_future None e f = cc
        no_future (Some call) e f = cc
    go (Some call) e =
        let told : slice_get (x.told.calls c) k ≡ Some call = slice_get_front (calls_of c h) (x.told.calls c) k (told_front x c was) e in
        let twin : (twin : Submission) × (slice_get (under c subs) k ≡ Some twin) × (twin.actor ≡ call.actor) =
        at_same (λ (call : Submission). call.actor) (under c subs) (calls_of c h) k same e in
        let found : (other : Submission) × IsTwin x c k call other = twin_of x c k told in
        let one : twin.0 ≡ found.0 =
        let there : slice_get (x.calls c) k ≡ Some twin.0 = slice_get-take (length (calls_of c h)) k (x.calls c)
        (ap (λ l. slice_get l k) (sym (first c)) ∙ twin.1) in
        let both : Some twin.0 ≡ Some found.0 = sym there ∙ found.1.at in
        cc in
        let kept : kept_of c g ≡ kept_of c h = kept_as c h subs same in
        let letter : call_letter c k twin.0 g ≡ call_letter c k call h = letter_same c k h subs call twin.0 twin.2 same in
        let known : list_all (is_known (kept_of c h)) call.args ≡ true =
        let asked : (sent : Bool) → send_refusal (kept_of c h) k sent (Some call) ≡ None → list_all (is_known (kept_of c h)) call.args ≡ true =
        λ sent f. (needs-none (list_all (is_known (kept_of c h)) call.args) NotReady
        (needs (sent || not (is_some (kept_at (kept_of c h) k))) Answered None) f).0 in
        let needed = needs-none (is_caller c h) NoCaller (option_map Sending (send_refusal (kept_of c h) k (was_sent c k (slice_get (calls_of c h) k) h)
        (slice_get (calls_of c h) k))) may in
        let none = option_map-none Sending (send_refusal (kept_of c h) k (was_sent c k (slice_get (calls_of c h) k) h) (slice_get (calls_of c h) k)) needed.1 in
        asked (was_sent c k (slice_get (calls_of c h) k) h)
        (subst (λ o. send_refusal (kept_of c h) k (was_sent c k (slice_get (calls_of c h) k) h) o ≡ None) e none) in
        let known_twin : list_all (is_known (kept_of c h)) twin.0.args ≡ true =
        ap (λ (s : Submission). list_all (is_known (kept_of c h)) s.args) one
        ∙ known_args (kept_of c h) (kept_of c x.late.history) found.1.is known in
        -- the refusal of sending call s, as it is in h
        let of_call : Submission → Bool → Option WorldRefusal =
        λ s sent. needs (is_caller c h) NoCaller (option_map Sending (needs (list_all (is_known (kept_of c h)) s.args) NotReady
        (needs (sent || not (is_some (kept_at (kept_of c h) k))) Answered None))) in
        let in_walk : refusal_of g (event.Send c k) ≡ of_call twin.0 (has_letter (call_letter c k call h) h.mail) =
        ap (λ o. needs (is_caller c h) NoCaller (option_map Sending (send_refusal (kept_of c g) k (was_sent c k o g) o))) twin.1
        ∙ ap (λ l. needs (is_caller c h) NoCaller (option_map Sending (send_refusal (kept_of c g) k (has_letter l h.mail) (Some twin.0)))) letter
        ∙ ap (λ kept. needs (is_caller c h) NoCaller (option_map Sending
        (send_refusal kept k (has_letter (call_letter c k call h) h.mail) (Some twin.0)))) kept in
        let in_play : refusal_of h (event.Send c k) ≡ of_call call (has_letter (call_letter c k call h) h.mail) =
        ap (λ o. needs (is_caller c h) NoCaller (option_map Sending (send_refusal (kept_of c h) k (was_sent c k o h) o))) e in
        let swapped : (sent : Bool) → of_call call sent ≡ None → of_call twin.0 sent ≡ None =
        λ sent f. ap (λ b. needs (is_caller c h) NoCaller (option_map Sending (needs b NotReady
        (needs (sent || not (is_some (kept_at (kept_of c h) k))) Answered None)))) (known_twin ∙ sym known) ∙ f in
        let may_twin : refusal_of g (event.Send c k) ≡ None = in_walk ∙ swapped (has_letter (call_letter c k call h) h.mail) (sym in_play ∙ may) in
        let left : add_event g (event.Send c k) ≡ with_subs (add_event h (event.Send c k)) subs =
        ap (λ o. record h { submitted = subs; mail = and_also h.mail o }) (
        ap (option_map (λ call. call_letter c k call g)) twin.1 ∙ ap (λ l. Some l) letter
        ∙ sym (ap (option_map (λ call. call_letter c k call h)) e)) in
        plain x h subs (event.Send c k) subs (add_event h (event.Send c k)) may_twin refl left (λ d. refl) (λ d. refl) first

release_swapped : (x : Stand) (h : History) (subs : List (ℕ × Submission)) (c a : ℕ) → refusal_of h (event.Release c a) ≡ None → IsLater h x.late.history
    → AreFirst x.calls h subs → IsSwapped x h subs (event.Release c a)
release_swapped x h subs c a may was first = plain x h subs (event.Release c a) subs (add_event h (event.Release c a)) may refl
    (ap (λ n. record h {
      submitted = subs;
      released = h.released ++ (c, a) ∷ [];
      mail = and_also h.mail (cond (is_last c a h) (Some (NoteLetter c a n)) None);
    }) (count_same a (under c subs) (calls_of c h) (same_actors x h subs c was first)))
    (λ d. refl) (λ d. refl) first

run_swapped : (x : Stand) (h : History) (subs : List (ℕ × Submission)) (a c : ℕ) → refusal_of h (event.Run a c) ≡ None → IsLater h x.late.history
    → IsLater (add_event h (event.Run a c)) x.late.history → AreFirst x.calls h subs → IsSwapped x h subs (event.Run a c)
run_swapped x h subs a c may was later first = go (next_item a c h) refl later
  where
    g : History
    g = with_subs h subs

    same : actors (under c subs) ≡ actors (calls_of c h)
    same = same_actors x h subs c was first

    n : ℕ
    n = ran_count c a h

    kept : kept_of c g ≡ kept_of c h
    kept = kept_as c h subs same

    -- nothing runs there, either
    none_next : next_item a c h ≡ None → next_item a c g ≡ None
    none_next e = arrived (has_letter (CallLetter c a n) h.arrived) e
      where
        calls : option_map (run_item c n (kept_of c h)) (slice_get (calls_to a (calls_of c h)) n) ≡ None
            → option_map (run_item c n (kept_of c g)) (slice_get (calls_to a (under c subs)) n) ≡ None
        calls f =
            ap (option_map (run_item c n (kept_of c g))) (none_same (λ (call : ℕ × Submission). call.0) (calls_to a (under c subs)) (calls_to a (calls_of c h))
            n (calls_to_same a (under c subs) (calls_of c h) same) (option_map-none (run_item c n (kept_of c h)) (slice_get (calls_to a (calls_of c h)) n) f))

        arrived : (b : Bool) → cond b (option_map (run_item c n (kept_of c h)) (slice_get (calls_to a (calls_of c h)) n)) None ≡ None
            → cond b (option_map (run_item c n (kept_of c g)) (slice_get (calls_to a (under c subs)) n)) None ≡ None
        arrived true f = calls f
        arrived false f = refl

    go : (o : Option RunItem) → next_item a c h ≡ o → IsLater (after_run a c h o) x.late.history → IsSwapped x h subs (event.Run a c)
    go None e later = plain x h subs (event.Run a c) subs h may (ap (after_run a c h) e) (ap (after_run a c g) (none_next e)) (λ d. refl) (λ d. refl) first
    go (Some item) e later =
        let after : runs_of a (after_run a c h (Some item)) ≡ runs_of a h ++ item ∷ [] =
        under-push a a h.ran item ∙ ap (λ b. runs_of a h ++ cond b (item ∷ []) []) (eq-eqb a a refl) in
        let told_run : slice_get (x.told.runs a) (length (runs_of a h)) ≡ Some item =
        slice_get_front (runs_of a (after_run a c h (Some item))) (x.told.runs a) (length (runs_of a h))
        (subst (λ items. IsPrefix (runs_of a (after_run a c h (Some item))) items) (x.is_late.leaves.runs a) (later.early.runs a))
        (ap (λ items. slice_get items (length (runs_of a h))) after ∙ slice_get_last (runs_of a h) item) in
        -- the twin's place among those to the actor
        let twin : (other : ℕ × Submission) × (slice_get (calls_to a (under c subs)) n ≡ Some other) × (other.0 ≡ call.0) =
        at_same (λ (call : ℕ × Submission). call.0) (calls_to a (under c subs)) (calls_to a (calls_of c h)) n
        (calls_to_same a (under c subs) (calls_of c h) same) is.at in
        let one : twin.0.1 ≡ found.0 =
        let here : slice_get (under c subs) twin.0.0 ≡ Some twin.0.1 = (calls_to-at a (under c subs) n twin.1).at in
        let there : slice_get (x.calls c) call.0 ≡ Some twin.0.1 = slice_get-take (length (calls_of c h)) call.0 (x.calls c)
        (ap (λ l. slice_get l call.0) (sym (first c)) ∙ subst (λ k. slice_get (under c subs) k ≡ Some twin.0.1) twin.2 here) in
        let both : Some twin.0.1 ≡ Some found.0 = sym there ∙ found.1.at in
        cc in
        let pair : ◌≡◌ {A = ℕ × Submission} twin.0 (call.0, found.0) = λ i. (twin.2 i, one i) in
        let next_is : next_item a c g ≡ Some item =
        ap (λ b. cond b (option_map (run_item c n (kept_of c g)) (slice_get (calls_to a (under c subs)) n)) None) is.arrived
        ∙ ap (option_map (run_item c n (kept_of c g))) twin.1
        ∙ ap (λ kept. Some (run_item c n kept twin.0)) kept
        ∙ ap (λ other. Some (run_item c n (kept_of c h) other)) pair
        ∙ ap (λ i. Some i) (as_item (found.1.ran a (length (runs_of a h)) item told_run caller future)) in
        plain x h subs (event.Run a c) subs (after_run a c h (Some item)) may (ap (after_run a c h) e) (ap (after_run a c g) next_is) (λ d. refl)
        (λ d. refl) first
      where
        is : IsNext a c h item
        is = next_item_is a c h e

        call : ℕ × Submission
        call = is.call

        stands : slice_get (calls_of c h) call.0 ≡ Some call.1
        stands = (calls_to-at a (calls_of c h) n is.at).at

        caller : item.caller ≡ c
        caller = ap (λ (i : RunItem). i.caller) (sym is.is)

        future : item.future ≡ call.0
        future = ap (λ (i : RunItem). i.future) (sym is.is)

        found : (other : Submission) × IsTwin x c call.0 call.1 other
        found = twin_of x c call.0 (slice_get_front (calls_of c h) (x.told.calls c) call.0 (told_front x c was) stands)

        as_item : (found.0 ≡ call.1) ⊎ IsAsRun found.0 item → run_item c n (kept_of c h) (call.0, found.0) ≡ item
        as_item (inl same) = ap (λ s. run_item c n (kept_of c h) (call.0, s)) same ∙ is.is
        as_item (inr run) =
            ap (λ m. record { caller = c; number = n; future = call.0; method = m; args = map (settle (kept_of c h)) found.0.args })
            (run.method ∙ ap (λ (i : RunItem). i.method) (sym is.is))
            ∙ ap (λ settled. record { caller = c; number = n; future = call.0; method = call.1.method; args = settled }) (
            ap (map (settle (kept_of c h))) (run.args ∙ ap (λ (i : RunItem). map arg_as_run i.args) (sym is.is)) ∙ as_run_settles (kept_of c h) call.1.args)
            ∙ is.is

deliver_same : (h : History) (subs : List (ℕ × Submission)) (o : Option Letter) → deliver_refusal o (with_subs h subs) ≡ deliver_refusal o h
deliver_same h subs None = refl
deliver_same h subs (Some letter) = refl

pub event_swapped : (x : Stand) (h : History) (subs : List (ℕ × Submission)) (other : Event) → refusal_of h other ≡ None → IsLater h x.late.history
    → IsLater (add_event h other) x.late.history → AreFirst x.calls h subs → IsSwapped x h subs other
event_swapped x h subs (event.Submit c a method args) may was later first = submit_swapped x h subs c a method args may was later first
event_swapped x h subs (event.Release c a) may was later first = release_swapped x h subs c a may was first
event_swapped x h subs (event.Send c k) may was later first = send_swapped x h subs c k may was first
event_swapped x h subs (event.Deliver i) may was later first =
    record { may = deliver_same h subs (slice_get h.mail i) ∙ may; next = subs; left = refl; first = first }
event_swapped x h subs (event.Run a c) may was later first = run_swapped x h subs a c may was later first
event_swapped x h subs other may was later first = record { may = may; next = subs; left = refl; first = first }
