-- What the actions of a caller leave: its calls, their numbers, and the answers that it keeps.
use Rattle.act_owner.proofs.Common.{◌≡◌, ℕ, zero, suc, ◌<◌, ◌==◌, ◌&&◌, Bool, true, false, if◌then◌else◌, List, [], ◌∷◌, ◌++◌, length, map, Option, Some, None}
use Rattle.act_owner.proofs.Common.{is_some, Err, inl, inr, refl, ◌∙◌, ap, arith, slice_get, slice_set, option_map, zip, list_all, length-append, length-set}
use Rattle.act_owner.proofs.Common.{slice_get_past, leb_tells, and_parts, ActorDied, Method, Arg, Plain, Fut, Reply, Answered, Death, Submission, Answer}
use Rattle.act_owner.proofs.Common.{number_of, kept_at, settle, settled_future, is_known, copies_in, First, Late, Stray, OwnerView, with_submission, with_death}
use Rattle.act_owner.proofs.Common.{after_reply_that, is_of_call, is_known_dead, answer_of_new_call, answer_after_death, is_known_call, packet_for, packet_at}
use Rattle.act_owner.proofs.Common.{Action, Submitted, Sent, Noticed, after_action, after_actions, is_known_at}
use Rattle.act_owner.proofs.Calls.{get_before, number_of-more}

-- what was there stays: each call with its number, and each answer
pub record Extends (owner later : OwnerView) : Type 0 where
  pub id : later.id ≡ owner.id
  pub calls : (k : ℕ) → k < length owner.calls → slice_get later.calls k ≡ slice_get owner.calls k
  pub numbers : (a k : ℕ) → k < length owner.calls → number_of a k later.calls ≡ number_of a k owner.calls
  pub kept : (k : ℕ) → is_some (kept_at owner.kept k) ≡ true → kept_at later.kept k ≡ kept_at owner.kept k
  -- each call has its place for an answer
  pub places : length later.kept ≡ length later.calls

-- ---- a packet

known_after : (kept later : List (Option Answer)) → ((k : ℕ) → is_some (kept_at kept k) ≡ true → kept_at later k ≡ kept_at kept k) → (arg : Arg) →
    is_known kept arg ≡ true → (is_known later arg ≡ true) × (settle later arg ≡ settle kept arg)
known_after kept later same (Plain value) known = (refl, refl)
known_after kept later same (Fut k) known = (ap is_some (same k known) ∙ known, ap (settled_future k) (same k known))

args_after : (kept later : List (Option Answer)) → ((k : ℕ) → is_some (kept_at kept k) ≡ true → kept_at later k ≡ kept_at kept k) → (args : List Arg) →
    list_all (is_known kept) args ≡ true → (list_all (is_known later) args ≡ true) × (map (settle later) args ≡ map (settle kept) args)
args_after kept later same [] known = (refl, refl)
args_after kept later same (arg ∷ args) known =
    let parts = and_parts (is_known kept arg) (list_all (is_known kept) args) known in
    let here = known_after kept later same arg parts.0 in
    let rest = args_after kept later same args parts.1 in (
      ap (λ b. b && list_all (is_known later) args) here.0 ∙ rest.0,
      ap (λ x. x ∷ map (settle later) args) here.1 ∙ ap (λ xs. settle kept arg ∷ xs) rest.1,
    )

pub found_below : (calls : List Submission) (k : ℕ) {call : Submission} → slice_get calls k ≡ Some call → k < length calls
found_below calls k found =
    elim (leb_tells (suc k) (length calls)) [
      | inl t ↦ t.1
      | inr f ↦ let none : slice_get calls k ≡ None = slice_get_past calls k (omega (arith, f.1)) in absurd (cc (found, none))
    ]

packet_by : (owner later : OwnerView) (k : ℕ) (found : Option Submission) → Extends owner later → slice_get owner.calls k ≡ found →
    is_known_call owner found ≡ true → (is_known_call later found ≡ true) × (option_map (packet_for later k) found ≡ option_map (packet_for owner k) found)
packet_by owner later k None grown is known = absurd (cc known)
packet_by owner later k (Some call) grown is known =
    let args = args_after owner.kept later.kept grown.kept call.args known in (
      args.0,
      ap (λ id. Some (record (packet_for later k call) { caller = id })) grown.id
          ∙ ap (λ n. Some (record (packet_for later k call) { caller = owner.id; number = n })) (grown.numbers call.actor k (found_below owner.calls k is))
          ∙ ap (λ xs. Some (record (packet_for owner k call) { args = xs })) args.1,
    )

known_below : (calls : List Submission) (owner : OwnerView) (k : ℕ) → is_known_call owner (slice_get calls k) ≡ true → k < length calls
known_below calls owner k known =
    elim (leb_tells (suc k) (length calls)) [
      | inl t ↦ t.1
      | inr f ↦ absurd (cc (known, ap (is_known_call owner) (slice_get_past calls k (omega (arith, f.1)))))
    ]

-- a call that is known stays so, and its packet stays the same
pub packet_stays : (owner : OwnerView) {later : OwnerView} (k : ℕ) → Extends owner later → is_known_at owner k ≡ true →
    (is_known_at later k ≡ true) × (packet_at later k ≡ packet_at owner k)
packet_stays owner {later} k grown known =
    let same = grown.calls k (known_below owner.calls owner k known) in
    let both = packet_by owner later k (slice_get owner.calls k) grown refl known in
    (ap (is_known_call later) same ∙ both.0, ap (option_map (packet_for later k)) same ∙ both.1)

-- ---- the answers after an action

kept_more : (kept : List (Option Answer)) (x : Option Answer) (k : ℕ) → is_some (kept_at kept k) ≡ true → kept_at (kept ++ x ∷ []) k ≡ kept_at kept k
kept_more [] x k some = absurd (cc some)
kept_more (y ∷ kept) x zero some = refl
kept_more (y ∷ kept) x (suc k) some = kept_more kept x k some

kept_set : (kept : List (Option Answer)) (j k : ℕ) (x : Option Answer) → is_some (kept_at kept j) ≡ false → is_some (kept_at kept k) ≡ true →
    kept_at (slice_set kept j x) k ≡ kept_at kept k
kept_set [] j k x none some = refl
kept_set (y ∷ kept) zero zero x none some = absurd (cc (none, some))
kept_set (y ∷ kept) zero (suc k) x none some = refl
kept_set (y ∷ kept) (suc j) zero x none some = refl
kept_set (y ∷ kept) (suc j) (suc k) x none some = kept_set kept j k x none some

death_answer : (a : ℕ) (call : Submission) (answer : Option Answer) → is_some answer ≡ true → answer_after_death a (call, answer) ≡ answer
death_answer a call None some = absurd (cc some)
death_answer a call (Some answer) some =
    elim (call.actor == a) as (λ b. (if b && false then Some (Err ActorDied) else Some answer) ≡ Some answer) [ true ↦ refl | false ↦ refl ]

kept_death : (a : ℕ) (calls : List Submission) (kept : List (Option Answer)) (k : ℕ) → length kept ≡ length calls → is_some (kept_at kept k) ≡ true →
    kept_at (map (answer_after_death a) (zip calls kept)) k ≡ kept_at kept k
kept_death a calls [] k same some = absurd (cc some)
kept_death a [] (y ∷ kept) k same some = absurd (omega (arith, same))
kept_death a (call ∷ calls) (y ∷ kept) zero same some = death_answer a call y some
kept_death a (call ∷ calls) (y ∷ kept) (suc k) same some = kept_death a calls kept k (omega (arith, same)) some

places_death : (a : ℕ) (calls : List Submission) (kept : List (Option Answer)) → length kept ≡ length calls →
    length (map (answer_after_death a) (zip calls kept)) ≡ length calls
places_death a [] [] same = refl
places_death a [] (y ∷ kept) same = absurd (omega (arith, same))
places_death a (call ∷ calls) [] same = absurd (omega (arith, same))
places_death a (call ∷ calls) (y ∷ kept) same = ap suc (places_death a calls kept (omega (arith, same)))

-- ---- each action

unchanged : (owner : OwnerView) → length owner.kept ≡ length owner.calls → Extends owner owner
unchanged owner places = record { id = refl; calls = λ k _. refl; numbers = λ a k _. refl; kept = λ k _. refl; places = places }

submitted : (owner : OwnerView) (a : ℕ) (method : Method) (args : List Arg) → length owner.kept ≡ length owner.calls →
    Extends owner (with_submission owner a method args)
submitted owner a method args places =
    let call : Submission = record { actor = a; method = method; args = args } in
    record {
      id = refl;
      calls = λ k below. get_before owner.calls call k below;
      numbers = λ b k below. number_of-more b k owner.calls call (omega (arith, below));
      kept = λ k some. kept_more owner.kept (answer_of_new_call (is_known_dead owner a)) k some;
      places = omega (arith, places, length-append owner.calls (call ∷ []), length-append owner.kept (answer_of_new_call (is_known_dead owner a) ∷ []));
    }

answered : (owner : OwnerView) (reply : Reply) (mine known : Bool) → length owner.kept ≡ length owner.calls → is_some (kept_at owner.kept reply.future) ≡
    known → Extends owner (after_reply_that (if mine then (if known then Late reply.future else First reply.future) else Stray) owner reply)
answered owner reply false known places is = unchanged owner places
answered owner reply true true places is = unchanged owner places
answered owner reply true false places is = record {
  id = refl;
  calls = λ k _. refl;
  numbers = λ a k _. refl;
  kept = λ k some. kept_set owner.kept reply.future k (Some reply.answer) is some;
  places = length-set owner.kept reply.future (Some reply.answer) ∙ places;
}

died : (owner : OwnerView) (a : ℕ) (listed : Bool) → length owner.kept ≡ length owner.calls → Extends owner (if listed then with_death owner a else owner)
died owner a false places = unchanged owner places
died owner a true places = record {
  id = refl;
  calls = λ k _. refl;
  numbers = λ b k _. refl;
  kept = λ k some. kept_death a owner.calls owner.kept k places some;
  places = places_death a owner.calls owner.kept places;
}

-- over an action each call stays, with its number and with its answer if it has one
pub step : (owner : OwnerView) (action : Action) → length owner.kept ≡ length owner.calls → Extends owner (after_action owner action)
step owner (Submitted a method args) places = submitted owner a method args places
step owner (Sent k) places = record { id = refl; calls = λ j _. refl; numbers = λ b j _. refl; kept = λ j _. refl; places = places }
step owner (Noticed (Answered reply)) places = answered owner reply (is_of_call owner reply) (is_some (kept_at owner.kept reply.future)) places refl
step owner (Noticed (Death a)) places = died owner a (is_some (copies_in a owner.handles)) places
step owner action places = record { id = refl; calls = λ k _. refl; numbers = λ b k _. refl; kept = λ k _. refl; places = places }

-- ---- a life

-- where each call has its place for an answer, so it is after any actions
pub places_all : (owner : OwnerView) (actions : List Action) → length owner.kept ≡ length owner.calls →
    length (after_actions owner actions).kept ≡ length (after_actions owner actions).calls
places_all owner [] places = places
places_all owner (action ∷ actions) places = places_all (after_action owner action) actions (step owner action places).places

-- over any actions a call that is known stays so, and its packet stays the same
pub packet_stays_all : (owner : OwnerView) (actions : List Action) (k : ℕ) → length owner.kept ≡ length owner.calls → is_known_at owner k ≡ true →
    (is_known_at (after_actions owner actions) k ≡ true) × (packet_at (after_actions owner actions) k ≡ packet_at owner k)
packet_stays_all owner [] k places known = (known, refl)
packet_stays_all owner (action ∷ actions) k places known =
    let grown = step owner action places in let now = packet_stays owner k grown known in
    let later = packet_stays_all (after_action owner action) actions k grown.places now.0 in (later.0, later.1 ∙ now.1)

-- some actions and later ones leave what the later ones make of the caller that the first ones leave
pub after_all-append : (owner : OwnerView) (actions later : List Action) →
    after_actions owner (actions ++ later) ≡ after_actions (after_actions owner actions) later
after_all-append owner [] later = refl
after_all-append owner (action ∷ actions) later = after_all-append (after_action owner action) actions later
