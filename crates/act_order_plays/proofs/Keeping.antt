-- Which collected posts answer a call.
use Rattle.act_order_plays.proofs.Common.{◌≡◌, ℕ, ◌<◌, ◌==◌, ◌&&◌, ◌⊎◌, inl, inr, true, List, [], ◌∷◌, ◌++◌, length, Option, Some, Err, zero, All_at, slice_get}
use Rattle.act_order_plays.proofs.Common.{refl, sym, ap, subst, ◌∙◌, filter_map, option_map, option_and_then, AllByRecursion, eqb-true, and_parts}
use Rattle.act_order_plays.proofs.Common.{slice_get-map, ActorDied, OwnAt, Post, Answer, answer_at, ActorSpec, History, opening_of, calls_of, runs_of}
use Rattle.act_order_plays.proofs.Common.{is_item_of, answer_of, answer_in, slice_get_front, kept_by, kept_at_is, Happening, Submitted, Ran, Told, call_of}
use Rattle.act_order_plays.proofs.Common.{kept_for, answers, calls_by, future_of, cond_gives, slice_get_within, element, arith, ReplyPost, DeathPost, IsIn}
use Rattle.act_order_plays.proofs.Lists.{has_filter_map, filter_map_has, has_last}
use Rattle.act_order_plays.proofs.Fronts.{subs_of, rans_of, subs_of_has, has_rans_of, call_at, calls_differ}
use Rattle.act_order_plays.proofs.Causes.{Good}
use Rattle.act_order_plays.proofs.Casts.{cast_of_is}
use Rattle.act_order_plays.proofs.Answering.{Suits, IsTaken, item_of_call, opening_ours, answer_fits}
use Rattle.act_order_plays.proofs.Stands.{sub_of, Shape, IsDeath, IsRight, runs_are, calls_are}

-- ---- the first answer

-- it comes from a post
pub first_from : {P : Post → Type 0} (f : Post → Option Answer) (posts : List Post) (answer : Answer) → AllByRecursion P posts →
    slice_get (filter_map f posts) 0 ≡ Some answer → (post : Post) × P post × (f post ≡ Some answer)
first_from {P = P} f posts answer all e = let from = filter_map_has f posts (record { place = zero; at = e }) in
    (from.0, All_at P posts from.1.place all from.1.at, from.2)

-- where a post answers, there is one
pub first_some : (f : Post → Option Answer) (posts : List Post) (post : Post) (answer : Answer) → f post ≡ Some answer →
    (first : Answer) × (slice_get (filter_map f (posts ++ post ∷ [])) 0 ≡ Some first)
first_some f posts post answer is =
    let has = has_filter_map f (posts ++ post ∷ []) answer (has_last posts post) is in
    let within = slice_get_within (filter_map f (posts ++ post ∷ [])) has.place answer has.at in
    element (filter_map f (posts ++ post ∷ [])) 0 (omega (arith, within))

-- ---- a call that was submitted

-- it stands at its future
pub sub_at : (told : Told) {before : List Happening} (n : ℕ) → Good told before → IsIn before (Submitted n) →
    slice_get (subs_of told before (call_of told n).caller) (future_of told n) ≡ Some n
sub_at told {before} n good has =
    let c = (call_of told n).caller in let there = subs_of_has told before n {c = c} has refl in
    let same : there.place ≡ future_of told n = calls_differ told c there.place (future_of told n) n
    (slice_get_front (subs_of told before c) (calls_by told c) there.place (good.calls c) there.at) (call_at told n (good.happened (Submitted n) has)) in
    subst (λ k. slice_get (subs_of told before c) k ≡ Some n) same there.at

-- a call that was submitted stands among its caller's in the history, at its future
pub call_stands : {told : Told} {before : List Happening} (h : History) (n : ℕ) → Good told before → Shape told before h → IsIn before (Submitted n) →
    slice_get (calls_of (call_of told n).caller h) (future_of told n) ≡ Some (sub_of told n)
call_stands {told} {before} h n good shape has =
    let c = (call_of told n).caller in
    ap (λ calls. slice_get calls (future_of told n)) (calls_are told before h c shape)
    ∙ slice_get-map (sub_of told) (subs_of told before c) (future_of told n)
    ∙ ap (option_map (sub_of told)) (sub_at told n good has)

-- what its caller keeps for it is the first answer
abbrev pub answers_to : Told → ℕ → History → Post → Option Answer
answers_to told n h = answer_in h (call_of told n).caller (future_of told n) (call_of told n).actor

pub kept_is : (told : Told) {before : List Happening} (h : History) (n : ℕ) → Good told before → Shape told before h → IsIn before (Submitted n) →
    kept_for told n h ≡ slice_get (filter_map (answers_to told n h) h.collected) 0
kept_is told {before} h n good shape has =
    kept_at_is h (call_of told n).caller (future_of told n)
    ∙ ap (kept_by h (call_of told n).caller (future_of told n)) (call_stands h n good shape has)

-- ---- a call that a caller's number and future name

-- two calls of one caller with one future are the same
pub same_call : (told : Told) (m n : ℕ) → m < length told.calls → n < length told.calls → (call_of told m).caller ≡ (call_of told n).caller →
    future_of told m ≡ future_of told n → m ≡ n
same_call told m n first second caller future =
    let one : slice_get (calls_by told (call_of told n).caller) (future_of told n) ≡ Some m =
    subst (λ k. slice_get (calls_by told (call_of told n).caller) k ≡ Some m) future
    (subst (λ c. slice_get (calls_by told c) (future_of told m) ≡ Some m) caller (call_at told m first)) in
    let two = call_at told n second in cc

pub ran_submitted : {told : Told} {before : List Happening} (n : ℕ) → Good told before → IsIn before (Ran n) → IsIn before (Submitted n)
ran_submitted n good has = good.closed (Ran n) (Submitted n) has refl

-- ---- what a right post answers

pub opening_is : (told : Told) {before : List Happening} (h : History) (a : ℕ) → Shape told before h → a < length told.actors →
    opening_of a h ≡ Some (OwnAt answers)
opening_is told h a shape lt = ap (option_map (λ (cast : ActorSpec). cast.opening)) (cast_of_is told h shape.casts lt)

-- the reply of a call that ran, or a death at its actor
abbrev pub Gives : Told → List Happening → ℕ → Answer → Type 0
Gives told before n answer = (IsIn before (Ran n) × IsTaken (call_of told n).outcome × Suits (call_of told n).outcome (Some answer))
    ⊎ (IsDeath told before (call_of told n).actor × (answer ≡ Err ActorDied))

pub right_gives : (told : Told) (before : List Happening) (h : History) (n : ℕ) (post : Post) (answer : Answer) → Good told before → Shape told before h →
    n < length told.calls → (call_of told n).actor < length told.actors → IsRight told before post → answers_to told n h post ≡ Some answer →
    Gives told before n answer
right_gives told before h n (DeathPost d a) answer good shape lt actor right e =
    let parts = cond_gives _ _ e in
    let tests = and_parts (d == (call_of told n).caller) (a == (call_of told n).actor) parts.0 in
    let died : Some (Err ActorDied) ≡ Some answer = parts.1 in let same : Err ActorDied ≡ answer = cc in
    inr (subst (IsDeath told before) (eqb-true a (call_of told n).actor tests.1) right, sym same)
right_gives told before h n (ReplyPost d a place) answer good shape lt actor right e =
    let m = right.0 in let items = runs_are a shape in
    let item = item_of_call told (runs_of a h) (rans_of told before a) place m items right.1 in
    let parts = cond_gives ((d == (call_of told n).caller) && is_item_of (call_of told n).caller (future_of told n) (slice_get (runs_of a h) place))
    (answer_of a place h) e in
    let tests = and_parts (d == (call_of told n).caller) (is_item_of (call_of told n).caller (future_of told n) (slice_get (runs_of a h) place)) parts.0 in
    let mine = and_parts (item.0.caller == (call_of told n).caller) (item.0.future == future_of told n)
    (subst (λ o. is_item_of (call_of told n).caller (future_of told n) o ≡ true) item.1 tests.1) in
    let caller : (call_of told m).caller ≡ (call_of told n).caller = sym item.2.caller ∙ eqb-true item.0.caller (call_of told n).caller mine.0 in
    let future : future_of told m ≡ future_of told n = sym item.2.future ∙ eqb-true item.0.future (future_of told n) mine.1 in
    let ran = has_rans_of told before m a (record { place = place; at = right.1 }) in
    let same : m ≡ n = same_call told m n (good.happened (Submitted m) (ran_submitted m good ran.0)) lt caller future in
    let here : a < length told.actors = subst (λ b. b < length told.actors) (ap (λ k. (call_of told k).actor) (sym same) ∙ ran.1) actor in
    let opened = opening_is told h a shape here in
    let gives : option_and_then (λ state. answer_at state (runs_of a h) place) (Some (OwnAt answers)) ≡ Some answer =
    subst (λ o. option_and_then (λ state. answer_at state (runs_of a h) place) o ≡ Some answer) opened parts.1 in
    let fits = answer_fits told (OwnAt answers) (runs_of a h) (rans_of told before a) place m opening_ours items right.1 gives in
    inl (subst (λ k. IsIn before (Ran k) × IsTaken (call_of told k).outcome × Suits (call_of told k).outcome (Some answer)) same (ran.0, right.2, fits right.2))

-- what is kept for a call that was submitted
pub kept_gives : {told : Told} {before : List Happening} (h : History) (n : ℕ) {answer : Answer} → Good told before → Shape told before h →
    IsIn before (Submitted n) → (call_of told n).actor < length told.actors → kept_for told n h ≡ Some answer → Gives told before n answer
kept_gives {told} {before} h n {answer} good shape has actor e =
    let from =
    first_from {P = IsRight told before} (answers_to told n h) h.collected answer shape.collected (sym (kept_is told h n good shape has) ∙ e) in
    right_gives told before h n from.0 answer good shape (good.happened (Submitted n) has) actor from.1 from.2
