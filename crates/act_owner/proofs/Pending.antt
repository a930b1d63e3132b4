-- How many calls wait for an answer while a caller actions.
use Rattle.act_owner.proofs.Common.{◌≡◌, ℕ, zero, suc, ◌+◌, ◌≤◌, ◌==◌, ◌&&◌, Bool, true, false, not, cond, List, [], ◌∷◌, ◌++◌, length, map, count_by, nat_lt}
use Rattle.act_owner.proofs.Common.{Option, Some, None, is_some, Err, refl, sym, ◌∙◌, ap, subst, arith, slice_set, zip, eqb-true, ltb-true, sum_by-cons}
use Rattle.act_owner.proofs.Common.{ActorDied, Method, Arg, Reply, Answered, Death, Submission, SubmitRefusal, PendingLimit, Answer, needs, submit_refusal}
use Rattle.act_owner.proofs.Common.{limit_refusal, option_or-none_second, copies_in, Collected, First, OwnerView, owner_limit, pending, refusal_to_submit}
use Rattle.act_owner.proofs.Common.{with_submission, with_death, after_reply_that, collected_reply, answer_of_new_call, is_known_dead, call_waits_for}
use Rattle.act_owner.proofs.Common.{answer_after_death, Action, Submitted, Noticed, after_action, after_actions, IsAccepted, AreAccepted}
use Rattle.act_owner.proofs.Life.{step}

abbrev waiting : ℕ → List Submission → List (Option Answer) → ℕ
waiting a calls kept = count_by (call_waits_for a) (zip calls kept)

counted : {X : Type 0} (p : X → Bool) (x : X) (xs : List X) → count_by p (x ∷ xs) ≡ cond (p x) 1 0 + count_by p xs
counted p x xs = sum_by-cons (λ y. cond (p y) 1 0) x xs

-- a call that doesn't wait makes no more, and leaves the others
no_more : (now before : Bool) {m n all_now all_before : ℕ} → all_now ≡ cond now 1 0 + m → all_before ≡ cond before 1 0 + n → (now ≡ true → before ≡ true) →
    m ≤ n → all_now ≤ all_before
no_more true true one two keeps le = omega arith
no_more true false one two keeps le = absurd (cc (keeps refl))
no_more false true one two keeps le = omega arith
no_more false false one two keeps le = omega arith

answered_rests : (to before : Bool) → (to && false) ≡ true → (to && before) ≡ true
answered_rests true before e = cc
answered_rests false before e = cc

-- an answer more leaves no more of them
fewer_set : (a : ℕ) (calls : List Submission) (kept : List (Option Answer)) (k : ℕ) (answer : Answer) →
    waiting a calls (slice_set kept k (Some answer)) ≤ waiting a calls kept
fewer_set a [] kept k answer = let none : waiting a [] (slice_set kept k (Some answer)) ≡ 0 = refl in omega (arith, none)
fewer_set a (call ∷ calls) [] k answer = let none : waiting a (call ∷ calls) (slice_set {A = Option Answer} [] k (Some answer)) ≡ 0 = refl in
    omega (arith, none)
fewer_set a (call ∷ calls) (x ∷ kept) zero answer =
    no_more (call_waits_for a (call, Some answer)) (call_waits_for a (call, x)) {m = waiting a calls kept} {n = waiting a calls kept}
    (counted (call_waits_for a) (call, Some answer) (zip calls kept)) (counted (call_waits_for a) (call, x) (zip calls kept))
    (answered_rests (call.actor == a) (not (is_some x))) (omega arith)
fewer_set a (call ∷ calls) (x ∷ kept) (suc k) answer =
    no_more (call_waits_for a (call, x)) (call_waits_for a (call, x))
    (counted (call_waits_for a) (call, x) (zip calls (slice_set kept k (Some answer)))) (counted (call_waits_for a) (call, x) (zip calls kept))
    (λ e. e) (fewer_set a calls kept k answer)

died_rests : (to dies before : Bool) (x : Option Answer) → not (is_some x) ≡ before → (to && not (is_some (cond dies (Some (Err ActorDied)) x))) ≡ true →
    (to && before) ≡ true
died_rests true true before x is e = cc
died_rests true false before x is e = sym is ∙ e
died_rests false dies before x is e = cc

-- nor does a death
fewer_died : (a b : ℕ) (calls : List Submission) (kept : List (Option Answer)) →
    waiting a calls (map (answer_after_death b) (zip calls kept)) ≤ waiting a calls kept
fewer_died a b [] kept = let none : waiting a [] (map (answer_after_death b) (zip [] kept)) ≡ 0 = refl in omega (arith, none)
fewer_died a b (call ∷ calls) [] = let none : waiting a (call ∷ calls) (map (answer_after_death b) (zip (call ∷ calls) [])) ≡ 0 = refl in omega (arith, none)
fewer_died a b (call ∷ calls) (x ∷ kept) =
    no_more (call_waits_for a (call, answer_after_death b (call, x))) (call_waits_for a (call, x))
    (counted (call_waits_for a) (call, answer_after_death b (call, x)) (zip calls (map (answer_after_death b) (zip calls kept))))
    (counted (call_waits_for a) (call, x) (zip calls kept))
    (died_rests (call.actor == a) (call_waits_for b (call, x)) (not (is_some x)) x refl) (fewer_died a b calls kept)

-- a call more
one_more : (a : ℕ) (calls : List Submission) (kept : List (Option Answer)) (call : Submission) (answer : Option Answer) → length kept ≡ length calls
    → waiting a (calls ++ call ∷ []) (kept ++ answer ∷ []) ≡ waiting a calls kept + cond (call_waits_for a (call, answer)) 1 0
one_more a [] [] call answer places =
    let one : waiting a ([] ++ call ∷ []) ([] ++ answer ∷ []) ≡ cond (call_waits_for a (call, answer)) 1 0 + 0 = counted (call_waits_for a) (call, answer) [] in
    let none : waiting a [] [] ≡ 0 = refl in omega (arith, one, none)
one_more a [] (x ∷ kept) call answer places = absurd (omega (arith, places))
one_more a (other ∷ calls) [] call answer places = absurd (omega (arith, places))
one_more a (other ∷ calls) (x ∷ kept) call answer places =
    let rest : waiting a (calls ++ call ∷ []) (kept ++ answer ∷ []) ≡ waiting a calls kept + cond (call_waits_for a (call, answer)) 1 0
    = one_more a calls kept call answer (omega (arith, places)) in
    let longer = counted (call_waits_for a) (other, x) (zip (calls ++ call ∷ []) (kept ++ answer ∷ [])) in
    let shorter = counted (call_waits_for a) (other, x) (zip calls kept) in omega (arith, rest, longer, shorter)

-- ---- a limit

-- what is pending is no more than the limit says
abbrev pub IsUnder : ℕ → ℕ → OwnerView → Type 0
IsUnder a limit owner = owner_limit owner a ≡ Some limit → pending owner a ≤ limit

-- where the limit refuses nothing, there is room for one more
has_room : (limit n : ℕ) → limit_refusal (Some limit) n ≡ None → n + 1 ≤ limit
has_room limit n e = go (nat_lt n limit) refl e
  where
    go : (b : Bool) → nat_lt n limit ≡ b → needs {R = SubmitRefusal} b PendingLimit None ≡ None → n + 1 ≤ limit
    go true is e = let less = ltb-true n limit is in omega (arith, less)
    go false is e = cc

submitted_under : (owner : OwnerView) (a limit b : ℕ) (method : Method) (args : List Arg) → length owner.kept ≡ length owner.calls →
    refusal_to_submit owner b args ≡ None → IsUnder a limit owner → IsUnder a limit (with_submission owner b method args)
submitted_under owner a limit b method args places accepted under set =
    let call : Submission = record { actor = b; method = method; args = args } in
    let more = one_more a owner.calls owner.kept call (answer_of_new_call (is_known_dead owner b)) places in go (b == a) refl more
  where
    go : (to : Bool) → (b == a) ≡ to → pending (with_submission owner b method args) a ≡ pending owner a + cond
        (to && not (is_some (answer_of_new_call (is_known_dead owner b)))) 1 0 → pending (with_submission owner b method args) a ≤ limit
    go true e more =
        let same : b ≡ a = eqb-true b a e in
        let free : limit_refusal (owner_limit owner b) (pending owner b) ≡ None = option_or-none_second
        (submit_refusal (copies_in b owner.handles) (length owner.calls) args) (limit_refusal (owner_limit owner b) (pending owner b)) accepted in
        let here : limit_refusal (owner_limit owner a) (pending owner a) ≡ None =
        subst (λ x. limit_refusal (owner_limit owner x) (pending owner x) ≡ None) same free in
        let room = has_room limit (pending owner a) (ap (λ l. limit_refusal l (pending owner a)) (sym set) ∙ here) in
        at_most (not (is_some (answer_of_new_call (is_known_dead owner b)))) more room
      where
        at_most : (waits : Bool) → pending (with_submission owner b method args) a ≡ pending owner a + cond waits 1 0 → pending owner a + 1 ≤ limit →
            pending (with_submission owner b method args) a ≤ limit
        at_most true more room = omega (arith, more, room)
        at_most false more room = omega (arith, more, room)
    go false e more = let before = under set in omega (arith, more, before)

answered_under : (owner : OwnerView) (a limit : ℕ) (reply : Reply) (told : Collected) → IsUnder a limit owner →
    IsUnder a limit (after_reply_that told owner reply)
answered_under owner a limit reply (First k) under set = let before = under set in let fewer = fewer_set a owner.calls owner.kept k reply.answer in
    omega (arith, before, fewer)
answered_under owner a limit reply told under set = under set

died_under : (owner : OwnerView) (a limit b : ℕ) (listed : Bool) → IsUnder a limit owner → IsUnder a limit (cond listed (with_death owner b) owner)
died_under owner a limit b true under set = let before = under set in let fewer = fewer_died a b owner.calls owner.kept in omega (arith, before, fewer)
died_under owner a limit b false under set = under set

under_step : (owner : OwnerView) (a limit : ℕ) (action : Action) → length owner.kept ≡ length owner.calls → IsAccepted owner action → IsUnder a limit owner →
    IsUnder a limit (after_action owner action)
under_step owner a limit (Submitted b method args) places accepted under = submitted_under owner a limit b method args places accepted under
under_step owner a limit (Noticed (Answered reply)) places accepted under = answered_under owner a limit reply (collected_reply owner reply) under
under_step owner a limit (Noticed (Death b)) places accepted under = died_under owner a limit b (is_some (copies_in b owner.handles)) under
under_step owner a limit action places accepted under = under

pub under_all : (owner : OwnerView) (a limit : ℕ) (actions : List Action) → length owner.kept ≡ length owner.calls → AreAccepted owner actions →
    IsUnder a limit owner → IsUnder a limit (after_actions owner actions)
under_all owner a limit [] places accepted under = under
under_all owner a limit (action ∷ actions) places accepted under =
    under_all (after_action owner action) a limit actions (step owner action places).places accepted.1 (under_step owner a limit action places accepted.0 under)
