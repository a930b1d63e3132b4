-- A caller's calls without an answer never are more than their actor's limit.
use Rattle.act_rules.proofs.Common.{◌≡◌, ℕ, ◌+◌, ◌<◌, ◌≤◌, Bool, true, false, cond, List, [], ◌∷◌, ◌++◌, length, Some, None, refl, ap, sym, ◌∙◌, subst, arith}
use Rattle.act_rules.proofs.Common.{length-append, Option, ◌==◌, filter, option_map, is_none, nat_lt, eqb-true, ltb-true, append-nil, filter-append, Arg}
use Rattle.act_rules.proofs.Common.{Method, RunItem, Event, Submit, Run, PendingLimit, Submission, Answer, calls_to, kept_at, submit_refusal, limit_refusal}
use Rattle.act_rules.proofs.Common.{ActorSpec, History, opening, under, is_caller, calls_of, copies_of, limit_of, kept_of, next_item, unanswered}
use Rattle.act_rules.proofs.Common.{submission_refusal, refusal_of, add_event, after_run, after_all, SubmitRefused, NoCaller, ◌≢◌}
use Rattle.act_rules.specs.Submissions.{IsLimit}
use Rattle.act_rules.proofs.Steps.{IsKept, after_all_keeps}
use Rattle.act_rules.proofs.Ended.{needs-none, under-push}
use Rattle.act_rules.proofs.Growth.{Grows, added_grows}
use Rattle.act_rules.proofs.Posts.{PostsAreSound, posts_step}
use Rattle.act_rules.proofs.Letters.{kept_extends}
use Rattle.act_rules.proofs.Settling.{Extends}
use Rattle.act_rules.proofs.Retired.{calls_to-push}
use Rattle.act_rules.proofs.Lists.{option_map-none, option_or-none_second}

-- ---- limits

-- a limit lets a call pend
pub limit_above : (limit : Option ℕ) → IsLimit limit → limit ≢ Some 0
limit_above None is same = absurd (cc same)
limit_above (Some n) is same = let none : n ≡ 0 = cc same in absurd (omega (arith, is.0, none))

-- ---- what pends

-- whether a call, with its future, has no answer among those kept
abbrev pub has_none : List (Option Answer) → ℕ × Submission → Bool
has_none kept call = is_none (kept_at kept call.0)

-- of the same calls no more pend where more is answered
pub fewer : (before after : List (Option Answer)) (calls : List (ℕ × Submission)) → Extends before after →
    length (filter (has_none after) calls) ≤ length (filter (has_none before) calls)
fewer before after [] extends = omega arith
fewer before after (call ∷ calls) extends = go (kept_at before call.0) (kept_at after call.0) refl refl (fewer before after calls extends)
  where
    go : (old new : Option Answer) → kept_at before call.0 ≡ old → kept_at after call.0 ≡ new → length (filter (has_none after) calls) ≤ length
        (filter (has_none before) calls) → length (cond (is_none new) (call ∷ filter (has_none after) calls) (filter (has_none after) calls)) ≤ length
        (cond (is_none old) (call ∷ filter (has_none before) calls) (filter (has_none before) calls))
    go None None was is rest = omega arith
    go None (Some answer) was is rest = omega arith
    go (Some answer) None was is rest = let bad : Some answer ≡ None = sym (extends call.0 answer was) ∙ is in cc
    go (Some answer) (Some later) was is rest = rest

pending_after : (h : History) {g : History} (c a : ℕ) → Grows h g → PostsAreSound h →
    unanswered c a g ≤ length (filter (has_none (kept_of c h)) (calls_to a (calls_of c g)))
pending_after h {g} c a grows sound = fewer (kept_of c h) (kept_of c g) (calls_to a (calls_of c g)) (kept_extends c grows sound)

-- ---- each event

abbrev pub AreWithin : History → Type 0
AreWithin h = (c a limit : ℕ) → limit_of c a h ≡ Some limit → unanswered c a h ≤ limit

-- where the casts are the same, so is the limit of a caller at an actor
pub limit_of-same : (h g : History) (c a : ℕ) → g.casts ≡ h.casts → limit_of c a g ≡ limit_of c a h
limit_of-same h g c a casts = ap (λ l. limit_of c a (opening l)) casts

-- where no call is submitted
calm : (h : History) {g : History} → Grows h g → PostsAreSound h → g.submitted ≡ h.submitted → AreWithin h → AreWithin g
calm h {g} grows sound same within c a limit is =
    let before = within c a limit (sym (limit_of-same h g c a grows.casts) ∙ is) in
    let after : unanswered c a g ≤ unanswered c a h =
    subst (λ calls. unanswered c a g ≤ length (filter (has_none (kept_of c h)) (calls_to a calls))) (ap (under c) same) (pending_after h c a grows sound) in
    omega arith

-- a submission is accepted below the limit
below : (h : History) (c a limit : ℕ) (method : Method) (args : List Arg) → refusal_of h (Submit c a method args) ≡ None → limit_of c a h ≡ Some limit →
    unanswered c a h < limit
below h c a limit method args accepted is =
    let whole = option_map-none SubmitRefused (submission_refusal c a args h)
    (needs-none (is_caller c h) NoCaller (option_map SubmitRefused (submission_refusal c a args h)) accepted).1 in
    let free =
    option_or-none_second (submit_refusal (copies_of c a h) (length (calls_of c h)) args) (limit_refusal (limit_of c a h) (unanswered c a h)) whole in
    let fits : limit_refusal (Some limit) (unanswered c a h) ≡ None = subst (λ o. limit_refusal o (unanswered c a h) ≡ None) is free in
    ltb-true (unanswered c a h) limit (needs-none (nat_lt (unanswered c a h) limit) PendingLimit None fits).0

-- one call more
grown : (h : History) (d b : ℕ) (method : Method) (args : List Arg) → PostsAreSound h → AreWithin h → refusal_of h (Submit d b method args) ≡ None →
    AreWithin (add_event h (Submit d b method args))
grown h d b method args sound within accepted c a limit is =
    let after = pending_after h c a (added_grows h (Submit d b method args)) sound in
    let few = subst (λ calls. length (filter (has_none (kept_of c h)) (calls_to a calls)) ≤ limit) (sym (under-push c d h.submitted call)) (go (d == c) refl) in
    omega (arith, after, few)
  where
    call : Submission
    call = record { actor = b; method = method; args = args }

    one : (b : Bool) (x : ℕ × Submission) → length {A = ℕ × Submission} (cond b (x ∷ []) []) ≤ 1
    one true x = omega arith
    one false x = omega arith

    inner : (to : Bool) → (b == a) ≡ to → d ≡ c →
        length (filter (has_none (kept_of c h)) (calls_to a (calls_of c h) ++ cond to ((0 + length (calls_of c h), call) ∷ []) [])) ≤ limit
    inner true e caller =
        let room : unanswered c a h < limit = subst (λ x. limit_of x a h ≡ Some limit → unanswered x a h < limit) caller
        (subst (λ y. limit_of d y h ≡ Some limit → unanswered d y h < limit) (eqb-true b a e) (below h d b limit method args accepted)) is in
        let last = one (has_none (kept_of c h) (0 + length (calls_of c h), call)) (0 + length (calls_of c h), call) in
        rw (filter-append (has_none (kept_of c h)) (calls_to a (calls_of c h)) ((0 + length (calls_of c h), call) ∷ []), length-append)
        (omega (arith, room, last))
    inner false e caller = rw (append-nil (calls_to a (calls_of c h))) (within c a limit is)

    go : (same : Bool) → (d == c) ≡ same → length (filter (has_none (kept_of c h)) (calls_to a (calls_of c h ++ cond same (call ∷ []) []))) ≤ limit
    go true e = rw (calls_to-push a (calls_of c h) call) (inner (b == a) refl (eqb-true d c e))
    go false e = rw (append-nil (calls_of c h)) (within c a limit is)

within_step : (h : History) (event : Event) → PostsAreSound h → AreWithin h → refusal_of h event ≡ None → AreWithin (add_event h event)
within_step h (Submit c a method args) sound within accepted = grown h c a method args sound within accepted
within_step h (Run a c) sound within accepted = calm h (added_grows h (Run a c)) sound (go (next_item a c h)) within
  where
    go : (o : Option RunItem) → (after_run a c h o).submitted ≡ h.submitted
    go None = refl
    go (Some item) = refl
within_step h event sound within accepted = calm h (added_grows h event) sound refl within

-- what a step relies on, and what it keeps
record AreSoundWithin (h : History) : Type 0 where
  sound : PostsAreSound h
  within : AreWithin h

limits_step : IsKept AreSoundWithin
limits_step h event limits accepted = record {
  sound = posts_step h event limits.sound accepted;
  within = within_step h event limits.sound limits.within accepted;
}

pub world_within : (casts : List ActorSpec) (events : List Event) → AreWithin (after_all (opening casts) events)
world_within casts events = (after_all_keeps AreSoundWithin limits_step (opening casts) events (record {
  sound = record { posts = tt; collected = tt };
  within = λ c a limit is. omega arith;
})).within
