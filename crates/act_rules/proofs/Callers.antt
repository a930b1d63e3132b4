-- How many calls a caller has, and that the callers of a cast are callers.
use Rattle.act_rules.proofs.Common.{◌≡◌, ℕ, ◌+◌, ◌<◌, ◌≤◌, Bool, true, false, cond, List, [], ◌∷◌, ◌++◌, length, Some, None, refl, subst, arith, length-append}
use Rattle.act_rules.proofs.Common.{Option, ◌==◌, ◌||◌, find, is_some, nat_lt, nat_le, list_all, list_any, eqb-true, leb-true, ltb-true, or_right, Arg, Method}
use Rattle.act_rules.proofs.Common.{RunItem, Submission, Submit, Run, option_map, needs, copies_held, submit_refusal, limit_refusal, is_earlier, ActorSpec}
use Rattle.act_rules.proofs.Common.{History, contains, under, names, is_caller, calls_of, copies_of, limit_of, next_item, unanswered, submission_refusal}
use Rattle.act_rules.proofs.Common.{refusal_of, after_run, NoCaller, NoSuchActor, NoCopy, TooManyArgs, BadFuture, TooManyCalls, SubmitRefused, ap, cast_of}
use Rattle.act_rules.proofs.Lists.{option_map-none, option_or-none}
use Rattle.act_rules.proofs.Steps.{IsKept}
use Rattle.act_rules.proofs.Ended.{needs-none, under-push}

-- whether some cast names the caller
abbrev pub is_named : List ActorSpec → ℕ → Bool
is_named casts c = list_any (λ (cast : ActorSpec). contains c cast.callers) casts

-- where two histories have the same casts, an actor has the same cast in both
pub cast_of-same : (h g : History) (a : ℕ) → g.casts ≡ h.casts → cast_of a g ≡ cast_of a h
cast_of-same h g a casts = ap (λ l. find (λ (cast : ActorSpec). cast.actor == a) l) casts

-- ---- no caller submits too much

-- no caller has more calls than it may have
abbrev pub AreFew : History → Type 0
AreFew h = (c : ℕ) → length (calls_of c h) ≤ 65536

-- a submission that is accepted has few arguments, and is one of few
pub submit_fits : (h : History) (c a : ℕ) (method : Method) (args : List Arg) → refusal_of h (Submit c a method args) ≡ None →
    (length args ≤ 4) × (length (calls_of c h) < 65536)
submit_fits h c a method args e =
    let count = length (calls_of c h) in let copies = copies_of c a h in
    let whole = option_map-none SubmitRefused (submission_refusal c a args h)
    (needs-none (is_caller c h) NoCaller (option_map SubmitRefused (submission_refusal c a args h)) e).1 in
    let none = option_or-none (submit_refusal copies count args) (limit_refusal (limit_of c a h) (unanswered c a h)) whole in
    let last = needs (nat_lt count 65536) TooManyCalls None in let fourth = needs (list_all (is_earlier count) args) BadFuture last in
    let third = needs (nat_le (length args) 4) TooManyArgs fourth in
    let first = needs-none (is_some copies) NoSuchActor (needs (nat_lt 0 (copies_held copies)) NoCopy third) none in
    let second = needs-none (nat_lt 0 (copies_held copies)) NoCopy third first.1 in
    let few = needs-none (nat_le (length args) 4) TooManyArgs fourth second.1 in
    let earlier = needs-none (list_all (is_earlier count) args) BadFuture last few.1 in
    let room = needs-none (nat_lt count 65536) TooManyCalls None earlier.1 in (leb-true (length args) 4 few.0, ltb-true count 65536 room.0)

one_more_call : (h : History) (c d : ℕ) (call : Submission) → (d ≡ c → length (calls_of c h) < 65536) → length (calls_of c h) ≤ 65536
    → length (under c (h.submitted ++ (d, call) ∷ [])) ≤ 65536
one_more_call h c d call below few = rw (under-push c d h.submitted call, length-append) (go (d == c) refl)
  where
    go : (same : Bool) → (d == c) ≡ same → length (under c h.submitted) + length (cond same (call ∷ []) []) ≤ 65536
    go true e = let less = below (eqb-true d c e) in omega arith
    go false e = omega arith

-- no event gives a caller more
pub few_step : IsKept AreFew
few_step h (Submit d a method args) few accepted c =
    one_more_call h c d (record { actor = a; method = method; args = args })
    (λ same. subst (λ x. length (calls_of x h) < 65536) same (submit_fits h d a method args accepted).1) (few c)
few_step h (Run a d) few accepted c = go (next_item a d h)
  where
    go : (o : Option RunItem) → length (calls_of c (after_run a d h o)) ≤ 65536
    go None = few c
    go (Some item) = few c
few_step h other few accepted c = few c

-- ---- whom a cast names

named_here : (c : ℕ) (cast : ActorSpec) (casts : List ActorSpec) (found : Option ActorSpec) (here : Bool)
    → (names c found ≡ true → list_any (λ (one : ActorSpec). contains c one.callers) casts ≡ true)
    → names c (cond here (Some cast) found) ≡ true → (contains c cast.callers || list_any (λ (one : ActorSpec). contains c one.callers) casts) ≡ true
named_here c cast casts found true rest e = rw e refl
named_here c cast casts found false rest e = or_right (contains c cast.callers) (list_any (λ (one : ActorSpec). contains c one.callers) casts) (rest e)

-- whom the cast of an actor names is named by one of the casts
pub named_among : (c a : ℕ) (casts : List ActorSpec) → names c (find (λ (cast : ActorSpec). cast.actor == a) casts) ≡ true
    → list_any (λ (cast : ActorSpec). contains c cast.callers) casts ≡ true
named_among c a [] e = cc
named_among c a (cast ∷ casts) e = named_here c cast casts (find (λ (one : ActorSpec). one.actor == a) casts) (cast.actor == a) (named_among c a casts) e
