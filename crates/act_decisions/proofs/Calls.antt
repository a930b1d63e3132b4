-- The calls that steps submit, one after the other.
use Rattle.act_decisions.proofs.Common.{◌≡◌, ℕ, ◌+◌, ◌<◌, ◌≤◌, ◌==◌, Bool, true, List, [], ◌∷◌, ◌++◌, length, take, get_or, Some, None, option_map, ◌⊎◌, inl}
use Rattle.act_decisions.proofs.Common.{inr, refl, sym, ap, ◌∙◌, subst, arith, slice_get, if◌then◌else◌, All, IsTrue, flat_map-append, append-nil, take_all}
use Rattle.act_decisions.proofs.Common.{take_more, All-more, slice_get_cases, slice_get-get_or, get_or_from_slice_get, Method, Arg, Submission, Step, Call}
use Rattle.act_decisions.proofs.Common.{call_at, numbered_call, call_of, calls_of_steps, BeginsWith, IsNext, ◌≢◌, drop, suc, get_or-append_seam}
use Rattle.act_decisions.proofs.Common.{take-append_seam, get_or-take, length-append, length-take, length-take-le, take-append-drop, slice_get_within}
use Rattle.act_rules.specs.declared.script.Step.TheVariants as step
use Rattle.act_compare.proofs.Calls.{given, given_back}
use Rattle.std.proofs.lemmas.List.{nil_from_length}

-- ---- one item more of which something holds

module _ {X : Type 0} (P : X → Type 0) (xs : List X) where
  pub each_more : {i : ℕ} {x : X} {r : Bool} → i < length xs → x ≡ get_or xs i x → (IsTrue r → P x) → r ≡ true → All P (take i xs) → All P (take (i + 1) xs)
  each_more {i} {x} within is tells holds front = All-more P xs i x within front (subst P is (tells holds))

  pub each : (n : ℕ) → length xs ≤ n → All P (take n xs) → All P xs
  each n whole front = subst (All P) (take_all n xs whole) front

-- ---- a caller's call

-- the call that the caller has
pub next_is : (calls : List Submission) (k : ℕ) (call : Call) (actor : ℕ) (method : Method) (args : List Arg) → Some call ≡ call_at calls k → call.actor ≡ actor
    → call.method ≡ method → call.args ≡ args → IsNext k actor method args calls
next_is calls k call actor method args at one two three = go (slice_get_cases calls k).1
  where
    found : slice_get calls k ≡ Some (record { actor = actor; method = method; args = args })
    found = sym (given_back calls k (slice_get calls k)) ∙ ap (λ call. option_map given call) (sym at)
        ∙ (λ i. Some (record { actor = one i; method = two i; args = three i }))

    go : ((x : Submission) × (k < length calls) × (slice_get calls k ≡ Some x) × (get_or calls k x ≡ x)) ⊎ ((length calls ≤ k) × (slice_get calls k ≡ None))
        → IsNext k actor method args calls
    go (inl here) = record { within = here.1; call = found }
    go (inr past) = absurd (let e : None ≡ Some (record { actor = actor; method = method; args = args }) = sym past.1 ∙ found in cc)

-- ---- what steps told so far

-- nothing more
pub front_same : (calls : List Submission) (told : ℕ) {more : List Submission} → told ≤ length calls → more ≡ []
    → BeginsWith told (take told calls ++ more) calls
front_same calls told within none = record { within = within; same = sym (ap (λ back. take told calls ++ back) none ∙ append-nil (take told calls)) }

-- one call more
pub front_more : {calls : List Submission} {told : ℕ} (actor : ℕ) (method : Method) (args : List Arg) (more : List Submission) → IsNext told actor method args
    calls → more ≡ record { actor = actor; method = method; args = args } ∷ [] → BeginsWith (told + 1) (take told calls ++ more) calls
front_more {calls} {told} actor method args more next is = let call : Submission = record { actor = actor; method = method; args = args } in let within =
    next.within in record {
      within = omega arith;
      same =
          take_more calls told call next.within
          ∙ ap (λ x. take told calls ++ x ∷ []) (get_or_from_slice_get calls told call call next.call)
          ∙ ap (λ back. take told calls ++ back) (sym is);
    }

-- a step of the caller's own that submits
pub of_own : (c d line actor : ℕ) (method : Method) (args : List Arg) → (d == c) ≡ true
    → call_of c (d, step.Submit actor method args, line) ≡ record { actor = actor; method = method; args = args } ∷ []
of_own c d line actor method args own = ap (λ b. if b then record { actor = actor; method = method; args = args } ∷ [] else []) own

-- one step more
pub steps_more : (c : ℕ) (steps : List (ℕ × Step × ℕ)) (i : ℕ) (s : ℕ × Step × ℕ) → i < length steps → s ≡ get_or steps i s
    → calls_of_steps c (take (i + 1) steps) ≡ calls_of_steps c (take i steps) ++ call_of c s
steps_more c steps i s within is =
    ap (calls_of_steps c) (take_more steps i s within)
    ∙ flat_map-append (call_of c) (take i steps) (get_or steps i s ∷ [])
    ∙ ap (λ back. calls_of_steps c (take i steps) ++ back) (append-nil (call_of c (get_or steps i s)))
    ∙ ap (λ s. calls_of_steps c (take i steps) ++ call_of c s) (sym is)

-- the calls so far are those of the steps so far
pub front_goes_on : (c : ℕ) (steps : List (ℕ × Step × ℕ)) {i told next : ℕ} {s : ℕ × Step × ℕ} {calls : List Submission} → i < length steps
    → s ≡ get_or steps i s → BeginsWith next (take told calls ++ call_of c s) calls → BeginsWith told (calls_of_steps c (take i steps)) calls
    → BeginsWith next (calls_of_steps c (take (i + 1) steps)) calls
front_goes_on c steps {i} {s} within is one so_far = record {
  within = one.within;
  same = one.same ∙ ap (λ front. front ++ call_of c s) so_far.same ∙ sym (steps_more c steps i s within is);
}

-- none is told
pub none_told : (c : ℕ) (steps : List (ℕ × Step × ℕ)) (i told : ℕ) (calls : List Submission) → length steps ≤ i
    → BeginsWith told (calls_of_steps c (take i steps)) calls → told ≡ 0 → calls_of_steps c steps ≡ []
none_told c steps i told calls whole so_far none = sym (ap (calls_of_steps c) (take_all i steps whole)) ∙ sym so_far.same ∙ ap (λ n. take n calls) none

-- all are told
pub all_told : (c : ℕ) (steps : List (ℕ × Step × ℕ)) (i told : ℕ) (calls : List Submission) → length steps ≤ i
    → BeginsWith told (calls_of_steps c (take i steps)) calls → told ≡ length calls → calls ≡ calls_of_steps c steps
all_told c steps i told calls whole so_far all = sym (take_all told calls (omega arith)) ∙ so_far.same ∙ ap (calls_of_steps c) (take_all i steps whole)

-- ---- the caller's calls, exactly

-- a call that the caller has
pub found_next : (calls : List Submission) (k actor : ℕ) (method : Method) (args : List Arg) → IsNext k actor method args calls
    → call_at calls k ≡ Some (numbered_call calls k (record { actor = actor; method = method; args = args }))
found_next calls k actor method args next = ap (option_map (numbered_call calls k)) next.call

-- a list that begins with one more has it there
front_at : {X : Type 0} (front : List X) (x : X) (more xs : List X) (n : ℕ) → take n xs ≡ front ++ x ∷ more → slice_get xs (length front) ≡ Some x
front_at front x more xs n is =
    let long : length (take n xs) ≡ length front + suc (length more) = ap length is ∙ length-append front (x ∷ more) in
    let cut = length-take n xs in let below : length front < n = omega arith in let within : length front < length xs = omega arith in
    slice_get-get_or xs (length front) x within
    ∙ ap Some (sym (get_or-take n xs (length front) x below) ∙ ap (λ l. get_or l (length front) x) is ∙ get_or-append_seam front x more x)

-- the call that comes next is one that the caller has
pub next_from : (calls : List Submission) (told next actor : ℕ) (method : Method) (args : List Arg) → told ≤ length calls
    → BeginsWith next (take told calls ++ record { actor = actor; method = method; args = args } ∷ []) calls → IsNext told actor method args calls
next_from calls told next actor method args within begins =
    let call : Submission = record { actor = actor; method = method; args = args } in
    let at = front_at (take told calls) call [] calls next begins.same in
    let here : slice_get calls told ≡ Some call = subst (λ n. slice_get calls n ≡ Some call) (length-take-le told calls within) at in
    record { within = slice_get_within calls told call here; call = here }

-- the calls of the steps up to one, its own, and those after it
calls_around : (c : ℕ) (steps : List (ℕ × Step × ℕ)) (i : ℕ) (s : ℕ × Step × ℕ) → i < length steps → s ≡ get_or steps i s
    → calls_of_steps c steps ≡ (calls_of_steps c (take i steps) ++ call_of c s) ++ calls_of_steps c (drop (i + 1) steps)
calls_around c steps i s within is =
    ap (calls_of_steps c) (sym (take-append-drop (i + 1) steps))
    ∙ flat_map-append (call_of c) (take (i + 1) steps) (drop (i + 1) steps)
    ∙ ap (λ front. front ++ calls_of_steps c (drop (i + 1) steps)) (steps_more c steps i s within is)

-- where no step submits, this one doesn't
pub submits_none : (c : ℕ) (steps : List (ℕ × Step × ℕ)) {i : ℕ} {s : ℕ × Step × ℕ} → i < length steps → s ≡ get_or steps i s → calls_of_steps c steps ≡ []
    → call_of c s ≡ []
submits_none c steps {i} {s} within is none =
    let front = calls_of_steps c (take i steps) in let more = calls_of_steps c (drop (i + 1) steps) in
    let empty : length ((front ++ call_of c s) ++ more) ≡ 0 = ap length (sym (calls_around c steps i s within is) ∙ none) in
    let one = length-append (front ++ call_of c s) more in let two = length-append front (call_of c s) in nil_from_length (call_of c s) (omega arith)

-- where the caller has the calls that steps tell, it has those of one step more
pub begins_more : (c : ℕ) (steps : List (ℕ × Step × ℕ)) {i told : ℕ} {s : ℕ × Step × ℕ} {calls : List Submission} → i < length steps → s ≡ get_or steps i s
    → BeginsWith told (calls_of_steps c (take i steps)) calls
    → (calls_of_steps c steps ≢ [] → calls ≡ calls_of_steps c steps) → (next : ℕ) × BeginsWith next (take told calls ++ call_of c s) calls
begins_more c steps {i} {told} {s} {calls} within is so_far has = go (calls_of_steps c steps) refl
  where
    front : List Submission
    front = calls_of_steps c (take i steps)

    go : (all : List Submission) → calls_of_steps c steps ≡ all → (next : ℕ) × BeginsWith next (take told calls ++ call_of c s) calls
    go [] none = (told, front_same calls told so_far.within (submits_none c steps within is none))
    go (x ∷ all) some =
        let own = call_of c s in let more = calls_of_steps c (drop (i + 1) steps) in
        let whole : calls ≡ (front ++ own) ++ more = has (λ none. cc (none, some)) ∙ calls_around c steps i s within is in
        let long : length calls ≡ length (front ++ own) + length more = ap length whole ∙ length-append (front ++ own) more in (
          length (front ++ own),
          record {
            within = omega arith;
            same =
                ap (λ l. take (length (front ++ own)) l) whole
                ∙ take-append_seam (front ++ own) more
                ∙ ap (λ l. l ++ own) (sym so_far.same);
          },
        )

-- a caller whom the history doesn't name has no calls
pub nobodys : (c : ℕ) (steps : List (ℕ × Step × ℕ)) {calls : List Submission} → calls ≡ [] → (calls_of_steps c steps ≢ [] → calls ≡ calls_of_steps c steps)
    → calls_of_steps c steps ≡ []
nobodys c steps none has = go (calls_of_steps c steps) refl
  where
    go : (all : List Submission) → calls_of_steps c steps ≡ all → calls_of_steps c steps ≡ []
    go [] is = is
    go (x ∷ all) is = absurd (let e : [] ≡ x ∷ all = sym none ∙ has (λ none. cc (none, is)) ∙ is in cc)
