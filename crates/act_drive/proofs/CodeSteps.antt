-- The steps of a caller's own code: what is told of each, and what it does.
use Rattle.act_drive.proofs.Common.{arith, ◌<◌, ◌≡◌, ◌≢◌, ℕ, zero, suc, Bool, true, false, nat_lt, List, [], ◌∷◌, ◌++◌, length, map, take, get_or, All, Option}
use Rattle.act_drive.proofs.Common.{Some, None, Ok, Err, Result, is_some, refl, sym, ◌∙◌, ap, subst, inl, inr, ◌⊎◌, list_all, ◌+◌, unwrap_or, IfErr, OnErr}
use Rattle.act_drive.proofs.Common.{if◌then◌else◌, leb_tells, map-append, take_more, All-push, All-weaker, list_all_at, IsErrAnd, option_or, Method, Arg}
use Rattle.act_drive.proofs.Common.{Submission, SubmitRefusal, PendingLimit, NoMemory, Step, Submit, Copy, Release, Kill, Await, Answer, needs, kept_at}
use Rattle.act_drive.proofs.Common.{submit_refusal, limit_refusal, copy_refusal, handle_refusal, done_by, nothing_done, option_or-none, copies_in, with_copy}
use Rattle.act_drive.proofs.Common.{copies-with_number, OwnerView, refusal_to_submit, owner_limit, pending, with_submission, with_handles, CallerLines, Driver}
use Rattle.act_drive.proofs.Common.{CallerPasses, bare_post, bare_ask, Stays, Waits, FollowsBy, KeptOn, SessionView, session_view, call_refusal, use_refusal}
use Rattle.act_drive.proofs.Common.{IsLater, DoesMore, OnlyHears, Submits, Does, append_assoc}
use Rattle.act_drive.proofs.PlanSteps.{follows_waits, submit_follows, copy_follows, await_follows}

-- ---- answers

kept_before : (xs ys : List (Option Answer)) (k : ℕ) {answer : Answer} → kept_at xs k ≡ Some answer → kept_at (xs ++ ys) k ≡ Some answer
kept_before [] ys k has = absurd (cc has)
kept_before (x ∷ xs) ys zero has = has
kept_before (x ∷ xs) ys (suc k) {answer} has = kept_before xs ys k has

pub kept_still : (before later : List (Option Answer)) (k : ℕ) → KeptOn before later → is_some (kept_at before k) ≡ true → is_some (kept_at later k) ≡ true
kept_still before later k on = go (kept_at before k) (λ answer at. on k answer at)
  where
    go : (o : Option Answer) → ((answer : Answer) → o ≡ Some answer → kept_at later k ≡ Some answer) → is_some o ≡ true → is_some (kept_at later k) ≡ true
    go (Some answer) at has = ap is_some (at answer refl)
    go None at has = absurd (cc has)

-- the futures of a list that have answers, and one more
pub answered_more : (before later : List (Option Answer)) (ks : List ℕ) {i : ℕ} (k : ℕ) → i < length ks → ((d : ℕ) → get_or ks i d ≡ k) → KeptOn before later →
    is_some (kept_at later k) ≡ true → All (λ j. is_some (kept_at before j) ≡ true) (take i ks) → All (λ j. is_some (kept_at later j) ≡ true) (take (i + 1) ks)
answered_more before later ks {i} k long here on answered so_far =
    let P : ℕ → Type 0 = λ j. is_some (kept_at later j) ≡ true in
    let still : All P (take i ks) = All-weaker (λ j. is_some (kept_at before j) ≡ true) P (λ j is. kept_still before later j on is) (take i ks) so_far in
    subst (λ l. All P l) (sym (take_more ks i k long)) (All-push P (take i ks) (get_or ks i k) still (subst P (sym (here k)) answered))

-- each of a list of futures is below a bound
pub all_below : (ks : List ℕ) (n i d : ℕ) → list_all (λ k. nat_lt k n) ks ≡ true → i < length ks → get_or ks i d < n
all_below ks n i d all long = elim (leb_tells (suc (get_or ks i d)) n) [
  | inl t ↦ t.1
  | inr f ↦ absurd (cc (all, list_all_at (λ k. nat_lt k n) ks i d long f.0))
]

-- ---- what is seen

-- a caller that only hears, and then again, only hears in all
pub hears_trans : {old mid new : SessionView} → OnlyHears old mid → OnlyHears mid new → OnlyHears old new
hears_trans before after = record { calls = after.calls ∙ before.calls; handles = after.handles ∙ before.handles; kills = after.kills ∙ before.kills }

-- a caller that submits a call, and then only hears, submits just this call in all
pub submits_hears : (call : Submission) (old mid new : SessionView) → Submits call old mid → OnlyHears mid new → Submits call old new
submits_hears call old mid new submits hears = record {
  calls = hears.calls ∙ submits.calls;
  copies = λ a. ap (λ h. copies_in a h) hears.handles ∙ submits.copies a;
  kills = hears.kills ∙ submits.kills;
}

pub does_trans : (old mid new : SessionView) (some more : List Step) → DoesMore some old mid → DoesMore more mid new → DoesMore (some ++ more) old new
does_trans old mid new some more before after = after ∙ ap (λ l. l ++ more) before ∙ append_assoc old.did some more

-- the futures of a list that were waited for, and one more
pub waited_more : (old mid new : SessionView) (ks : List ℕ) {i : ℕ} (k : ℕ) → i < length ks → ((d : ℕ) → get_or ks i d ≡ k) →
    DoesMore (map Await (take i ks)) old mid → DoesMore (Await k ∷ []) mid new → DoesMore (map Await (take (i + 1) ks)) old new
waited_more old mid new ks {i} k long here before after =
    let more : map Await (take (i + 1) ks) ≡ map Await (take i ks) ++ Await k ∷ [] =
    ap (map Await) (take_more ks i k long ∙ ap (λ j. take i ks ++ j ∷ []) (here k)) ∙ map-append Await (take i ks) (k ∷ []) in
    does_trans old mid new (map Await (take i ks)) (Await k ∷ []) before after ∙ ap (λ l. old.did ++ l) (sym more)

-- what is later than a later view of a caller is later than the first one
pub later_trans : {old mid new : SessionView} → IsLater old mid → IsLater mid new → IsLater old new
later_trans before after = record { limits = after.limits ∙ before.limits; kept = λ k answer has. after.kept k answer (before.kept k answer has) }

-- a caller that submits a call, with its passes as they were, is the same caller and forgets no answer
pub stays_submitted : (old new : Driver) (a : ℕ) (method : Method) (args : List Arg) → new.owner ≡ with_submission old.owner a method args →
    new.passes ≡ old.passes → Stays old new
stays_submitted old new a method args is passes = record {
  id = ap (λ (o : OwnerView). o.id) is;
  kept = λ k answer has. subst (λ (o : OwnerView). kept_at o.kept k ≡ Some answer) (sym is) (kept_before old.owner.kept _ k has);
  limits = ap (λ (o : OwnerView). o.limits) is;
  passes = record {
    letters = ap (λ (p : CallerPasses). map bare_post p.letters.items) passes;
    kills = ap (λ (p : CallerPasses). map bare_ask p.kills.items) passes;
    collects = ap (λ (p : CallerPasses). p.collects) passes ∙
        sym (ap (λ (p : CallerPasses). record old.passes.collects { taken = p.collects.taken; stamps = p.collects.stamps }) passes);
  };
}

pub submits_waited : {old mid : Driver} (new : Driver) (a : ℕ) (method : Method) (args : List Arg) → Waits old mid → new.owner ≡
    with_submission mid.owner a method args → Submits (record { actor = a; method = method; args = args }) (session_view old.owner) (session_view new.owner)
submits_waited {mid} new a method args waits is = record {
  calls = ap (λ (o : OwnerView). o.calls) is ∙ ap (λ l. l ++ record { actor = a; method = method; args = args } ∷ []) waits.calls;
  copies = λ b. ap (λ (o : OwnerView). copies_in b o.handles) is ∙ copies-with_number a b mid.owner.handles ∙ ap (λ h. copies_in b h) waits.handles;
  kills = refl;
}

-- ---- refusals

in_room : (refusal : Option SubmitRefusal) (limit : Option ℕ) (pending : ℕ) → option_or refusal (limit_refusal limit pending) ≢ Some PendingLimit →
    option_or refusal (limit_refusal limit pending) ≡ refusal
in_room (Some r) limit pending room = refl
in_room None None pending room = refl
in_room None (Some limit) pending room = go (nat_lt pending limit) room
  where
    go : (b : Bool) → needs b PendingLimit None ≢ Some PendingLimit → needs b PendingLimit None ≡ None
    go true is = refl
    go false is = absurd (is refl)

-- while a caller waits no reason to refuse a call comes or goes, its limit apart
pub call_refusal_waits : (old mid : Driver) (a : ℕ) (args : List Arg) → Waits old mid →
    call_refusal (session_view mid.owner) a args ≡ call_refusal (session_view old.owner) a args
call_refusal_waits old mid a args waits =
    ap (λ h. submit_refusal (copies_in a h) (length mid.owner.calls) args) waits.handles
    ∙ ap (λ l. submit_refusal (copies_in a old.owner.handles) (length l) args) waits.calls

-- where there is room, only that
pub refusal_in_room : (old mid : Driver) (a : ℕ) (args : List Arg) → Waits old mid → refusal_to_submit mid.owner a args ≢ Some PendingLimit →
    refusal_to_submit mid.owner a args ≡ call_refusal (session_view old.owner) a args
refusal_in_room old mid a args waits room =
    in_room (call_refusal (session_view mid.owner) a args) (owner_limit mid.owner a) (pending mid.owner a) room ∙ call_refusal_waits old mid a args waits

pub accepted_before : {old mid : Driver} (a : ℕ) (args : List Arg) → Waits old mid → refusal_to_submit mid.owner a args ≡ None →
    call_refusal (session_view old.owner) a args ≡ None
accepted_before {old} {mid} a args waits accepted = sym (call_refusal_waits old mid a args waits) ∙ option_or-none _ _ accepted

-- a call that is refused for another reason than memory was refused before any waiting
pub refused_same : {r : SubmitRefusal} {before : Option SubmitRefusal} {old mid new : Driver} → r ≡ unwrap_or before NoMemory → new ≡ mid →
    (mid ≡ old) ⊎ (before ≡ None) → r ≢ NoMemory → new ≡ old
refused_same told is (inl same) other = is ∙ same
refused_same told is (inr none) other = absurd (other (told ∙ ap (λ o. unwrap_or o NoMemory) none))

-- what holds of the refusal that `?` hands on
pub handed_on : {A E : Type 0} (result : Result A E) (e : E) (P : E → Type 0) → IsErrAnd result (λ y. y ≡ e) → P e → IfErr result P
handed_on (Ok x) e P is holds = tt
handed_on (Err y) e P is holds = subst P (sym is) holds

-- what holds anyway holds where a result is an error
pub on_err : {A E : Type 0} (result : Result A E) {P : Type 0} → P → OnErr result P
on_err (Ok x) is = tt
on_err (Err e) is = is

-- ---- steps

lt_is : (k : ℕ) {n : ℕ} → k < n → nat_lt k n ≡ true
lt_is k {n} below = elim (leb_tells (suc k) n) [
  | inl t ↦ t.0
  | inr f ↦ absurd (omega (arith, f.1, below))
]

-- a step that is done, where what would refuse it is none
pub does_submit : (lines : CallerLines) {old mid : Driver} (new : Driver) (a : ℕ) (method : Method) (args : List Arg) → Waits old mid →
    new.owner ≡ with_submission mid.owner a method args → new.passes ≡ mid.passes → call_refusal (session_view old.owner) a args ≡ None →
    Does lines (Submit a method args) old new
does_submit lines {old} {mid} new a method args waits is passes fine actors steps f =
    submit_follows lines mid new a method args is passes actors steps
    (ap (λ o. is_some (submit_refusal o (length (done_by actors nothing_done steps).submitted) args)) (sym (f.copies a)) ∙
    ap (λ l. is_some (submit_refusal (copies_in a old.owner.handles) (length l) args)) (sym f.calls) ∙ ap (λ o. is_some o) fine)
    (follows_waits waits f)

pub does_copy : (lines : CallerLines) (old new : Driver) (a : ℕ) → new.owner ≡ with_handles old.owner (with_copy a old.owner.handles) →
    new.passes ≡ old.passes → copy_refusal (copies_in a old.owner.handles) ≡ None → Does lines (Copy a) old new
does_copy lines old new a is passes fine actors steps f =
    copy_follows lines old new a is passes actors steps (ap (λ o. is_some (copy_refusal o)) (sym (f.copies a)) ∙ ap (λ o. is_some o) fine) f

pub does_release : (lines : CallerLines) (old new : Driver) (a : ℕ) → FollowsBy lines (Release a) old new → use_refusal (session_view old.owner) a ≡ None →
    Does lines (Release a) old new
does_release lines old new a follows fine actors steps f =
    follows actors steps (ap (λ o. is_some (handle_refusal o)) (sym (f.copies a)) ∙ ap (λ o. is_some o) fine) f

pub does_kill : (lines : CallerLines) (old new : Driver) (a : ℕ) → FollowsBy lines (Kill a) old new → use_refusal (session_view old.owner) a ≡ None →
    Does lines (Kill a) old new
does_kill lines old new a follows fine actors steps f =
    follows actors steps (ap (λ o. is_some (handle_refusal o)) (sym (f.copies a)) ∙ ap (λ o. is_some o) fine) f

pub does_await : (lines : CallerLines) (old new : Driver) (k : ℕ) → Waits old new → k < length old.owner.calls → Does lines (Await k) old new
does_await lines old new k waits below actors steps f =
    let here : nat_lt k (length old.owner.calls) ≡ true = lt_is k below in
    let there : nat_lt k (length (done_by actors nothing_done steps).submitted) ≡ true = ap (λ l. nat_lt k (length l)) (sym f.calls) ∙ here in
    await_follows lines new k waits actors steps (ap (λ b. if b then false else true) there) f
