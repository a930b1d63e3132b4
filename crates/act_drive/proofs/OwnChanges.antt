-- A caller that changes its owner by itself: what stays, and what a submission, a copy and a release do to its copies and calls.
use Rattle.act_drive.proofs.Common.{◌≡◌, ◌≢◌, ℕ, ◌-◌, ◌==◌, false, if◌then◌else◌, List, ◌∷◌, ◌++◌, length, filter, Option, Some, None, is_some, refl, sym, ◌∙◌}
use Rattle.act_drive.proofs.Common.{ap, subst, arith, All, append-nil, option_to_list, inl, inr, option_map, ne_eqb, eqb_tells, filter-append, Method, Arg}
use Rattle.act_drive.proofs.Common.{Submission, calls_to, copies_held, copy_refusal, submit_refusal, option_or-none, needs-none, copies_in, with_copy}
use Rattle.act_drive.proofs.Common.{with_number, without_copy, copies-with_copy-other, copies-without_copy, copies-without_copy-other, copies-with_number}
use Rattle.act_drive.proofs.Common.{copy_holds, positive, OwnerView, refusal_to_submit, Action, after_action, notices_in, Hears, step, hears_step}
use Rattle.act_drive.proofs.Common.{calls_to-length, CallerLines, Driver, IsCalling, OwnerGoesOn, HasNamed, []}
use Rattle.act_drive.proofs.Keeps.{Returns, keeps_on}
use Rattle.act_drive.proofs.Noted.{noted_on}
use Rattle.act_drive.proofs.Drivers.{change_on, held_on, endpoints_on, driver_same}

-- ---- the owner changes by itself

-- a caller at work is so after a change that collects and sends nothing, lets no last handle go, and regains none
pub calling_step : {lines : CallerLines} {old : Driver} (new : Driver) (change : Action) → new.owner ≡ after_action old.owner change → new.passes ≡ old.passes →
    new.outbox ≡ old.outbox → new.note_posted ≡ old.note_posted → notices_in (change ∷ []) ≡ [] →
    length (after_action old.owner change).sent ≡ length (after_action old.owner change).calls → ((b : ℕ) → copies_held (copies_in b old.owner.handles) ≡ 0 →
    (copies_held (copies_in b (after_action old.owner change).handles) ≡ 0) × (length (calls_to b (after_action old.owner change).calls) ≡ length
    (calls_to b old.owner.calls))) → Returns old.owner (after_action old.owner change) → IsCalling lines old → IsCalling lines new
calling_step {lines} {old} new change is passes outbox marks quiet flags ended back calling =
    let now = after_action old.owner change in
    let on : OwnerGoesOn old.owner now = change_on old.owner change calling.places ended in
    let later : Driver = record { owner = now; passes = old.passes; outbox = old.outbox; note_posted = new.note_posted } in
    let good : IsCalling lines later = record {
      places = (step old.owner change calling.places).places;
      flags = flags;
      hears = subst (Hears now) (ap (λ l. old.passes.collects.taken ++ l) quiet ∙ append-nil old.passes.collects.taken)
          (hears_step change calling.places calling.hears);
      collects = calling.collects;
      held = held_on now old.outbox on calling.held;
      letters = endpoints_on lines.mails.now now (option_to_list old.outbox) old.passes.letters.items on calling.letters;
      kills = calling.kills;
      keeps = keeps_on now old.passes.collects.taken on back (λ n has. has) calling.keeps;
      names = subst (λ n. All (HasNamed lines.controls.now n) old.passes.kills.items) (sym on.id) calling.names;
      note_posted = noted_on old.passes.letters.items on marks calling.note_posted;
    } in
    subst (IsCalling lines) (sym (driver_same new _ _ _ is passes outbox)) good

-- ---- what was not refused

submit_holds : (copies : Option ℕ) (count : ℕ) (args : List Arg) → submit_refusal copies count args ≡ None → copies_held copies ≢ 0
submit_holds copies count args is = positive (copies_held copies) (needs-none _ _ _ (needs-none _ _ _ is).1).0

pub none_of : {X : Type 0} (o : Option X) → is_some o ≡ false → o ≡ None
none_of None is = refl
none_of (Some x) is = absurd (cc is)

-- ---- calls and copies

calls_other : (b : ℕ) (calls : List Submission) (call : Submission) → call.actor ≢ b → length (calls_to b (calls ++ call ∷ [])) ≡ length (calls_to b calls)
calls_other b calls call apart =
    calls_to-length b 0 (calls ++ call ∷ [])
    ∙ ap (λ l. length l) (filter-append (λ (c : Submission). c.actor == b) calls (call ∷ []) ∙ ap (λ t. filter (λ (c : Submission). c.actor == b)
    calls ++ (if t then call ∷ [] else [])) (ne_eqb call.actor b apart) ∙ append-nil (filter (λ (c : Submission). c.actor == b) calls))
    ∙ sym (calls_to-length b 0 calls)

-- an actor of which no copy is held has none after a submission that isn't refused, and no more calls
pub ended_submitted : (owner : OwnerView) (a : ℕ) (method : Method) (args : List Arg) → refusal_to_submit owner a args ≡ None → (b : ℕ) →
    copies_held (copies_in b owner.handles) ≡ 0 → (copies_held (copies_in b (with_number a owner.handles)) ≡ 0) ×
    (length (calls_to b (owner.calls ++ record { actor = a; method = method; args = args } ∷ [])) ≡ length (calls_to b owner.calls))
ended_submitted owner a method args accepted b none = (
  ap copies_held (copies-with_number a b owner.handles) ∙ none,
  calls_other b owner.calls (record { actor = a; method = method; args = args }) (λ same. submit_holds (copies_in a owner.handles) (length owner.calls) args
      (option_or-none _ _ accepted) (ap (λ n. copies_held (copies_in n owner.handles)) same ∙ none)),
)

-- an actor of which no copy is held has none after a copy that isn't refused, and no more calls
pub ended_copied : (owner : OwnerView) (a : ℕ) → copy_refusal (copies_in a owner.handles) ≡ None → (b : ℕ) → copies_held (copies_in b owner.handles) ≡ 0 →
    (copies_held (copies_in b (with_copy a owner.handles)) ≡ 0) × (length (calls_to b owner.calls) ≡ length (calls_to b owner.calls))
ended_copied owner a accepted b none = (
  ap copies_held (copies-with_copy-other a b owner.handles
      (λ same. copy_holds (copies_in a owner.handles) accepted (ap (λ n. copies_held (copies_in n owner.handles)) same ∙ none))) ∙ none,
  refl,
)

less_none : (copies : Option ℕ) → copies_held copies ≡ 0 → copies_held (option_map (λ n. n - 1) copies) ≡ 0
less_none None none = refl
less_none (Some n) none = omega (arith, none)

-- an actor of which no copy is held has none after a release, and no more calls
pub ended_released : (owner : OwnerView) (a : ℕ) (b : ℕ) → copies_held (copies_in b owner.handles) ≡ 0 →
    (copies_held (copies_in b (without_copy a owner.handles)) ≡ 0) × (length (calls_to b owner.calls) ≡ length (calls_to b owner.calls))
ended_released owner a b none =
    elim (eqb_tells a b) [
      | inl t ↦ (
        subst (λ n. copies_held (copies_in n (without_copy a owner.handles)) ≡ 0) t.1 (ap copies_held (copies-without_copy a owner.handles) ∙
            less_none (copies_in a owner.handles) (ap (λ n. copies_held (copies_in n owner.handles)) t.1 ∙ none)),
        refl,
      )
      | inr f ↦ (ap copies_held (copies-without_copy-other a b owner.handles f.1) ∙ none, refl)
    ]
