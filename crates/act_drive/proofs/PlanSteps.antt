-- One step of a plan more.
use Rattle.act_drive.proofs.Common.{◌≡◌, ℕ, ◌+◌, ◌≤◌, Bool, true, false, if◌then◌else◌, List, [], ◌∷◌, ◌++◌, length, filter, Some, None, Ok, Err, Result, refl}
use Rattle.act_drive.proofs.Common.{sym, ◌∙◌, ap, subst, arith, All, Contains, length-append, inl, inr, OnOk, All-weaker, filter-append, Method, Arg, Notice}
use Rattle.act_drive.proofs.Common.{Death, Step, Submit, Copy, Release, Await, Progress, first_bad, first_bad_from, holds, done_by, nothing_done, is_refused}
use Rattle.act_drive.proofs.Common.{do_step, kills_to, is_kill_of, copies_in, with_copy, without_copy, copies-with_number, release_copies, copy_copies}
use Rattle.act_drive.proofs.Common.{OwnerView, with_submission, with_handles, step, PutterView, ControlView, Asked, Endpoint, CallerLines, Driver, Waits}
use Rattle.act_drive.proofs.Common.{FollowsSteps, FollowsBy, HasAsked, AreAsked}
use Rattle.act_drive.proofs.OwnChanges.{none_of}

-- ---- a step more

pub done_more : (actors : List ℕ) (p : Progress) (steps : List Step) (step : Step) → is_refused actors (done_by actors p steps) step ≡ false →
    done_by actors p (steps ++ step ∷ []) ≡ do_step (done_by actors p steps) step
done_more actors p [] step fine = ap (λ b. if b then p else do_step p step) fine
done_more actors p (one ∷ steps) step fine = done_more actors (if is_refused actors p one then p else do_step p one) steps step fine

-- some steps and one more ask as many kills of an actor as the two ask together
pub kills_more : (a : ℕ) (steps : List Step) (step : Step) → kills_to a (steps ++ step ∷ []) ≡ kills_to a steps + kills_to a (step ∷ [])
kills_more a steps step =
    ap (λ l. length l) (filter-append (is_kill_of a) steps (step ∷ [])) ∙ length-append (filter (is_kill_of a) steps) (filter (is_kill_of a) (step ∷ []))

asked_on : (before later : List Notice) (a : ℕ) {wanted more : ℕ} (asked : ℕ) → wanted ≡ more → ((n : Notice) → Contains before n → Contains later n) →
    AreAsked before a wanted asked → AreAsked later a more asked
asked_on before later a asked same heard (inl t) = inl (t ∙ same)
asked_on before later a asked same heard (inr f) = inr (subst (λ n. asked ≤ n) same f.0, heard (Death a) f.1)

pub kills_on : (controls : List ControlView) (steps more : List Step) (before later : List Notice) (endpoints : List (Endpoint (PutterView Asked ℕ))) →
    ((a : ℕ) → kills_to a steps ≡ kills_to a more) → ((n : Notice) → Contains before n → Contains later n) → All (HasAsked controls steps before) endpoints →
    All (HasAsked controls more later) endpoints
kills_on controls steps more before later endpoints same heard is =
    All-weaker (HasAsked controls steps before) (HasAsked controls more later) (λ endpoint has d. asked_on before later _ _ (same _) heard (has d)) endpoints is

pub no_kill : (a : ℕ) (steps : List Step) (step : Step) → is_kill_of a step ≡ false → kills_to a steps ≡ kills_to a (steps ++ step ∷ [])
no_kill a steps step is =
    let none : kills_to a (step ∷ []) ≡ 0 = ap (λ b. length (if b then step ∷ [] else [])) is in omega (arith, kills_more a steps step, none)

-- while a caller waits
pub follows_waits : {lines : CallerLines} {actors : List ℕ} {steps : List Step} {old new : Driver} → Waits old new → FollowsSteps lines actors steps old →
    FollowsSteps lines actors steps new
follows_waits {lines} {steps} {old} {new} waits is = record {
  calls = waits.calls ∙ is.calls;
  copies = λ a. ap (copies_in a) waits.handles ∙ is.copies a;
  kills = subst (λ v. All (HasAsked lines.controls.now steps new.passes.collects.taken) v) (sym waits.kills)
      (kills_on lines.controls.now steps steps old.passes.collects.taken new.passes.collects.taken old.passes.kills.items (λ a. refl) waits.heard is.kills);
}

-- a caller that waits does one step more, an await, where it isn't refused
pub await_follows : (lines : CallerLines) {old : Driver} (new : Driver) (k : ℕ) → Waits old new → FollowsBy lines (Await k) old new
await_follows lines {old} new k waits actors steps fine is =
    let now = follows_waits waits is in let more = done_more actors nothing_done steps (Await k) fine in
    record {
      calls = now.calls ∙ sym (ap (λ (p : Progress). p.submitted) more);
      copies = λ a. now.copies a ∙ sym (ap (holds a actors) more);
      kills =
          kills_on lines.controls.now steps (steps ++ Await k ∷ []) _ _ new.passes.kills.items (λ a. no_kill a steps (Await k) refl) (λ n has. has) now.kills;
    }

-- a caller that submits a call, with its passes as they were, does one step more, where it isn't refused
pub submit_follows : (lines : CallerLines) (old new : Driver) (a : ℕ) (method : Method) (args : List Arg) →
    new.owner ≡ with_submission old.owner a method args → new.passes ≡ old.passes → FollowsBy lines (Submit a method args) old new
submit_follows lines old new a method args is passes actors steps fine f =
    let more = done_more actors nothing_done steps (Submit a method args) fine in
    record {
      calls = ap (λ (o : OwnerView). o.calls) is ∙ ap (λ l. l ++ record { actor = a; method = method; args = args } ∷ []) f.calls ∙
          sym (ap (λ (p : Progress). p.submitted) more);
      copies = λ b. ap (λ (o : OwnerView). copies_in b o.handles) is ∙ copies-with_number a b old.owner.handles ∙ f.copies b ∙ sym (ap (holds b actors) more);
      kills = rw passes (kills_on lines.controls.now steps (steps ++ Submit a method args ∷ []) _ _ old.passes.kills.items
          (λ b. no_kill b steps (Submit a method args) refl) (λ n has. has) f.kills);
    }

-- a caller that copies a handle, with its passes as they were, does one step more, where it isn't refused
pub copy_follows : (lines : CallerLines) (old new : Driver) (a : ℕ) → new.owner ≡ with_handles old.owner (with_copy a old.owner.handles) →
    new.passes ≡ old.passes → FollowsBy lines (Copy a) old new
copy_follows lines old new a is passes actors steps fine f =
    let p = done_by actors nothing_done steps in let more = done_more actors nothing_done steps (Copy a) fine in
    record {
      calls = ap (λ (o : OwnerView). o.calls) is ∙ f.calls ∙ sym (ap (λ (q : Progress). q.submitted) more);
      copies = λ b. ap (λ (o : OwnerView). copies_in b o.handles) is ∙ copy_copies old.owner.handles a b actors p f.copies (none_of _ fine) ∙
          sym (ap (holds b actors) more);
      kills = rw passes
          (kills_on lines.controls.now steps (steps ++ Copy a ∷ []) _ _ old.passes.kills.items (λ b. no_kill b steps (Copy a) refl) (λ n has. has) f.kills);
    }

pub release_follows : (lines : CallerLines) {old between : Driver} (new : Driver) (a : ℕ) → Waits old between →
    new.owner ≡ with_handles between.owner (without_copy a between.owner.handles) → new.passes ≡ between.passes → FollowsBy lines (Release a) old new
release_follows lines {old} {between} new a waits is passes actors steps fine before =
    let f = follows_waits waits before in let p = done_by actors nothing_done steps in let more = done_more actors nothing_done steps (Release a) fine in
    record {
      calls = ap (λ (o : OwnerView). o.calls) is ∙ f.calls ∙ sym (ap (λ (q : Progress). q.submitted) more);
      copies =
          λ b. ap (λ (o : OwnerView). copies_in b o.handles) is ∙ release_copies between.owner.handles a b actors p f.copies ∙ sym (ap (holds b actors) more);
      kills = rw passes (kills_on lines.controls.now steps (steps ++ Release a ∷ []) _ _ between.passes.kills.items (λ b. no_kill b steps (Release a) refl)
          (λ n has. has) f.kills);
    }

-- ---- a plan

pub step_of : {E : Type 0} (result : Result Unit E) (lines : CallerLines) (step other : Step) (old new : Driver) → step ≡ other →
    OnOk result ((l : CallerLines) → FollowsBy l other old new) → OnOk result (FollowsBy lines step old new)
step_of (Ok x) lines step other old new is all = subst (λ s. FollowsBy lines s old new) (sym is) (all lines)
step_of (Err e) lines step other old new is all = tt

-- a step that is done after a wait
pub waited_step : {E : Type 0} (result : Result Unit E) (lines : CallerLines) (step : Step) {old between : Driver} (new : Driver) → Waits old between →
    OnOk result ((l : CallerLines) → FollowsBy l step between new) → OnOk result (FollowsBy lines step old new)
waited_step (Ok x) lines step {old} {between} new waits all = λ actors steps fine f. all lines actors steps fine (follows_waits waits f)
waited_step (Err e) lines step new waits all = tt

not_bad_from : (n : ℕ) (actors : List ℕ) (p : Progress) (steps : List Step) (step : Step) (rest : List Step) →
    first_bad_from n actors p (steps ++ step ∷ rest) ≡ None → is_refused actors (done_by actors p steps) step ≡ false
not_bad_from n actors p [] step rest fits = go (is_refused actors p step) fits
  where
    go : (b : Bool) → (if b then Some n else first_bad_from (n + 1) actors (do_step p step) rest) ≡ None → b ≡ false
    go true is = absurd (cc is)
    go false is = refl
not_bad_from n actors p (one ∷ steps) step rest fits = go (is_refused actors p one) fits (not_bad_from (n + 1) actors (do_step p one) steps step rest)
  where
    go : (b : Bool) → (if b then Some n else first_bad_from (n + 1) actors (do_step p one) (steps ++ step ∷ rest)) ≡ None →
        (first_bad_from (n + 1) actors (do_step p one) (steps ++ step ∷ rest) ≡ None → is_refused actors (done_by actors (do_step p one) steps) step ≡ false) →
        is_refused actors (done_by actors (if b then p else do_step p one) steps) step ≡ false
    go true is later = absurd (cc is)
    go false is later = later is

pub not_bad : (actors : List ℕ) {plan : List Step} (steps : List Step) (step : Step) (rest : List Step) → steps ++ step ∷ rest ≡ plan →
    first_bad actors plan ≡ None → is_refused actors (done_by actors nothing_done steps) step ≡ false
not_bad actors steps step rest is fits = not_bad_from 0 actors nothing_done steps step rest (ap (first_bad actors) is ∙ fits)
