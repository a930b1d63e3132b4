-- A caller that is through with its actors.
use Rattle.act_drive.proofs.Common.{◌≡◌, ℕ, zero, suc, ◌+◌, ◌<◌, ◌==◌, ◌&&◌, not, true, false, List, [], ◌∷◌, length, take, get_or, Option, Some, None, is_some}
use Rattle.act_drive.proofs.Common.{refl, sym, ◌∙◌, ap, subst, arith, All, inr, slice_get, zip, list_any, or_parts, eq-eqb, take_more, All-push, Submission}
use Rattle.act_drive.proofs.Common.{Answer, kept_at, OwnerView, call_waits_for, PutterView, ControlView, Asked, Endpoint, CallerLines, Driver, CallerPasses}
use Rattle.act_drive.proofs.Common.{IsCalling, IsThrough, HasEndedAt, AreAnswered}

-- where no call of an actor waits, each is answered
none_waits : (a : ℕ) (calls : List Submission) (kept : List (Option Answer)) → length kept ≡ length calls → list_any (call_waits_for a)
    (zip calls kept) ≡ false → (k : ℕ) {call : Submission} → slice_get calls k ≡ Some call → call.actor ≡ a → is_some (kept_at kept k) ≡ true
none_waits a [] kept long none k at of = absurd (cc at)
none_waits a (first ∷ calls) [] long none k at of = absurd (omega (arith, long))
none_waits a (first ∷ calls) (answer ∷ kept) long none zero {call} at of =
    let same : first ≡ call = cc at in
    let here : (first.actor == a) ≡ true = eq-eqb first.actor a (ap (λ (s : Submission). s.actor) same ∙ of) in
    answered answer (subst (λ b. (b && not (is_some answer)) ≡ false) here
    (or_parts (call_waits_for a (first, answer)) (list_any (call_waits_for a) (zip calls kept)) none).0)
  where
    answered : (o : Option Answer) → (true && not (is_some o)) ≡ false → is_some o ≡ true
    answered None is = absurd (cc is)
    answered (Some x) is = refl
none_waits a (first ∷ calls) (answer ∷ kept) long none (suc k) {call} at of =
    none_waits a calls kept (omega (arith, long)) (or_parts (call_waits_for a (first, answer)) (list_any (call_waits_for a) (zip calls kept)) none).1 k at of

pub all_answered : (owner : OwnerView) (a : ℕ) → length owner.kept ≡ length owner.calls → list_any (call_waits_for a) (zip owner.calls owner.kept) ≡ false →
    AreAnswered owner a
all_answered owner a places none k call at of = none_waits a owner.calls owner.kept places none k at of

-- its note was posted and none of its calls waits
pub through_answered : {lines : CallerLines} {driver : Driver} (a : ℕ) → IsCalling lines driver → get_or driver.note_posted a false ≡ true →
    list_any (call_waits_for a) (zip driver.owner.calls driver.owner.kept) ≡ false → IsThrough driver.owner driver.passes a
through_answered {driver} a calling note_posted none = inr ((calling.note_posted a note_posted).posted, all_answered driver.owner a calling.places none)

-- one endpoint more
pub ended_more : (controls : List ControlView) (owner : OwnerView) (passes : CallerPasses) (endpoints : List (Endpoint (PutterView Asked ℕ))) (at : ℕ) →
    at < length endpoints → ((s : Endpoint (PutterView Asked ℕ)) → HasEndedAt controls owner passes (get_or endpoints at s)) →
    All (HasEndedAt controls owner passes) (take at endpoints) → All (HasEndedAt controls owner passes) (take (at + 1) endpoints)
ended_more controls owner passes endpoints at below here before k d inside =
    subst (λ l. All (HasEndedAt controls owner passes) l) (sym (take_more endpoints at d below))
    (All-push (HasEndedAt controls owner passes) (take at endpoints) (get_or endpoints at d) before (here d)) k d inside

-- the endpoint at the next place has ended, and nothing changed
pub through_more : (controls : List ControlView) {old new : Driver} (at : ℕ) → at < length old.passes.kills.items → new ≡ old →
    All (HasEndedAt controls old.owner old.passes) (take at old.passes.kills.items) → ((s : Endpoint (PutterView Asked ℕ)) → HasEndedAt controls old.owner
    old.passes (get_or old.passes.kills.items at s)) → All (HasEndedAt controls new.owner new.passes) (take (at + 1) new.passes.kills.items)
through_more controls {old} at below same before here =
    subst (λ (driver : Driver). All (HasEndedAt controls driver.owner driver.passes) (take (at + 1) driver.passes.kills.items)) (sym same)
    (ended_more controls old.owner old.passes old.passes.kills.items at below here before)
