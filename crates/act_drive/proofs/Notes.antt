-- The mark of a call that is submitted, and the note of a last release.
use Rattle.act_drive.proofs.Common.{◌≡◌, ℕ, ◌-◌, ◌==◌, true, false, if◌then◌else◌, List, [], ◌∷◌, ◌++◌, length, get_or, Option, Some, None, Ok, refl, sym, ◌∙◌}
use Rattle.act_drive.proofs.Common.{ap, subst, arith, All, AllPairs, append-nil, option_to_list, length-append, inl, inr, option_map, eqb_tells, All-weaker}
use Rattle.act_drive.proofs.Common.{filter_map-append, all_pairs_push, Method, Arg, ReleaseNote, HandleRefusal, calls_to, copies_held, handle_refusal}
use Rattle.act_drive.proofs.Common.{copies_in, given_in, without_copy, or_else, copies-without_copy, OwnerView, is_sent, with_submission, with_handles}
use Rattle.act_drive.proofs.Common.{release_note, Released, Hears, hears_step, Letter, Call, Note, CallerLines, Driver, AreTwo, IsSent, IsEndpoint, IsPosting}
use Rattle.act_drive.proofs.Common.{IsCalling, Waits, OwnerGoesOn, futures_in, future_of_letter, IsKeeping}
use Rattle.act_drive.proofs.Keeps.{keeps_noted}
use Rattle.act_drive.proofs.Noted.{noted_on}
use Rattle.act_drive.proofs.Drivers.{change_on, posting_on, driver_same}
use Rattle.act_drive.proofs.OwnChanges.{ended_released}

-- where the handles answer with a value, nothing refused it
pub ok_of : {X : Type 0} (refusal : Option HandleRefusal) (value : X) {x : X} → Ok x ≡ or_else refusal value → refusal ≡ None
ok_of None value is = refl
ok_of (Some r) value is = absurd (cc is)

pub last_of : (refusal : Option HandleRefusal) (copies : ℕ) (last note : ReleaseNote) →
    Ok (Some note) ≡ or_else refusal (if copies == 1 then Some last else None) → (copies ≡ 1) × (note ≡ last)
last_of (Some r) copies last note is = absurd (cc is)
last_of None copies last note is = elim (eqb_tells copies 1) [
  | inl t ↦ (t.1, cc (is, ap (λ b. or_else None (if b then Some last else None)) t.0))
  | inr f ↦ absurd (cc (is, ap (λ b. or_else None (if b then Some last else None)) f.0))
]

-- where there are as many marks of sending as calls, there are after a submission
pub submit_flags : (owner : OwnerView) (a : ℕ) (method : Method) (args : List Arg) → length owner.sent ≡ length owner.calls →
    length (with_submission owner a method args).sent ≡ length (with_submission owner a method args).calls
submit_flags owner a method args flags =
    omega (arith, flags, length-append owner.sent (false ∷ []), length-append owner.calls (record { actor = a; method = method; args = args } ∷ []))

one_less : (copies : Option ℕ) → copies_held copies ≡ 1 → copies_held (option_map (λ n. n - 1) copies) ≡ 0
one_less None is = omega (arith, is)
one_less (Some n) is = omega (arith, is)

-- the note of an actor of which a handle is held is none of the letters sent
unnoted : (owner : OwnerView) (a : ℕ) (note : ReleaseNote) (letter : Letter) → copies_held (copies_in note.actor owner.handles) ≡ 1 → IsSent owner a letter →
    AreTwo letter (Note note)
unnoted owner a note (Call packet) one sent = tt
unnoted owner a note (Note other) one sent = λ same.
    let none : copies_held (copies_in note.actor owner.handles) ≡ 0 =
    ap (λ n. copies_held (copies_in n owner.handles)) (sym same ∙ ap (λ (n : ReleaseNote). n.actor) sent.0) ∙ sent.1 in
    absurd (omega (arith, one, none))

posting_note : (owner later : OwnerView) (a : ℕ) {put : List Letter} (note : ReleaseNote) → OwnerGoesOn owner later →
    copies_held (copies_in note.actor owner.handles) ≡ 1 → IsPosting owner a [] put → IsPosting later a (Note note ∷ []) put
posting_note owner later a {put} note on one is =
    let before = posting_on a [] on is in
    let all : futures_in (put ++ []) ≡ futures_in (put ++ Note note ∷ []) =
    ap (λ l. futures_in l) (append-nil put) ∙ sym (filter_map-append future_of_letter put (Note note ∷ []) ∙ append-nil (futures_in put)) in
    record {
      sent = before.sent;
      distinct = all_pairs_push AreTwo put (Note note) (subst (AllPairs AreTwo) (append-nil put) is.distinct)
          (λ j d below. unnoted owner a note (get_or put j d) one (is.sent j d below));
      marked = subst (λ l. All (λ k. is_sent later k ≡ true) l) all before.marked;
    }

-- the last handle is let go, and its note is in the outbox
pub calling_noted : {lines : CallerLines} (old new : Driver) (a : ℕ) {note : ReleaseNote} →
    new.owner ≡ with_handles old.owner (without_copy a old.owner.handles) → new.passes ≡ old.passes → old.outbox ≡ None → new.outbox ≡ Some (Note note) →
    new.note_posted ≡ old.note_posted → note ≡ release_note old.owner a → given_in a old.owner.handles ≡ length (calls_to a old.owner.calls) →
    copies_held (copies_in a old.owner.handles) ≡ 1 → IsCalling lines old → IsCalling lines new
calling_noted {lines} old new a {note} is passes empty outbox flags told given one calling =
    let now : OwnerView = with_handles old.owner (without_copy a old.owner.handles) in
    let on : OwnerGoesOn old.owner now = change_on old.owner (Released a) calling.places (ended_released old.owner a) in
    let endpoints : All (IsEndpoint lines.mails.now old.owner []) old.passes.letters.items =
    subst (λ h. All (IsEndpoint lines.mails.now old.owner (option_to_list h)) old.passes.letters.items) empty calling.letters in
    let kept : IsKeeping lines.mails.now old.owner old.passes.collects.taken old.passes.letters.items [] =
    subst (λ h. IsKeeping lines.mails.now old.owner old.passes.collects.taken old.passes.letters.items (option_to_list h)) empty calling.keeps in
    let last : note ≡ record { caller = old.owner.id; actor = a; after = length (calls_to a old.owner.calls) } =
    told ∙ ap (λ n. record { caller = old.owner.id; actor = a; after = n }) given in
    let mine : IsSent now note.actor (Note note) = subst (λ (n : ReleaseNote). IsSent now n.actor (Note n)) (sym told) (
      ap (λ n. record { caller = old.owner.id; actor = a; after = n }) given,
      ap copies_held (copies-without_copy a old.owner.handles) ∙ one_less (copies_in a old.owner.handles) one,
    ) in
    let held : copies_held (copies_in note.actor old.owner.handles) ≡ 1 =
    ap (λ (n : ReleaseNote). copies_held (copies_in n.actor old.owner.handles)) last ∙ one in
    let good : IsCalling lines (record { owner = now; passes = old.passes; outbox = Some (Note note); note_posted = new.note_posted }) = record {
      places = calling.places;
      flags = calling.flags;
      hears = subst (Hears now) (append-nil old.passes.collects.taken) (hears_step (Released a) calling.places calling.hears);
      collects = calling.collects;
      held = mine;
      letters = All-weaker (IsEndpoint lines.mails.now old.owner []) (IsEndpoint lines.mails.now now (Note note ∷ []))
          (λ endpoint s. record { below = s.below; line = s.line; number = s.number; posting = λ d. posting_note old.owner now _ note on held (s.posting d) })
          old.passes.letters.items endpoints;
      kills = calling.kills;
      keeps = keeps_noted old.owner a note (ap Note last) kept;
      names = calling.names;
      note_posted = noted_on old.passes.letters.items on flags calling.note_posted;
    } in
    subst (IsCalling lines) (sym (driver_same new _ _ _ is passes outbox)) good

pub note_stays : {old : Driver} (between : Driver) (a : ℕ) → Waits old between → release_note between.owner a ≡ release_note old.owner a
note_stays {old} between a waits =
    ap (λ n. record { caller = n; actor = a; after = given_in a between.owner.handles }) waits.stay.id ∙
    ap (λ h. record { caller = old.owner.id; actor = a; after = given_in a h }) waits.handles

pub not_last : (copies : Option ℕ) (last : ReleaseNote) → Ok None ≡ or_else (handle_refusal copies) (if copies_held copies == 1 then Some last else None) →
    copies ≡ Some 1 → ⊥
not_last copies last told one =
    let e : Ok None ≡ or_else (handle_refusal (Some 1)) (if copies_held (Some 1) == 1 then Some last else None) =
    subst (λ o. Ok None ≡ or_else (handle_refusal o) (if copies_held o == 1 then Some last else None)) one told in
    cc e
