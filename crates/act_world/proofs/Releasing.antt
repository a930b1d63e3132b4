-- A copy of a handle that is released, and the note after the last one.
use Rattle.act_world.proofs.Common.{◌≡◌, ◌≢◌, ℕ, ◌+◌, ◌-◌, ◌<◌, Bool, true, false, cond, List, [], ◌∷◌, ◌++◌, length, Some, None, Ok, Err, inl, inr, refl, ap}
use Rattle.act_world.proofs.Common.{sym, ◌∙◌, subst, arith, length-append, get_or, Option, ◌==◌, position, slice_get, slice_set, option_map, option_and_then}
use Rattle.act_world.proofs.Common.{or-false, eq-eqb, eqb_tells, get_or-set_same, position-Some, ReleaseNote, Letter, Release, Copies, Mail, HandleRefusal}
use Rattle.act_world.proofs.Common.{Handle, calls_to, copies_held, handle_refusal, History, count_pairs, cast_of, names, calls_of, copies_of, has_letter}
use Rattle.act_world.proofs.Common.{refusal_of, outcome_of, did, add_event, after, and_also, is_last, added_grows, kept_of-same, copies_in, given_in}
use Rattle.act_world.proofs.Common.{without_copy, copies-without_copy, copies-without_copy-other, given-without_copy, OwnerView, with_handles, release_note}
use Rattle.act_world.proofs.Common.{release_told, MailEntry, NetworkView, is_owner, SlotView, Refines, IsOwnerOf, mail_entry, takes_memory, CallLetter}
use Rattle.act_world.proofs.Common.{NoteLetter, NoteEntry}
use Rattle.act_world.proofs.Changes.{refused_follows, accepted_follows}
use Rattle.act_world.proofs.Lawful.{IsLawful, has_letter-last}
use Rattle.act_world.proofs.Frames.{SameCaller, owners_change, mail_stays, go_together}
use Rattle.act_world.proofs.OneCaller.{or_else-Ok, or_else-Err, caller_here, handle_refused, callers_tie, sent_stays, times-same, times-other_caller}
use Rattle.act_world.proofs.OneCaller.{times-other_actor}
use Rattle.act_handles.proofs.Copies.{held_less}
use Rattle.act_lists.proofs.Options.{cond_none}
use Rattle.std.proofs.lemmas.Option.{cond_some}

-- ---- what the caller tells

-- the note that a release sends, where it leaves no copy
abbrev pub note_letter : History → ℕ → ℕ → Letter
note_letter h c a = NoteLetter c a (length (calls_to a (calls_of c h)))

abbrev note_if : History → ℕ → ℕ → Bool → Option Letter
note_if h c a last = cond last (Some (note_letter h c a)) None

-- an answer that nothing refused
release_accepted : (owner : OwnerView) (a : ℕ) {told : Option ReleaseNote} → Ok told ≡ release_told owner a
    → (handle_refusal (copies_in a owner.handles) ≡ None) × (told ≡ cond (copies_held (copies_in a owner.handles) == 1) (Some (release_note owner a)) None)
release_accepted owner a {told} e =
    or_else-Ok (handle_refusal (copies_in a owner.handles)) (cond (copies_held (copies_in a owner.handles) == 1) (Some (release_note owner a)) None) e

last_here : (h : History) (c a : ℕ) {owner : OwnerView} {last : Bool} → IsOwnerOf h c owner → (copies_held (copies_in a owner.handles) == 1) ≡ last →
    is_last c a h ≡ last
last_here h c a is e = ap (λ copies. copies_held copies == 1) (sym (is.copies a)) ∙ e

-- the last copy may be released
last_unrefused : (copies : Option ℕ) → copies_held copies ≡ 1 → handle_refusal copies ≡ None
last_unrefused None e = cc
last_unrefused (Some n) e = let one : n ≡ 1 = e in rw one refl

-- ---- the callers

one_less : (named : Bool) (made gone : ℕ) →
    option_map (λ copies. copies - 1) (cond named (Some ((1 + made) - gone)) None) ≡ cond named (Some ((1 + made) - (gone + 1))) None
one_less true made gone = let e : (1 + made) - gone - 1 ≡ (1 + made) - (gone + 1) = omega arith in ap Some e
one_less false made gone = refl

copies_after : (h : History) (c a : ℕ) (owner : OwnerView) → IsOwnerOf h c owner → (b : ℕ) →
    copies_in b (without_copy a owner.handles) ≡ copies_of c b (add_event h (Release c a))
copies_after h c a owner is b = elim (eqb_tells a b) [
  | inl t ↦ subst (λ x. copies_in x (without_copy a owner.handles) ≡ copies_of c x (add_event h (Release c a))) t.1 (copies-without_copy a owner.handles ∙
      ap (option_map (λ copies. copies - 1)) (is.copies a) ∙ one_less (names c (cast_of a h)) (count_pairs c a h.copied) (count_pairs c a h.released) ∙
      ap (λ gone. cond (names c (cast_of a h)) (Some ((1 + count_pairs c a h.copied) - gone)) None) (sym (times-same c a h.released)))
  | inr f ↦ copies-without_copy-other a b owner.handles f.1 ∙ is.copies b
      ∙ ap (λ gone. cond (names c (cast_of b h)) (Some ((1 + count_pairs c b h.copied) - gone)) None) (sym (times-other_actor c a b h.released f.1))
]

-- a note is no call
no_call : (h : History) (c a d b n : ℕ) → has_letter (CallLetter d b n) (and_also h.mail (note_if h c a (is_last c a h))) ≡ has_letter (CallLetter d b n) h.mail
no_call h c a d b n = go (is_last c a h)
  where
    go : (last : Bool) → has_letter (CallLetter d b n) (and_also h.mail (note_if h c a last)) ≡ has_letter (CallLetter d b n) h.mail
    go true = has_letter-last (CallLetter d b n) (note_letter h c a) h.mail ∙ or-false (has_letter (CallLetter d b n) h.mail)
    go false = refl

released_owner : (h : History) (c a : ℕ) (owner : OwnerView) → IsLawful h → IsOwnerOf h c owner →
    IsOwnerOf (add_event h (Release c a)) c (with_handles owner (without_copy a owner.handles))
released_owner h c a owner lawful is = record {
  id = is.id;
  copies = copies_after h c a owner is;
  limits = is.limits;
  given = λ b. given-without_copy a b owner.handles ∙ is.given b;
  calls = is.calls;
  marks = is.marks;
  sent = λ k. is.sent k ∙ sym (sent_stays h (add_event h (Release c a)) c k (slice_get (calls_of c h) k) refl (λ b n. no_call h c a c b n));
  kept = is.kept ∙ sym (kept_of-same c (added_grows h (Release c a)) lawful.sound.posts refl refl);
  deaths = is.deaths;
}

-- nothing of another caller's changes
others_stay : (h : History) (c a d : ℕ) → IsLawful h → c ≢ d → SameCaller d h (add_event h (Release c a))
others_stay h c a d lawful apart = record {
  calls = refl;
  copies = λ b. ap (λ gone. cond (names d (cast_of b h)) (Some ((1 + count_pairs d b h.copied) - gone)) None) (times-other_caller c a d b h.released apart);
  sent = λ k. sent_stays h (add_event h (Release c a)) d k (slice_get (calls_of d h) k) refl (λ b n. no_call h c a d b n);
  kept = kept_of-same d (added_grows h (Release c a)) lawful.sound.posts refl refl;
  deaths = λ b. refl;
}

-- ---- the world

-- the world after a release, with the letter that it sent
release_ties : (h : History) (old : NetworkView) (mail : List MailEntry) (slots : List SlotView) (c a place : ℕ) (owner new : OwnerView) {last : Bool} →
    IsLawful h → Refines h (record { network = old; slots = slots }) → position (is_owner c) old.owners ≡ Some place → IsOwnerOf h c owner →
    new ≡ with_handles owner (without_copy a owner.handles) → is_last c a h ≡ last → ((i : ℕ) → slice_get mail i ≡ option_and_then (mail_entry
    (add_event h (Release c a))) (slice_get (and_also h.mail (note_if h c a last)) i)) → length mail ≡ length (and_also h.mail (note_if h c a last)) →
    Refines (add_event h (Release c a)) (record { network = record old { owners = slice_set old.owners place new; mail = mail }; slots = slots })
release_ties h old mail slots c a place owner new lawful refines at is new_is last_is letters count =
    let now : IsOwnerOf (add_event h (Release c a)) c new =
    subst (IsOwnerOf (add_event h (Release c a)) c) (sym new_is) (released_owner h c a owner lawful is) in
    callers_tie h (add_event h (Release c a)) old _ slots lawful refines
    (record { grows = added_grows h (Release c a); arrived = refl; ran = refl; posts = refl; killed = refl; retired = refl })
    (owners_change h old.owners refl refines.owners at now (λ d apart. others_stay h c a d lawful apart))
    (subst (λ b. (i : ℕ) → slice_get mail i ≡ option_and_then (mail_entry (add_event h (Release c a))) (slice_get (and_also h.mail (note_if h c a b)) i))
    (sym last_is) letters)
    (subst (λ b. length mail ≡ length (and_also h.mail (note_if h c a b))) (sym last_is) count)
    refl refines.asked

did_release : (h : History) (c a : ℕ) {last : Bool} → is_last c a h ≡ last →
    cond last (Mail (length h.mail)) (Copies (copies_held (copies_of c a h) - 1)) ≡ did h (Release c a)
did_release h c a e = ap (λ b. cond b (Mail (length h.mail)) (Copies (copies_held (copies_of c a h) - 1))) (sym e)

-- a release that leaves a copy
pub release_follows : {h : History} (old : NetworkView) (slots : List SlotView) (c a : ℕ) {place : ℕ} (copies : ℕ) {owner : OwnerView} (new : OwnerView)
    {again : OwnerView} → IsLawful h → Refines h (record { network = old; slots = slots }) → position (is_owner c) old.owners ≡ Some place →
    owner ≡ get_or old.owners place owner → Ok None ≡ release_told owner a → new ≡ with_handles owner (without_copy a owner.handles) → again ≡ get_or
    (slice_set old.owners place new) place again → copies ≡ copies_held (copies_in a again.handles) → (Ok (Copies copies) ≡ outcome_of h (Release c a)) ×
    Refines (after h (Release c a)) (record { network = record old { owners = slice_set old.owners place new }; slots = slots })
release_follows {h} old slots c a {place} copies {owner} new {again} lawful refines at owner_is told new_is again_is held =
    let here = caller_here old slots c refines at owner_is in let accepted = release_accepted owner a told in
    let last : is_last c a h ≡ false = last_here h c a here.is
    (cond_none (copies_held (copies_in a owner.handles) == 1) (release_note owner a) (sym accepted.1)) in
    let within : place < length old.owners = (position-Some (is_owner c) old.owners place owner at).0 in
    let same : again ≡ with_handles owner (without_copy a owner.handles) = again_is ∙ get_or-set_same old.owners place new again within ∙ new_is in
    let left : copies ≡ copies_held (copies_of c a h) - 1 =
    held ∙ ap (λ (one : OwnerView). copies_held (copies_in a one.handles)) same
    ∙ ap copies_held (copies-without_copy a owner.handles) ∙ held_less (copies_in a owner.handles)
    ∙ ap (λ one. copies_held one - 1) (here.is.copies a) in
    accepted_follows h (Release c a) (Copies copies) (handle_refused h c a here accepted.0) (ap Copies left ∙ did_release h c a last)
    (release_ties h old old.mail slots c a place owner new lawful refines at here.is new_is last
    (mail_stays old.mail lawful (added_grows h (Release c a)) refines.mail) refines.mail_count)

-- the release of the last copy, which sends a note
pub last_follows : {h : History} (old : NetworkView) (mail : List MailEntry) (slots : List SlotView) (c a : ℕ) {place : ℕ} (i : ℕ) (note : ReleaseNote)
    {owner : OwnerView} (new : OwnerView) → IsLawful h → Refines h (record { network = old; slots = slots }) → position (is_owner c) old.owners ≡ Some place →
    owner ≡ get_or old.owners place owner → Ok (Some note) ≡ release_told owner a → new ≡ with_handles owner (without_copy a owner.handles) →
    mail ≡ old.mail ++ NoteEntry note ∷ [] → i ≡ length old.mail → (Ok (Mail i) ≡ outcome_of h (Release c a)) × Refines (after h (Release c a))
    (record { network = record old { owners = slice_set old.owners place new; mail = mail }; slots = slots })
last_follows {h} old mail slots c a {place} i note {owner} new lawful refines at owner_is told new_is mail_is i_is =
    let here = caller_here old slots c refines at owner_is in let accepted = release_accepted owner a told in
    let one = cond_some (copies_held (copies_in a owner.handles) == 1) (release_note owner a) note (sym accepted.1) in
    let last : is_last c a h ≡ true = last_here h c a here.is one.0 in
    let letter : mail_entry (add_event h (Release c a)) (note_letter h c a) ≡ Some (NoteEntry note) =
    sym (ap (λ told. Some (NoteEntry told)) (sym one.1) ∙ ap (λ id. Some (NoteEntry (record { caller = id; actor = a; after = given_in a owner.handles })))
    here.is.id ∙ ap (λ n. Some (NoteEntry (record { caller = c; actor = a; after = n }))) (here.is.given a)) in
    accepted_follows h (Release c a) (Mail i) (handle_refused h c a here accepted.0) (ap Mail (i_is ∙ refines.mail_count) ∙ did_release h c a last)
    (release_ties h old mail slots c a place owner new lawful refines at here.is new_is last
    (rw mail_is (go_together (mail_entry (add_event h (Release c a))) old.mail h.mail (note_letter h c a) letter refines.mail_count
    (mail_stays old.mail lawful (added_grows h (Release c a)) refines.mail))) (ap (λ letters. length letters) mail_is ∙
    length-append old.mail (NoteEntry note ∷ []) ∙ ap (λ n. n + 1) refines.mail_count ∙ sym (length-append h.mail (note_letter h c a ∷ []))))

pub release_refused_follows : {h : History} (old : NetworkView) (slots : List SlotView) (c a : ℕ) {place : ℕ} {refusal : HandleRefusal} {owner : OwnerView} →
    Refines h (record { network = old; slots = slots }) → position (is_owner c) old.owners ≡ Some place → owner ≡ get_or old.owners place owner → Err refusal ≡
    release_told owner a → (Err (Handle refusal) ≡ outcome_of h (Release c a)) × Refines (after h (Release c a)) (record { network = old; slots = slots })
release_refused_follows {h} old slots c a {place} {refusal} {owner} refines at owner_is told =
    let here = caller_here old slots c refines at owner_is in
    let refused = or_else-Err (handle_refusal (copies_in a owner.handles))
    (cond (copies_held (copies_in a owner.handles) == 1) (Some (release_note owner a)) None) told in
    refused_follows (Release c a) (handle_refused h c a here refused) refines

-- where memory for the note is wanted, nothing else refuses the release
pub release_unrefused : {h : History} (old : NetworkView) (slots : List SlotView) (c a : ℕ) {place : ℕ} {owner : OwnerView} →
    Refines h (record { network = old; slots = slots }) → position (is_owner c) old.owners ≡ Some place → owner ≡ get_or old.owners place owner →
    copies_held (copies_in a owner.handles) ≡ 1 → refusal_of h (Release c a) ≡ None
release_unrefused {h} old slots c a {place} {owner} refines at owner_is one =
    handle_refused h c a (caller_here old slots c refines at owner_is) (last_unrefused (copies_in a owner.handles) one)

-- that release takes memory
pub last_takes : {h : History} (old : NetworkView) (slots : List SlotView) (c a : ℕ) {place : ℕ} {owner : OwnerView} →
    Refines h (record { network = old; slots = slots }) → position (is_owner c) old.owners ≡ Some place → owner ≡ get_or old.owners place owner →
    copies_held (copies_in a owner.handles) ≡ 1 → takes_memory (Release c a) h ≡ true
last_takes {h} old slots c a {place} {owner} refines at owner_is one =
    last_here h c a (caller_here old slots c refines at owner_is).is (eq-eqb (copies_held (copies_in a owner.handles)) 1 one)
