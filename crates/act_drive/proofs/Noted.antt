-- The notes that were posted.
use Rattle.act_drive.proofs.Common.{◌≡◌, ℕ, ◌<◌, Bool, true, false, if◌then◌else◌, List, [], ◌∷◌, ◌++◌, length, get_or, set, sym, ◌∙◌, ap, subst, Contains, inl}
use Rattle.act_drive.proofs.Common.{inr, get_or-set_other, eqb_tells, calls_to, copies_held, copies_in, OwnerView, PutterView, Letter, Call, Note, Endpoint}
use Rattle.act_drive.proofs.Common.{actor_of_letter, is_note_letter, IsSent, OwnerGoesOn, last_note, posted_in, IsNoted, AreNoted}
use Rattle.act_drive.proofs.Keeps.{more_posted}

-- the same flags
flag_was : {flags now : List Bool} (a : ℕ) → now ≡ flags → get_or now a false ≡ true → get_or flags a false ≡ true
flag_was a same is = ap (λ l. get_or l a false) (sym same) ∙ is

-- the owner goes on
pub noted_on : {owner later : OwnerView} (endpoints : List (Endpoint (PutterView Letter Unit))) {flags now : List Bool} → OwnerGoesOn owner later →
    now ≡ flags → AreNoted owner endpoints flags → AreNoted later endpoints now
noted_on {owner} {later} endpoints {flags} {now} on same note_posted a is =
    let was = note_posted a (flag_was a same is) in let ended = on.ended a was.ended in
    let last : last_note owner a ≡ last_note later a =
    ap (λ n. Note (record { caller = n; actor = a; after = length (calls_to a owner.calls) })) (sym on.id) ∙
    ap (λ n. Note (record { caller = later.id; actor = a; after = n })) (sym ended.1) in
    record { posted = subst (Contains (posted_in endpoints)) last was.posted; ended = ended.0 }

-- where the notes are posted of the actors whose flags are set, so they are by flags that equal these
pub noted_same : (owner : OwnerView) (endpoints : List (Endpoint (PutterView Letter Unit))) {flags now : List Bool} → now ≡ flags →
    AreNoted owner endpoints flags → AreNoted owner endpoints now
noted_same owner endpoints {flags} {now} same note_posted a is = note_posted a (flag_was a same is)

-- the letter in the outbox is posted, and marked where it is a note
pub noted_posted : (owner : OwnerView) (endpoints : List (Endpoint (PutterView Letter Unit))) (at : ℕ) (endpoint : Endpoint (PutterView Letter Unit))
    (pass : PutterView Letter Unit) (letter : Letter) (flags : List Bool) {now : List Bool} → at < length endpoints → endpoint ≡ get_or endpoints at endpoint →
    pass.put ≡ endpoint.pass.put ++ letter ∷ [] → IsSent owner (actor_of_letter letter) letter → now ≡ (if is_note_letter letter then set flags (actor_of_letter
    letter) true else flags) → AreNoted owner endpoints flags → AreNoted owner (set endpoints at (record { place = endpoint.place; pass = pass })) now
noted_posted owner endpoints at endpoint pass letter flags {now} below here put sent marked note_posted a is =
    let later : List (Endpoint (PutterView Letter Unit)) = set endpoints at (record { place = endpoint.place; pass = pass }) in
    let more = more_posted endpoints at pass letter below here put in
    go letter later sent more.1 marked (λ was. record { posted = more.0 (last_note owner a) was.posted; ended = was.ended })
  where
    go : (mine : Letter) (later : List (Endpoint (PutterView Letter Unit))) → IsSent owner (actor_of_letter mine) mine → Contains (posted_in later) mine →
        now ≡ (if is_note_letter mine then set flags (actor_of_letter mine) true else flags) → (IsNoted owner endpoints a → IsNoted owner later a) →
        IsNoted owner later a
    go (Call packet) later mine posted flag grown = grown (note_posted a (flag_was a flag is))
    go (Note note) later mine posted flag grown = elim (eqb_tells a note.actor) [
      | inl t ↦ record {
        posted = subst (λ n. Contains (posted_in later) (last_note owner n)) (sym t.1) (subst (Contains (posted_in later)) (ap Note mine.0) posted);
        ended = ap (λ n. copies_held (copies_in n owner.handles)) t.1 ∙ mine.1;
      }
      | inr f ↦ grown (note_posted a (sym (get_or-set_other flags note.actor a true false f.1) ∙ flag_was a flag is))
    ]
