-- The letters of a history, and one more that arrived.
use Rattle.act_world.proofs.Common.{◌≡◌, ◌≢◌, ℕ, Bool, true, false, cond, List, [], ◌∷◌, ◌++◌, Some, None, refl, ap, sym, ◌∙◌, subst, Option, ◌||◌, slice_get}
use Rattle.act_world.proofs.Common.{option_and_then, nat_lt, or-false, Letter, History, cast_of, ran_count, is_letter, has_letter, letter_actor, All_at}
use Rattle.act_world.proofs.Common.{IsSoundLetter, letter_is, IsSoundNote, MailEntry, entry_actor, SlotView, Runs, Died, Ended, Vacant, WorldView}
use Rattle.act_world.proofs.Common.{packet_by_number, call_key, mail_entry, held_packet, IsStage, Refines, CallLetter, NoteLetter, CallEntry, NoteEntry}
use Rattle.act_world.proofs.Lawful.{IsLawful, IsNamedLetter, has_letter-last}
use Rattle.act_world.proofs.Changes.{named_cast}

-- ---- letters

not_letter : (x y : Letter) → x ≢ y → is_letter x y ≡ false
not_letter x y apart = go (is_letter x y) refl
  where
    go : (b : Bool) → is_letter x y ≡ b → b ≡ false
    go true e = absurd (apart (letter_is x y e))
    go false e = refl

-- after one letter more another is there if it was
pub has_other : (x letter : Letter) (xs : List Letter) → x ≢ letter → has_letter x (xs ++ letter ∷ []) ≡ has_letter x xs
has_other x letter xs apart = has_letter-last x letter xs ∙ ap (λ b. has_letter x xs || b) (not_letter x letter apart) ∙ or-false (has_letter x xs)

-- a letter that was there adds nothing
pub has_again : (x letter : Letter) (xs : List Letter) → has_letter letter xs ≡ true → has_letter x (xs ++ letter ∷ []) ≡ has_letter x xs
has_again x letter xs there = has_letter-last x letter xs ∙ go (is_letter x letter) refl
  where
    go : (b : Bool) → is_letter x letter ≡ b → (has_letter x xs || b) ≡ has_letter x xs
    go true e = subst (λ y. (has_letter y xs || true) ≡ has_letter y xs) (sym (letter_is x letter e)) (rw there refl)
    go false e = or-false (has_letter x xs)

-- a letter that the history holds at a place, and what it carries
pub record IsLetterAt (h : History) (i : ℕ) (m : MailEntry) : Type 0 where
  pub letter : Letter
  pub at : slice_get h.mail i ≡ Some letter
  pub carries : mail_entry h letter ≡ Some m
  pub sound : IsSoundLetter h letter
  pub named : IsNamedLetter h letter
  pub note : IsSoundNote h letter

pub letter_at : (h : History) {world : WorldView} (i : ℕ) (m : MailEntry) → IsLawful h → Refines h world → slice_get world.network.mail i ≡ Some m →
    IsLetterAt h i m
letter_at h i m lawful refines is = go (slice_get h.mail i) refl (sym (refines.mail i) ∙ is)
  where
    go : (o : Option Letter) → slice_get h.mail i ≡ o → option_and_then (mail_entry h) o ≡ Some m → IsLetterAt h i m
    go None at e = cc
    go (Some letter) at e = record {
      letter = letter;
      at = at;
      carries = e;
      sound = All_at (IsSoundLetter h) h.mail i lawful.sound.letters.mail at;
      named = All_at (IsNamedLetter h) h.mail i lawful.named.mail at;
      note = All_at (IsSoundNote h) h.mail i lawful.retires.notes.mail at;
    }

-- it is for the actor of what it carries
pub carried_to : (h : History) (letter : Letter) (m : MailEntry) → IsSoundLetter h letter → mail_entry h letter ≡ Some m → letter_actor letter ≡ entry_actor m
carried_to h (CallLetter c a n) m sound carries =
    let some : Some (CallEntry (call_key c a n sound.0)) ≡ Some m = rw sound.1 at carries in
    let same : CallEntry (call_key c a n sound.0) ≡ m = cc in ap entry_actor same
carried_to h (NoteLetter c a n) m sound carries = let same : NoteEntry (record { caller = c; actor = a; after = n }) ≡ m = cc in ap entry_actor same

pub letter_cast : (h : History) (letter : Letter) → IsNamedLetter h letter → cast_of (letter_actor letter) h ≡ None → ⊥
letter_cast h (CallLetter c a n) named none = named_cast c a h named none
letter_cast h (NoteLetter c a n) named none = named_cast c a h named none

-- ---- the history with one letter more that arrived

-- a history with one letter more that came
abbrev pub brought : History → Letter → History
brought h letter = record h { arrived = h.arrived ++ letter ∷ [] }

-- one letter more leaves what an actor holds for a call, if it doesn't change whether the call's letter arrived
pub held_same : (h : History) (letter : Letter) (a c n : ℕ) → has_letter (CallLetter c a n) (h.arrived ++ letter ∷ []) ≡ has_letter
    (CallLetter c a n) h.arrived → held_packet h a c n ≡ held_packet (brought h letter) a c n
held_same h letter a c n same = ap (λ b. cond (nat_lt n (ran_count c a h)) None (cond b (packet_by_number h c a n) None)) (sym same)

-- an actor that the letter is not for
pub stage_past : (h : History) (letter : Letter) (b : ℕ) (stage : Option SlotView) → letter_actor letter ≢ b → IsStage h b stage →
    IsStage (brought h letter) b stage
stage_past h letter b None apart is = is
stage_past h letter b (Some Vacant) apart is = is
stage_past h letter b (Some (Runs live)) apart is = record {
  cast = is.cast;
  cast_is = is.cast_is;
  runs = is.runs;
  id = is.id;
  log = is.log;
  state = is.state;
  listed = is.listed;
  handed = is.handed;
  waits = λ c n named. is.waits c n named ∙ held_same h letter b c n (has_other (CallLetter c b n) letter h.arrived (λ e. apart (ap letter_actor (sym e))));
  notes = λ c n named. is.notes c n named ∙ sym (has_other (NoteLetter c b n) letter h.arrived (λ e. apart (ap letter_actor (sym e))));
}
stage_past h letter b (Some (Died dead)) apart is = record { cast = is.cast; cast_is = is.cast_is; died = is.died; id = is.id; log = is.log }
stage_past h letter b (Some (Ended retired)) apart is =
    record { cast = is.cast; cast_is = is.cast_is; lived = is.lived; ended = is.ended; id = is.id; log = is.log; state = is.state }
