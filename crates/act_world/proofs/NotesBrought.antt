-- An actor that a release note was brought to.
use Rattle.act_world.proofs.Common.{◌≡◌, ℕ, Bool, true, false, cond, [], ◌∷◌, ◌++◌, Some, None, inl, inr, refl, ap, sym, ◌∙◌, subst, Option, ◌==◌, is_some}
use Rattle.act_world.proofs.Common.{eqb-true, eq-eqb, eqb_tells, Arrival, New, Repeat, Stranger, History, cast_of, names, has_letter, has_letter-sound}
use Rattle.act_world.proofs.Common.{IsSoundNote, note_of, note_arrival, note_after, ActorView, note_arrival_at, HasNoted, is_note_of, IsLive, CallLetter}
use Rattle.act_world.proofs.Common.{NoteLetter, has_last}
use Rattle.act_world.proofs.Lawful.{IsLawful}
use Rattle.act_world.proofs.Mail.{has_other, has_again, brought, held_same}

-- the actor knows whether the caller's note came
note_came : (h : History) (c a n : ℕ) (live : ActorView) → IsLawful h → IsLive h a live → names c (cast_of a h) ≡ true → IsSoundNote h (NoteLetter c a n)
    → is_some (note_of live.inbox c) ≡ has_letter (NoteLetter c a n) h.arrived
note_came h c a n live lawful is named note = go (note_of live.inbox c) refl
  where
    go : (o : Option ℕ) → note_of live.inbox c ≡ o → is_some o ≡ has_letter (NoteLetter c a n) h.arrived
    go None e = sym (ap (is_note_of n) e) ∙ is.notes c n named
    go (Some m) e =
        let there : has_letter (NoteLetter c a m) h.arrived ≡ true = sym (is.notes c m named) ∙ ap (is_note_of m) e ∙ eq-eqb m m refl in
        let other = has_letter-sound (IsSoundNote h) (NoteLetter c a m) h.arrived lawful.retires.notes.arrived there in
        let same : m ≡ n = other.1 ∙ sym note.1 in sym (subst (λ x. has_letter (NoteLetter c a x) h.arrived ≡ true) same there)

pub note_arrives : (h : History) (c a n : ℕ) (live : ActorView) → IsLawful h → IsLive h a live → names c (cast_of a h) ≡ true → IsSoundNote h (NoteLetter c a n)
    → note_arrival_at live.id live.inbox (record { caller = c; actor = a; after = n }) ≡ cond (has_letter (NoteLetter c a n) h.arrived) Repeat New
note_arrives h c a n live lawful is named note =
    ap (λ b. cond b (note_arrival live.inbox (record { caller = c; actor = a; after = n })) Stranger) (eq-eqb a live.id (sym is.id))
    ∙ ap (λ b. cond b (cond (is_some (note_of live.inbox c)) Repeat New) Stranger) (is.listed c ∙ named)
    ∙ ap (λ b. cond b Repeat New) (note_came h c a n live lawful is named note)

-- what notes the actor has once the letter came
note_notes : (h : History) (c a n : ℕ) (live : ActorView) → IsLawful h → IsLive h a live → names c (cast_of a h) ≡ true → IsSoundNote h (NoteLetter c a n) →
    (was : Bool) → has_letter (NoteLetter c a n) h.arrived ≡ was → (d k : ℕ) → names d (cast_of a h) ≡ true → is_note_of k (note_after (cond was Repeat New)
    (record { caller = c; actor = a; after = n }) live.inbox d) ≡ has_letter (NoteLetter d a k) (h.arrived ++ NoteLetter c a n ∷ [])
note_notes h c a n live lawful is here note true there d k named = is.notes d k named ∙ sym (has_again (NoteLetter d a k) (NoteLetter c a n) h.arrived there)
note_notes h c a n live lawful is here note false there d k named = go (d == c) refl
  where
    none : (o : Option ℕ) → note_of live.inbox c ≡ o → is_some o ≡ false → is_note_of k (note_of live.inbox c) ≡ false
    none None e off = ap (is_note_of k) e
    none (Some m) e off = cc

    mine : is_note_of k (Some n) ≡ has_letter (NoteLetter c a k) (h.arrived ++ NoteLetter c a n ∷ [])
    mine = elim (eqb_tells n k) [
      | inl t ↦ rw t.0
          (subst (λ x. true ≡ has_letter (NoteLetter c a x) (h.arrived ++ NoteLetter c a n ∷ [])) t.1 (sym (has_last (NoteLetter c a n) h.arrived)))
      | inr f ↦ rw f.0 (sym (none (note_of live.inbox c) refl (note_came h c a n live lawful is here note ∙ there)) ∙ is.notes c k here
          ∙ sym (has_other (NoteLetter c a k) (NoteLetter c a n) h.arrived (λ same. let eq : n ≡ k = cc in f.1 eq)))
    ]

    go : (b : Bool) → (d == c) ≡ b → is_note_of k (cond b (Some n) (note_of live.inbox d)) ≡ has_letter (NoteLetter d a k) (h.arrived ++ NoteLetter c a n ∷ [])
    go true e = subst (λ x. is_note_of k (Some n) ≡ has_letter (NoteLetter x a k) (h.arrived ++ NoteLetter c a n ∷ [])) (sym (eqb-true d c e)) mine
    go false e = is.notes d k named ∙ sym
        (has_other (NoteLetter d a k) (NoteLetter c a n) h.arrived (λ same. let one : d ≡ c = cc in let bad : true ≡ false = sym (eq-eqb d c one) ∙ e in cc))

pub live_noted : (h : History) (c a n : ℕ) {arrival : Arrival} (live new : ActorView) → IsLawful h → IsLive h a live → names c (cast_of a h) ≡ true →
    IsSoundNote h (NoteLetter c a n) → arrival ≡ cond (has_letter (NoteLetter c a n) h.arrived) Repeat New →
    HasNoted (record { caller = c; actor = a; after = n }) arrival live new → IsLive (brought h (NoteLetter c a n)) a new
live_noted h c a n live new lawful is here note told noted = record {
  cast = is.cast;
  cast_is = is.cast_is;
  runs = is.runs;
  id = ap (λ (l : ActorView). l.id) noted.same ∙ is.id;
  log = ap (λ (l : ActorView). l.log) noted.same ∙ is.log;
  state = ap (λ (l : ActorView). l.state) noted.same ∙ is.state;
  listed = λ d. rw noted.noted.lanes (is.listed d);
  handed = λ d named. rw noted.noted.lanes (is.handed d named);
  waits = λ d k named. rw (noted.noted.lanes, noted.noted.held) (is.waits d k named) ∙
      held_same h (NoteLetter c a n) a d k (has_other (CallLetter d a k) (NoteLetter c a n) h.arrived (λ e. cc));
  notes = λ d k named. ap (is_note_of k) (noted.noted.notes d) ∙ ap (λ x. is_note_of k (note_after x (record { caller = c; actor = a; after = n }) live.inbox
      d)) told ∙ note_notes h c a n live lawful is here note (has_letter (NoteLetter c a n) h.arrived) refl d k named;
}
