-- A caller that holds no copy of a handle sent its note.
use Rattle.act_early.proofs.Common.{◌≡◌, ℕ, zero, suc, ◌+◌, ◌-◌, Bool, true, false, cond, List, [], ◌∷◌, ◌++◌, length, Option, Some, None, refl, ap, sym, ◌∙◌}
use Rattle.act_early.proofs.Common.{subst, arith, ◌==◌, ◌&&◌, find, eqb-true, eq-eqb, and_parts, Event, RunItem, Step, calls_to, copies_held, ActorSpec}
use Rattle.act_early.proofs.Common.{History, opening, names, cast_of, count_pairs, calls_of, copies_of, has_letter, next_item, add_event, and_also, after_run}
use Rattle.act_early.proofs.Common.{is_last, IsKept, added_grows, times-push, gone_step, At, IsPlay, has_front, has_last, NoteLetter}
use Rattle.act_rules.specs.declared.event.Event.TheVariants as event
use Rattle.act_early.proofs.Worlds.{play_keeps}

-- ---- each note is sent

abbrev pub NotesSent : History → Type 0
NotesSent h = (c a : ℕ) → copies_of c a h ≡ Some 0 → has_letter (NoteLetter c a (length (calls_to a (calls_of c h)))) h.mail ≡ true

differ_copy : (named : Bool) (made gone more n : ℕ) → cond named (Some ((1 + made) - gone)) None ≡ Some (suc n)
    → cond named (Some ((1 + (made + more)) - gone)) None ≡ Some 0 → ⊥
differ_copy true made gone more n e f = let some : (1 + made) - gone ≡ suc n = cc in let none : (1 + (made + more)) - gone ≡ 0 =
    cc in absurd (omega (arith, some, none))
differ_copy false made gone more n e f = cc

last_copy : (named : Bool) (made gone n : ℕ) → cond named (Some ((1 + made) - gone)) None ≡ Some (suc n)
    → cond named (Some ((1 + made) - (gone + 1))) None ≡ Some 0 → copies_held (cond named (Some ((1 + made) - gone)) None) ≡ 1
last_copy true made gone n e f = let some : (1 + made) - gone ≡ suc n = cc in let none : (1 + made) - (gone + 1) ≡ 0 = cc in omega (arith, some, none)
last_copy false made gone n e f = cc

same_copies : {o : Option ℕ} (n : ℕ) → o ≡ Some (suc n) → o ≡ Some 0 → ⊥
same_copies n e f = let bad : Some (suc n) ≡ Some 0 = sym e ∙ f in cc

release_sends : (h : History) (d b c a n : ℕ) → copies_of c a h ≡ Some (suc n) → copies_of c a (add_event h (event.Release d b)) ≡ Some 0
    → has_letter (NoteLetter c a (length (calls_to a (calls_of c h)))) (add_event h (event.Release d b)).mail ≡ true
release_sends h d b c a n e f = go ((d == c) && (b == a)) refl
    (ap (λ m. cond (names c (cast_of a h)) (Some ((1 + count_pairs c a h.copied) - m)) None) (sym (times-push c a d b h.released)) ∙ f)
  where
    go : (x : Bool) → ((d == c) && (b == a)) ≡ x → cond (names c (cast_of a h)) (Some ((1 + count_pairs c a h.copied) - (count_pairs c a h.released + cond ((d
        == c) && (b == a)) 1 0))) None ≡ Some 0 → has_letter (NoteLetter c a (length (calls_to a (calls_of c h)))) (add_event h (event.Release d b)).mail ≡ true
    go false is g =
        let zero_more : count_pairs c a h.released + cond ((d == c) && (b == a)) 1 0 ≡ count_pairs c a h.released =
        ap (λ x. count_pairs c a h.released + cond x 1 0) is ∙ omega arith in
        absurd (same_copies n e (ap (λ m. cond (names c (cast_of a h)) (Some ((1 + count_pairs c a h.copied) - m)) None) (sym zero_more) ∙ g))
    go true is g =
        let parts = and_parts (d == c) (b == a) is in
        let one_more : count_pairs c a h.released + cond ((d == c) && (b == a)) 1 0 ≡ count_pairs c a h.released + 1 =
        ap (λ x. count_pairs c a h.released + cond x 1 0) is in
        let one : copies_held (copies_of c a h) ≡ 1 =
        last_copy (names c (cast_of a h)) (count_pairs c a h.copied) (count_pairs c a h.released) n e
        (ap (λ m. cond (names c (cast_of a h)) (Some ((1 + count_pairs c a h.copied) - m)) None) (sym one_more) ∙ g) in
        let last : is_last c a h ≡ true = eq-eqb (copies_held (copies_of c a h)) 1 one in
        let mail : (add_event h (event.Release c a)).mail ≡ h.mail ++ NoteLetter c a (length (calls_to a (calls_of c h))) ∷ [] =
        ap (λ x. and_also h.mail (cond x (Some (NoteLetter c a (length (calls_to a (calls_of c h))))) None)) last in
        let there : has_letter (NoteLetter c a (length (calls_to a (calls_of c h)))) (add_event h (event.Release c a)).mail ≡ true =
        ap (has_letter (NoteLetter c a (length (calls_to a (calls_of c h))))) mail
        ∙ has_last (NoteLetter c a (length (calls_to a (calls_of c h)))) h.mail in
        subst (λ x. has_letter (NoteLetter c a (length (calls_to a (calls_of c h)))) (add_event h (event.Release x b)).mail ≡ true)
        (sym (eqb-true d c parts.0))
        (subst (λ y. has_letter (NoteLetter c a (length (calls_to a (calls_of c h)))) (add_event h (event.Release c y)).mail ≡ true)
        (sym (eqb-true b a parts.1)) there)

-- where there was a copy, the event is the last release
sends_last : (h : History) (other : Event) (c a n : ℕ) → copies_of c a h ≡ Some (suc n) → copies_of c a (add_event h other) ≡ Some 0
    → has_letter (NoteLetter c a (length (calls_to a (calls_of c (add_event h other))))) (add_event h other).mail ≡ true
sends_last h (event.Copy d b) c a n e f =
    absurd (differ_copy (names c (cast_of a h)) (count_pairs c a h.copied) (count_pairs c a h.released) (cond ((d == c) && (b == a)) 1 0) n e
    (ap (λ m. cond (names c (cast_of a h)) (Some ((1 + m) - count_pairs c a h.released)) None) (sym (times-push c a d b h.copied)) ∙ f))
sends_last h (event.Release d b) c a n e f = release_sends h d b c a n e f
sends_last h (event.Run b d) c a n e f = absurd (same_copies n e (go (next_item b d h) f))
  where
    go : (o : Option RunItem) → copies_of c a (after_run b d h o) ≡ Some 0 → copies_of c a h ≡ Some 0
    go None f = f
    go (Some item) f = f
sends_last h other c a n e f = absurd (same_copies n e f)

stranger : (x y : Bool) (m n : ℕ) → cond x (Some m) None ≡ None → y ≡ x → cond y (Some n) None ≡ Some 0 → ⊥
stranger true y m n e same f = cc
stranger false true m n e same f = cc
stranger false false m n e same f = cc

notes_sent_step : IsKept NotesSent
notes_sent_step h other held accepted c a f = go (copies_of c a h) refl
  where
    g : History
    g = add_event h other

    casts : names c (cast_of a g) ≡ names c (cast_of a h)
    casts = ap (λ l. names c (find (λ (cast : ActorSpec). cast.actor == a) l)) (added_grows h other).casts

    go : (o : Option ℕ) → copies_of c a h ≡ o → has_letter (NoteLetter c a (length (calls_to a (calls_of c g)))) g.mail ≡ true
    go None e = absurd (stranger (names c (cast_of a h)) (names c (cast_of a g)) ((1 + count_pairs c a h.copied) - count_pairs c a h.released)
        ((1 + count_pairs c a g.copied) - count_pairs c a g.released) e casts f)
    go (Some zero) e =
        let stays = gone_step c a h other (ap copies_held e) accepted in
        subst (λ l. has_letter (NoteLetter c a (length l)) g.mail ≡ true) (sym stays.calls)
        (has_front (NoteLetter c a (length (calls_to a (calls_of c h)))) h.mail g.mail (added_grows h other).mail (held c a e))
    go (Some (suc n)) e = sends_last h other c a n e f

-- one copy that is opened is not none
pub opened_none : (x : Bool) (P : Type 0) → cond x (Some ((1 + 0) - 0)) None ≡ Some 0 → P
opened_none true P e = cc
opened_none false P e = cc

-- in a play of plans a caller that released all its copies of a handle sent its note, which counts its calls there
pub notes_sent : {casts : List ActorSpec} {plans : ℕ → List Step} {p : At} → IsPlay casts plans p → NotesSent p.history
notes_sent {casts} {plans} {p} play = play_keeps NotesSent notes_sent_step p
    (λ c a e. opened_none (names c (cast_of a (opening casts))) (has_letter (NoteLetter c a 0) [] ≡ true) e) play
