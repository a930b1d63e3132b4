-- An actor that retires: each of its callers releases its handle, and the note of it is brought.
use Rattle.act_order_plays.proofs.Common.{◌≡◌, ℕ, zero, suc, ◌<◌, ◌==◌, ◌&&◌, ◌⊎◌, inl, inr, Bool, true, false, cond, List, [], ◌∷◌, ◌++◌, length, Some, None}
use Rattle.act_order_plays.proofs.Common.{slice_get, refl, sym, ap, subst, ◌∙◌, arith, is_some, list_all, eq-eqb, ne_eqb, and_from, eqb_tells, list_any-append}
use Rattle.act_order_plays.proofs.Common.{Release, Deliver, Retire, Letter, calls_to, copies_held, History, contains, callers_in, cast_of, is_caller, calls_of}
use Rattle.act_order_plays.proofs.Common.{count_pairs, copies_of, ran_count, is_letter, has_letter, is_done, is_drained, is_ended, refusal_of, add_event}
use Rattle.act_order_plays.proofs.Common.{and_also, slice_get_last, contains_more, times-push, Dead, Retired, Told, actor_of, list_all-weaker, NoteLetter, IsIn}
use Rattle.act_order_plays.proofs.Common.{any_in, is_contained, contains_or}
use Rattle.act_order_plays.proofs.Lists.{has_last}
use Rattle.act_order_plays.proofs.Casts.{cast_of_is, names_is, is_caller_is}
use Rattle.act_order_plays.proofs.Stands.{Leads, leads_now, leads_by, leads_then}
use Rattle.act_order_plays.proofs.Leaving.{Left, left_stays}
use Rattle.act_order_plays.proofs.Ends.{end_of, Ends, Held, Stage, up_to, not_killed, on}

-- while the actor's handles are released: each caller's note has come, or it holds its handle
record Freeing (told : Told) (j : ℕ) (h : History) : Type 0 where
  left : Left told h
  ends : Ends told j h
  held : Held (suc j) h
  mine : (c : ℕ) → (is_done c j h ≡ true) ⊎ (count_pairs c j h.released ≡ 0)

release_fine : (h : History) (c a : ℕ) → is_caller c h ≡ true → copies_of c a h ≡ Some 1 → refusal_of h (Release c a) ≡ None
release_fine h c a caller copy = rw (caller, copy) refl

note_fine : (h : History) (c a n i : ℕ) → slice_get h.mail i ≡ Some (NoteLetter c a n) → is_ended a h ≡ false → refusal_of h (Deliver i) ≡ None
note_fine h c a n i at lives = rw (at, lives) refl

note_has : (c a n : ℕ) (letters : List Letter) → has_letter (NoteLetter c a n) (letters ++ NoteLetter c a n ∷ []) ≡ true
note_has c a n letters = any_in (is_letter (NoteLetter c a n)) (has_last letters (NoteLetter c a n))
    (and_from ((c == c) && (a == a)) (n == n) (and_from (c == c) (a == a) (eq-eqb c c refl) (eq-eqb a a refl)) (eq-eqb n n refl))

letter_more : (letter other : Letter) (letters : List Letter) → has_letter letter letters ≡ true → has_letter letter (letters ++ other ∷ []) ≡ true
letter_more letter other letters has = rw (list_any-append (is_letter letter) letters (other ∷ []), has) refl

other_actor : (b : Bool) → cond {A = ℕ} (b && false) 1 0 ≡ 0
other_actor true = refl
other_actor false = refl

module _ (told : Told) (j : ℕ) (lt : j < length told.actors) (retires : end_of told j ≡ Retired) where
  -- the note of this caller has come, too
  record Freed (c : ℕ) (h g : History) : Type 0 where
    freeing : Freeing told j g
    more : (d : ℕ) → is_done d j h ≡ true → is_done d j g ≡ true
    done : is_done c j g ≡ true

  lives : (h : History) → Left told h → Ends told j h → is_ended j h ≡ false
  lives h left ends = on told j h left ends (not_killed j h ends (λ e. let bad : Retired ≡ Dead = sym retires ∙ e in cc))

  release : (h : History) (c : ℕ) → Freeing told j h → IsIn (actor_of told j).callers c → count_pairs c j h.released ≡ 0 → Leads (Freed c h) h
  release h c f role none =
      let named = names_is told h c j f.left.casts lt role in
      let copy : copies_of c j h ≡ Some 1 = rw (named, f.left.copied, none) refl in
      let fine = release_fine h c j (is_caller_is told h f.left.casts lt role) copy in
      let h1 = add_event h (Release c j) in
      let note : Letter = NoteLetter c j (length (calls_to j (calls_of c h))) in
      let mail1 : h1.mail ≡ h.mail ++ note ∷ [] = ap (λ o. and_also h.mail (cond (copies_held o == 1) (Some note) None)) copy in
      let left1 : Left told h1 = left_stays h h1 (record { casts = refl; submitted = refl; ran = refl; collected = refl }) refl f.left in
      let at1 : slice_get h1.mail (length h.mail) ≡ Some note =
      ap (λ letters. slice_get letters (length h.mail)) mail1 ∙ slice_get_last h.mail note in
      let ends1 : Ends told j h1 = record { killed = f.ends.killed; retired = f.ends.retired; dead = f.ends.dead; gone = f.ends.gone } in
      let fine1 = note_fine h1 c j (length (calls_to j (calls_of c h))) (length h.mail) at1 (lives h1 left1 ends1) in
      let h2 = add_event h1 (Deliver (length h.mail)) in
      let arrived : h2.arrived ≡ h.arrived ++ note ∷ [] = ap (λ o. and_also h.arrived o) at1 in
      let left2 : Left told h2 = left_stays h1 h2 (record { casts = refl; submitted = refl; ran = refl; collected = refl }) refl left1 in
      let done : is_done c j h2 ≡ true = subst (λ letters. has_letter (NoteLetter c j (ran_count c j h2)) letters ≡ true) (sym arrived)
      (subst (λ n. has_letter (NoteLetter c j n) (h.arrived ++ note ∷ []) ≡ true) (sym (f.left.ran_all c j retires))
      (note_has c j (length (calls_to j (calls_of c h))) h.arrived)) in
      let more : (d : ℕ) → is_done d j h ≡ true → is_done d j h2 ≡ true =
      λ d is. subst (λ letters. has_letter (NoteLetter d j (ran_count d j h)) letters ≡ true) (sym arrived)
      (letter_more (NoteLetter d j (ran_count d j h)) note h.arrived is) in
      leads_by (Freed c h) h (Release c j) fine (leads_by (Freed c h) h1 (Deliver (length h.mail)) fine1 (leads_now (Freed c h) h2 (record {
        freeing = record {
          left = left2;
          ends = record { killed = f.ends.killed; retired = f.ends.retired; dead = f.ends.dead; gone = f.ends.gone };
          held = λ d a le. times-push d a c j h.released
              ∙ (let other : (j == a) ≡ false = ne_eqb j a (λ e. omega arith) in let old = f.held d a le in rw (other, other_actor (c == d), old) refl);
          mine = λ d. elim (eqb_tells c d) [
            | inl t ↦ inl (subst (λ e. is_done e j h2 ≡ true) t.1 done)
            | inr u ↦ elim (f.mine d) [ inl old ↦ inl (more d old) | inr zero_released ↦ inr (times-push d j c j h.released ∙ rw (u.0, zero_released) refl) ]
          ];
        };
        more = more;
        done = done;
      })))

  free_one : (h : History) (c : ℕ) → Freeing told j h → IsIn (actor_of told j).callers c → Leads (Freed c h) h
  free_one h c f role = elim (f.mine c) [
    | inl done ↦ leads_now (Freed c h) h (record { freeing = f; more = λ d is. is; done = done })
    | inr none ↦ release h c f role none
  ]

  record AllFreed (cs : List ℕ) (h : History) : Type 0 where
    freeing : Freeing told j h
    done : list_all (λ c. is_done c j h) cs ≡ true

  free_all : (cs : List ℕ) (h : History) → ((c : ℕ) → IsIn cs c → IsIn (actor_of told j).callers c) → Freeing told j h → Leads (AllFreed cs) h
  free_all [] h roles f = leads_now (AllFreed []) h (record { freeing = f; done = refl })
  free_all (c ∷ cs) h roles f = leads_then (AllFreed cs) (AllFreed (c ∷ cs)) h
      (free_all cs h (λ d has. roles d (record { place = suc has.place; at = has.at })) f) (λ g rest.
      leads_then (Freed c g) (AllFreed (c ∷ cs)) g (free_one g c rest.freeing (roles c (record { place = zero; at = refl }))) (λ g2 one.
      leads_now (AllFreed (c ∷ cs)) g2 (record {
        freeing = one.freeing;
        done = and_from (is_done c j g2) (list_all (λ d. is_done d j g2) cs) one.done
            (list_all-weaker (λ d. is_done d j g) (λ d. is_done d j g2) cs one.more rest.done);
      })))

  retire_fine : (h : History) → AllFreed (actor_of told j).callers h → refusal_of h (Retire j) ≡ None
  retire_fine h all =
      let cast = cast_of_is told h all.freeing.left.casts lt in let some : is_some (cast_of j h) ≡ true = ap is_some cast in
      let live = lives h all.freeing.left all.freeing.ends in
      let drained : is_drained j h ≡ true = subst (λ o. list_all (λ c. is_done c j h) (callers_in o) ≡ true) (sym cast) all.done in
      rw (some, live, drained) refl

  retire_now : (h : History) → AllFreed (actor_of told j).callers h → Leads (Stage told (suc j)) h
  retire_now h all =
      let fine = retire_fine h all in let ends = all.freeing.ends in let g = add_event h (Retire j) in
      leads_by (Stage told (suc j)) h (Retire j) fine (leads_now (Stage told (suc j)) g (record {
        left = left_stays h g (record { casts = refl; submitted = refl; ran = refl; collected = refl }) refl all.freeing.left;
        ends = record {
          killed = ends.killed;
          retired = λ a is. elim (contains_or h.retired a j is) [
            | inl old ↦ let r = ends.retired a old in (r.0, omega (arith, r.1))
            | inr e ↦ (subst (λ b. end_of told b ≡ Retired) e retires, omega arith)
          ];
          dead = up_to (λ a. end_of told a ≡ Dead → contains a h.killed ≡ true) j ends.dead (λ e. let bad : Retired ≡ Dead = sym retires ∙ e in absurd (cc));
          gone = up_to (λ a. end_of told a ≡ Retired → contains a g.retired ≡ true) j (λ a less e. contains_more a h.retired (j ∷ []) (ends.gone a less e))
              (λ e. is_contained j g.retired (has_last h.retired j));
        };
        held = all.freeing.held;
      }))

  pub retires_now : (h : History) → Stage told j h → Leads (Stage told (suc j)) h
  retires_now h stage = leads_then (AllFreed (actor_of told j).callers) (Stage told (suc j)) h (free_all (actor_of told j).callers h (λ c has. has) (record {
    left = stage.left;
    ends = stage.ends;
    held = λ c a le. stage.held c a (omega arith);
    mine = λ c. inr (stage.held c j (omega arith));
  })) retire_now
