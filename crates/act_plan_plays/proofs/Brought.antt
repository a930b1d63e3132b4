-- Each letter that was sent has arrived: what keeps it so.
use Rattle.act_plan_plays.proofs.Common.{◌≡◌, ℕ, ◌-◌, Bool, true, false, cond, List, [], ◌∷◌, ◌++◌, length, Option, Some, None, inl, inr, ◌⊎◌, refl, ap, sym}
use Rattle.act_plan_plays.proofs.Common.{◌∙◌, subst, not, slice_get, option_map, list_any-append, Event, Letter, Submission, Mail, Copies, WorldRefusal}
use Rattle.act_plan_plays.proofs.Common.{ActorEnded, NoCaller, Sending, needs, calls_to, copies_held, send_refusal, History, is_letter, has_letter, is_ended}
use Rattle.act_plan_plays.proofs.Common.{is_caller, calls_of, copies_of, kept_of, runs_of, refusal_of, did, add_event, after_by, after, and_also, letter_actor}
use Rattle.act_plan_plays.proofs.Common.{deliver_refusal, call_letter, was_sent, is_last, slice_get_last, added_grows, ended_stays, letter_is, has_front}
use Rattle.act_plan_plays.proofs.Common.{has_last, IsBrought, after_mail, after_post, or_cases, NoteLetter}
use Rattle.act_rules.specs.declared.event.Event.TheVariants as event
use Rattle.std.proofs.Math.Bool.{or-false}

-- who lives after an event lived before
pub lived : (a : ℕ) (h : History) (other : Event) → refusal_of h other ≡ None → is_ended a (add_event h other) ≡ false → is_ended a h ≡ false
lived a h other accepted live = go (is_ended a h) refl
  where
    go : (b : Bool) → is_ended a h ≡ b → b ≡ false
    go false e = refl
    go true e =
        let stays = ended_stays a (runs_of a h) h other (record { ended = e; same = refl }) accepted in
        let bad : true ≡ false = sym stays.ended ∙ live in cc

-- an event that sends nothing
pub brought_kept : (h : History) (other : Event) → refusal_of h other ≡ None → (add_event h other).mail ≡ h.mail → IsBrought h → IsBrought (add_event h other)
brought_kept h other accepted same brought letter there live =
    has_front letter h.arrived (add_event h other).arrived (added_grows h other).arrived
    (brought letter (subst (λ l. has_letter letter l ≡ true) same there) (lived (letter_actor letter) h other accepted live))

-- ---- a letter that is sent is brought

-- a letter of the longer mail was there before, or is the new one
older_or_new : (letter new : Letter) (mail : List Letter) → has_letter letter (mail ++ new ∷ []) ≡ true → (has_letter letter mail ≡ true) ⊎ (letter ≡ new)
older_or_new letter new mail e = go (or_cases (has_letter letter mail) (has_letter letter (new ∷ [])) (sym (list_any-append (is_letter letter) mail (new ∷ []))
    ∙ e))
  where
    go : (has_letter letter mail ≡ true) ⊎ (has_letter letter (new ∷ []) ≡ true) → (has_letter letter mail ≡ true) ⊎ (letter ≡ new)
    go (inl there) = inl there
    go (inr is) = inr (letter_is letter new (sym (or-false (is_letter letter new)) ∙ is))

not_refused : (ended : Bool) {refusal : WorldRefusal} → needs (not ended) ActorEnded None ≡ Some refusal → ended ≡ true
not_refused true e = refl
not_refused false e = cc

-- all but the new letter came before it, and it comes now, or its actor has ended
pub brought_more : (h g : History) (new : Letter) → g.mail ≡ h.mail ++ new ∷ [] → g.arrived ≡ h.arrived → ((a : ℕ) → is_ended a g ≡ is_ended a h) → IsBrought h
    → IsBrought (after g (event.Deliver (length h.mail)))
brought_more h g new mail arrived same brought = go (refusal_of g (event.Deliver (length h.mail))) refl
  where
    i : ℕ
    i = length h.mail

    at : slice_get g.mail i ≡ Some new
    at = ap (λ l. slice_get l i) mail ∙ slice_get_last h.mail new

    older : (letter : Letter) → has_letter letter h.mail ≡ true → is_ended (letter_actor letter) g ≡ false → has_letter letter g.arrived ≡ true
    older letter there live = ap (has_letter letter) arrived ∙ brought letter there (sym (same (letter_actor letter)) ∙ live)

    go : (o : Option WorldRefusal) → refusal_of g (event.Deliver i) ≡ o → IsBrought (after_by g (event.Deliver i) o)
    go None e letter there live = next (older_or_new letter new h.mail (ap (has_letter letter) (sym mail) ∙ there))
      where
        more : and_also g.arrived (slice_get g.mail i) ≡ g.arrived ++ new ∷ []
        more = ap (and_also g.arrived) at

        next : (has_letter letter h.mail ≡ true) ⊎ (letter ≡ new) → has_letter letter (and_also g.arrived (slice_get g.mail i)) ≡ true
        next (inl before) = ap (has_letter letter) more ∙ has_front letter g.arrived (g.arrived ++ new ∷ []) (new ∷ [], refl) (older letter before live)
        next (inr is) = ap (has_letter letter) more ∙ subst (λ l. has_letter l (g.arrived ++ new ∷ []) ≡ true) (sym is) (has_last new g.arrived)
    go (Some refusal) e letter there live = next (older_or_new letter new h.mail (ap (has_letter letter) (sym mail) ∙ there))
      where
        ended : is_ended (letter_actor new) g ≡ true
        ended = not_refused (is_ended (letter_actor new) g) (ap (λ o. deliver_refusal o g) (sym at) ∙ e)

        next : (has_letter letter h.mail ≡ true) ⊎ (letter ≡ new) → has_letter letter g.arrived ≡ true
        next (inl before) = older letter before live
        next (inr is) = let bad : true ≡ false = sym (subst (λ l. is_ended (letter_actor l) g ≡ true) (sym is) ended) ∙ live in cc

-- ---- the events that send

-- each sent letter is still brought after an accepted release, once the note that it may send is brought
pub brought_release : (h : History) (c a : ℕ) → refusal_of h (event.Release c a) ≡ None → IsBrought h → IsBrought (after_post (event.Release c a) h)
brought_release h c a accepted brought = go (is_last c a h) refl
  where
    note : Letter
    note = NoteLetter c a (length (calls_to a (calls_of c h)))

    g : History
    g = add_event h (event.Release c a)

    go : (b : Bool) → is_last c a h ≡ b → IsBrought (after_post (event.Release c a) h)
    go true e =
        let mail : g.mail ≡ h.mail ++ note ∷ [] = ap (λ x. and_also h.mail (cond x (Some note) None)) e in
        let says : did h (event.Release c a) ≡ Mail (length h.mail) = rw e refl in
        subst (λ d. IsBrought (after_mail d g)) (sym says) (brought_more h g note mail refl (λ b. refl) brought)
    go false e =
        let mail : g.mail ≡ h.mail = ap (λ x. and_also h.mail (cond x (Some note) None)) e in
        let says : did h (event.Release c a) ≡ Copies (copies_held (copies_of c a h) - 1) = rw e refl in
        subst (λ d. IsBrought (after_mail d g)) (sym says) (brought_kept h (event.Release c a) accepted mail brought)

-- each sent letter is still brought after an accepted send, once its own letter is brought
pub brought_send : (h : History) (c k : ℕ) → refusal_of h (event.Send c k) ≡ None → IsBrought h → IsBrought (after_post (event.Send c k) h)
brought_send h c k accepted brought = go (slice_get (calls_of c h) k) refl
  where
    g : History
    g = add_event h (event.Send c k)

    none : (kept : Bool) (sent : Bool) → needs kept NoCaller (option_map Sending (send_refusal (kept_of c h) k sent None)) ≡ None → ⊥
    none true sent e = cc
    none false sent e = cc

    go : (o : Option Submission) → slice_get (calls_of c h) k ≡ o → IsBrought (after_post (event.Send c k) h)
    go None e = absurd (none (is_caller c h) false
        (subst (λ o. needs (is_caller c h) NoCaller (option_map Sending (send_refusal (kept_of c h) k (was_sent c k o h) o)) ≡ None) e accepted))
    go (Some call) e =
        let mail : g.mail ≡ h.mail ++ call_letter c k call h ∷ [] =
        ap (λ o. and_also h.mail (option_map (λ call. call_letter c k call h) o)) e in
        brought_more h g (call_letter c k call h) mail refl (λ b. refl) brought
