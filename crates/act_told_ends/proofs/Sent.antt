-- Each call that ran was sent.
use Rattle.act_told_ends.proofs.Common.{◌≡◌, ℕ, ◌+◌, true, List, map, Option, Some, None, refl, ap, sym, ◌∙◌, subst, arith, ◌==◌, slice_get, option_map, eq-eqb}
use Rattle.act_told_ends.proofs.Common.{AllByRecursion, RunItem, Submission, Letter, calls_to, number_of, History, opening, under, calls_of, runs_of}
use Rattle.act_told_ends.proofs.Common.{has_letter, ran_count, items_of, next_item, add_event, after_run, and_also, call_letter, IsKept, IsPrefix, added_grows}
use Rattle.act_told_ends.proofs.Common.{IsNext, next_item_is, numbered, numbers, has_letter-sound, held_call, held_submission, map-slice_get, rank, IsSound}
use Rattle.act_told_ends.proofs.Common.{slice_get_front, slice_get-filter, slice_get-map, slice_get-enumerate_from, ActorSpec, All_more, All_weaker, CallLetter}
use Rattle.act_told_ends.proofs.Common.{number_is, has_front, has_letter-at}
use Rattle.act_rules.specs.declared.event.Event.TheVariants as event
use Rattle.act_told_ends.proofs.Posted.{ran_each}

-- each letter that arrived was sent, and so was that of each call that ran
pub record AreSent (h : History) : Type 0 where
  pub arrived : AllByRecursion (λ letter. has_letter letter h.mail ≡ true) h.arrived
  pub ran : (a place : ℕ) (item : RunItem) → slice_get (runs_of a h) place ≡ Some item → has_letter (CallLetter item.caller a item.number) h.mail ≡ true

abbrev In : List Letter → Letter → Type 0
In mail letter = has_letter letter mail ≡ true

-- more was sent, and nothing arrived or ran
more_sent : (h g : History) → AreSent h → IsPrefix h.mail g.mail → g.arrived ≡ h.arrived → g.ran ≡ h.ran → AreSent g
more_sent h g sent mail arrived ran = record {
  arrived = subst (λ l. AllByRecursion (In g.mail) l) (sym arrived)
      (All_weaker (In h.mail) (In g.mail) h.arrived (λ letter has. has_front letter h.mail g.mail mail has) sent.arrived);
  ran = λ a place item at. has_front (CallLetter item.caller a item.number) h.mail g.mail mail
      (sent.ran a place item (subst (λ l. slice_get (under a l) place ≡ Some item) ran at));
}

run_sent : (h : History) (b c : ℕ) (item : RunItem) → AreSent h → IsNext b c h item → AreSent (after_run b c h (Some item))
run_sent h b c item sent next =
    -- the letter of what runs has arrived
    let own : has_letter (CallLetter item.caller b item.number) h.mail ≡ true =
    subst (λ (i : RunItem). has_letter (CallLetter i.caller b i.number) h.mail ≡ true) next.is
    (has_letter-sound (In h.mail) (CallLetter c b (ran_count c b h)) h.arrived sent.arrived next.arrived) in
    record {
      arrived = sent.arrived;
      ran = ran_each (λ a place (other : RunItem). has_letter (CallLetter other.caller a other.number) h.mail ≡ true) h b c item sent.ran own;
    }

-- each accepted event keeps that the letters that arrived, and those of the calls that ran, were sent
pub sent_step : IsKept AreSent
sent_step h (event.Run b c) sent may = go (next_item b c h) refl
  where
    go : (o : Option RunItem) → next_item b c h ≡ o → AreSent (after_run b c h o)
    go None e = sent
    go (Some item) e = run_sent h b c item sent (next_item_is b c h e)
sent_step h (event.Deliver i) sent may = go (slice_get h.mail i) refl
  where
    go : (o : Option Letter) → slice_get h.mail i ≡ o → AreSent (record h { arrived = and_also h.arrived o })
    go None e = sent
    go (Some letter) e = record { arrived = All_more (In h.mail) h.arrived letter sent.arrived (has_letter-at h.mail i e); ran = sent.ran }
sent_step h other sent may = more_sent h (add_event h other) sent (added_grows h other).mail refl refl

pub none_sent : (casts : List ActorSpec) → AreSent (opening casts)
none_sent casts = record { arrived = tt; ran = λ a place item e. cc }

-- ---- by its future

-- the number of a call that ran is the one that its letter has
number_held : (h : History) (a c k place : ℕ) (item : RunItem) → IsSound h → slice_get (runs_of a h) place ≡ Some item → item.caller ≡ c
    → item.future ≡ k → number_of a k (calls_of c h) ≡ item.number
number_held h a c k place item sound at caller future =
    let mine : slice_get (items_of c (runs_of a h)) (rank c place (runs_of a h)) ≡ Some item =
    slice_get-filter (λ (i : RunItem). i.caller == c) (runs_of a h) place at (eq-eqb item.caller c caller) in
    let all : slice_get (numbers a (calls_of c h)) (rank c place (runs_of a h)) ≡ Some (numbered item) =
    slice_get_front (map numbered (items_of c (runs_of a h))) (numbers a (calls_of c h)) (rank c place (runs_of a h)) (sound.order a c)
    (slice_get-map numbered (items_of c (runs_of a h)) (rank c place (runs_of a h)) ∙ ap (option_map numbered) mine) in
    let m = rank c place (runs_of a h) in
    let other = map-slice_get (λ (s : ℕ × Submission). s.0) (calls_to a (calls_of c h)) m (held_call h a place sound.order at caller future) in
    ap (λ j. number_of a j (calls_of c h)) (sym other.2) ∙ number_is a m (calls_of c h) other.1
    ∙ sym (counted (slice_get (map (λ (call : ℕ × Submission). call.0) (calls_to a (calls_of c h))) m)
    (sym (slice_get-enumerate_from 0 (map (λ (call : ℕ × Submission). call.0) (calls_to a (calls_of c h))) m) ∙ all))
  where
    counted : (o : Option ℕ) → ◌≡◌ {A = Option (ℕ × ℕ)} (option_map (λ x. (0 + rank c place (runs_of a h), x)) o) (Some (numbered item))
        → item.number ≡ rank c place (runs_of a h)
    counted None e = cc
    counted (Some x) e = let pair : ◌≡◌ {A = ℕ × ℕ} (0 + rank c place (runs_of a h), x) (numbered item) = cc in sym (ap (λ (p : ℕ × ℕ). p.0) pair) ∙ omega arith

-- the letter of a call that ran was sent
pub was_mailed : (h : History) (a c k place : ℕ) (item : RunItem) (call : Submission) → IsSound h → AreSent h → slice_get (runs_of a h) place ≡ Some item
    → item.caller ≡ c → item.future ≡ k → slice_get (calls_of c h) k ≡ Some call → has_letter (call_letter c k call h) h.mail ≡ true
was_mailed h a c k place item call sound sent at caller future there =
    let held : (other : Submission) × (slice_get (calls_of c h) k ≡ Some other) × (other.actor ≡ a) =
    held_submission h a k place sound.order at caller future in
    let one : held.0 ≡ call = let e : Some held.0 ≡ Some call = sym held.1 ∙ there in cc in
    let actor : a ≡ call.actor = sym held.2 ∙ ap (λ (s : Submission). s.actor) one in
    let letter : CallLetter item.caller a item.number ≡ call_letter c k call h =
    ap (λ x. CallLetter x a item.number) caller
    ∙ ap (CallLetter c a) (sym (number_held h a c k place item sound at caller future))
    ∙ ap (λ b. CallLetter c b (number_of b k (calls_of c h))) actor in
    subst (λ letter. has_letter letter h.mail ≡ true) letter (sent.ran a place item at)
