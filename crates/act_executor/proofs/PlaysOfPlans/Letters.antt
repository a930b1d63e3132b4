-- No letter that an actor takes of a caller comes twice, and so it is of the letters that are delivered.
use Rattle.act_executor.proofs.Common.{◌≡◌, ◌≢◌, ℕ, suc, ◌==◌, Bool, true, false, cond, List, [], ◌∷◌, ◌++◌, Option, Some, None, refl, ap, sym, ◌∙◌, subst}
use Rattle.act_executor.proofs.Common.{true≢false, option_and_then, eqb_tells, inl, inr, arith, All, AllPairs, ◌&&◌, map, filter, filter_map, slice_get}
use Rattle.act_executor.proofs.Common.{option_map, AllByRecursion, cons_option, eqb-true, eq-eqb, map-append, recursion_from_All, Packet, ReleaseNote}
use Rattle.act_executor.proofs.Common.{Submission, number_of, same_place, OwnerView, packet_for, Letter, Call, Note, Site, Action, Caller, Actor, actions_of}
use Rattle.act_executor.proofs.Common.{IsSent, AreTwo, letter_of, IsPrefix, contains, items_from, caller_of, steps_in, found_in, CallTaken, NoteTaken}
use Rattle.act_executor.proofs.Common.{letter_taken, SentLetter, found_alone}
use Rattle.act_rules.specs.declared.history.Letter.TheVariants.{Call as CallLetter, Note as NoteLetter}
use Rattle.act_executor.proofs.PlaysOfPlans.Once.{Differ, differ_pairs, front_differs, HasEnds, both_same, all_differ}
use Rattle.act_executor.proofs.PlaysOfThreads.ActorWork.{is_of_these, kept_letter}
use Rattle.act_executor.proofs.Lists.Kept.{keep_stamped, kept_steps, kept_found, gives_none}

-- ---- what a caller put at an endpoint

abbrev pub sent_letter : ℕ → Letter → SentLetter
sent_letter a (Call packet) = CallLetter packet.caller a packet.number
sent_letter a (Note note) = NoteLetter note.caller a note.after

-- the packet of a call tells its place among the calls
record IsPacketOf (owner : OwnerView) (a : ℕ) (packet : Packet) : Type 0 where
  call : Submission
  at : slice_get owner.calls packet.future ≡ Some call
  to : call.actor ≡ a
  number : packet.number ≡ number_of a packet.future owner.calls

packet_is : (owner : OwnerView) (a : ℕ) (packet : Packet) → IsSent owner a (Call packet) → IsPacketOf owner a packet
packet_is owner a packet sent = go (slice_get owner.calls packet.future) refl sent.0
  where
    go : (o : Option Submission) → slice_get owner.calls packet.future ≡ o → option_map (packet_for owner packet.future) o ≡ Some packet →
        IsPacketOf owner a packet
    go None at e = cc
    go (Some call) at e =
        let same : packet_for owner packet.future call ≡ packet = cc in
        let actor : call.actor ≡ a = ap (λ (p : Packet). p.actor) same ∙ sent.2 in
        record { call = call; at = at; to = actor; number = sym (ap (λ (p : Packet). p.number) same) ∙ ap (λ b. number_of b packet.future owner.calls) actor }

one_future : (owner : OwnerView) (a : ℕ) (p q : Packet) → IsSent owner a (Call p) → IsSent owner a (Call q) → p.number ≡ q.number → p.future ≡ q.future
one_future owner a p q sent other same =
    let x = packet_is owner a p sent in let y = packet_is owner a q other in
    same_place (λ (call : Submission). call.actor == a) owner.calls p.future q.future x.at (eq-eqb x.call.actor a x.to) y.at (eq-eqb y.call.actor a y.to)
    (sym x.number ∙ same ∙ y.number)

-- each letter is another one than those behind it
abbrev pub Apart : List Letter → Type 0
Apart [] = Unit {0}
Apart (letter ∷ put) = AllByRecursion (AreTwo letter) put × Apart put

are_apart : (put : List Letter) → AllPairs AreTwo put → Apart put
are_apart [] pairs = tt
are_apart (letter ∷ put) pairs = (
  recursion_from_All (AreTwo letter) put (λ k d below. pairs 0 (suc k) d (omega arith) (omega (arith, below))),
  are_apart put (λ i j d below within. pairs (suc i) (suc j) d (omega (arith, below)) (omega (arith, within))),
)

module _ (owner : OwnerView) (a : ℕ) where
  two_differ : (one other : Letter) → IsSent owner a one → IsSent owner a other → AreTwo one other → sent_letter a one ≢ sent_letter a other
  two_differ (Call p) (Call q) sent there two e = two (one_future owner a p q sent there (let same : p.number ≡ q.number = cc in same))
  two_differ (Call p) (Note note) sent there two e = cc
  two_differ (Note note) (Call p) sent there two e = cc
  two_differ (Note one) (Note other) sent there two e = two (ap (λ (r : ReleaseNote). r.actor) (sent.0 ∙ sym there.0))

  one_differs : (letter : Letter) (put : List Letter) → IsSent owner a letter → AllByRecursion (IsSent owner a) put → AllByRecursion (AreTwo letter) put →
      AllByRecursion (λ other. sent_letter a letter ≢ other) (map (sent_letter a) put)
  one_differs letter [] sent all two = tt
  one_differs letter (other ∷ put) sent all two = (two_differ letter other sent all.0 two.0, one_differs letter put sent all.1 two.1)

  put_differ : (put : List Letter) → AllByRecursion (IsSent owner a) put → Apart put → Differ (map (sent_letter a) put)
  put_differ [] all apart = tt
  put_differ (letter ∷ put) all apart = (one_differs letter put all.0 all.1 apart.0, put_differ put all.1 apart.1)

-- ---- what is delivered

-- whether the letter went from the caller to the actor
abbrev pub is_sent_between : ℕ → ℕ → SentLetter → Bool
is_sent_between c a (CallLetter d b n) = (d == c) && (b == a)
is_sent_between c a (NoteLetter d b n) = (d == c) && (b == a)

sent_ends : (letter : SentLetter) → HasEnds is_sent_between letter
sent_ends (CallLetter c a n) = record { caller = c; actor = a; goes = both_same c a }
sent_ends (NoteLetter c a n) = record { caller = c; actor = a; goes = both_same c a }

pub delivered_once : (arrived : List SentLetter) → ((c a : ℕ) → Differ (filter (is_sent_between c a) arrived)) → AllPairs (λ one other. one ≢ other) arrived
delivered_once arrived each = differ_pairs arrived (all_differ is_sent_between sent_ends arrived each)

-- a letter of the caller's, and one that an actor takes in a step
abbrev pub letter_from : ℕ → ℕ → Letter → Option SentLetter
letter_from c a letter = cond (caller_of letter == c) (Some (sent_letter a letter)) None

-- the letter of the caller's that the actor takes in the step, if it takes one
abbrev pub letter_in_step : ℕ → ℕ → Action → Option SentLetter
letter_in_step c a step = option_and_then (letter_from c a) (letter_taken step)

module _ (c a : ℕ) where
  one_taken : (b : ℕ) (step : Action) (letter : Letter) {letters : List SentLetter} (steps : List Action) → letter_taken step ≡ Some letter →
      letters ≡ filter_map (letter_in_step c a) steps → (x : Bool) → (caller_of letter == c) ≡ x → (y : Bool) → (b == a) ≡ y →
      cond (x && y) (sent_letter b letter ∷ letters) letters ≡ filter_map (letter_in_step c a) (cons_option (cond y (Some step) None) steps)
  one_taken b step letter {letters} steps takes rest x is false same = and_none x ∙ rest
    where
      and_none : (x : Bool) → cond (x && false) (sent_letter b letter ∷ letters) letters ≡ letters
      and_none true = refl
      and_none false = refl
  one_taken b step letter {letters} steps takes rest x is true same = go x is ∙ sym (ap (λ o. cons_option o (filter_map (letter_in_step c a) steps)) gives)
    where
      gives : letter_in_step c a step ≡ cond x (Some (sent_letter a letter)) None
      gives = ap (option_and_then (letter_from c a)) takes ∙ ap (λ x. cond x (Some (sent_letter a letter)) None) is

      go : (x : Bool) → (caller_of letter == c) ≡ x → cond (x && true) (sent_letter b letter ∷ letters) letters ≡ cons_option
          (cond x (Some (sent_letter a letter)) None) (filter_map (letter_in_step c a) steps)
      go true is = ap (λ n. sent_letter n letter ∷ letters) (eqb-true b a same) ∙ ap (λ l. sent_letter a letter ∷ l) rest
      go false is = rest

  -- of the caller's letters the deeds bring to the actor what the actor's own steps take
  pub arrived_part : (deeds : List (Site × Action)) →
      filter (is_sent_between c a) (filter_map letter_of deeds) ≡ filter_map (letter_in_step c a) (actions_of (Actor a) deeds)
  arrived_part [] = refl
  arrived_part ((Caller d, step) ∷ deeds) = arrived_part deeds
  arrived_part ((Actor b, CallTaken packet) ∷ deeds) =
      one_taken b (CallTaken packet) (Call packet) (actions_of (Actor a) deeds) refl (arrived_part deeds)
      (packet.caller == c) refl (b == a) refl
  arrived_part ((Actor b, NoteTaken note) ∷ deeds) =
      one_taken b (NoteTaken note) (Note note) (actions_of (Actor a) deeds) refl (arrived_part deeds) (note.caller == c) refl
      (b == a) refl
  arrived_part ((Actor b, step) ∷ deeds) = arrived_part deeds ∙ sym (gives_none (letter_in_step c a) (b == a) step (actions_of (Actor a) deeds) refl)

-- ---- the steps of an actor's thread

module _ (c a : ℕ) where
  by_letters : (steps : List Action) → filter_map (letter_in_step c a) steps ≡ filter_map (letter_from c a) (filter_map letter_taken steps)
  by_letters [] = refl
  by_letters (step ∷ steps) = go (letter_taken step) (by_letters steps)
    where
      go : (o : Option Letter) → filter_map (letter_in_step c a) steps ≡ filter_map (letter_from c a) (filter_map letter_taken steps) →
          cons_option (option_and_then (letter_from c a) o) (filter_map (letter_in_step c a) steps) ≡ filter_map (letter_from c a)
          (cons_option o (filter_map letter_taken steps))
      go None rest = rest
      go (Some letter) rest = ap (cons_option (letter_from c a letter)) rest

  -- a caller that is listed otherwise than the caller takes no letter of the caller's
  other_letter : (callers : List ℕ) (kept : Bool) → contains c callers ≢ kept → (step : Action) → is_of_these callers step ≡ kept →
      letter_in_step c a step ≡ None
  other_letter callers kept apart step is = go (letter_taken step) refl
    where
      by : (letter : Letter) → contains (caller_of letter) callers ≡ kept → letter_from c a letter ≡ None
      by letter mine = elim (eqb_tells (caller_of letter) c) [
        | inl t ↦ absurd (apart (ap (λ n. contains n callers) (sym t.1) ∙ mine))
        | inr f ↦ ap (λ b. cond b (Some (sent_letter a letter)) None) f.0
      ]

      go : (o : Option Letter) → letter_taken step ≡ o → option_and_then (letter_from c a) o ≡ None
      go None e = refl
      go (Some letter) e = by letter (sym (kept_letter callers step e) ∙ is)

  -- the letters that are taken of a listed caller
  pub letters_kept : (callers : List ℕ) → contains c callers ≡ true → (t : List (ℕ × Action)) {taken : List Letter} → map (λ x. x.1) (found_in letter_taken t) ≡
      taken → filter_map (letter_in_step c a) (steps_in (filter (keep_stamped (is_of_these callers)) t)) ≡ filter_map (letter_from c a) taken
  letters_kept callers listed t is =
      ap (filter_map (letter_in_step c a)) (kept_steps (is_of_these callers) t)
      ∙ kept_found (is_of_these callers) (letter_in_step c a) (λ step lost. other_letter callers false (λ same. true≢false (sym listed ∙ same)) step lost)
      (steps_in t)
      ∙ by_letters (steps_in t)
      ∙ ap (filter_map (letter_from c a)) (sym (found_alone letter_taken t) ∙ is)

  none_listed : (callers : List ℕ) → contains c callers ≡ false → (steps : List Action) →
      filter_map (letter_in_step c a) (filter (is_of_these callers) steps) ≡ []
  none_listed callers none [] = refl
  none_listed callers none (step ∷ steps) = go (is_of_these callers step) refl (none_listed callers none steps)
    where
      go : (b : Bool) → is_of_these callers step ≡ b → filter_map (letter_in_step c a) (filter (is_of_these callers) steps) ≡ []
          → filter_map (letter_in_step c a) (cond b (step ∷ filter (is_of_these callers) steps) (filter (is_of_these callers) steps)) ≡ []
      go true is rest = ap (λ o. cons_option o (filter_map (letter_in_step c a) (filter (is_of_these callers) steps)))
          (other_letter callers true (λ same. true≢false (sym same ∙ none)) step is) ∙ rest
      go false is rest = rest

  pub letters_lost : (callers : List ℕ) → contains c callers ≡ false → (t : List (ℕ × Action)) →
      filter_map (letter_in_step c a) (steps_in (filter (keep_stamped (is_of_these callers)) t)) ≡ []
  letters_lost callers none t = ap (filter_map (letter_in_step c a)) (kept_steps (is_of_these callers) t) ∙ none_listed callers none (steps_in t)

  -- ---- what was taken was put

  of_caller : (letters : List Letter) → filter_map (letter_from c a) letters ≡ map (sent_letter a) (items_from caller_of c letters)
  of_caller [] = refl
  of_caller (letter ∷ letters) = go (caller_of letter == c) (of_caller letters)
    where
      go : (b : Bool) → filter_map (letter_from c a) letters ≡ map (sent_letter a) (items_from caller_of c letters) →
          cons_option (cond b (Some (sent_letter a letter)) None) (filter_map (letter_from c a) letters) ≡ map (sent_letter a)
          (cond b (letter ∷ items_from caller_of c letters) (items_from caller_of c letters))
      go true rest = ap (λ l. sent_letter a letter ∷ l) rest
      go false rest = rest

  pub taken_differ : (owner : OwnerView) (taken put : List Letter) → IsPrefix (items_from caller_of c taken) put → All (IsSent owner a) put →
      AllPairs AreTwo put → Differ (filter_map (letter_from c a) taken)
  taken_differ owner taken put front sent apart =
      let all : Differ (map (sent_letter a) put) = put_differ owner a put (recursion_from_All (IsSent owner a) put sent) (are_apart put apart) in
      let cut : Differ (map (sent_letter a) (items_from caller_of c taken) ++ map (sent_letter a) front.0) =
      subst (λ l. Differ l) (ap (map (sent_letter a)) (sym front.1) ∙ map-append (sent_letter a) (items_from caller_of c taken) front.0) all in
      subst (λ l. Differ l) (sym (of_caller taken)) (front_differs (map (sent_letter a) (items_from caller_of c taken)) (map (sent_letter a) front.0) cut)
