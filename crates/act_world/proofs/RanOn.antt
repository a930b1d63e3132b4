-- A history with one item more that ran, and the actor that ran it.
use Rattle.act_world.proofs.Common.{◌≡◌, ◌≢◌, ℕ, ◌+◌, ◌<◌, Bool, true, false, cond, List, [], ◌∷◌, ◌++◌, length, Some, None, refl, ap, sym, ◌∙◌}
use Rattle.act_world.proofs.Common.{arith, length-append, Option, ◌==◌, ◌||◌, nat_lt, eq-eqb, ne_eqb, ltb-true, lt-ltb, append-nil, filter-append}
use Rattle.act_world.proofs.Common.{Packet, RunItem, after_item, state_after, items_of, has_terminated, History, contains, cast_of, names, runs_of, ran_count}
use Rattle.act_world.proofs.Common.{is_ended, is_retired, has_letter, after_run_grows, under-push, ended_by, IsSoundLetter, has_letter-sound}
use Rattle.act_world.proofs.Common.{state_after-push, handed_of, waiting_packet, ActorView, item_of, HasRunCall, Runs, dead_slot, bury_ended, packet_by_number}
use Rattle.act_world.proofs.Common.{held_packet, is_note_of, IsLive, IsDead, IsStage, CallLetter, ran_on, or_right, eq_turned}
use Rattle.act_world.proofs.Lawful.{IsLawful}
use Rattle.act_world.proofs.Frames.{packet_stays}

-- an item that ran is the last of its actor's run list
pub runs_here : (h : History) (a c : ℕ) (item : RunItem) → runs_of a (ran_on h a c item) ≡ runs_of a h ++ item ∷ []
runs_here h a c item = under-push a a h.ran item ∙ ap (λ b. runs_of a h ++ cond b (item ∷ []) []) (eq-eqb a a refl)

-- an item that ran leaves the run lists of other actors
pub runs_other : (h : History) (a b c : ℕ) (item : RunItem) → a ≢ b → runs_of b (ran_on h a c item) ≡ runs_of b h
runs_other h a b c item apart = under-push b a h.ran item ∙ ap (λ x. runs_of b h ++ cond x (item ∷ []) []) (ne_eqb a b apart) ∙ append-nil (runs_of b h)

count_then : (h : History) (a c d : ℕ) (item : RunItem) → item.caller ≡ c →
    cond (d == c) (ran_count d a h + 1) (ran_count d a h) ≡ ran_count d a (ran_on h a c item)
count_then h a c d item mine =
    go (eq_turned d c)
    ∙ sym (length-append (items_of d (runs_of a h)) (cond (item.caller == d) (item ∷ []) []))
    ∙ ap (λ items. length items) (sym (filter-append (λ (i : RunItem). i.caller == d) (runs_of a h) (item ∷ [])))
    ∙ ap (λ items. length (items_of d items)) (sym (runs_here h a c item))
  where
    by : (b : Bool) → cond b (ran_count d a h + 1) (ran_count d a h) ≡ ran_count d a h + length {A = RunItem} (cond b (item ∷ []) [])
    by true = refl
    by false = omega arith

    go : (d == c) ≡ (c == d) →
        cond (d == c) (ran_count d a h + 1) (ran_count d a h) ≡ ran_count d a h + length {A = RunItem} (cond (item.caller == d) (item ∷ []) [])
    go e = ap (λ b. cond b (ran_count d a h + 1) (ran_count d a h)) (e ∙ ap (λ x. x == d) (sym mine)) ∙ by (item.caller == d)

-- what is held of the other calls stays
held_then : (h : History) (a c d n : ℕ) (item : RunItem) → IsLawful h → item.caller ≡ c
    → cond (nat_lt n (ran_count d a (ran_on h a c item))) None (held_packet h a d n) ≡ held_packet (ran_on h a c item) a d n
held_then h a c d n item lawful mine =
    unmask (nat_lt n (ran_count d a (ran_on h a c item))) (nat_lt n (ran_count d a h))
    (cond (has_letter (CallLetter d a n) h.arrived) (packet_by_number h d a n) None) low
    ∙ ap (λ o. cond (nat_lt n (ran_count d a (ran_on h a c item))) None o) (by (has_letter (CallLetter d a n) h.arrived) refl)
  where
    unmask : (now was : Bool) (rest : Option Packet) → (was ≡ true → now ≡ true) → cond now None (cond was None rest) ≡ cond now None rest
    unmask true was rest low = refl
    unmask false true rest low = let bad : false ≡ true = low refl in cc
    unmask false false rest low = refl

    grown : (b : Bool) → cond b (ran_count d a h + 1) (ran_count d a h) ≡ ran_count d a (ran_on h a c item) → n < ran_count d a h →
        n < ran_count d a (ran_on h a c item)
    grown true e below = let more : ran_count d a h + 1 ≡ ran_count d a (ran_on h a c item) = e in omega arith
    grown false e below = let same : ran_count d a h ≡ ran_count d a (ran_on h a c item) = e in omega arith

    low : nat_lt n (ran_count d a h) ≡ true → nat_lt n (ran_count d a (ran_on h a c item)) ≡ true
    low was = lt-ltb n (ran_count d a (ran_on h a c item)) (grown (d == c) (count_then h a c d item mine) (ltb-true n (ran_count d a h) was))

    by : (came : Bool) → has_letter (CallLetter d a n) h.arrived ≡ came →
        cond came (packet_by_number h d a n) None ≡ cond came (packet_by_number (ran_on h a c item) d a n) None
    by true e = sym (packet_stays h d a n lawful (after_run_grows a c h (Some item))
        (has_letter-sound (IsSoundLetter h) (CallLetter d a n) h.arrived lawful.sound.letters.arrived e))
    by false e = refl

-- what the actor ran, then
log_ran : (h : History) (a c : ℕ) {packet : Packet} {live new : ActorView} → IsLive h a live → HasRunCall c packet live new →
    new.log ≡ runs_of a (ran_on h a c (item_of packet))
log_ran h a c {packet} is ran = ran.log ∙ ap (λ items. items ++ item_of packet ∷ []) is.log ∙ sym (runs_here h a c (item_of packet))

-- an actor that hadn't ended has ended where the last of these items ended it
ended_by_last : (h : History) (a : ℕ) (items : List RunItem) → is_ended a h ≡ false → ended_by a h items ≡ has_terminated items
ended_by_last h a items on = go (contains a h.killed) (has_terminated (runs_of a h)) (is_retired a h) (has_terminated items) on
  where
    go : (killed was retired last : Bool) → ((killed || was) || retired) ≡ false → ((killed || last) || retired) ≡ last
    go true was retired last e = cc
    go false true retired last e = cc
    go false false true last e = cc
    go false false false true e = refl
    go false false false false e = refl

-- the actor after its run, where it goes on
live_ran : (h : History) (a c : ℕ) (packet : Packet) (live new : ActorView) → IsLawful h → IsLive h a live → HasRunCall c packet live new →
    has_terminated new.log ≡ false → IsLive (ran_on h a c (item_of packet)) a new
live_ran h a c packet live new lawful is ran on = record {
  cast = is.cast;
  cast_is = is.cast_is;
  runs = ended_by_last h a (runs_of a (ran_on h a c (item_of packet))) is.runs ∙ ap has_terminated (sym (log_ran h a c is ran)) ∙ on;
  id = ran.id ∙ is.id;
  log = log_ran h a c is ran;
  state = ran.state ∙ ap (λ state. (after_item state (item_of packet)).0) is.state ∙ sym (state_after-push is.cast.opening (runs_of a h) (item_of packet))
      ∙ ap (state_after is.cast.opening) (sym (runs_here h a c (item_of packet)));
  listed = λ d. ran.taken.listed d ∙ is.listed d;
  handed = handed;
  waits = λ d n named. ran.taken.waits d n ∙ ap (λ m. cond (nat_lt n m) None (waiting_packet live.inbox d n)) (handed d named) ∙ ap (λ o. cond
      (nat_lt n (ran_count d a (ran_on h a c (item_of packet)))) None o) (is.waits d n named) ∙ held_then h a c d n (item_of packet) lawful ran.taken.of_caller;
  notes = λ d n named. ap (is_note_of n) (ran.taken.notes d) ∙ is.notes d n named;
}
  where
    handed : (d : ℕ) → names d (cast_of a h) ≡ true → handed_of new.inbox d ≡ ran_count d a (ran_on h a c (item_of packet))
    handed d named = ran.taken.handed d ∙ ap (λ m. cond (d == c) (m + 1) m) (is.handed d named) ∙ count_then h a c d (item_of packet) ran.taken.of_caller

-- the actor after its last run
dead_ran : (h : History) (a c : ℕ) (packet : Packet) (live new : ActorView) → IsLive h a live → HasRunCall c packet live new → has_terminated new.log ≡ true →
    IsDead (ran_on h a c (item_of packet)) a (record { id = new.id; log = new.log })
dead_ran h a c packet live new is ran ends = record {
  cast = is.cast;
  cast_is = is.cast_is;
  died = or_right (contains a h.killed) _ (ap has_terminated (sym (log_ran h a c is ran)) ∙ ends);
  id = ran.id ∙ is.id;
  log = log_ran h a c is ran;
}

-- its slot
pub slot_ran : (h : History) (a c : ℕ) (packet : Packet) (live new : ActorView) → IsLawful h → IsLive h a live → HasRunCall c packet live new →
    IsStage (ran_on h a c (item_of packet)) a (Some (bury_ended (Runs new)))
slot_ran h a c packet live new lawful is ran = go (has_terminated new.log) refl
  where
    go : (ends : Bool) → has_terminated new.log ≡ ends → IsStage (ran_on h a c (item_of packet)) a (Some (cond ends (dead_slot new) (Runs new)))
    go true e = dead_ran h a c packet live new is ran e
    go false e = live_ran h a c packet live new lawful is ran e
