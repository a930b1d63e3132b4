-- An actor that a call was brought to.
use Rattle.act_world.proofs.Common.{◌≡◌, ℕ, ◌<◌, ◌≤◌, Bool, true, false, cond, [], ◌∷◌, ◌++◌, length, Some, None, refl, ap, sym, ◌∙◌, subst, arith, ◌==◌, ◌||◌}
use Rattle.act_world.proofs.Common.{◌&&◌, slice_get, slice_index_or, option_map, is_some, nat_lt, enumerate_from, eqb-true, eq-eqb, ltb-true, lt-ltb, and_parts}
use Rattle.act_world.proofs.Common.{and_from, slice_get_within, length-enumerate_from, Packet, Submission, Arrival, New, Repeat, Stranger, calls_to, History}
use Rattle.act_world.proofs.Common.{cast_of, names, calls_of, ran_count, has_letter, length-filter_least, is_packet_of, handed_of, waiting_packet, has_come}
use Rattle.act_world.proofs.Common.{arrival_of, waiting_after, ActorView, arrival_at, HasTakenPacket, packet_as, packet_by_number, held_packet, is_note_of}
use Rattle.act_world.proofs.Common.{IsLive, CallLetter, NoteLetter, has_last}
use Rattle.act_world.proofs.Lawful.{IsLawful}
use Rattle.act_world.proofs.Mail.{has_other, has_again, brought, held_same}

number_small : (h : History) (c a n : ℕ) (call : ℕ × Submission) → IsLawful h → slice_get (calls_to a (calls_of c h)) n ≡ Some call → nat_lt n 65536 ≡ true
number_small h c a n call lawful at =
    let within : n < length (calls_to a (calls_of c h)) = slice_get_within (calls_to a (calls_of c h)) n call at in
    let least : length (calls_to a (calls_of c h)) ≤ length (enumerate_from 0 (calls_of c h)) =
    length-filter_least (λ (one : ℕ × Submission). one.1.actor == a) (enumerate_from 0 (calls_of c h)) in
    let all : length (enumerate_from 0 (calls_of c h)) ≡ length (calls_of c h) = length-enumerate_from 0 (calls_of c h) in
    let few : length (calls_of c h) ≤ 65536 = lawful.few c in lt-ltb n 65536 (omega arith)

-- the actor knows whether the call came
call_came : (h : History) (c a n : ℕ) (call : ℕ × Submission) (live : ActorView) → IsLawful h → IsLive h a live → names c (cast_of a h) ≡ true →
    slice_get (calls_to a (calls_of c h)) n ≡ Some call → has_come live.inbox c n ≡ has_letter (CallLetter c a n) h.arrived
call_came h c a n call live lawful is named at =
    ap (λ o. nat_lt n (handed_of live.inbox c) || is_some o) (is.waits c n named)
    ∙ ap (λ m. nat_lt n m || is_some (held_packet h a c n)) (is.handed c named)
    ∙ go (nat_lt n (ran_count c a h)) (has_letter (CallLetter c a n) h.arrived) refl refl
  where
    go : (low has : Bool) → nat_lt n (ran_count c a h) ≡ low → has_letter (CallLetter c a n) h.arrived ≡ has →
        (low || is_some (cond low None (cond has (packet_by_number h c a n) None))) ≡ has
    go true has below there = sym (lawful.came a c n (ltb-true n (ran_count c a h) below)) ∙ there
    go false true below there = rw at refl
    go false false below there = refl

pub call_arrival : (h : History) (c a n : ℕ) (call : ℕ × Submission) (live : ActorView) → IsLawful h → IsLive h a live → names c (cast_of a h) ≡ true →
    slice_get (calls_to a (calls_of c h)) n ≡ Some call →
    arrival_at live.id live.inbox (packet_as h c a n call) ≡ cond (has_letter (CallLetter c a n) h.arrived) Repeat New
call_arrival h c a n call live lawful is named at =
    ap (λ b. cond b (arrival_of live.inbox (packet_as h c a n call)) Stranger) (eq-eqb a live.id (sym is.id))
    ∙ ap (λ b. cond (b && nat_lt n 65536) (cond (has_come live.inbox c n) Repeat New) Stranger) (is.listed c ∙ named)
    ∙ ap (λ b. cond b (cond (has_come live.inbox c n) Repeat New) Stranger) (number_small h c a n call lawful at)
    ∙ ap (λ b. cond b Repeat New) (call_came h c a n call live lawful is named at)

-- what did not come was not run
not_ran : (h : History) (c a n : ℕ) → IsLawful h → has_letter (CallLetter c a n) h.arrived ≡ false → nat_lt n (ran_count c a h) ≡ false
not_ran h c a n lawful absent = go (nat_lt n (ran_count c a h)) refl
  where
    go : (b : Bool) → nat_lt n (ran_count c a h) ≡ b → b ≡ false
    go true below = sym (lawful.came a c n (ltb-true n (ran_count c a h) below)) ∙ absent
    go false below = refl

-- what the actor holds once the call's letter came
call_waits : (h : History) (c a n : ℕ) (call : ℕ × Submission) (live : ActorView) → IsLawful h → IsLive h a live → slice_get
    (calls_to a (calls_of c h)) n ≡ Some call → (was : Bool) → has_letter (CallLetter c a n) h.arrived ≡ was → (d k : ℕ) → names d (cast_of a h) ≡ true →
    waiting_after (cond was Repeat New) (packet_as h c a n call) live.inbox d k ≡ held_packet (brought h (CallLetter c a n)) a d k
call_waits h c a n call live lawful is at true there d k named =
    is.waits d k named ∙ held_same h (CallLetter c a n) a d k (has_again (CallLetter d a k) (CallLetter c a n) h.arrived there)
call_waits h c a n call live lawful is at false there d k named = go (is_packet_of d k (packet_as h c a n call)) refl
  where
    packet : Packet
    packet = packet_as h c a n call

    here : Some (packet_as h c a n call) ≡ held_packet (brought h (CallLetter c a n)) a c n
    here =
        sym (ap (λ o. option_map (packet_as h c a n) o) at)
        ∙ ap (λ b. cond b (packet_by_number h c a n) None) (sym (has_last (CallLetter c a n) h.arrived))
        ∙ ap (λ b. cond b None (cond (has_letter (CallLetter c a n) (h.arrived ++ CallLetter c a n ∷ [])) (packet_by_number h c a n) None))
        (sym (not_ran h c a n lawful there))

    go : (b : Bool) → is_packet_of d k (packet_as h c a n call) ≡ b →
        cond b (Some (packet_as h c a n call)) (waiting_packet live.inbox d k) ≡ held_packet (brought h (CallLetter c a n)) a d k
    go true e =
        let parts = and_parts (c == d) (n == k) e in
        subst (λ x. Some (packet_as h c a n call) ≡ held_packet (brought h (CallLetter c a n)) a x k) (eqb-true c d parts.0)
        (subst (λ y. Some (packet_as h c a n call) ≡ held_packet (brought h (CallLetter c a n)) a c y) (eqb-true n k parts.1) here)
    go false e = is.waits d k named ∙
        held_same h (CallLetter c a n) a d k (has_other (CallLetter d a k) (CallLetter c a n) h.arrived (λ same. let one : c ≡ d = cc in let two : n ≡ k = cc in
        let both : ((c == d) && (n == k)) ≡ true = and_from (c == d) (n == k) (eq-eqb c d one) (eq-eqb n k two) in let bad : true ≡ false = sym both ∙ e in cc))

pub live_taken : (h : History) (c a n : ℕ) (call : ℕ × Submission) {arrival : Arrival} (live new : ActorView) → IsLawful h → IsLive h a live →
    slice_get (calls_to a (calls_of c h)) n ≡ Some call → arrival ≡ cond (has_letter (CallLetter c a n) h.arrived) Repeat New →
    HasTakenPacket (packet_as h c a n call) arrival live new → IsLive (brought h (CallLetter c a n)) a new
live_taken h c a n call live new lawful is at told taken = record {
  cast = is.cast;
  cast_is = is.cast_is;
  runs = is.runs;
  id = ap (λ (l : ActorView). l.id) taken.same ∙ is.id;
  log = ap (λ (l : ActorView). l.log) taken.same ∙ is.log;
  state = ap (λ (l : ActorView). l.state) taken.same ∙ is.state;
  listed = λ d. rw taken.taken.lanes (is.listed d);
  handed = λ d named. rw taken.taken.lanes (is.handed d named);
  waits = λ d k named. taken.taken.waits d k ∙ ap (λ x. waiting_after x (packet_as h c a n call) live.inbox d k) told ∙
      call_waits h c a n call live lawful is at (has_letter (CallLetter c a n) h.arrived) refl d k named;
  notes = λ d k named. ap (λ all. is_note_of k (slice_index_or all d None)) taken.taken.notes ∙ is.notes d k named ∙
      sym (has_other (NoteLetter d a k) (CallLetter c a n) h.arrived (λ e. cc));
}
