-- A call has one number, and the call of a reply was sent.
use Rattle.act_world.proofs.Common.{◌≡◌, ℕ, ◌+◌, ◌<◌, true, List, length, Some, None, ap, sym, ◌∙◌, arith, Option, ◌==◌, filter, take, slice_get, option_map}
use Rattle.act_world.proofs.Common.{enumerate_from, eq-eqb, slice_get_within, RunItem, Submission, items_of, calls_to, number_of, History, calls_of, runs_of}
use Rattle.act_world.proofs.Common.{ran_count, has_letter, was_sent, slice_get-enumerate_from, slice_get-filter, calls_to-number, has_letter-sound, rank}
use Rattle.act_world.proofs.Common.{held_call, map-slice_get, CallLetter}
use Rattle.act_world.proofs.Lawful.{IsLawful}
use Rattle.act_world.proofs.Lists.{filter_rank}

pub place_is : (calls : List Submission) (p : ℕ) (x : ℕ × Submission) → slice_get (enumerate_from 0 calls) p ≡ Some x → p ≡ x.0
place_is calls p x e = go (slice_get calls p) (sym (slice_get-enumerate_from 0 calls p) ∙ e)
  where
    go : (o : Option Submission) → option_map {U = ℕ × Submission} (λ y. (0 + p, y)) o ≡ Some x → p ≡ x.0
    go None e = cc
    go (Some y) e = let pair : ◌≡◌ {A = ℕ × Submission} (0 + p, y) x = cc in let z : p ≡ 0 + p = omega arith in z ∙ ap (λ (q : ℕ × Submission). q.0) pair

-- a call has one number
pub one_number : (a : ℕ) (calls : List Submission) (m i : ℕ) {x : ℕ × Submission} (y : ℕ × Submission) → slice_get (calls_to a calls) m ≡ Some x →
    slice_get (calls_to a calls) i ≡ Some y → x.0 ≡ y.0 → m ≡ i
one_number a calls m i {x} y e f same =
    let one = filter_rank (λ (call : ℕ × Submission). call.1.actor == a) (enumerate_from 0 calls) m x e in
    let two = filter_rank (λ (call : ℕ × Submission). call.1.actor == a) (enumerate_from 0 calls) i y f in
    let there : one.place ≡ two.place = place_is calls one.place x one.at ∙ same ∙ sym (place_is calls two.place y two.at) in
    sym one.rank_is ∙ ap (λ p. length (filter (λ (call : ℕ × Submission). call.1.actor == a) (take p (enumerate_from 0 calls)))) there ∙ two.rank_is

pub sent_before : (h : History) (c a place k : ℕ) (item : RunItem) (call : Submission) → IsLawful h → slice_get (runs_of a h) place ≡ Some item →
    item.caller ≡ c → item.future ≡ k → slice_get (calls_of c h) k ≡ Some call → call.actor ≡ a → was_sent c k (slice_get (calls_of c h) k) h ≡ true
sent_before h c a place k item call lawful at caller future call_at to =
    let m = rank c place (runs_of a h) in
    let mine : slice_get (items_of c (runs_of a h)) m ≡ Some item =
    slice_get-filter (λ (i : RunItem). i.caller == c) (runs_of a h) place at (eq-eqb item.caller c caller) in
    let below : m < ran_count c a h = slice_get_within (items_of c (runs_of a h)) m item mine in
    let sent : has_letter (CallLetter c a m) h.mail ≡ true =
    has_letter-sound (λ letter. has_letter letter h.mail ≡ true) (CallLetter c a m) h.arrived lawful.sent (lawful.came a c m below) in
    let found = map-slice_get (λ (one : ℕ × Submission). one.0) (calls_to a (calls_of c h)) m (held_call h a place lawful.sound.order at caller future) in
    let numbered : slice_get (calls_to a (calls_of c h)) (number_of a k (calls_of c h)) ≡ Some (k, call) =
    calls_to-number a (calls_of c h) k call_at (eq-eqb call.actor a to) in
    let same : number_of a k (calls_of c h) ≡ m = one_number a (calls_of c h) (number_of a k (calls_of c h)) m found.0 numbered found.1 (sym found.2) in
    ap (λ o. was_sent c k o h) call_at
    ∙ ap (λ b. has_letter (CallLetter c b (number_of b k (calls_of c h))) h.mail) to
    ∙ ap (λ n. has_letter (CallLetter c a n) h.mail) same
    ∙ sent
