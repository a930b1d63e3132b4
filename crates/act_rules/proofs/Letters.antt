-- Each call letter names a call that stands, with arguments that are known.
use Rattle.act_rules.proofs.Common.{◌≡◌, ℕ, zero, suc, ◌+◌, Bool, true, false, cond, List, [], ◌∷◌, length, Some, None, refl, ap, sym, ◌∙◌, subst, arith}
use Rattle.act_rules.proofs.Common.{Option, ◌==◌, ◌||◌, ◌&&◌, not, filter, slice_get, take, option_map, is_some, AllByRecursion, list_all, enumerate_from}
use Rattle.act_rules.proofs.Common.{eq-eqb, eqb-true, and_parts, RunItem, Event, Release, Send, Deliver, Run, NoCaller, Sending, NotReady, Answered, Submission}
use Rattle.act_rules.proofs.Common.{calls_to, number_of, needs, is_known, kept_at, send_refusal, Letter, History, calls_of, kept_of, is_caller, is_letter}
use Rattle.act_rules.proofs.Common.{has_letter, next_item, refusal_of, add_event, and_also, after_run, call_letter, was_sent, IsPrefix, list_any-append}
use Rattle.act_rules.proofs.Common.{or_right, slice_get_last, ◌++◌, CallLetter, NoteLetter}
use Rattle.act_rules.proofs.Lists.{slice_get_front, slice_get-filter, slice_get-enumerate_from, All_more, All_weaker, All_at, option_map-none}
use Rattle.act_rules.proofs.Growth.{Grows, added_grows, after_run_grows, calls_grow, calls_to_grow}
use Rattle.act_rules.proofs.Ended.{needs-none}
use Rattle.act_rules.proofs.Posts.{PostsAreSound}
use Rattle.act_rules.proofs.Kept.{kept_stays}
use Rattle.act_rules.proofs.Settling.{Extends, arguments_stay}

-- the call that a letter names stands, and its arguments are known; of a note nothing is asked
abbrev pub IsSoundLetter : History → Letter → Type 0
IsSoundLetter h (CallLetter c a n) =
    (call : ℕ × Submission) × (slice_get (calls_to a (calls_of c h)) n ≡ Some call) × (list_all (is_known (kept_of c h)) call.1.args ≡ true)
IsSoundLetter h (NoteLetter c a n) = Unit {0}

-- each letter is sound, in the mail and among those that arrived
pub record LettersAreSound (h : History) : Type 0 where
  pub mail : AllByRecursion (IsSoundLetter h) h.mail
  pub arrived : AllByRecursion (IsSoundLetter h) h.arrived

-- as a history with sound posts grows, each answer that a caller has stays
pub kept_extends : (c : ℕ) {h g : History} → Grows h g → PostsAreSound h → Extends (kept_of c h) (kept_of c g)
kept_extends c {h} {g} grows s j answer e = kept_stays h c j grows s e

pub letter_grows : (h : History) {g : History} → Grows h g → PostsAreSound h → (letter : Letter) → IsSoundLetter h letter → IsSoundLetter g letter
letter_grows h {g} grows s (CallLetter c a n) l = (
  l.0,
  slice_get_front (calls_to a (calls_of c h)) (calls_to a (calls_of c g)) n (calls_to_grow a (calls_of c h) (calls_of c g) (calls_grow c grows)) l.1,
  (arguments_stay (kept_of c h) (kept_of c g) (kept_extends c grows s) l.0.1.args l.2).0,
)
letter_grows h grows s (NoteLetter c a n) l = tt

-- the call k to the actor a is the caller's call to it by its number
pub calls_to-number : (a : ℕ) (calls : List Submission) (k : ℕ) {call : Submission} → slice_get calls k ≡ Some call → (call.actor == a) ≡ true →
    slice_get (calls_to a calls) (number_of a k calls) ≡ Some (k, call)
calls_to-number a calls k {call} e to =
    let there : slice_get (enumerate_from 0 calls) k ≡ Some (k, call) =
    slice_get-enumerate_from 0 calls k ∙ rw e (let z : 0 + k ≡ k = omega arith in rw z refl) in
    subst (λ n. slice_get (calls_to a calls) n ≡ Some (k, call)) (counts 0 calls k)
    (slice_get-filter (λ (c : ℕ × Submission). c.1.actor == a) (enumerate_from 0 calls) k there to)
  where
    counts : (n : ℕ) (xs : List Submission) (k : ℕ) →
        length (filter (λ (c : ℕ × Submission). c.1.actor == a) (take k (enumerate_from n xs))) ≡ length (filter (λ (c : Submission). c.actor == a) (take k xs))
    counts n [] zero = refl
    counts n [] (suc k) = refl
    counts n (x ∷ xs) zero = refl
    counts n (x ∷ xs) (suc k) = both (x.actor == a) (counts (n + 1) xs k)
      where
        both : (b : Bool) → length (filter (λ (c : ℕ × Submission). c.1.actor == a) (take k (enumerate_from (n + 1) xs))) ≡ length
            (filter (λ (c : Submission). c.actor == a) (take k xs)) → length (cond b ((n, x) ∷ filter (λ (c : ℕ × Submission). c.1.actor == a)
            (take k (enumerate_from (n + 1) xs))) (filter (λ (c : ℕ × Submission). c.1.actor == a) (take k (enumerate_from (n + 1) xs)))) ≡ length
            (cond b (x ∷ filter (λ (c : Submission). c.actor == a) (take k xs)) (filter (λ (c : Submission). c.actor == a) (take k xs)))
        both true e = ap suc e
        both false e = e

-- a call that is sent has known arguments
send_needs : (h : History) (c k : ℕ) (call : Submission) → slice_get (calls_of c h) k ≡ Some call → refusal_of h (Send c k) ≡ None →
    list_all (is_known (kept_of c h)) call.args ≡ true
send_needs h c k call at e =
    let sending = send_refusal (kept_of c h) k (was_sent c k (slice_get (calls_of c h) k) h) in
    let none = option_map-none Sending (sending (slice_get (calls_of c h) k))
    (needs-none (is_caller c h) NoCaller (option_map Sending (sending (slice_get (calls_of c h) k))) e).1 in
    go (was_sent c k (slice_get (calls_of c h) k) h) (subst (λ o. send_refusal (kept_of c h) k (was_sent c k (slice_get (calls_of c h) k) h) o ≡ None) at none)
  where
    go : (sent : Bool) → send_refusal (kept_of c h) k sent (Some call) ≡ None → list_all (is_known (kept_of c h)) call.args ≡ true
    go sent e = (needs-none (list_all (is_known (kept_of c h)) call.args) NotReady (needs (sent || not (is_some (kept_at (kept_of c h) k))) Answered None) e).0

letters_stay : (h g : History) → Grows h g → PostsAreSound h → LettersAreSound h → g.mail ≡ h.mail → g.arrived ≡ h.arrived → LettersAreSound g
letters_stay h g grows s l mail arrived = record {
  mail = rw mail (All_weaker (IsSoundLetter h) (IsSoundLetter g) h.mail (letter_grows h grows s) l.mail);
  arrived = rw arrived (All_weaker (IsSoundLetter h) (IsSoundLetter g) h.arrived (letter_grows h grows s) l.arrived);
}

pub letters_step : (h : History) (event : Event) → PostsAreSound h → LettersAreSound h → refusal_of h event ≡ None → LettersAreSound (add_event h event)
letters_step h (Release c a) s l accepted = search (go, All_weaker)
  where
    kept : AllByRecursion (IsSoundLetter (add_event h (Release c a))) h.mail
    kept = All_weaker (IsSoundLetter h) (IsSoundLetter (add_event h (Release c a))) h.mail (letter_grows h (added_grows h (Release c a)) s) l.mail

    go : (last : Bool) → AllByRecursion (IsSoundLetter (add_event h (Release c a)))
        (and_also h.mail (cond last (Some (NoteLetter c a (length (calls_to a (calls_of c h))))) None))
    go true = All_more (IsSoundLetter (add_event h (Release c a))) h.mail (NoteLetter c a (length (calls_to a (calls_of c h)))) kept tt
    go false = kept
letters_step h (Send c k) s l accepted = go (slice_get (calls_of c h) k) refl
  where
    go : (o : Option Submission) → slice_get (calls_of c h) k ≡ o →
        LettersAreSound (record h { mail = and_also h.mail (option_map (λ call. call_letter c k call h) o) })
    go None e = l
    go (Some call) e = record {
      mail = All_more (IsSoundLetter h) h.mail (call_letter c k call h) l.mail
          ((k, call), calls_to-number call.actor (calls_of c h) k e (eq-eqb call.actor call.actor refl), send_needs h c k call e accepted);
      arrived = l.arrived;
    }
letters_step h (Deliver i) s l accepted = go (slice_get h.mail i) refl
  where
    go : (o : Option Letter) → slice_get h.mail i ≡ o → LettersAreSound (record h { arrived = and_also h.arrived o })
    go None e = l
    go (Some letter) e = record { mail = l.mail; arrived = All_more (IsSoundLetter h) h.arrived letter l.arrived (All_at (IsSoundLetter h) h.mail i l.mail e) }
letters_step h (Run a c) s l accepted = go (next_item a c h)
  where
    go : (o : Option RunItem) → LettersAreSound (after_run a c h o)
    go None = l
    go (Some item) = letters_stay h _ (after_run_grows a c h (Some item)) s l refl refl
letters_step h event s l accepted = letters_stay h _ (added_grows h event) s l refl refl

-- ---- what stands behind a letter that has arrived

-- two letters that the test takes for one are equal
pub letter_is : (x y : Letter) → is_letter x y ≡ true → x ≡ y
letter_is (CallLetter c a n) (CallLetter d b m) e =
    let first = and_parts ((c == d) && (a == b)) (n == m) e in let second = and_parts (c == d) (a == b) first.0 in let one : c ≡ d = eqb-true c d second.0 in
    let two : a ≡ b = eqb-true a b second.1 in let three : n ≡ m = eqb-true n m first.1 in cc
letter_is (NoteLetter c a n) (NoteLetter d b m) e =
    let first = and_parts ((c == d) && (a == b)) (n == m) e in let second = and_parts (c == d) (a == b) first.0 in let one : c ≡ d = eqb-true c d second.0 in
    let two : a ≡ b = eqb-true a b second.1 in let three : n ≡ m = eqb-true n m first.1 in cc
letter_is (CallLetter c a n) (NoteLetter d b m) e = cc
letter_is (NoteLetter c a n) (CallLetter d b m) e = cc

-- what holds of each letter of a list holds of a letter that is found there
pub has_letter-sound : (P : Letter → Type 0) (letter : Letter) (letters : List Letter) → AllByRecursion P letters → has_letter letter letters ≡ true → P letter
has_letter-sound P letter [] all e = cc
has_letter-sound P letter (x ∷ letters) all e = go (is_letter letter x) refl (has_letter-sound P letter letters all.1) e
  where
    go : (b : Bool) → is_letter letter x ≡ b → (has_letter letter letters ≡ true → P letter) → (b || has_letter letter letters) ≡ true → P letter
    go true is rest e = subst P (sym (letter_is letter x is)) all.0
    go false is rest e = rest e

-- ---- letters in a list

-- a letter is itself
pub is_letter-same : (letter : Letter) → is_letter letter letter ≡ true
is_letter-same (CallLetter c a n) = rw (eq-eqb c c refl, eq-eqb a a refl, eq-eqb n n refl) refl
is_letter-same (NoteLetter c a n) = rw (eq-eqb c c refl, eq-eqb a a refl, eq-eqb n n refl) refl

-- what a front has, the whole has
pub has_front : (letter : Letter) (xs ys : List Letter) → IsPrefix xs ys → has_letter letter xs ≡ true → has_letter letter ys ≡ true
has_front letter xs ys f e = rw (← f.1, list_any-append (is_letter letter) xs f.0, e) refl

-- what stands at a place is there
pub has_letter-at : {letter : Letter} (letters : List Letter) (i : ℕ) → slice_get letters i ≡ Some letter → has_letter letter letters ≡ true
has_letter-at [] i e = cc
has_letter-at {letter} (x ∷ letters) zero e = let same : x ≡ letter = cc in rw (same, is_letter-same letter) refl
has_letter-at {letter} (x ∷ letters) (suc i) e = or_right (is_letter letter x) (has_letter letter letters) (has_letter-at letters i e)

-- the one that was added last is there
pub has_last : (letter : Letter) (xs : List Letter) → has_letter letter (xs ++ letter ∷ []) ≡ true
has_last letter xs = has_letter-at (xs ++ letter ∷ []) (length xs) (slice_get_last xs letter)

-- a letter that is there has a place
pub letter_place : (letter : Letter) (letters : List Letter) → has_letter letter letters ≡ true → (i : ℕ) × (slice_get letters i ≡ Some letter)
letter_place letter [] e = cc
letter_place letter (x ∷ letters) e = go (is_letter letter x) refl (letter_place letter letters) e
  where
    go : (b : Bool) → is_letter letter x ≡ b → (has_letter letter letters ≡ true → (i : ℕ) × (slice_get letters i ≡ Some letter)) →
        (b || has_letter letter letters) ≡ true → (i : ℕ) × (slice_get (x ∷ letters) i ≡ Some letter)
    go true is rest e = (zero, ap (λ l. Some l) (sym (letter_is letter x is)))
    go false is rest e = let there = rest e in (suc there.0, there.1)
