-- A retired actor ran every call that was submitted to it.
use Rattle.act_rules.proofs.Common.{◌≡◌, ℕ, ◌+◌, ◌-◌, Bool, true, false, cond, List, [], ◌∷◌, ◌++◌, length, Some, None, refl, ap, sym, ◌∙◌, arith}
use Rattle.act_rules.proofs.Common.{length-append, Option, ◌==◌, ◌&&◌, slice_get, option_map, is_some, nat_lt, nat_le, AllByRecursion, list_all, eqb-true}
use Rattle.act_rules.proofs.Common.{eq-eqb, and_parts, and_from, append-nil, filter-append, Arg, Method, RunItem, Event, Submit, Copy, Release, Send, Deliver}
use Rattle.act_rules.proofs.Common.{Run, NoActor, NoHandle, TooManyCopies, Submission, calls_to, needs, copies_held, copy_refusal, submit_refusal}
use Rattle.act_rules.proofs.Common.{limit_refusal, is_earlier, Letter, History, cast_of, names, is_caller, calls_of, under, count_pairs, copies_of, limit_of}
use Rattle.act_rules.proofs.Common.{next_item, unanswered, submission_refusal, refusal_of, add_event, and_also, after_run, call_letter, is_last, SubmitRefused}
use Rattle.act_rules.proofs.Common.{Handle, NoCaller, NoSuchActor, NoCopy, TooManyArgs, BadFuture, TooManyCalls, CallLetter, NoteLetter}
use Rattle.act_rules.proofs.Lists.{enumerate_from-append, All_more, All_weaker, All_at, option_map-none, option_or-none}
use Rattle.act_rules.proofs.Steps.{IsKept}
use Rattle.act_rules.proofs.Ended.{needs-none, under-push}

-- ---- a caller that holds no copy

-- an accepted submission comes from a holder
pub submit_needs : (h : History) (c a : ℕ) (method : Method) (args : List Arg) → refusal_of h (Submit c a method args) ≡ None →
    (is_some (copies_of c a h) ≡ true) × (nat_lt 0 (copies_held (copies_of c a h)) ≡ true)
submit_needs h c a method args e =
    let count = length (calls_of c h) in let copies = copies_of c a h in
    let whole = option_map-none SubmitRefused (submission_refusal c a args h)
    (needs-none (is_caller c h) NoCaller (option_map SubmitRefused (submission_refusal c a args h)) e).1 in
    let none = option_or-none (submit_refusal copies count args) (limit_refusal (limit_of c a h) (unanswered c a h)) whole in
    let last = needs (nat_lt count 65536) TooManyCalls None in
    let third = needs (nat_le (length args) 4) TooManyArgs (needs (list_all (is_earlier count) args) BadFuture last) in
    let first = needs-none (is_some copies) NoSuchActor (needs (nat_lt 0 (copies_held copies)) NoCopy third) none in
    (first.0, (needs-none (nat_lt 0 (copies_held copies)) NoCopy third first.1).0)

-- so does an accepted copy
copy_needs : (h : History) (c a : ℕ) → refusal_of h (Copy c a) ≡ None → nat_lt 0 (copies_held (copies_of c a h)) ≡ true
copy_needs h c a e =
    let copies = copies_of c a h in
    let none = option_map-none Handle (copy_refusal copies) (needs-none (is_caller c h) NoCaller (option_map Handle (copy_refusal copies)) e).1 in
    let second = needs (nat_lt (copies_held copies) 65535) TooManyCopies None in
    let first = needs-none (is_some copies) NoActor (needs (nat_lt 0 (copies_held copies)) NoHandle second) none in
    (needs-none (nat_lt 0 (copies_held copies)) NoHandle second first.1).0

abbrev pub IsGone : ℕ → ℕ → History → Type 0
IsGone c a h = copies_held (copies_of c a h) ≡ 0

not_holder : {n : ℕ} → n ≡ 0 → nat_lt 0 n ≡ true → ⊥
not_holder zero_copies holds = let bad : nat_lt 0 0 ≡ true = rw zero_copies at holds in cc

-- how often a pair stands in a list with one pair more at its end
pub times-push : (c a d b : ℕ) (pairs : List (ℕ × ℕ)) → count_pairs c a (pairs ++ (d, b) ∷ []) ≡ count_pairs c a pairs + cond ((d == c) && (b == a)) 1 0
times-push c a d b pairs = rw (filter-append (λ (pair : ℕ × ℕ). (pair.0 == c) && (pair.1 == a)) pairs ((d, b) ∷ []), length-append) (go ((d == c) && (b == a)))
  where
    go : (same : Bool) → count_pairs c a pairs + length {A = ℕ × ℕ} (cond same ((d, b) ∷ []) []) ≡ count_pairs c a pairs + cond same 1 0
    go true = refl
    go false = refl

-- one call more: it is the last of the calls to an actor, where it goes to that actor
pub calls_to-push : (a : ℕ) (calls : List Submission) (call : Submission) →
    calls_to a (calls ++ call ∷ []) ≡ calls_to a calls ++ cond (call.actor == a) ((0 + length calls, call) ∷ []) []
calls_to-push a calls call = rw (enumerate_from-append 0 calls (call ∷ []), filter-append) refl

-- a caller without a copy submits nothing more, and gets no copy
pub record StaysGone (c a : ℕ) (h g : History) : Type 0 where
  pub gone : IsGone c a g
  pub calls : calls_to a (calls_of c g) ≡ calls_to a (calls_of c h)

gone_submit : (c a d : ℕ) (h : History) (call : Submission) → IsGone c a h → nat_lt 0 (copies_held (copies_of d call.actor h)) ≡ true →
    calls_to a (under c (h.submitted ++ (d, call) ∷ [])) ≡ calls_to a (calls_of c h)
gone_submit c a d h call gone holds = rw (under-push c d h.submitted call) (go (d == c) refl)
  where
    inner : (same : Bool) → (call.actor == a) ≡ same → d ≡ c →
        calls_to a (calls_of c h) ++ cond same ((0 + length (calls_of c h), call) ∷ []) [] ≡ calls_to a (calls_of c h)
    inner true e caller =
        let actor : call.actor ≡ a = eqb-true call.actor a e in
        let gone' : copies_held (copies_of d call.actor h) ≡ 0 = rw (caller, actor) gone in absurd (not_holder gone' holds)
    inner false e caller = append-nil (calls_to a (calls_of c h))

    go : (same : Bool) → (d == c) ≡ same → calls_to a (calls_of c h ++ cond same (call ∷ []) []) ≡ calls_to a (calls_of c h)
    go true e = calls_to-push a (calls_of c h) call ∙ inner (call.actor == a) refl (eqb-true d c e)
    go false e = ap (calls_to a) (append-nil (calls_of c h))

held_less : (named : Bool) (x y z : ℕ) → copies_held (cond named (Some (x - y)) None) ≡ 0 → copies_held (cond named (Some (x - (y + z))) None) ≡ 0
held_less true x y z e = let e' : x - y ≡ 0 = e in omega arith
held_less false x y z e = refl

gone_copy : (c a d b : ℕ) (h : History) → IsGone c a h → nat_lt 0 (copies_held (copies_of d b h)) ≡ true →
    IsGone c a (record h { copied = h.copied ++ (d, b) ∷ [] })
gone_copy c a d b h gone holds = rw (times-push c a d b h.copied) (go ((d == c) && (b == a)) refl)
  where
    go : (same : Bool) → ((d == c) && (b == a)) ≡ same →
        copies_held (cond (names c (cast_of a h)) (Some ((1 + (count_pairs c a h.copied + cond same 1 0)) - count_pairs c a h.released)) None) ≡ 0
    go true e =
        let parts = and_parts (d == c) (b == a) e in
        let gone' : copies_held (copies_of d b h) ≡ 0 = rw (eqb-true d c parts.0, eqb-true b a parts.1) gone in absurd (not_holder gone' holds)
    go false e = let z : count_pairs c a h.copied + 0 ≡ count_pairs c a h.copied = omega arith in rw z gone

-- an accepted event gives no copy to a caller without one, and leaves its calls to the actor as they were
pub gone_step : (c a : ℕ) (h : History) (event : Event) → IsGone c a h → refusal_of h event ≡ None → StaysGone c a h (add_event h event)
gone_step c a h (Submit d b method args) gone accepted = record {
  gone = gone;
  calls = gone_submit c a d h (record { actor = b; method = method; args = args }) gone (submit_needs h d b method args accepted).1;
}
gone_step c a h (Copy d b) gone accepted = record { gone = gone_copy c a d b h gone (copy_needs h d b accepted); calls = refl }
gone_step c a h (Release d b) gone accepted = record {
  gone = rw (times-push c a d b h.released)
      (held_less (names c (cast_of a h)) (1 + count_pairs c a h.copied) (count_pairs c a h.released) (cond ((d == c) && (b == a)) 1 0) gone);
  calls = refl;
}
gone_step c a h (Run b d) gone accepted = go (next_item b d h)
  where
    go : (o : Option RunItem) → StaysGone c a h (after_run b d h o)
    go None = record { gone = gone; calls = refl }
    go (Some item) = record { gone = gone; calls = refl }
gone_step c a h event gone accepted = record { gone = gone; calls = refl }

-- ---- a note says how many calls there are, for good

-- of a note: its caller holds no copy, and it tells the number of the caller's calls to the actor
abbrev pub IsSoundNote : History → Letter → Type 0
IsSoundNote h (CallLetter c a n) = Unit {0}
IsSoundNote h (NoteLetter c a n) = IsGone c a h × (n ≡ length (calls_to a (calls_of c h)))

pub record NotesAreSound (h : History) : Type 0 where
  pub mail : AllByRecursion (IsSoundNote h) h.mail
  pub arrived : AllByRecursion (IsSoundNote h) h.arrived

note_step : (h : History) (event : Event) → refusal_of h event ≡ None → (letter : Letter) → IsSoundNote h letter → IsSoundNote (add_event h event) letter
note_step h event accepted (CallLetter c a n) s = tt
note_step h event accepted (NoteLetter c a n) s = let stays = gone_step c a h event s.0 accepted in (stays.gone, s.1 ∙ ap (λ l. length l) (sym stays.calls))

mail_stays : (h : History) (event : Event) → refusal_of h event ≡ None → (letters : List Letter) → AllByRecursion (IsSoundNote h) letters →
    AllByRecursion (IsSoundNote (add_event h event)) letters
mail_stays h event accepted letters s = All_weaker (IsSoundNote h) (IsSoundNote (add_event h event)) letters (note_step h event accepted) s

one_less : (named : Bool) (x y : ℕ) {z : ℕ} → (copies_held (cond named (Some (x - y)) None) == 1) ≡ true → z ≡ 1 →
    copies_held (cond named (Some (x - (y + z))) None) ≡ 0
one_less true x y e one = let e' : x - y ≡ 1 = eqb-true (x - y) 1 e in omega arith
one_less false x y e one = refl

-- the last release leaves no copy
last_gone : (h : History) (c a : ℕ) → is_last c a h ≡ true → IsGone c a (add_event h (Release c a))
last_gone h c a last =
    let both : ((c == c) && (a == a)) ≡ true = and_from (c == c) (a == a) (eq-eqb c c refl) (eq-eqb a a refl) in
    let one : cond ((c == c) && (a == a)) 1 0 ≡ 1 = rw both refl in
    rw (times-push c a c a h.released) (one_less (names c (cast_of a h)) (1 + count_pairs c a h.copied) (count_pairs c a h.released) last one)

pub notes_step : IsKept NotesAreSound
notes_step h (Submit c a method args) s accepted =
    record { mail = mail_stays h (Submit c a method args) accepted h.mail s.mail; arrived = mail_stays h (Submit c a method args) accepted h.arrived s.arrived }
notes_step h (Copy c a) s accepted =
    record { mail = mail_stays h (Copy c a) accepted h.mail s.mail; arrived = mail_stays h (Copy c a) accepted h.arrived s.arrived }
notes_step h (Release c a) s accepted = search (go, mail_stays)
  where
    note : Letter
    note = NoteLetter c a (length (calls_to a (calls_of c h)))

    go : (last : Bool) → is_last c a h ≡ last → AllByRecursion (IsSoundNote (add_event h (Release c a))) (and_also h.mail (cond last (Some note) None))
    go true e = All_more (IsSoundNote (add_event h (Release c a))) h.mail note (mail_stays h (Release c a) accepted h.mail s.mail) (last_gone h c a e, refl)
    go false e = mail_stays h (Release c a) accepted h.mail s.mail
notes_step h (Send c k) s accepted = go (slice_get (calls_of c h) k)
  where
    go : (o : Option Submission) → NotesAreSound (record h { mail = and_also h.mail (option_map (λ call. call_letter c k call h) o) })
    go None = s
    go (Some call) = record { mail = All_more (IsSoundNote h) h.mail (call_letter c k call h) s.mail tt; arrived = s.arrived }
notes_step h (Deliver i) s accepted = go (slice_get h.mail i) refl
  where
    go : (o : Option Letter) → slice_get h.mail i ≡ o → NotesAreSound (record h { arrived = and_also h.arrived o })
    go None e = s
    go (Some letter) e = record { mail = s.mail; arrived = All_more (IsSoundNote h) h.arrived letter s.arrived (All_at (IsSoundNote h) h.mail i s.mail e) }
notes_step h (Run a c) s accepted = go (next_item a c h)
  where
    go : (o : Option RunItem) → NotesAreSound (after_run a c h o)
    go None = s
    go (Some item) = record { mail = s.mail; arrived = s.arrived }
notes_step h other s accepted = record { mail = s.mail; arrived = s.arrived }
