-- A call that is submitted.
use Rattle.act_world.proofs.Common.{◌≡◌, ◌≢◌, ℕ, zero, suc, ◌+◌, ◌<◌, ◌≤◌, Bool, true, false, cond, List, [], ◌∷◌, ◌++◌, length, map, Some, None, Result, Ok}
use Rattle.act_world.proofs.Common.{Err, IfOk, OnOk, OnErr, inl, inr, refl, ap, sym, ◌∙◌, subst, arith, length-append, get_or, Option, ◌==◌, ◌||◌, filter}
use Rattle.act_world.proofs.Common.{position, slice_get, slice_set, option_map, unwrap_or, is_some, nat_lt, nat_le, option_or, list_all, list_any}
use Rattle.act_world.proofs.Common.{enumerate_from, ne_eqb, eq-eqb, eqb_tells, take-append-le, slice_get_within, slice_get_cases, take-append_seam, Arg, Method}
use Rattle.act_world.proofs.Common.{NoMemory, Submission, Post, Submit, Future, SubmitRefusal, needs, calls_to, number_of, copies_held, submit_refusal}
use Rattle.act_world.proofs.Common.{limit_refusal, is_earlier, History, calls_of, limit_of, first_answer, has_letter, slice_get_more, option_or-none}
use Rattle.act_world.proofs.Common.{needs-none, under-push, added_grows, IsSoundLetter, has_letter-sound, calls_to-push, kept_of-submitted, death_if}
use Rattle.act_world.proofs.Common.{is_death_of, knows_dead, copies_in, given_in, with_number, copies-with_number, given-with_number, given-with_number-other}
use Rattle.act_world.proofs.Common.{calls_to-length, NetworkView, is_owner, SlotView, Refines, IsOwnerOf, is_death_to, StepsThere, CallLetter, ReplyPost}
use Rattle.act_world.proofs.Common.{DeathPost, NoCaller, SubmitRefused, Outcome, unanswered, history_refusal, refusal_of, outcome_of, was_sent, add_event}
use Rattle.act_world.proofs.Common.{after, OwnerView, limit_known, pending, refusal_to_submit, with_submission}
use Rattle.act_rules.specs.declared.outcome.SubmitRefusal.TheVariants.{NoActor as NoSuchActor, NoHandle as NoCopy, TooManyArgs, BadFuture, TooManyCalls}
use Rattle.act_rules.specs.declared.outcome.SubmitRefusal.TheVariants.{PendingLimit, NoMemory as NoRoom}
use Rattle.act_world.proofs.Changes.{refused_follows, accepted_follows}
use Rattle.act_world.proofs.Lawful.{IsLawful}
use Rattle.act_world.proofs.Frames.{SameCaller, owners_change, mail_stays}
use Rattle.act_world.proofs.Pending.{unanswered_is}
use Rattle.act_world.proofs.OneCaller.{needs_holds, IsHere, caller_here, callers_tie, sent_stays, under-other, put_back}
use Rattle.act_world.proofs.Stepping.{refused_there, wanting_there}

-- a submission is refused as the caller says
pub submission_refused : (h : History) (c a : ℕ) (method : Method) (args : List Arg) {owner : OwnerView} {refusal : Option SubmitRefusal} → IsHere h c owner →
    refusal_to_submit owner a args ≡ refusal → refusal_of h (Submit c a method args) ≡ option_map SubmitRefused refusal
submission_refused h c a method args {owner} here e =
    needs_holds NoCaller (option_map SubmitRefused (history_refusal c a args h)) here.caller
    ∙ ap (λ copies. option_map SubmitRefused
    (option_or (submit_refusal copies (length (calls_of c h)) args) (limit_refusal (limit_of c a h) (unanswered c a h)))) (sym (here.is.copies a))
    ∙ ap (λ calls. option_map SubmitRefused
    (option_or (submit_refusal (copies_in a owner.handles) (length calls) args) (limit_refusal (limit_of c a h) (unanswered c a h)))) (sym here.is.calls)
    ∙ ap (λ limit. option_map SubmitRefused
    (option_or (submit_refusal (copies_in a owner.handles) (length owner.calls) args) (limit_refusal limit (unanswered c a h)))) (sym (here.is.limits a))
    ∙ ap (λ count. option_map SubmitRefused (option_or (submit_refusal (copies_in a owner.handles) (length owner.calls) args)
    (limit_refusal (limit_known owner a) count))) (sym (unanswered_is h c a owner here.is))
    ∙ ap (option_map SubmitRefused) e

-- ---- the caller that submits

calls_after : (h : History) (c : ℕ) (call : Submission) → calls_of c (record h { submitted = h.submitted ++ (c, call) ∷ [] }) ≡ calls_of c h ++ call ∷ []
calls_after h c call = under-push c c h.submitted call ∙ rw (eq-eqb c c refl) refl

-- one call more, where it goes to the actor
calls_to-count : (b : ℕ) (calls : List Submission) (call : Submission) →
    length (calls_to b (calls ++ call ∷ [])) ≡ length (calls_to b calls) + cond (call.actor == b) 1 0
calls_to-count b calls call = rw (calls_to-push b calls call, length-append) (go (call.actor == b))
  where
    go : (same : Bool) →
        length (calls_to b calls) + length {A = ℕ × Submission} (cond same ((0 + length calls, call) ∷ []) []) ≡ length (calls_to b calls) + cond same 1 0
    go true = refl
    go false = refl

given_after : (a b : ℕ) (owner : OwnerView) (calls : List Submission) (call : Submission) → call.actor ≡ a → is_some (copies_in a owner.handles) ≡ true
    → ((b : ℕ) → given_in b owner.handles ≡ length (calls_to b calls)) → given_in b (with_number a owner.handles) ≡ length (calls_to b (calls ++ call ∷ []))
given_after a b owner calls call to listed given = elim (eqb_tells a b) [
  | inl t ↦ subst (λ x. given_in x (with_number a owner.handles) ≡ length (calls_to x (calls ++ call ∷ []))) t.1
      (given-with_number a owner.handles listed ∙ ap (λ n. n + 1) (given a) ∙ sym (calls_to-count a calls call ∙ rw (eq-eqb call.actor a to) refl))
  | inr f ↦ given-with_number-other a b owner.handles f.1 ∙ given b ∙ sym (calls_to-count b calls call ∙
      rw (ne_eqb call.actor b (λ same. f.1 (sym to ∙ same))) (let none : length (calls_to b calls) + 0 ≡ length (calls_to b calls) = omega arith in none))
]

-- what is accepted is of an actor of the caller's
accepted_listed : (a : ℕ) (args : List Arg) (owner : OwnerView) → refusal_to_submit owner a args ≡ None → is_some (copies_in a owner.handles) ≡ true
accepted_listed a args owner e =
    let copies = copies_in a owner.handles in let count = length owner.calls in
    let older = option_or-none (submit_refusal copies count args) (limit_refusal (limit_known owner a) (pending owner a)) e in
    (needs-none (is_some copies) NoSuchActor (needs (nat_lt 0 (copies_held copies)) NoCopy (needs (nat_le (length args) 4) TooManyArgs
    (needs (list_all (is_earlier count) args) BadFuture (needs (nat_lt count 65536) TooManyCalls None)))) older).0

-- ---- what was sent

-- a mark that is not set tells what no mark tells
unset : (marks : List Bool) (k : ℕ) → unwrap_or (slice_get (marks ++ false ∷ []) k) false ≡ unwrap_or (slice_get marks k) false
unset [] zero = refl
unset [] (suc k) = refl
unset (mark ∷ marks) zero = refl
unset (mark ∷ marks) (suc k) = unset marks k

-- no letter of a call that wasn't submitted is in the mail
unsent : (h : History) (c b n : ℕ) → IsLawful h → length (calls_to b (calls_of c h)) ≤ n → has_letter (CallLetter c b n) h.mail ≡ false
unsent h c b n lawful past = go (has_letter (CallLetter c b n) h.mail) refl
  where
    go : (found : Bool) → has_letter (CallLetter c b n) h.mail ≡ found → found ≡ false
    go true e =
        let sound : IsSoundLetter h (CallLetter c b n) = has_letter-sound (IsSoundLetter h) (CallLetter c b n) h.mail lawful.sound.letters.mail e in
        let within : n < length (calls_to b (calls_of c h)) = slice_get_within (calls_to b (calls_of c h)) n sound.0 sound.1 in absurd (omega arith)
    go false e = refl

-- the calls that were submitted before are sent as before, and the new one wasn't
sent_after : (h : History) (c k : ℕ) (call : Submission) → IsLawful h → was_sent c k (slice_get (calls_of c (record h
    { submitted = h.submitted ++ (c, call) ∷ [] })) k) (record h { submitted = h.submitted ++ (c, call) ∷ [] }) ≡ was_sent c k (slice_get (calls_of c h) k) h
sent_after h c k call lawful = ap (λ found. was_sent c k found now) (ap (λ calls. slice_get calls k) more) ∙ elim (slice_get_cases (calls_of c h) k).1 [
  | inl t ↦ before t.0 t.1 t.2
  | inr f ↦ rw f.1 (new (slice_get (calls_of c h ++ call ∷ []) k) refl f.0)
]
  where
    now : History
    now = record h { submitted = h.submitted ++ (c, call) ∷ [] }

    more : calls_of c now ≡ calls_of c h ++ call ∷ []
    more = calls_after h c call

    before : (old : Submission) → k < length (calls_of c h) → slice_get (calls_of c h) k ≡ Some old →
        was_sent c k (slice_get (calls_of c h ++ call ∷ []) k) now ≡ was_sent c k (slice_get (calls_of c h) k) h
    before old within at =
        let there : slice_get (calls_of c h ++ call ∷ []) k ≡ Some old = slice_get_more (calls_of c h) (call ∷ []) k at in
        let same : number_of old.actor k (calls_of c now) ≡ number_of old.actor k (calls_of c h) =
        ap (λ calls. number_of old.actor k calls) more
        ∙ ap (λ calls. length (filter (λ (one : Submission). one.actor == old.actor) calls)) (take-append-le k (calls_of c h) (call ∷ []) (omega arith)) in
        rw (there, at) (ap (λ n. has_letter (CallLetter c old.actor n) h.mail) same)

    new : (found : Option Submission) → slice_get (calls_of c h ++ call ∷ []) k ≡ found → length (calls_of c h) ≤ k → was_sent c k found now ≡ false
    new None at past = refl
    new (Some one) at past =
        let within : k < length (calls_of c h ++ call ∷ []) = slice_get_within (calls_of c h ++ call ∷ []) k one at in
        let count : length (calls_of c h ++ call ∷ []) ≡ length (calls_of c h) + 1 = length-append (calls_of c h) (call ∷ []) in
        let last : k ≡ length (calls_of c h) = omega arith in
        let number : number_of one.actor k (calls_of c now) ≡ length (calls_to one.actor (calls_of c h)) =
        ap (λ calls. number_of one.actor k calls) more
        ∙ ap (λ n. number_of one.actor n (calls_of c h ++ call ∷ [])) last
        ∙ ap (λ calls. length (filter (λ (other : Submission). other.actor == one.actor) calls)) (take-append_seam (calls_of c h) (call ∷ []))
        ∙ sym (calls_to-length one.actor 0 (calls_of c h)) in
        unsent h c one.actor (number_of one.actor k (calls_of c now)) lawful (omega arith)

-- ---- the answers

deaths_same : (c a : ℕ) (posts : List Post) → list_any (is_death_to c a) posts ≡ list_any (is_death_of c a) posts
deaths_same c a [] = refl
deaths_same c a (ReplyPost d b place ∷ posts) = deaths_same c a posts
deaths_same c a (DeathPost d b ∷ posts) = ap (λ rest. is_death_of c a (DeathPost d b) || rest) (deaths_same c a posts)

submitted_owner : (h : History) (c a : ℕ) (method : Method) (args : List Arg) (owner : OwnerView) → IsLawful h → IsOwnerOf h c owner →
    is_some (copies_in a owner.handles) ≡ true → IsOwnerOf (add_event h (Submit c a method args)) c (with_submission owner a method args)
submitted_owner h c a method args owner lawful is listed = record {
  id = is.id;
  copies = λ b. copies-with_number a b owner.handles ∙ is.copies b;
  limits = is.limits;
  given = λ b. given_after a b owner (calls_of c h) call refl listed is.given ∙ ap (λ calls. length (calls_to b calls)) (sym more);
  calls = ap (λ calls. calls ++ call ∷ []) is.calls ∙ sym more;
  marks = length-append owner.sent (false ∷ []) ∙ ap (λ n. n + 1) is.marks ∙ sym (ap (λ calls. length calls) more ∙ length-append (calls_of c h) (call ∷ []));
  sent = λ k. unset owner.sent k ∙ is.sent k ∙ sym (sent_after h c k call lawful);
  kept = ap (λ dead. owner.kept ++ death_if dead ∷ []) (is.deaths a ∙ deaths_same c a h.collected) ∙
      ap (λ kept. kept ++ death_if (knows_dead c a h) ∷ []) is.kept ∙ sym (kept_of-submitted h c a method args lawful.sound.order lawful.sound.posts);
  deaths = is.deaths;
}
  where
    call : Submission
    call = record { actor = a; method = method; args = args }

    more : calls_of c (add_event h (Submit c a method args)) ≡ calls_of c h ++ call ∷ []
    more = calls_after h c call

-- nothing of another caller's changes
others_stay : (h : History) (c a d : ℕ) (method : Method) (args : List Arg) → c ≢ d → SameCaller d h (add_event h (Submit c a method args))
others_stay h c a d method args apart = record {
  calls = same;
  copies = λ b. refl;
  sent = λ k. sent_stays h (add_event h (Submit c a method args)) d k (slice_get (calls_of d h) k) same (λ b n. refl);
  kept = ap (λ calls. map (first_answer h d) (enumerate_from 0 calls)) same;
  deaths = λ b. refl;
}
  where
    same : calls_of d (add_event h (Submit c a method args)) ≡ calls_of d h
    same = under-other c d h.submitted (record { actor = a; method = method; args = args }) apart

-- where a caller submits a call unrefused, what is told and the world with the call follow the rules
pub submit_follows : {h : History} (old : NetworkView) (slots : List SlotView) (c a : ℕ) {place : ℕ} (k : ℕ) (method : Method) (args : List Arg)
    {owner : OwnerView} (new : OwnerView) → IsLawful h → Refines h (record { network = old; slots = slots }) → position (is_owner c) old.owners ≡ Some place →
    owner ≡ get_or old.owners place owner → refusal_to_submit owner a args ≡ None → k ≡ length owner.calls → new ≡ with_submission owner a method args →
    (Ok (Future c k) ≡ outcome_of h (Submit c a method args)) × Refines (after h (Submit c a method args))
    (record { network = record old { owners = slice_set old.owners place new }; slots = slots })
submit_follows {h} old slots c a {place} k method args {owner} new lawful refines at owner_is accepted future new_is =
    let here = caller_here old slots c refines at owner_is in let grows = added_grows h (Submit c a method args) in
    let listed = accepted_listed a args owner accepted in
    let now : IsOwnerOf (add_event h (Submit c a method args)) c new =
    subst (IsOwnerOf (add_event h (Submit c a method args)) c) (sym new_is) (submitted_owner h c a method args owner lawful here.is listed) in
    accepted_follows h (Submit c a method args) (Future c k) (submission_refused h c a method args here accepted)
    (ap (Future c) (future ∙ ap (λ calls. length calls) here.is.calls))
    (callers_tie h (add_event h (Submit c a method args)) old _ slots lawful refines
    (record { grows = grows; arrived = refl; ran = refl; posts = refl; killed = refl; retired = refl }) (owners_change h old.owners refl refines.owners at
    now (λ d apart. others_stay h c a d method args apart)) (mail_stays old.mail lawful grows refines.mail) refines.mail_count refl refines.asked)

pub submit_refused_follows : {h : History} (old : NetworkView) (slots : List SlotView) (c a : ℕ) {place : ℕ} (method : Method) (args : List Arg)
    {refusal : SubmitRefusal} {owner : OwnerView} → Refines h (record { network = old; slots = slots }) → position (is_owner c) old.owners ≡ Some place →
    owner ≡ get_or old.owners place owner → Some refusal ≡ refusal_to_submit owner a args →
    (Err (SubmitRefused refusal) ≡ outcome_of h (Submit c a method args)) × Refines (after h (Submit c a method args)) (record { network = old; slots = slots })
submit_refused_follows {h} old slots c a {place} method args {refusal} {owner} refines at owner_is told =
    refused_follows (Submit c a method args) (submission_refused h c a method args (caller_here old slots c refines at owner_is) (sym told)) refines

-- where memory is wanted, nothing else refuses the submission
pub submit_unrefused : {h : History} (old : NetworkView) (slots : List SlotView) (c a : ℕ) {place : ℕ} (method : Method) (args : List Arg) {owner : OwnerView} →
    Refines h (record { network = old; slots = slots }) → position (is_owner c) old.owners ≡ Some place → owner ≡ get_or old.owners place owner →
    None ≡ refusal_to_submit owner a args → refusal_of h (Submit c a method args) ≡ None
submit_unrefused {h} old slots c a {place} method args {owner} refines at owner_is told =
    submission_refused h c a method args (caller_here old slots c refines at owner_is) (sym told)

-- ---- what the caller tells, where it doesn't take the call

needs_apart : (holds : Bool) (refusal : SubmitRefusal) (rest : Option SubmitRefusal) → refusal ≢ NoRoom → (rest ≡ Some NoRoom → ⊥) →
    needs holds refusal rest ≡ Some NoRoom → ⊥
needs_apart true refusal rest apart none e = none e
needs_apart false refusal rest apart none e = apart (cc)

or_apart : (one other : Option SubmitRefusal) → (one ≡ Some NoRoom → ⊥) → (other ≡ Some NoRoom → ⊥) → option_or one other ≡ Some NoRoom → ⊥
or_apart None other first second e = second e
or_apart (Some refusal) other first second e = first e

limit_apart : (limit : Option ℕ) (count : ℕ) → limit_refusal limit count ≡ Some NoRoom → ⊥
limit_apart None count e = cc
limit_apart (Some limit) count e = needs_apart (nat_lt count limit) PendingLimit None (λ same. cc) (λ none. cc) e

-- want of memory is no refusal of the rules
memory_apart : (owner : OwnerView) (a : ℕ) (args : List Arg) → refusal_to_submit owner a args ≡ Some NoRoom → ⊥
memory_apart owner a args =
    let copies = copies_in a owner.handles in let count = length owner.calls in
    or_apart (submit_refusal copies count args) (limit_refusal (limit_known owner a) (pending owner a))
    (needs_apart (is_some copies) NoSuchActor _ (λ same. cc)
    (needs_apart (nat_lt 0 (copies_held copies)) NoCopy _ (λ same. cc) (needs_apart (nat_le (length args) 4) TooManyArgs _ (λ same. cc) (needs_apart
    (list_all (is_earlier count) args) BadFuture _ (λ same. cc) (needs_apart (nat_lt count 65536) TooManyCalls None (λ same. cc) (λ none. cc))))))
    (limit_apart (limit_known owner a) (pending owner a))

by_rules : (found : Option SubmitRefusal) (refusal : SubmitRefusal) → refusal ≡ unwrap_or found NoRoom → refusal ≢ NoRoom → Some refusal ≡ found
by_rules None refusal says other = absurd (other says)
by_rules (Some found) refusal says other = ap Some says

by_memory : (found : Option SubmitRefusal) {refusal : SubmitRefusal} → (found ≡ Some NoRoom → ⊥) → refusal ≡ unwrap_or found NoRoom → refusal ≡ NoRoom →
    None ≡ found
by_memory None apart says memory = refl
by_memory (Some found) apart says memory = absurd (apart (ap Some (sym says ∙ memory)))

-- the caller is put back as it was: by the rules, or for want of memory
pub not_taken : (old : NetworkView) (c a : ℕ) {place : ℕ} (method : Method) (args : List Arg) {refusal : SubmitRefusal} {owner new : OwnerView}
    (result : Result Outcome NoMemory) → position (is_owner c) old.owners ≡ Some place → owner ≡ get_or old.owners place owner → refusal ≡ unwrap_or
    (refusal_to_submit owner a args) NoRoom → new ≡ owner → IfOk result (λ told. told ≡ Err (SubmitRefused refusal)) → OnOk result (refusal ≢ NoRoom) →
    OnErr result (refusal ≡ NoRoom) → StepsThere (Submit c a method args) old (record old { owners = slice_set old.owners place new }) result
not_taken old c a {place} method args {refusal} {owner} {new} (Ok told) at owner_is says same told_is other memory =
    rw told_is (refused_there (Submit c a method args) old _ (SubmitRefused refusal) (put_back old place owner_is same) refl (λ slots casts before refines.
    submit_refused_follows old slots c a method args refines at owner_is (by_rules (refusal_to_submit owner a args) refusal says other)))
not_taken old c a {place} method args {refusal} {owner} {new} (Err error) at owner_is says same told_is other memory =
    wanting_there (Submit c a method args) old _ (Err error) (λ e. Unit {0}) tt (put_back old place owner_is same)
    (λ slots casts before refines. submit_unrefused old slots c a method args refines at owner_is
    (by_memory (refusal_to_submit owner a args) (memory_apart owner a args) says memory))
    (λ slots casts before refines. refl)
