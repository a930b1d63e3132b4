-- What steps leave that a caller may do: a call that was sent has its packet, and a handle that was let go stays so.
use Rattle.act_executor.proofs.Common.{◌≡◌, ℕ, zero, suc, ◌+◌, Bool, true, false, cond, List, [], ◌∷◌, ◌++◌, length, Option, Some, None, inl, inr, refl, ap}
use Rattle.act_executor.proofs.Common.{sym, ◌∙◌, subst, arith, Contains, slice_get, is_some, list_all, eqb_tells, append-nil, Answered, Death, Reply}
use Rattle.act_executor.proofs.Common.{Submission, calls_to, kept_at, is_known, copy_refusal, handle_refusal, submit_refusal, limit_refusal, copies_in}
use Rattle.act_executor.proofs.Common.{copies-with_copy-other, copies-without_copy-other, copies-with_number, First, Late, Stray, OwnerView, is_sent}
use Rattle.act_executor.proofs.Common.{is_of_call, owner_limit, pending, sending_refusal, with_death, after_reply_that, Action, Copied, Released, Submitted}
use Rattle.act_executor.proofs.Common.{Sent, Noticed, after_action, is_known_at, packet_stays_all, after_all-append, after_actions, CallerMayDo, CallerMayDoAll}
use Rattle.act_executor.proofs.Common.{send_refusal, needs-none, option_or-none, calls_to-push, NotReady, step}

-- ---- the front, and the rest

-- a caller that may do all of some steps may do those of any prefix of them
pub may_front : (owner : OwnerView) (before later : List Action) → CallerMayDoAll owner (before ++ later) → CallerMayDoAll owner before
may_front owner [] later may = tt
may_front owner (step ∷ before) later may = (may.0, may_front (after_action owner step) before later may.1)

-- a caller that may do all of some steps may do the rest of them after any first ones
pub may_rest : (owner : OwnerView) (before later : List Action) → CallerMayDoAll owner (before ++ later) → CallerMayDoAll (after_actions owner before) later
may_rest owner [] later may = may
may_rest owner (step ∷ before) later may = may_rest (after_action owner step) before later may.1

-- ---- a call that was sent

-- what may be sent is known
ready_known : (owner : OwnerView) (k : ℕ) → sending_refusal owner k ≡ None → is_known_at owner k ≡ true
ready_known owner k free = go (slice_get owner.calls k) refl free
  where
    go : (o : Option Submission) → slice_get owner.calls k ≡ o → send_refusal owner.kept k (is_sent owner k) o ≡ None → is_known_at owner k ≡ true
    go None at e = cc
    go (Some call) at e = rw at (needs-none (list_all (is_known owner.kept) call.args) NotReady _ e).0

-- where each call has a place for its answer: the arguments of one that was sent have their answers
pub sent_known : (owner : OwnerView) (steps : List Action) (k : ℕ) → length owner.kept ≡ length owner.calls → CallerMayDoAll owner steps →
    Contains steps (Sent k) → is_known_at (after_actions owner steps) k ≡ true
sent_known owner [] k places may has = absurd (let below = has.1 in omega arith)
sent_known owner (one ∷ steps) k places may (zero, below, is) =
    let ready : CallerMayDo owner (Sent k) = subst (CallerMayDo owner) is may.0 in
    let known : is_known_at (after_action owner one) k ≡ true = subst (λ s. is_known_at (after_action owner s) k ≡ true) (sym is) (ready_known owner k ready) in
    (packet_stays_all (after_action owner one) steps k (step owner one places).places known).0
sent_known owner (one ∷ steps) k places may (suc i, below, is) =
    sent_known (after_action owner one) steps k (step owner one places).places may.1 (i, omega arith, is)

-- ---- a handle that was let go

record StaysGone (owner later : OwnerView) (a : ℕ) : Type 0 where
  copies : copies_in a later.handles ≡ copies_in a owner.handles
  calls : calls_to a later.calls ≡ calls_to a owner.calls

reply_same : (owner : OwnerView) (reply : Reply) (a : ℕ) (mine known : Bool)
    → StaysGone owner (after_reply_that (cond mine (cond known (Late reply.future) (First reply.future)) Stray) owner reply) a
reply_same owner reply a false known = record { copies = refl; calls = refl }
reply_same owner reply a true true = record { copies = refl; calls = refl }
reply_same owner reply a true false = record { copies = refl; calls = refl }

death_same : (owner : OwnerView) (a b : ℕ) (listed : Bool) → StaysGone owner (cond listed (with_death owner b) owner) a
death_same owner a b false = record { copies = refl; calls = refl }
death_same owner a b true = record { copies = refl; calls = refl }

gone_one : (owner : OwnerView) (step : Action) (a : ℕ) → copies_in a owner.handles ≡ Some 0 → CallerMayDo owner step
    → StaysGone owner (after_action owner step) a
gone_one owner (Copied b) a gone may = elim (eqb_tells b a) [
  | inl t ↦ let none : copy_refusal (Some 0) ≡ None = sym (ap copy_refusal (ap (λ x. copies_in x owner.handles) t.1 ∙ gone)) ∙ may in cc
  | inr f ↦ record { copies = copies-with_copy-other b a owner.handles f.1; calls = refl }
]
gone_one owner (Released b) a gone may = elim (eqb_tells b a) [
  | inl t ↦ let none : handle_refusal (Some 0) ≡ None = sym (ap handle_refusal (ap (λ x. copies_in x owner.handles) t.1 ∙ gone)) ∙ may in cc
  | inr f ↦ record { copies = copies-without_copy-other b a owner.handles f.1; calls = refl }
]
gone_one owner (Submitted b method args) a gone may = elim (eqb_tells b a) [
  | inl t ↦
      let older =
      option_or-none (submit_refusal (copies_in b owner.handles) (length owner.calls) args) (limit_refusal (owner_limit owner b) (pending owner b)) may in
      let none : submit_refusal (Some 0) (length owner.calls) args ≡ None =
      sym (ap (λ copies. submit_refusal copies (length owner.calls) args) (ap (λ x. copies_in x owner.handles) t.1 ∙ gone)) ∙ older in cc
  | inr f ↦ record {
    copies = copies-with_number b a owner.handles;
    calls = calls_to-push a owner.calls (record { actor = b; method = method; args = args }) ∙ ap (λ same. calls_to a owner.calls ++ cond same
        ((0 + length owner.calls, record { actor = b; method = method; args = args }) ∷ []) []) f.0 ∙ append-nil (calls_to a owner.calls);
  }
]
gone_one owner (Noticed (Answered reply)) a gone may = reply_same owner reply a (is_of_call owner reply) (is_some (kept_at owner.kept reply.future))
gone_one owner (Noticed (Death b)) a gone may = death_same owner a b (is_some (copies_in b owner.handles))
gone_one owner step a gone may = record { copies = refl; calls = refl }

gone_on : (owner : OwnerView) (steps : List Action) (a : ℕ) → copies_in a owner.handles ≡ Some 0 → CallerMayDoAll owner steps
    → StaysGone owner (after_actions owner steps) a
gone_on owner [] a gone may = record { copies = refl; calls = refl }
gone_on owner (step ∷ steps) a gone may =
    let one = gone_one owner step a gone may.0 in
    let rest = gone_on (after_action owner step) steps a (one.copies ∙ gone) may.1 in
    record { copies = rest.copies ∙ one.copies; calls = rest.calls ∙ one.calls }

-- a caller that let all copies of an actor's handle go gets none, and calls it no more, by later steps that it may do
pub gone_stays : (owner : OwnerView) (before later : List Action) (a : ℕ) → CallerMayDoAll owner (before ++ later) →
    copies_in a (after_actions owner before).handles ≡ Some 0 → (copies_in a (after_actions owner (before ++ later)).handles ≡ Some 0) ×
    (calls_to a (after_actions owner (before ++ later)).calls ≡ calls_to a (after_actions owner before).calls)
gone_stays owner before later a may gone =
    let rest = gone_on (after_actions owner before) later a gone (may_rest owner before later may) in
    let after = after_all-append owner before later in
    (ap (λ (o : OwnerView). copies_in a o.handles) after ∙ rest.copies ∙ gone, ap (λ (o : OwnerView). calls_to a o.calls) after ∙ rest.calls)
