-- One event, and one letter that it tells.
use Rattle.act_plan_plays.proofs.Common.{◌≡◌, ℕ, true, false, List, [], ◌∷◌, ◌++◌, Option, Some, None, Ok, Err, IsOk, All, refl, ap, sym, ◌∙◌, subst, is_ok}
use Rattle.act_plan_plays.proofs.Common.{All-append, All-cons, All-nil, Event, Deliver, Did, WorldRefusal, ActorSpec, History, opening, history, Outcome}
use Rattle.act_plan_plays.proofs.Common.{refusal_of, did, add_event, outcome_by, after_by, outcome_of, after, outcomes, after_all-append, outcomes-append}
use Rattle.act_plan_plays.proofs.Common.{WorldView, Refines, IsReachedBy, IsBehind, after_mail, after_post}
use Rattle.act_rules.specs.declared.outcome.Did.TheVariants as did_so

-- ---- what is told of an event

-- an event that did something was not refused
pub done_of : (h : History) (event : Event) {told : Did} → Ok told ≡ outcome_of h event → (refusal_of h event ≡ None) × (told ≡ did h event)
    × (after h event ≡ add_event h event)
done_of h event {told} e = go (refusal_of h event) refl e
  where
    go : (o : Option WorldRefusal) → refusal_of h event ≡ o → Ok told ≡ outcome_by h event o
        → (refusal_of h event ≡ None) × (told ≡ did h event) × (after h event ≡ add_event h event)
    go None is e = (is, cc, ap (after_by h event) is)
    go (Some refusal) is e = cc

pub refused_of : (h : History) (event : Event) (refusal : WorldRefusal) → Err refusal ≡ outcome_of h event → after h event ≡ h
refused_of h event refusal e = go (refusal_of h event) refl e
  where
    go : (o : Option WorldRefusal) → refusal_of h event ≡ o → Err refusal ≡ outcome_by h event o → after h event ≡ h
    go None is e = cc
    go (Some other) is e = ap (after_by h event) is

-- ---- one event more

one_ok : (outcome : Outcome) (events : List Outcome) → is_ok outcome ≡ true → All IsOk events → All IsOk (events ++ outcome ∷ [])
one_ok (Ok told) events e all =
    let one : IsOk {T = Did} {E = WorldRefusal} (Ok told) = refl in
    All-append (IsOk {T = Did} {E = WorldRefusal}) events (Ok told ∷ []) all
    (All-cons (IsOk {T = Did} {E = WorldRefusal}) (Ok told) [] one (All-nil (IsOk {T = Did} {E = WorldRefusal})))
one_ok (Err refusal) events e all = cc

pub behind_more : (casts : List ActorSpec) (h : History) (event : Event) {old : WorldView} (new : WorldView) {events : List Event} {outcome : Outcome} →
    IsBehind casts h old events → outcome ≡ outcome_of (history casts events) event → IsReachedBy casts (events ++ event ∷ []) new → is_ok outcome ≡ true →
    IsBehind casts (after h event) new (events ++ event ∷ [])
behind_more casts h event new {events} {outcome} behind told reached ok = record {
  is = ap (λ g. after g event) behind.is ∙ sym (after_all-append (opening casts) events (event ∷ []));
  reached = reached;
  accepted = subst (All IsOk) (ap (λ o. outcomes (opening casts) events ++ o ∷ []) told ∙ sym (outcomes-append (opening casts) events (event ∷ [])))
      (one_ok outcome (outcomes (opening casts) events) ok behind.accepted);
}

pub behind_same : (casts : List ActorSpec) (h : History) (event : Event) {old : WorldView} (new : WorldView) {events : List Event} (outcome : Outcome) →
    IsBehind casts h old events → outcome ≡ outcome_of (history casts events) event → IsReachedBy casts (events ++ event ∷ []) new → is_ok outcome ≡ false →
    IsBehind casts (after h event) new events
behind_same casts h event new (Ok told) behind said reached ok = cc
behind_same casts h event new {events} (Err refusal) behind said reached ok =
    let same : after (history casts events) event ≡ history casts events = refused_of (history casts events) event refusal said in
    record {
      is = ap (λ g. after g event) behind.is ∙ same;
      reached = subst (λ g. Refines g new) (after_all-append (opening casts) events (event ∷ []) ∙ same) reached;
      accepted = behind.accepted;
    }

-- ---- a letter that is told

-- a world that stands after an event and the delivery of the letter it tells stands after the event with its letter
pub post_mail : (casts : List ActorSpec) (h : History) (event : Event) {told : Did} {i : ℕ} {world : WorldView} {events : List Event} → told ≡ did h event →
    told ≡ did_so.Mail i → IsBehind casts (after (add_event h event) (Deliver i)) world events → IsBehind casts (after_post event h) world events
post_mail casts h event {world} {events} is mail behind = subst (λ d. IsBehind casts (after_mail d (add_event h event)) world events) (sym mail ∙ is) behind

-- where an event tells no letter, a world that stands after it stands after the event with its letter, if any
pub post_none : (casts : List ActorSpec) (h : History) (event : Event) {told : Did} {world : WorldView} {events : List Event} → told ≡ did h event
    → ((i : ℕ) → told ≡ did_so.Mail i → ⊥) → IsBehind casts (add_event h event) world events → IsBehind casts (after_post event h) world events
post_none casts h event {told} {world} {events} is none behind =
    subst (λ g. IsBehind casts g world events) (ap (λ d. after_mail d (add_event h event)) is)
    (subst (λ g. IsBehind casts g world events) (sym (same told none)) behind)
  where
    same : (d : Did) → ((i : ℕ) → d ≡ did_so.Mail i → ⊥) → after_mail d (add_event h event) ≡ add_event h event
    same (did_so.Mail i) none = absurd (none i refl)
    same d none = refl
