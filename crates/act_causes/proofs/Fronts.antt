-- What each front of a play keeps of the same front of the deeds that it stands for, and what it collects and delivers.
use Rattle.act_causes.proofs.Common.{◌≡◌, ℕ, zero, suc, Bool, true, false, List, ◌∷◌, ◌++◌, Option, Some, None, refl, ap, sym, ◌∙◌, subst, filter_map}
use Rattle.act_causes.proofs.Common.{slice_get, unwrap_or, replicate, list_any, cons_option, append-nil, append_assoc, Answered, Death, Event, Letter, Post}
use Rattle.act_causes.proofs.Common.{RunItem, ActorSpec, History, kept_of, next_item, history, add_event, after_run, and_also, is_known_dead, Noticed}
use Rattle.act_causes.proofs.Common.{is_death_to, Site, Action, owner_by, IsEventOf, IsPlayOfDeeds, run_collected, Actor, Caller, left_by, opened_of, CallRun}
use Rattle.act_causes.proofs.Common.{CallTaken, NoteTaken, Copied, DeathTold, KillAsked, KillTaken, Released, Retirement, Sent, Submitted, [], AskKill, Collect}
use Rattle.act_causes.proofs.Common.{Copy, Deliver, Release, Retire, Run, Send, Submit, TakeKill, Tell, CallLetter, NoteLetter, ReplyPost, DeathPost}
use Rattle.act_causes.proofs.Keeping.{Keeps, told_of, owner_of}
use Rattle.act_rules.proofs.Callers.{is_named}

-- each caller's answers are kept as the deeds leave them, and of each actor that it knows to be dead it collected that
pub record KeepsAnswers (casts : List ActorSpec) (deeds : List (Site × Action)) (events : List Event) : Type 0 where
  pub kept : (c : ℕ) → kept_of c (history casts events) ≡ (owner_by casts c deeds).kept
  pub deaths : (c a : ℕ) → is_known_dead (owner_by casts c deeds) a ≡ true → list_any (is_death_to c a) (history casts events).collected ≡ true

-- what is collected in a deed
abbrev pub post_of : Site × Action → Option Post
post_of (Caller c, Noticed (Answered reply)) = Some (ReplyPost c reply.actor reply.place)
post_of (Caller c, Noticed (Death a)) = Some (DeathPost c a)
post_of deed = None

-- the letter that arrives in a deed
abbrev pub letter_of : Site × Action → Option Letter
letter_of (Actor a, CallTaken packet) = Some (CallLetter packet.caller a packet.number)
letter_of (Actor a, NoteTaken note) = Some (NoteLetter note.caller a note.after)
letter_of deed = None

-- the play collected, and brought, what the deeds did, in their order
pub record IsInOrder (casts : List ActorSpec) (deeds : List (Site × Action)) (events : List Event) : Type 0 where
  pub collected : (history casts events).collected ≡ filter_map post_of deeds
  pub arrived : (history casts events).arrived ≡ filter_map letter_of deeds

-- after the deeds `before`, which are the events `first`: so does each front of these deeds and events
abbrev pub EachFront : List ActorSpec → List (Site × Action) → List Event → List (Site × Action) → List Event → Type 0
EachFront casts before first [] [] = KeepsAnswers casts before first
EachFront casts before first [] (event ∷ events) = ⊥
EachFront casts before first (deed ∷ deeds) [] = ⊥
EachFront casts before first (deed ∷ deeds) (event ∷ events) = KeepsAnswers casts before first
    × EachFront casts (before ++ deed ∷ []) (first ++ event ∷ []) deeds events

-- the events are a play of the deeds, each front of which keeps what the deeds' front leaves
pub record IsStepwisePlay (casts : List ActorSpec) (deeds : List (Site × Action)) (events : List Event) : Type 0 where
  pub play : IsPlayOfDeeds casts deeds events
  pub fronts : EachFront casts [] [] deeds events
  pub in_order : IsInOrder casts deeds events

-- ---- one event more

none_known : (a : ℕ) → unwrap_or (slice_get (replicate 9 false) a) false ≡ true → ⊥
none_known a e = go 9 a e
  where
    go : (n k : ℕ) → unwrap_or (slice_get (replicate n false) k) false ≡ true → ⊥
    go zero k e = cc
    go (suc n) zero e = cc
    go (suc n) (suc k) e = go n k e

pub keeps_answers : (casts : List ActorSpec) {deeds : List (Site × Action)} (events : List Event) → Keeps casts deeds (history casts events) →
    KeepsAnswers casts deeds events
keeps_answers casts {deeds} events keeps = record {
  kept = λ c. (told_of casts deeds (history casts events) c keeps).kept;
  deaths = λ c a known. go c a known (is_named casts c) refl;
}
  where
    go : (c a : ℕ) → is_known_dead (owner_by casts c deeds) a ≡ true → (b : Bool) → is_named casts c ≡ b →
        list_any (is_death_to c a) (history casts events).collected ≡ true
    go c a known true named = let is = owner_of casts deeds (history casts events) c keeps named in sym (is.deaths a) ∙ known
    go c a known false stranger =
        let same = keeps.strangers c stranger in
        let bad : is_known_dead (opened_of c casts) a ≡ true = sym (ap (λ steps. is_known_dead (left_by casts c steps) a) same) ∙ known in
        absurd (none_known a bad)

pub one_front : {casts : List ActorSpec} (before : List (Site × Action)) (first : List Event) (deeds : List (Site × Action)) (events : List Event)
    (deed : Site × Action) (event : Event) → EachFront casts before first deeds events → KeepsAnswers casts (before ++ (deeds ++ deed ∷ []))
    (first ++ (events ++ event ∷ [])) → EachFront casts before first (deeds ++ deed ∷ []) (events ++ event ∷ [])
one_front before first [] [] deed event fronts last = (fronts, last)
one_front before first [] (other ∷ events) deed event fronts last = absurd fronts
one_front before first (one ∷ deeds) [] deed event fronts last = absurd fronts
one_front {casts} before first (one ∷ deeds) (other ∷ events) deed event fronts last = (
  fronts.0,
  one_front (before ++ one ∷ []) (first ++ other ∷ []) deeds events deed event fronts.1
      (subst (λ l. KeepsAnswers casts l ((first ++ other ∷ []) ++ (events ++ event ∷ []))) (sym (append_assoc before (one ∷ []) (deeds ++ deed ∷ [])))
      (subst (λ l. KeepsAnswers casts (before ++ (one ∷ (deeds ++ deed ∷ []))) l) (sym (append_assoc first (other ∷ []) (events ++ event ∷ []))) last)),
)

-- ---- what is collected and what arrives

-- one event more collects and brings what the deed does
pub record IsToldMore (h : History) (deed : Site × Action) (event : Event) : Type 0 where
  pub collected : (add_event h event).collected ≡ h.collected ++ cons_option (post_of deed) []
  pub arrived : (add_event h event).arrived ≡ h.arrived ++ cons_option (letter_of deed) []

told_by : (h : History) (deed : Site × Action) (event one : Event) → event ≡ one → (add_event h one).collected ≡ h.collected ++ cons_option (post_of deed) [] →
    (add_event h one).arrived ≡ h.arrived ++ cons_option (letter_of deed) [] → IsToldMore h deed event
told_by h deed event one is collected arrived = subst (IsToldMore h deed) (sym is) (record { collected = collected; arrived = arrived })

run_arrived : (a c : ℕ) (h : History) (o : Option RunItem) → (after_run a c h o).arrived ≡ h.arrived
run_arrived a c h None = refl
run_arrived a c h (Some item) = refl

pub told_more : (h : History) (deed : Site × Action) (event : Event) → IsEventOf h deed event → IsToldMore h deed event
told_more h (Caller c, Noticed (Answered reply)) event is =
    told_by h (Caller c, Noticed (Answered reply)) event (Collect is.0) is.1 (ap (and_also h.collected) is.2) (sym (append-nil h.arrived))
told_more h (Caller c, Noticed (Death a)) event is =
    told_by h (Caller c, Noticed (Death a)) event (Collect is.0) is.1 (ap (and_also h.collected) is.2) (sym (append-nil h.arrived))
told_more h (Actor a, CallTaken packet) event is =
    told_by h (Actor a, CallTaken packet) event (Deliver is.0) is.1 (sym (append-nil h.collected)) (ap (and_also h.arrived) is.2)
told_more h (Actor a, NoteTaken note) event is =
    told_by h (Actor a, NoteTaken note) event (Deliver is.0) is.1 (sym (append-nil h.collected)) (ap (and_also h.arrived) is.2)
told_more h (Actor a, CallRun item) event is = told_by h (Actor a, CallRun item) event (Run a item.caller) is (run_collected a item.caller h
    (next_item a item.caller h) ∙ sym (append-nil h.collected)) (run_arrived a item.caller h (next_item a item.caller h) ∙ sym (append-nil h.arrived))
told_more h (Caller c, Copied a) event is = told_by h (Caller c, Copied a) event (Copy c a) is (sym (append-nil h.collected)) (sym (append-nil h.arrived))
told_more h (Caller c, Released a) event is =
    told_by h (Caller c, Released a) event (Release c a) is (sym (append-nil h.collected)) (sym (append-nil h.arrived))
told_more h (Caller c, Submitted a method args) event is =
    told_by h (Caller c, Submitted a method args) event (Submit c a method args) is (sym (append-nil h.collected)) (sym (append-nil h.arrived))
told_more h (Caller c, Sent k) event is = told_by h (Caller c, Sent k) event (Send c k) is (sym (append-nil h.collected)) (sym (append-nil h.arrived))
told_more h (Caller c, KillAsked a) event is =
    told_by h (Caller c, KillAsked a) event (AskKill c a) is (sym (append-nil h.collected)) (sym (append-nil h.arrived))
told_more h (Actor a, KillTaken asker note) event is =
    told_by h (Actor a, KillTaken asker note) event (TakeKill a) is (sym (append-nil h.collected)) (sym (append-nil h.arrived))
told_more h (Actor a, DeathTold c) event is = told_by h (Actor a, DeathTold c) event (Tell a c) is (sym (append-nil h.collected)) (sym (append-nil h.arrived))
told_more h (Actor a, Retirement) event is = told_by h (Actor a, Retirement) event (Retire a) is (sym (append-nil h.collected)) (sym (append-nil h.arrived))
told_more h deed event is = absurd is
