-- How a walk rests: events of that time one after the other.
use Rattle.act_walks.proofs.Common.{◌≡◌, ℕ, ◌+◌, ◌<◌, ◌≤◌, ◌==◌, nat_lt, length, get_or, take, arith, Bool, true, false, List, [], ◌∷◌, ◌++◌, Option, Some}
use Rattle.act_walks.proofs.Common.{None, Result, Ok, Err, inl, inr, ◌⊎◌, refl, ap, sym, ◌∙◌, subst, append_assoc, OnOk, OnErr, is_some, option_map, slice_get}
use Rattle.act_walks.proofs.Common.{get_or_from_slice_get, slice_get_within, Vec, option_map_or, cases_lt, eqb-true, or_cases, append-nil}
use Rattle.act_walks.proofs.Common.{take_more, All-append, All-cons, All-nil, Event, Did, WorldRefusal, ActorSpec, History, opening, contains, cast_of, names}
use Rattle.act_walks.proofs.Common.{is_caller, copies_of, history, refusal_of, outcome_of, outcome_by, did, add_event, after, needs, NoActor, Handle, NoCaller}
use Rattle.act_walks.proofs.Common.{Step, needs-none, option_map-none, copies_named, contains_push, WorldView, IsBehind, after_mail, after_post, done_of, Told}
use Rattle.act_walks.proofs.Common.{RetiredAsTold, ToldActor, ToldEnd, SomeEnd, IsAtRest, callers_of, Fits, FitsCasts, is_restful, OnlyRests, RestsOn}
use Rattle.act_walks.proofs.Common.{IsToldRetired, SaysRetired, CannotHappen, HoldNone, IsSettled, AreSettled}
use Rattle.std.specs.List.{find}
use Rattle.std.proofs.lemmas.Bool.Decides.{nat_tests}
use Rattle.act_rules.specs.declared.event.Event.TheVariants as event
use Rattle.act_rules.specs.declared.outcome.Did.TheVariants as did_so
use Rattle.act_rules.specs.Submissions.{copies_held, handle_refusal}
use Rattle.act_rules.specs.declared.outcome.HandleRefusal.TheVariants.{NoHandle}
use Rattle.act_plan_plays.specs.declared.choice.PlayFault.{PlayFault}
use Rattle.act_walks.proofs.AtRest as at_rest
use Rattle.act_walks.proofs.Onward.{behind_here}
use Rattle.act_executor.proofs.PlaysOfThreads.AsPlay.{casts_stay}

-- ---- nothing else happened

abbrev IsRestful : Event → Type 0
IsRestful event = is_restful event ≡ true

pub only_none : (events : List Event) → OnlyRests events events
only_none events = ([], sym (append-nil events), All-nil IsRestful)

pub only_one : (before : List Event) {after : List Event} (event : Event) → is_restful event ≡ true → after ≡ before ++ event ∷ [] → OnlyRests before after
only_one before event is kept = (event ∷ [], kept, All-cons IsRestful event [] is (All-nil IsRestful))

pub only_trans : (before between after : List Event) → OnlyRests before between → OnlyRests between after → OnlyRests before after
only_trans before between after (first, is, some) (second, then, others) = (
  first ++ second,
  then ∙ ap (λ l. l ++ second) is ∙ append_assoc before first second,
  All-append IsRestful first second some others,
)

-- an event that is tried
pub only_tried : {A : Type 0} (outcome : Result Did WorldRefusal) (event : Event) (old new : A) (before later : Vec Event) → is_restful event ≡ true
    → OnOk outcome (later.items ≡ before.items ++ event ∷ []) → OnErr outcome ((new ≡ old) × (later ≡ before)) → OnlyRests before.items later.items
only_tried (Ok told) event old new before later is kept same = only_one before.items event is kept
only_tried (Err refusal) event old new before later is kept same =
    subst (OnlyRests before.items) (ap (λ (v : Vec Event). v.items) (sym same.1)) (only_none before.items)

-- ---- one after the other

pub rests_none : (may : Told → Type 0) (world : WorldView) (events : List Event) → RestsOn may world world events events
rests_none may world events = record { only = only_none events; behind = λ casts behind. behind; rests = λ casts told is behind rest. rest }

-- a walk rests on where its world and its events are as before
pub rests_same : (may : Told → Type 0) {old new : WorldView} {before later : List Event} → new ≡ old → later ≡ before → RestsOn may old new before later
rests_same may {old = old} {new = new} {before = before} {later = later} world events = subst (λ w. RestsOn may old w before later) (sym world)
    (subst (λ l. RestsOn may old old before l) (sym events) (rests_none may old before))

-- a walk that rests on from one world to a second, and from that to a third, rests on from the first to the third
pub rests_trans : {may : Told → Type 0} {old mid new : WorldView} {before between later : List Event} → RestsOn may old mid before between
    → RestsOn may mid new between later → RestsOn may old new before later
rests_trans {before = before} {between = between} {later = later} first second = record {
  only = only_trans before between later first.only second.only;
  behind = λ casts behind. second.behind casts (first.behind casts behind);
  rests = λ casts told is behind rest. second.rests casts told is (first.behind casts behind) (first.rests casts told is behind rest);
}

pub rests_for : {may other : Told → Type 0} {old new : WorldView} {before later : List Event} → ((told : Told) → other told → may told)
    → RestsOn may old new before later → RestsOn other old new before later
rests_for from is = record { only = is.only; behind = is.behind; rests = λ casts told so behind rest. is.rests casts told (from told so) behind rest }

-- ---- one event

-- what is told of an event that is tried, and what is left
abbrev pub Tried : Event → Result Did WorldRefusal → WorldView → WorldView → List Event → List Event → Type 0
Tried event outcome old new before later = (casts : List ActorSpec) (h : History) → IsBehind casts h old before →
    (outcome ≡ outcome_of h event) × IsBehind casts (after h event) new later

accepted : (event : Event) (told : Did) (old new : WorldView) (before later : List Event) → Tried event (Ok told) old new before later → (casts : List
    ActorSpec) (h : History) → IsBehind casts h old before → (refusal_of h event ≡ None) × (told ≡ did h event) × IsBehind casts (add_event h event) new later
accepted event told old new before later tried casts h behind =
    let was = tried casts h behind in let done = done_of h event was.0 in (done.0, done.1, subst (λ k. IsBehind casts k new later) done.2 was.1)

-- an event that is refused can't happen
pub refused : (event : Event) (refusal : WorldRefusal) (old new : WorldView) (before later : List Event) → Tried event (Err refusal) old new before later
    → CannotHappen event old before
refused event refusal old new before later tried casts behind may =
    not_ok (refusal_of (history casts before) event) (tried casts (history casts before) behind).0 may
  where
    not_ok : (o : Option WorldRefusal) → Err refusal ≡ outcome_by (history casts before) event o → o ≡ None → ⊥
    not_ok None e none = cc
    not_ok (Some other) e none = cc

-- an event that was refused still can't happen, where world and events are as before
pub refused_same : (event : Event) (refusal : WorldRefusal) {old new : WorldView} {before later : List Event} → new ≡ old → later ≡ before
    → Tried event (Err refusal) old new before later → CannotHappen event new later
refused_same event refusal {old = old} {new = new} {before = before} {later = later} world events tried =
    subst (λ w. CannotHappen event w later) (sym world)
    (subst (λ l. CannotHappen event old l) (sym events) (refused event refusal old new before later tried))

-- where no letter is told, none is brought
pub no_mail : (h : History) (d : Did) → ((i : ℕ) → d ≡ did_so.Mail i → ⊥) → after_mail d h ≡ h
no_mail h (did_so.Future c k) none = refl
no_mail h (did_so.Copies n) none = refl
no_mail h (did_so.Mail i) none = absurd (none i refl)
no_mail h (did_so.Arrived arrival) none = refl
no_mail h (did_so.Ran place j) none = refl
no_mail h did_so.Gap none = refl
no_mail h (did_so.Kept c k) none = refl
no_mail h (did_so.Late c k) none = refl
no_mail h (did_so.Died n) none = refl
no_mail h did_so.Asked none = refl
no_mail h did_so.Dead none = refl
no_mail h (did_so.Told j) none = refl
no_mail h did_so.Retired none = refl

-- a handle that is let go, and its note
pub release_rests : (c a : ℕ) (told : Did) (old mid new : WorldView) (before : List Event) {between : List Event} (later : List Event) → Tried
    (event.Release c a) (Ok told) old mid before between → between ≡ before ++ event.Release c a ∷ [] → OnlyRests between later → ((casts : List ActorSpec)
    (h : History) → IsBehind casts h mid between → IsBehind casts (after_mail told h) new later) → RestsOn (IsToldRetired a) old new before later
release_rests c a told old mid new before {between} later tried kept only brings = record {
  only = only_trans before between later (only_one before (event.Release c a) refl kept) only;
  behind = λ casts behind. behind_here (posted casts behind).1;
  rests = λ casts what is behind rest.
      let done = accepted (event.Release c a) told old mid before between tried casts (history casts before) behind in
      let next = brings casts (add_event (history casts before) (event.Release c a)) done.2 in
      let same : history casts later ≡ after_post (event.Release c a) (history casts before) =
      sym next.is ∙ ap (λ d. after_mail d (add_event (history casts before) (event.Release c a))) done.1 in
      subst (IsAtRest what) (sym same) (at_rest.let_go what (history casts before) rest c a done.0);
}
  where
    posted : (casts : List ActorSpec) → IsBehind casts (history casts before) old before → (g : History) × IsBehind casts g new later
    posted casts behind =
        let done = accepted (event.Release c a) told old mid before between tried casts (history casts before) behind in
        (after_mail told (add_event (history casts before) (event.Release c a)), brings casts (add_event (history casts before) (event.Release c a)) done.2)

-- an actor that retires
pub retire_rests : (a : ℕ) (told : Did) (old new : WorldView) (before : List Event) {later : List Event} → Tried (event.Retire a) (Ok told) old new before later
    → later ≡ before ++ event.Retire a ∷ [] → RestsOn (IsToldRetired a) old new before later
retire_rests a told old new before {later} tried kept = record {
  only = only_one before (event.Retire a) refl kept;
  behind = λ casts behind.
      let done = accepted (event.Retire a) told old new before later tried casts (history casts before) behind in behind_here done.2;
  rests = λ casts what is behind rest.
      let done = accepted (event.Retire a) told old new before later tried casts (history casts before) behind in
      subst (IsAtRest what) done.2.is (at_rest.retired what (history casts before) rest a is done.0);
}

-- ---- whether something moved

-- a call that tells this
abbrev tells : Bool → Result Bool PlayFault
tells b = Ok b

-- a call that tells a flag tells false where the flag is false
pub told_false : {b : Bool} → b ≡ false → tells b ≡ tells false
told_false e = ap tells e

pub tells_none : (b : Bool) → tells b ≡ tells false → b ≡ false
tells_none b e = cc

pub not_first : (n : ℕ) → tells (nat_lt 0 n) ≡ tells false → n ≡ 0
not_first n e = let none : nat_lt 0 n ≡ false = cc in grind (arith, nat_tests)

-- one caller more that can let no handle go
pub hold_more : (callers : List ℕ) {i c : ℕ} (a : ℕ) (world : WorldView) (events : List Event) → i < length callers → c ≡ get_or callers i c →
    HoldNone (take i callers) a world events → CannotHappen (event.Release c a) world events → HoldNone (take (i + 1) callers) a world events
hold_more callers {i} {c} a world events within is before now d among =
    go (or_cases (contains d (take i callers)) (c == d) (sym (contains_push d c (take i callers)) ∙ ap (contains d) (sym more) ∙ among))
  where
    more : take (i + 1) callers ≡ take i callers ++ c ∷ []
    more = take_more callers i c within ∙ ap (λ x. take i callers ++ x ∷ []) (sym is)

    go : (contains d (take i callers) ≡ true) ⊎ ((c == d) ≡ true) → CannotHappen (event.Release d a) world events
    go (inl there) = before d there
    go (inr same) = subst (λ x. CannotHappen (event.Release x a) world events) (eqb-true c d same) now

-- where world and events are as before, callers that couldn't let a handle of the actor go still can't
pub hold_same : (callers : List ℕ) (a : ℕ) {old new : WorldView} {before later : List Event} → new ≡ old → later ≡ before → HoldNone callers a old before
    → HoldNone callers a new later
hold_same callers a {old = old} {new = new} {before = before} {later = later} world events hold =
    subst (λ w. HoldNone callers a w later) (sym world) (subst (λ l. HoldNone callers a old l) (sym events) hold)

-- ---- all actors

-- so of the actors below this number
abbrev pub SettledBelow : ℕ → List ToldActor → WorldView → List Event → Type 0
SettledBelow n actors world events = (a : ℕ) (actor : ToldActor) → a < n → slice_get actors a ≡ Some actor → actor.is_retired ≡ true →
    IsSettled actor.callers.items a world events

pub settled_more : (n : ℕ) (actors : List ToldActor) (one : ToldActor) (world : WorldView) (events : List Event) → one ≡ get_or actors n one →
    SettledBelow n actors world events → (one.is_retired ≡ true → IsSettled one.callers.items n world events) → SettledBelow (n + 1) actors world events
settled_more n actors one world events is before now a actor below at told = go (cases_lt a n)
  where
    go : (a < n) ⊎ (n ≤ a) → IsSettled actor.callers.items a world events
    go (inl less) = before a actor less at told
    go (inr past) =
        let here : a ≡ n = omega (arith, below, past) in
        let there : slice_get actors n ≡ Some actor = subst (λ m. slice_get actors m ≡ Some actor) here at in
        let same : one ≡ actor = is ∙ get_or_from_slice_get actors n actor one there in
        subst (λ m. IsSettled actor.callers.items m world events) (sym here)
        (subst (λ (x : ToldActor). x.is_retired ≡ true → IsSettled x.callers.items n world events) same now told)

settled_one : {callers : List ℕ} {a : ℕ} {old new : WorldView} {before later : List Event} → new ≡ old → later ≡ before → IsSettled callers a old before
    → IsSettled callers a new later
settled_one {callers = callers} {a = a} {old = old} {new = new} {before = before} {later = later} world events is =
    subst (λ w. IsSettled callers a w later) (sym world) (subst (λ l. IsSettled callers a old l) (sym events) is)

pub settled_same : (n : ℕ) (actors : List ToldActor) {old new : WorldView} {before later : List Event} → new ≡ old → later ≡ before →
    SettledBelow n actors old before → SettledBelow n actors new later
settled_same n actors world events settled a actor below at told = settled_one world events (settled a actor below at told)

pub settled_all : (n : ℕ) (actors : List ToldActor) (world : WorldView) (events : List Event) → length actors ≤ n → SettledBelow n actors world events
    → AreSettled actors world events
settled_all n actors world events whole settled a actor at told = let within = slice_get_within actors a actor at in settled a actor (omega arith) at told

-- ---- what is told

-- an actor that the data says retired is told so
pub says_retired : {end : ToldEnd} (a : ℕ) (actor : ToldActor) (told : Told) → slice_get end.actors.items a ≡ Some actor → Fits end told
    → SaysRetired a actor told
says_retired a actor told at fits is = sym (fits.retired a) ∙ ap (λ o. option_map_or (λ (x : ToldActor). x.is_retired) o false) at ∙ is

-- whoever lets a handle go is named by the actor's cast
release_named : (h : History) (c a : ℕ) → refusal_of h (event.Release c a) ≡ None → names c (cast_of a h) ≡ true
release_named h c a may =
    copies_named c a h (needs-none (is_some (copies_of c a h)) NoActor (needs (nat_lt 0 (copies_held (copies_of c a h))) NoHandle None) holds).0
  where
    holds : handle_refusal (copies_of c a h) ≡ None
    holds = option_map-none Handle (handle_refusal (copies_of c a h))
        (needs-none (is_caller c h) NoCaller (option_map Handle (handle_refusal (copies_of c a h))) may).1

-- where each of those told retired is settled, all of them retired
pub all_retired : {end : ToldEnd} (casts : List ActorSpec) (bound : ℕ → Option (List Step)) (told : Told) {world : WorldView} {events : List Event} →
    SomeEnd casts bound told → Fits end told → FitsCasts end casts → IsBehind casts (history casts events) world events → IsAtRest told (history casts events) →
    AreSettled end.actors.items world events → RetiredAsTold told (history casts events)
all_retired {end} casts bound told {events} some fits named behind rest settled =
    at_rest.settled casts bound told some events behind.accepted rest (λ c a to may. keeps c a (slice_get end.actors.items a) refl to.0 may)
    (λ a to may. stays a (slice_get end.actors.items a) refl to.0 may)
  where
    says : (o : Option ToldActor) → Bool
    says o = option_map_or (λ (x : ToldActor). x.is_retired) o false

    said : (a : ℕ) {o : Option ToldActor} → slice_get end.actors.items a ≡ o → told.retired a ≡ true → says o ≡ true
    said a at is = ap says (sym at) ∙ fits.retired a ∙ is

    keeps : (c a : ℕ) (o : Option ToldActor) → slice_get end.actors.items a ≡ o → told.retired a ≡ true
        → refusal_of (history casts events) (event.Release c a) ≡ None → ⊥
    keeps c a None at is may = let bad = said a at is in cc
    keeps c a (Some actor) at is may =
        let own : callers_of end a ≡ actor.callers.items = ap (λ o. option_map_or (λ (x : ToldActor). x.callers.items) o []) at in
        let there : names c (cast_of a (opening casts)) ≡ true =
        subst (λ l. names c (find (λ (x : ActorSpec). x.actor == a) l) ≡ true) (casts_stay casts events)
        (release_named (history casts events) c a may) in
        let among : contains c actor.callers.items ≡ true = ap (contains c) (sym own ∙ named.callers a) ∙ there in
        (settled a actor at (said a at is)).hold c among casts behind may

    stays : (a : ℕ) (o : Option ToldActor) → slice_get end.actors.items a ≡ o → told.retired a ≡ true
        → refusal_of (history casts events) (event.Retire a) ≡ None → ⊥
    stays a None at is may = let bad = said a at is in cc
    stays a (Some actor) at is may = (settled a actor at (said a at is)).stays casts behind may
