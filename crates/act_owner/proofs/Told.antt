-- Where what a caller keeps comes from.
use Rattle.act_owner.proofs.Common.{◌≡◌, ℕ, zero, suc, ◌<◌, ◌==◌, ◌&&◌, ◌⊎◌, rules, Bool, true, false, if◌then◌else◌, not, List, [], ◌∷◌, ◌++◌, length, map}
use Rattle.act_owner.proofs.Common.{replicate, Option, Ok, Err, Some, None, is_some, inl, inr, refl, sym, ◌∙◌, ap, subst, Contains, append_assoc, append-nil}
use Rattle.act_owner.proofs.Common.{filter, slice_get, slice_set, zip, unwrap_or, Contains-append_left, Contains-push, eqb_tells, not-true, ActorDied, Reply}
use Rattle.act_owner.proofs.Common.{Notice, Answered, Death, Submission, Answer, kept_at, calls_to, slice_get_last, copies_in, given_in, First, Late, Stray}
use Rattle.act_owner.proofs.Common.{OwnerView, submission_of, opened_under, with_death, after_reply_that, is_of_call, is_sent, is_known_dead, is_to, is_death}
use Rattle.act_owner.proofs.Common.{answer_of_new_call, answer_after_death, Call, Action, Copied, Submitted, Sent, Noticed, after_action, after_actions}
use Rattle.act_owner.proofs.Common.{notices_in, IsToldBy, Hears, calls_to-length}
use Rattle.act_owner.proofs.Life.{Extends, step, found_below}

-- ---- deaths

-- the only answer that says that the actor died is `ActorDied`
pub is_death-only : (answer : Answer) → is_death answer ≡ true → answer ≡ Err ActorDied
is_death-only (Ok value) e = cc
is_death-only (Err ActorDied) e = refl
is_death-only (Err fault) e = cc

-- ---- sent

sent_more : (sent : List Bool) (k : ℕ) → unwrap_or (slice_get sent k) false ≡ true → unwrap_or (slice_get (sent ++ false ∷ []) k) false ≡ true
sent_more [] k is = absurd (cc is)
sent_more (b ∷ sent) zero is = is
sent_more (b ∷ sent) (suc k) is = sent_more sent k is

sent_set : (sent : List Bool) (j k : ℕ) → unwrap_or (slice_get sent k) false ≡ true → unwrap_or (slice_get (slice_set sent j true) k) false ≡ true
sent_set [] j k is = absurd (cc is)
sent_set (b ∷ sent) zero zero is = refl
sent_set (b ∷ sent) zero (suc k) is = is
sent_set (b ∷ sent) (suc j) zero is = is
sent_set (b ∷ sent) (suc j) (suc k) is = sent_set sent j k is

pub reply_sent : (owner : OwnerView) (reply : Reply) (mine known : Bool) →
    (after_reply_that (if mine then (if known then Late reply.future else First reply.future) else Stray) owner reply).sent ≡ owner.sent
reply_sent owner reply false known = refl
reply_sent owner reply true true = refl
reply_sent owner reply true false = refl

pub death_sent : (owner : OwnerView) (a : ℕ) (listed : Bool) → (if listed then with_death owner a else owner).sent ≡ owner.sent
death_sent owner a false = refl
death_sent owner a true = refl

pub sent_stays : (owner : OwnerView) (action : Action) (k : ℕ) → is_sent owner k ≡ true → is_sent (after_action owner action) k ≡ true
sent_stays owner (Submitted a method args) k is = sent_more owner.sent k is
sent_stays owner (Sent j) k is = sent_set owner.sent j k is
sent_stays owner (Noticed (Answered reply)) k is =
    ap (λ s. unwrap_or (slice_get s k) false) (reply_sent owner reply (is_of_call owner reply) (is_some (kept_at owner.kept reply.future))) ∙ is
sent_stays owner (Noticed (Death a)) k is = ap (λ s. unwrap_or (slice_get s k) false) (death_sent owner a (is_some (copies_in a owner.handles))) ∙ is
sent_stays owner action k is = is

-- over any actions a call that was sent stays so
pub sent_stays_all : (owner : OwnerView) (actions : List Action) (k : ℕ) → is_sent owner k ≡ true → is_sent (after_actions owner actions) k ≡ true
sent_stays_all owner [] k is = is
sent_stays_all owner (action ∷ actions) k is = sent_stays_all (after_action owner action) actions k (sent_stays owner action k is)

-- ---- more notices, and more calls

more_told : (death : Bool) (owner later : OwnerView) (notices more : List Notice) (k : ℕ) (answer : Answer) → later.id ≡ owner.id →
    ((a : ℕ) → is_to a (slice_get owner.calls k) ≡ true → is_to a (slice_get later.calls k) ≡ true) → IsToldBy death owner notices k answer →
    IsToldBy death later (notices ++ more) k answer
more_told true owner later notices more k answer same calls told =
    record { actor = told.actor; heard = Contains-append_left notices more (Death told.actor) told.heard; to = calls told.actor told.to }
more_told false owner later notices more k answer same calls told = record {
  reply = told.reply;
  heard = Contains-append_left notices more (Answered told.reply) told.heard;
  caller = told.caller ∙ sym same;
  actor = calls told.reply.actor told.actor;
  future = told.future;
  answer_is = told.answer_is;
}

to_below : (a : ℕ) (calls : List Submission) (k : ℕ) (found : Option Submission) → slice_get calls k ≡ found → is_to a found ≡ true → k < length calls
to_below a calls k None is to = absurd (cc to)
to_below a calls k (Some call) is to = found_below calls k is

to_later : (owner : OwnerView) {later : OwnerView} (k a : ℕ) → Extends owner later → is_to a (slice_get owner.calls k) ≡ true →
    is_to a (slice_get later.calls k) ≡ true
to_later owner k a grown to = ap (is_to a) (grown.calls k (to_below a owner.calls k (slice_get owner.calls k) refl to)) ∙ to

-- an action that answers nothing and tells of no death
quiet : (owner later : OwnerView) (notices more : List Notice) → Extends owner later → later.kept ≡ owner.kept → later.dead ≡ owner.dead → Hears owner notices →
    Hears later (notices ++ more)
quiet owner later notices more grown kept dead hears = record {
  answers = λ k answer is. more_told (is_death answer) owner later notices more k answer grown.id (λ a to. to_later owner k a grown to)
      (hears.answers k answer (ap (λ l. kept_at l k) (sym kept) ∙ is));
  deaths = λ a is. Contains-append_left notices more (Death a) (hears.deaths a (ap (λ l. unwrap_or (slice_get l a) false) (sym dead) ∙ is));
}

-- ---- a call that is submitted

last_kept : (kept : List (Option Answer)) (x : Option Answer) (k : ℕ) {answer : Answer} → kept_at (kept ++ x ∷ []) k ≡ Some answer →
    (kept_at kept k ≡ Some answer) ⊎ ((k ≡ length kept) × (x ≡ Some answer))
last_kept [] x zero is = inr (refl, is)
last_kept [] x (suc k) is = absurd (cc is)
last_kept (y ∷ kept) x zero is = inl is
last_kept (y ∷ kept) x (suc k) {answer} is = elim (last_kept kept x k is) [ inl t ↦ inl t | inr f ↦ inr (ap suc f.0, f.1) ]

dead_first : (dead : Bool) {answer : Answer} → answer_of_new_call dead ≡ Some answer → (dead ≡ true) × (answer ≡ Err ActorDied)
dead_first true is = (refl, cc is)
dead_first false is = absurd (cc is)

eqb_same : (a : ℕ) → (a == a) ≡ true
eqb_same a = search rules

one_call : (death : Bool) (owner : OwnerView) (notices : List Notice) (k a : ℕ) (answer : Answer) → death ≡ true → Contains notices (Death a) →
    is_to a (slice_get owner.calls k) ≡ true → IsToldBy death owner notices k answer
one_call true owner notices k a answer is heard to = record { actor = a; heard = heard; to = to }
one_call false owner notices k a answer is heard to = absurd (cc is)

hears_submitted : (owner later : OwnerView) (notices : List Notice) (call : Submission) → Extends owner later → length owner.kept ≡ length owner.calls →
    later.calls ≡ owner.calls ++ call ∷ [] → later.kept ≡ owner.kept ++ answer_of_new_call (is_known_dead owner call.actor) ∷ [] → later.dead ≡ owner.dead →
    Hears owner notices → Hears later (notices ++ [])
hears_submitted owner later notices call grown places calls kept dead hears = record {
  answers = λ k answer is.
      elim (last_kept owner.kept (answer_of_new_call (is_known_dead owner call.actor)) k (ap (λ l. kept_at l k) (sym kept) ∙ is)) [
        | inl t ↦ more_told (is_death answer) owner later notices [] k answer grown.id (λ a to. to_later owner k a grown to) (hears.answers k answer t)
        | inr f ↦
            let first = dead_first (is_known_dead owner call.actor) f.1 in
            let there : slice_get later.calls k ≡ Some call =
            ap (λ l. slice_get l k) calls ∙ ap (slice_get (owner.calls ++ call ∷ [])) (f.0 ∙ places) ∙ slice_get_last owner.calls call in
            one_call (is_death answer) later (notices ++ []) k call.actor answer (ap is_death first.1)
            (Contains-append_left notices [] (Death call.actor) (hears.deaths call.actor first.0)) (ap (is_to call.actor) there ∙ eqb_same call.actor)
      ];
  deaths = λ a is. Contains-append_left notices [] (Death a) (hears.deaths a (ap (λ l. unwrap_or (slice_get l a) false) (sym dead) ∙ is));
}

-- ---- a reply

set_kept : (kept : List (Option Answer)) (j k : ℕ) (x : Answer) {answer : Answer} → kept_at (slice_set kept j (Some x)) k ≡ Some answer →
    (kept_at kept k ≡ Some answer) ⊎ ((j ≡ k) × (x ≡ answer))
set_kept [] j k x is = inl is
set_kept (y ∷ kept) zero zero x is = inr (refl, cc is)
set_kept (y ∷ kept) zero (suc k) x is = inl is
set_kept (y ∷ kept) (suc j) zero x is = inl is
set_kept (y ∷ kept) (suc j) (suc k) x {answer} is = elim (set_kept kept j k x is) [ inl t ↦ inl t | inr f ↦ inr (ap suc f.0, f.1) ]

one_reply : (death : Bool) (owner : OwnerView) (notices : List Notice) (reply : Reply) (k : ℕ) {answer : Answer} → death ≡ false →
    Contains notices (Answered reply) → reply.caller ≡ owner.id → is_to reply.actor (slice_get owner.calls k) ≡ true → reply.future ≡ k →
    reply.answer ≡ answer → IsToldBy death owner notices k answer
one_reply true owner notices reply k is heard caller to future answer_is = absurd (cc is)
one_reply false owner notices reply k is heard caller to future answer_is =
    record { reply = reply; heard = heard; caller = caller; actor = to; future = future; answer_is = answer_is }

same_number : (a b : ℕ) → (a == b) ≡ true → a ≡ b
same_number a b is = elim (eqb_tells a b) [ inl t ↦ t.1 | inr f ↦ absurd (cc (is, f.0)) ]

four : (a b c d : Bool) → (a && b && c && d) ≡ true → (a ≡ true) × (b ≡ true) × (d ≡ true)
four true true true true is = (refl, refl, refl)
four true true true false is = absurd (cc is)
four true true false d is = absurd (cc is)
four true false c d is = absurd (cc is)
four false b c d is = absurd (cc is)

hears_reply : (owner : OwnerView) (notices : List Notice) (reply : Reply) (mine known : Bool) → is_of_call owner reply ≡ mine →
    length owner.kept ≡ length owner.calls → Hears owner notices →
    Hears (after_reply_that (if mine then (if known then Late reply.future else First reply.future) else Stray) owner reply) (notices ++ Answered reply ∷ [])
hears_reply owner notices reply false known mine places hears = record {
  answers = λ k answer is. more_told (is_death answer) owner owner notices (Answered reply ∷ []) k answer refl (λ a to. to) (hears.answers k answer is);
  deaths = λ a is. Contains-append_left notices (Answered reply ∷ []) (Death a) (hears.deaths a is);
}
hears_reply owner notices reply true true mine places hears = record {
  answers = λ k answer is. more_told (is_death answer) owner owner notices (Answered reply ∷ []) k answer refl (λ a to. to) (hears.answers k answer is);
  deaths = λ a is. Contains-append_left notices (Answered reply ∷ []) (Death a) (hears.deaths a is);
}
hears_reply owner notices reply true false mine places hears =
    let all = four (reply.caller == owner.id) (is_to reply.actor (slice_get owner.calls reply.future)) (is_sent owner reply.future)
    (not (is_death reply.answer)) mine in
    let later : OwnerView = record owner { kept = slice_set owner.kept reply.future (Some reply.answer) } in
    record {
      answers = λ k answer is.
          elim (set_kept owner.kept reply.future k reply.answer is) [
            | inl t ↦ more_told (is_death answer) owner later notices (Answered reply ∷ []) k answer refl (λ a to. to) (hears.answers k answer t)
            | inr f ↦
                one_reply (is_death answer) later (notices ++ Answered reply ∷ []) reply k (ap is_death (sym f.1) ∙ not-true (is_death reply.answer) all.2)
                (Contains-push notices (Answered reply))
                (same_number reply.caller owner.id all.0) (ap (λ j. is_to reply.actor (slice_get owner.calls j)) (sym f.0) ∙ all.1) f.0 f.1
          ];
      deaths = λ a is. Contains-append_left notices (Answered reply ∷ []) (Death a) (hears.deaths a is);
    }

-- ---- a death

one_death : (a : ℕ) (call : Submission) (old : Option Answer) (to : Bool) {answer : Answer} → (call.actor == a) ≡ to → (if to && not (is_some old) then Some
    (Err ActorDied) else old) ≡ Some answer → (old ≡ Some answer) ⊎ ((is_to a (Some call) ≡ true) × (answer ≡ Err ActorDied))
one_death a call (Some old) true to is = inl is
one_death a call (Some old) false to is = inl is
one_death a call None false to is = inl is
one_death a call None true to is = inr (to, cc is)

death_kept : (a : ℕ) (calls : List Submission) (kept : List (Option Answer)) (k : ℕ) {answer : Answer} → kept_at (map (answer_after_death a) (zip calls kept))
    k ≡ Some answer → (kept_at kept k ≡ Some answer) ⊎ ((is_to a (slice_get calls k) ≡ true) × (answer ≡ Err ActorDied))
death_kept a [] kept k is = absurd (cc is)
death_kept a (call ∷ calls) [] k is = absurd (cc is)
death_kept a (call ∷ calls) (y ∷ kept) zero {answer} is = one_death a call y (call.actor == a) refl is
death_kept a (call ∷ calls) (y ∷ kept) (suc k) {answer} is = death_kept a calls kept k is

dead_set : (dead : List Bool) (a b : ℕ) → unwrap_or (slice_get (slice_set dead a true) b) false ≡ true → (unwrap_or (slice_get dead b) false ≡ true) ⊎ (a ≡ b)
dead_set [] a b is = inl is
dead_set (d ∷ dead) zero zero is = inr refl
dead_set (d ∷ dead) zero (suc b) is = inl is
dead_set (d ∷ dead) (suc a) zero is = inl is
dead_set (d ∷ dead) (suc a) (suc b) is = elim (dead_set dead a b is) [ inl t ↦ inl t | inr f ↦ inr (ap suc f) ]

hears_death : (owner : OwnerView) (notices : List Notice) (a : ℕ) (listed : Bool) → Hears owner notices →
    Hears (if listed then with_death owner a else owner) (notices ++ Death a ∷ [])
hears_death owner notices a false hears = record {
  answers = λ k answer is. more_told (is_death answer) owner owner notices (Death a ∷ []) k answer refl (λ b to. to) (hears.answers k answer is);
  deaths = λ b is. Contains-append_left notices (Death a ∷ []) (Death b) (hears.deaths b is);
}
hears_death owner notices a true hears = record {
  answers = λ k answer is.
      elim (death_kept a owner.calls owner.kept k is) [
        | inl t ↦ more_told (is_death answer) owner (with_death owner a) notices (Death a ∷ []) k answer refl (λ b to. to) (hears.answers k answer t)
        | inr f ↦ one_call (is_death answer) (with_death owner a) (notices ++ Death a ∷ []) k a answer (ap is_death f.1) (Contains-push notices (Death a)) f.0
      ];
  deaths = λ b is.
      elim (dead_set owner.dead a b is) [
        | inl t ↦ Contains-append_left notices (Death a ∷ []) (Death b) (hears.deaths b t)
        | inr f ↦ subst (λ c. Contains (notices ++ Death a ∷ []) (Death c)) f (Contains-push notices (Death a))
      ];
}

-- ---- a life

-- what a caller heard, after one action more
pub hears_step : {owner : OwnerView} {notices : List Notice} (action : Action) → length owner.kept ≡ length owner.calls → Hears owner notices →
    Hears (after_action owner action) (notices ++ notices_in (action ∷ []))
hears_step {owner} {notices} (Submitted a method args) places hears = hears_submitted owner _ notices (record { actor = a; method = method; args = args })
    (step owner (Submitted a method args) places) places refl refl refl hears
hears_step {owner} {notices} (Noticed (Answered reply)) places hears =
    hears_reply owner notices reply (is_of_call owner reply) (is_some (kept_at owner.kept reply.future)) refl places hears
hears_step {owner} {notices} (Noticed (Death a)) places hears = hears_death owner notices a (is_some (copies_in a owner.handles)) hears
hears_step {owner} {notices} action places hears = quiet owner _ notices [] (step owner action places) refl refl hears

notices_more : (action : Action) (actions : List Action) → notices_in (action ∷ []) ++ notices_in actions ≡ notices_in (action ∷ actions)
notices_more (Copied a) actions = refl
notices_more action actions = refl

pub hears_all : (owner : OwnerView) (notices : List Notice) (actions : List Action) → length owner.kept ≡ length owner.calls → Hears owner notices →
    Hears (after_actions owner actions) (notices ++ notices_in actions)
hears_all owner notices [] places hears = subst (Hears owner) (sym (append-nil notices)) hears
hears_all owner notices (action ∷ actions) places hears =
    subst (Hears (after_actions (after_action owner action) actions))
    (append_assoc notices (notices_in (action ∷ [])) (notices_in actions) ∙ ap (λ (l : List Notice). notices ++ l) (notices_more action actions))
    (hears_all (after_action owner action) (notices ++ notices_in (action ∷ [])) actions (step owner action places).places (hears_step action places hears))

pub none_dead : (n a : ℕ) → unwrap_or (slice_get (replicate n false) a) false ≡ false
none_dead zero a = refl
none_dead (suc n) zero = refl
none_dead (suc n) (suc a) = none_dead n a

-- what a caller keeps and knows as it was opened comes from no notices, since it is nothing
pub hears_opened : (limits : List (ℕ × Option ℕ)) (id : ℕ) (actors : List ℕ) → Hears (opened_under limits id actors) []
hears_opened limits id actors = record { answers = λ k answer is. absurd (cc is); deaths = λ a is. absurd (cc (is, none_dead 9 a)) }

-- ---- how many calls go to an actor

pub given_is : (a : ℕ) (calls : List Call) (seen now : OwnerView) → seen ≡ now → seen.calls ≡ map submission_of calls → given_in a seen.handles ≡ length
    (filter (λ (call : Submission). call.actor == a) (map submission_of calls)) → given_in a now.handles ≡ length (calls_to a now.calls)
given_is a calls seen now same is given =
    let here : given_in a seen.handles ≡ length (calls_to a seen.calls) =
    given ∙ ap (λ l. length (filter (λ (call : Submission). call.actor == a) l)) (sym is) ∙ sym (calls_to-length a 0 seen.calls) in
    subst (λ (o : OwnerView). given_in a o.handles ≡ length (calls_to a o.calls)) same here
