-- One event that is tried, and what it tells.
use Rattle.act_walks.proofs.Common.{◌≡◌, ℕ, Bool, List, [], ◌∷◌, ◌++◌, Option, Some, None, Ok, Err, refl, ap, sym, ◌∙◌, subst, Event, WorldRefusal, ActorSpec}
use Rattle.act_walks.proofs.Common.{History, append_assoc, append-nil, refusal_of, add_event, after, outcome_by, outcome_of, Outcome, OnOk, is_ok, Did, did}
use Rattle.act_walks.proofs.Common.{IsBehind, done_of, post_mail, post_none, OnErr, Parts, Does, DoesEvent, DoesPost, IsRefused, Tries, bring}
use Rattle.act_rules.specs.declared.event.Event.TheVariants as event
use Rattle.act_rules.specs.declared.outcome.Did.TheVariants as did_so

-- what is told of an event that was tried
abbrev pub IsTold : Event → Parts → Parts → Outcome → Type 0
IsTold one old new outcome = (casts : List ActorSpec) (h : History) → IsBehind casts h old.world old.events →
    (outcome ≡ outcome_of h one) × IsBehind casts (after h one) new.world new.events

pub done_event : (one : Event) {old : Parts} (new : Parts) (told : Did) → IsTold one old new (Ok told) → new.events ≡ old.events ++ one ∷ [] →
    new.done ≡ old.done → DoesEvent one old new
done_event one new told is events done = record {
  events = events;
  done = done;
  behind = λ casts h behind.
      let tried = is casts h behind in let so = done_of h one tried.0 in (so.0, subst (λ g. IsBehind casts g new.world new.events) so.2 tried.1);
}

not_refused : (h : History) (one : Event) (refusal : WorldRefusal) → Err refusal ≡ outcome_of h one → refusal_of h one ≡ None → ⊥
not_refused h one refusal e none = go (refusal_of h one) e none
  where
    go : (o : Option WorldRefusal) → Err refusal ≡ outcome_by h one o → o ≡ None → ⊥
    go None e none = cc
    go (Some other) e none = cc

pub refused_event : (one : Event) {old new : Parts} {refusal : WorldRefusal} → IsTold one old new (Err refusal) → new ≡ old → IsRefused one old new
refused_event one {refusal} is same = record { same = same; refused = λ casts h behind none. not_refused h one refusal (is casts h behind).0 none }

pub tries : {X : Type 0} (one : Event) (old new : Parts) (outcome : Outcome) (b : Bool) → IsTold one old new outcome →
    OnOk outcome (new.events ≡ old.events ++ one ∷ []) → OnErr outcome X → (X → new ≡ old) → new.done ≡ old.done → b ≡ is_ok outcome → Tries one old new b
tries one old new (Ok told) b is events refused same done e = subst (Tries one old new) (sym e) (done_event one new told is events done)
tries one old new (Err refusal) b is events refused same done e = subst (Tries one old new) (sym e) (refused_event one is (same refused))

pub tried_ok : {one : Event} (old new : Parts) {outcome : Outcome} {told : Did} → outcome ≡ Ok told → IsTold one old new outcome →
    OnOk outcome (new.events ≡ old.events ++ one ∷ []) → new.done ≡ old.done → Does one old new told
tried_ok {one} old new {told} is says events done =
    let says_so : IsTold one old new (Ok told) = subst (IsTold one old new) is says in
    let kept : OnOk {T = Did} {E = WorldRefusal} (Ok told) (new.events ≡ old.events ++ one ∷ []) =
    subst (λ o. OnOk o (new.events ≡ old.events ++ one ∷ [])) is events in
    record { does = done_event one new told says_so kept done; says = λ casts h behind. (done_of h one (says_so casts h behind).0).1 }

pub tried_err : {X : Type 0} {one : Event} {old new : Parts} (outcome : Outcome) → ((told : Did) → outcome ≡ Ok told → ⊥) → IsTold one old new outcome →
    OnErr outcome X → (X → new ≡ old) → IsRefused one old new
tried_err (Ok told) none is refused same = absurd (none told refl)
tried_err {one} {old} {new} (Err refusal) none is refused same = refused_event one is (same refused)

-- ---- a letter that is told

posts_letter : (one : Event) (old : Parts) {mid : Parts} (new : Parts) (told : Did) (i : ℕ) → DoesEvent one old mid
    → ((casts : List ActorSpec) (h : History) → IsBehind casts h old.world old.events → told ≡ did h one) → told ≡ did_so.Mail i
    → ((casts : List ActorSpec) (h : History) → IsBehind casts h mid.world mid.events → IsBehind casts (after h (event.Deliver i)) new.world new.events)
    → (letter : Option ℕ) → new.events ≡ mid.events ++ bring letter → new.done ≡ mid.done → DoesPost one old new
posts_letter one old new told i does says mail brought letter more done = record {
  letter = letter;
  events = more ∙ ap (λ l. l ++ bring letter) does.events ∙ append_assoc old.events (one ∷ []) (bring letter);
  done = done ∙ does.done;
  behind = λ casts h behind.
      let first = does.behind casts h behind in (first.0, post_mail casts h one (says casts h behind) mail (brought casts (add_event h one) first.1));
}

pub posts_brought : {X : Type 0} (one : Event) (old mid new : Parts) (told : Did) (i : ℕ) (outcome : Outcome) → Does one old mid told → told ≡ did_so.Mail i
    → IsTold (event.Deliver i) mid new outcome → OnOk outcome (new.events ≡ mid.events ++ event.Deliver i ∷ []) → OnErr outcome X → (X → new ≡ mid)
    → new.done ≡ mid.done → DoesPost one old new
posts_brought one old mid new told i (Ok arrived) does mail is kept refused same done =
    posts_letter one old new told i does.does does.says mail (λ casts h behind. (is casts h behind).1) (Some i) kept done
posts_brought one old mid new told i (Err refusal) does mail is kept refused same done =
    posts_letter one old new told i does.does does.says mail (λ casts h behind. (is casts h behind).1) None
    (ap (λ (x : Parts). x.events) (same refused) ∙ sym (append-nil mid.events)) done

pub posts_none : (one : Event) (old new : Parts) (told : Did) → Does one old new told → ((i : ℕ) → told ≡ did_so.Mail i → ⊥) → DoesPost one old new
posts_none one old new told does none = record {
  letter = None;
  events = does.does.events;
  done = does.does.done;
  behind = λ casts h behind.
      let first = does.does.behind casts h behind in (first.0, post_none casts h one (does.says casts h behind) none first.1);
}
