-- One more play that was looked at.
use Rattle.act_explore.proofs.Common.{◌≡◌, ◌⊎◌, ℕ, true, List, [], ◌∷◌, ◌++◌, ap, ◌∙◌, inl, inr, All, Contains, is_some, None, All-contains, All-nil, All-cons}
use Rattle.act_explore.proofs.Common.{All-weaker, Contains-push, Contains-push_cases, Contains-append_left, Contains-append_right, Event, Step, ActorSpec}
use Rattle.act_explore.proofs.Common.{next_item, refusal_of, At, Choice, Run, Take, IsDone, HasPassed, HasNumber, key_of, Left, with_path, IsKnown, Waits}
use Rattle.act_explore.proofs.Common.{IsOpened, HasAdded, IsPlayAt, IsLookedAt, IsSeen, HasSearched}
use Rattle.act_rules.specs.declared.event.Event.TheVariants as event

-- at first nothing was looked at
pub opened : (casts : List ActorSpec) (plans : ℕ → List Step) (Passed : List Event → Type 0) (left : Left) → IsOpened left
    → HasSearched casts plans Passed left []
opened casts plans Passed left is = record {
  looked = All-nil (IsLookedAt casts plans Passed left);
  all = λ key known. inr (is.waits key known);
  first = is.first;
}

-- of more states it was found that they passed
module _ (casts : List ActorSpec) (plans : ℕ → List Step) (Passed Later : List Event → Type 0) (later : (events : List Event) → Passed events
    → Later events) where
  passed_on : (at : At) → HasPassed casts Passed at.history → HasPassed casts Later at.history
  passed_on at has = record { events = has.events; history_is = has.history_is; passed = later has.events has.passed }

  module _ (popped new : Left) (path : List Choice) (choices : List Choice) (at : At) (seen : List At)
      (searched : HasSearched casts plans Passed (with_path path popped) seen) (added : HasAdded path choices popped new) (numbers : All HasNumber path)
      (stands : IsPlayAt casts plans path at)
      (runs : (a c : ℕ) → refusal_of at.history (event.Run a c) ≡ None → is_some (next_item a c at.history) ≡ true → Contains choices (Run a c))
      (takes : (a : ℕ) → refusal_of at.history (event.TakeKill a) ≡ None → Contains choices (Take a))
      (passed : IsDone plans at → HasPassed casts Later at.history) where
    still : (one : At) → IsLookedAt casts plans Passed (with_path path popped) one → IsLookedAt casts plans Later new one
    still one is = record {
      path = is.path;
      numbers = is.numbers;
      stands = is.stands;
      next = record {
        runs = λ a c may some. let known = is.next.runs a c may some in
            record { numbers = known.numbers; known = added.grows.known (key_of (is.path ++ Run a c ∷ [])) known.known };
        takes = λ a may. let known = is.next.takes a may in
            record { numbers = known.numbers; known = added.grows.known (key_of (is.path ++ Take a ∷ [])) known.known };
      };
      passed = λ done. passed_on one (is.passed done);
    }

    here : IsLookedAt casts plans Later new at
    here = record {
      path = path;
      numbers = numbers;
      stands = stands;
      next = record {
        runs = λ a c may some. All-contains (λ choice. IsKnown new (path ++ choice ∷ [])) choices (Run a c) added.added (runs a c may some);
        takes = λ a may. All-contains (λ choice. IsKnown new (path ++ choice ∷ [])) choices (Take a) added.added (takes a may);
      };
      passed = passed;
    }

    seen_here : (key : List ℕ) → key_of path ≡ key → IsSeen (at ∷ seen) key
    seen_here key keyed = record {
      at = at;
      path = path;
      numbers = numbers;
      keyed = keyed;
      seen_at = Contains-append_left (at ∷ []) seen at (Contains-push [] at);
      made = stands.made;
    }

    seen_more : (key : List ℕ) → IsSeen seen key → IsSeen (at ∷ seen) key
    seen_more key is = record {
      at = is.at;
      path = is.path;
      numbers = is.numbers;
      keyed = is.keyed;
      seen_at = Contains-append_right (at ∷ []) seen is.at is.seen_at;
      made = is.made;
    }

    waited : (key : List ℕ) → Waits (with_path path popped) key → IsSeen (at ∷ seen) key ⊎ Waits new key
    waited key is = go (Contains-push_cases popped.waiting path is.path is.waits)
      where
        go : Contains popped.waiting is.path ⊎ (path ≡ is.path) → IsSeen (at ∷ seen) key ⊎ Waits new key
        go (inl there) = inr (record { path = is.path; numbers = is.numbers; keyed = is.keyed; waits = added.grows.waiting is.path there })
        go (inr same) = inl (seen_here key (ap key_of same ∙ is.keyed))

    all : (key : List ℕ) → new.known key ≡ true → IsSeen (at ∷ seen) key ⊎ Waits new key
    all key known = go (added.grows.fresh key known)
      where
        was : IsSeen seen key ⊎ Waits (with_path path popped) key → IsSeen (at ∷ seen) key ⊎ Waits new key
        was (inl is) = inl (seen_more key is)
        was (inr is) = waited key is

        go : (popped.known key ≡ true) ⊎ Waits new key → IsSeen (at ∷ seen) key ⊎ Waits new key
        go (inl before) = was (searched.all key before)
        go (inr waits) = inr waits

    pub looked_more : HasSearched casts plans Later new (at ∷ seen)
    looked_more = record {
      looked = All-cons (IsLookedAt casts plans Later new) at seen here
          (All-weaker (IsLookedAt casts plans Passed (with_path path popped)) (IsLookedAt casts plans Later new) still seen searched.looked);
      all = all;
      first = added.grows.known (key_of []) searched.first;
    }
