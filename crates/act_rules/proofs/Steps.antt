-- A fact that each accepted event keeps holds of every run.
use Rattle.act_rules.proofs.Common.{◌≡◌, List, [], ◌∷◌, ◌++◌, Some, None, refl, ap, Option, Event, WorldRefusal, History, refusal_of, add_event, after_by}
use Rattle.act_rules.proofs.Common.{after, after_all, outcome_of, outcomes}

-- an event leaves the history, or adds to it where nothing refuses it
pub after_keeps : (P : History → Type 0) (h : History) (event : Event) → P h → (refusal_of h event ≡ None → P (add_event h event)) → P (after h event)
after_keeps P h event held step = go (refusal_of h event) refl
  where
    go : (r : Option WorldRefusal) → refusal_of h event ≡ r → P (after_by h event r)
    go None e = step e
    go (Some refusal) e = held

-- what each accepted event keeps
abbrev pub IsKept : (History → Type 0) → Type 0
IsKept P = (h : History) (event : Event) → P h → refusal_of h event ≡ None → P (add_event h event)

-- what each accepted event keeps holds after all events, where it held before
pub after_all_keeps : (P : History → Type 0) → IsKept P → (h : History) (events : List Event) → P h → P (after_all h events)
after_all_keeps P step h [] held = held
after_all_keeps P step h (event ∷ events) held = after_all_keeps P step (after h event) events (after_keeps P h event held (step h event held))

-- two lists of events, one after the other, lead where the second leads from the first's end
pub after_all-append : (h : History) (xs ys : List Event) → after_all h (xs ++ ys) ≡ after_all (after_all h xs) ys
after_all-append h [] ys = refl
after_all-append h (x ∷ xs) ys = after_all-append (after h x) xs ys

-- the outcomes of two lists of events: those of the first, then the second's from where the first led
pub outcomes-append : (h : History) (xs ys : List Event) → outcomes h (xs ++ ys) ≡ outcomes h xs ++ outcomes (after_all h xs) ys
outcomes-append h [] ys = refl
outcomes-append h (x ∷ xs) ys = ap (λ told. outcome_of h x ∷ told) (outcomes-append (after h x) xs ys)
