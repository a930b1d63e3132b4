-- Nothing runs at an actor that has ended.
use Rattle.act_rules.proofs.Common.{◌≡◌, ℕ, Bool, true, false, cond, List, [], ◌∷◌, ◌++◌, Some, None, refl, sym, ◌∙◌, subst, Option, ◌==◌, ◌||◌, not, map}
use Rattle.act_rules.proofs.Common.{map-append, append-nil, filter-append, list_any-append, eqb-true, not-true, RunItem, Event, Run, TakeKill, Retire, NoCaller}
use Rattle.act_rules.proofs.Common.{Handle, ActorEnded, NoActor, has_terminated, NothingFollowsAnEnd, needs, History, contains, under, runs_of, is_dead}
use Rattle.act_rules.proofs.Common.{is_retired, is_ended, is_caller, names, cast_of, next_item, refusal_of, add_event, after_run}
use Rattle.act_rules.proofs.Common.{inl, inr, ◌⊎◌, or_cases}
use Rattle.act_rules.proofs.Growth.{added_grows}
use Rattle.act_rules.proofs.Lists.{any_push}
use Rattle.act_rules.proofs.Terminated.{nothing_follows-push}
use Rattle.act_rules.proofs.Steps.{IsKept}
use Rattle.std.proofs.Math.Bool.{or-false}
use Rattle.std.proofs.lemmas.Bool.{or_left}

-- a number that is in a list is in it with more behind
pub contains_more : (a : ℕ) (xs ys : List ℕ) → contains a xs ≡ true → contains a (xs ++ ys) ≡ true
contains_more a xs ys h = rw (list_any-append (λ m. m == a) xs ys, h)

-- a pushed list contains what it contained before and the number pushed, and no other
pub contains_push : (a b : ℕ) (xs : List ℕ) → contains a (xs ++ b ∷ []) ≡ (contains a xs || (b == a))
contains_push a b xs = any_push (λ m. m == a) xs b

-- where a number is pushed, one that is in the list was in it before, or is that number
pub contains_or : (xs : List ℕ) (a b : ℕ) → contains a (xs ++ b ∷ []) ≡ true → (contains a xs ≡ true) ⊎ (b ≡ a)
contains_or xs a b e = elim (or_cases (contains a xs) (b == a) (sym (contains_push a b xs) ∙ e)) [ inl h ↦ inl h | inr h ↦ inr (eqb-true b a h) ]

-- a number that is pushed adds no other
pub contains_other : (a b : ℕ) (ns : List ℕ) → (a == b) ≡ false → contains b (ns ++ a ∷ []) ≡ contains b ns
contains_other a b ns apart = contains_push b a ns ∙ rw apart (or-false (contains b ns))

-- the needed condition of an event that nothing refuses
pub needs-none : {R : Type 0} (b : Bool) (r : R) (next : Option R) → needs b r next ≡ None → (b ≡ true) × (next ≡ None)
needs-none true r next e = (refl, e)
needs-none false r next e = cc

-- a run needs a caller, an actor that knows it, and an actor that has not ended
pub run_needs : (h : History) (a c : ℕ) → refusal_of h (Run a c) ≡ None → (is_caller c h ≡ true) × (names c (cast_of a h) ≡ true) × (is_ended a h ≡ false)
run_needs h a c e =
    let first = needs-none (is_caller c h) NoCaller (needs (names c (cast_of a h)) (Handle NoActor) (needs (not (is_ended a h)) ActorEnded None)) e in
    let second = needs-none (names c (cast_of a h)) (Handle NoActor) (needs (not (is_ended a h)) ActorEnded None) first.1 in
    let third = needs-none (not (is_ended a h)) ActorEnded None second.1 in (first.0, second.0, not-true (is_ended a h) third.0)

-- one pair more: what stands under its number gets it last, and the rest stays
pub under-push : {A : Type 0} (n m : ℕ) (pairs : List (ℕ × A)) (x : A) → under n (pairs ++ (m, x) ∷ []) ≡ under n pairs ++ cond (m == n) (x ∷ []) []
under-push {A = A} n m pairs x = rw (filter-append (λ (pair : ℕ × A). pair.0 == n) pairs ((m, x) ∷ []), map-append) (last (m == n))
  where
    last : (same : Bool) → under n pairs ++ map (λ (pair : ℕ × A). pair.1) (cond same ((m, x) ∷ []) []) ≡ under n pairs ++ cond same (x ∷ []) []
    last true = refl
    last false = refl

-- the actor has ended, and this is its run list
pub record HasEnded (a : ℕ) (items : List RunItem) (h : History) : Type 0 where
  pub ended : is_ended a h ≡ true
  pub same : runs_of a h ≡ items

more_or : (a b c : Bool) → (a || b) ≡ true → (a ≡ true → c ≡ true) → (c || b) ≡ true
more_or true b c e f = rw (f refl)
more_or false true true e f = refl
more_or false true false e f = refl
more_or false false c e f = cc

or_retired : (a b c : Bool) → (a || b) ≡ true → (b ≡ true → c ≡ true) → (a || c) ≡ true
or_retired true b c e f = refl
or_retired false true c e f = f refl
or_retired false false c e f = cc

other_run : (a b : ℕ) (h : History) (item : RunItem) → is_ended a h ≡ true → is_ended b h ≡ false → under a (h.ran ++ (b, item) ∷ []) ≡ under a h.ran
other_run a b h item ended live = under-push a b h.ran item ∙ go (b == a) refl
  where
    go : (same : Bool) → (b == a) ≡ same → under a h.ran ++ cond same (item ∷ []) [] ≡ under a h.ran
    go true e = let eq : b ≡ a = eqb-true b a e in let bad : true ≡ false = sym ended ∙ rw (← eq) live in cc
    go false e = append-nil (under a h.ran)

-- whether the actor has ended, where this is its run list
abbrev pub ended_by : ℕ → History → List RunItem → Bool
ended_by a h items = (contains a h.killed || has_terminated items) || contains a h.retired

-- each accepted event leaves an ended actor ended, and its run list as it is
pub ended_stays : (a : ℕ) (items : List RunItem) → IsKept (HasEnded a items)
ended_stays a items h (Run b c) held accepted = go (next_item b c h)
  where
    go : (o : Option RunItem) → HasEnded a items (after_run b c h o)
    go None = held
    go (Some item) =
        let stays = other_run a b h item held.ended (run_needs h b c accepted).2 in
        record { ended = subst (λ items. ended_by a h items ≡ true) (sym stays) held.ended; same = stays ∙ held.same }
ended_stays a items h (TakeKill b) held accepted =
    record {
      ended = more_or (is_dead a h) (is_retired a h) (contains a (h.killed ++ b ∷ []) || has_terminated (runs_of a h)) held.ended
          (λ dead. more_or (contains a h.killed) (has_terminated (runs_of a h)) (contains a (h.killed ++ b ∷ [])) dead (contains_more a h.killed (b ∷ [])));
      same = held.same;
    }
ended_stays a items h (Retire b) held accepted = record { ended = or_retired _ _ _ held.ended (contains_more a h.retired (b ∷ [])); same = held.same }
ended_stays a items h other held accepted = record { ended = held.ended; same = held.same }

-- ---- a dead actor stays dead

-- an accepted event leaves a dead actor dead
pub dead_stays : (a : ℕ) (h : History) (event : Event) → refusal_of h event ≡ None → is_dead a h ≡ true → is_dead a (add_event h event) ≡ true
dead_stays a h event accepted dead =
    let grows = added_grows h event in
    let same = (ended_stays a (runs_of a h) h event (record { ended = or_left (is_dead a h) (is_retired a h) dead; same = refl }) accepted).same in
    subst (λ items. (contains a (add_event h event).killed || has_terminated items) ≡ true) (sym same)
    (more_or (contains a h.killed) (has_terminated (runs_of a h)) (contains a (add_event h event).killed) dead
    (λ killed. subst (λ xs. contains a xs ≡ true) grows.killed.1 (contains_more a h.killed grows.killed.0 killed)))

-- ---- nothing follows a `terminate`

-- in each actor's run list an item that ends the actor is the last one
abbrev pub NothingFollows : History → Type 0
NothingFollows h = (a : ℕ) → NothingFollowsAnEnd (runs_of a h)

-- an actor that has not ended was not asked to
pub not_terminated : (a : ℕ) (h : History) → is_ended a h ≡ false → has_terminated (runs_of a h) ≡ false
not_terminated a h on = go (contains a h.killed) (has_terminated (runs_of a h)) (is_retired a h) on
  where
    go : (killed ended retired : Bool) → ((killed || ended) || retired) ≡ false → ended ≡ false
    go true ended retired e = cc
    go false true retired e = cc
    go false false retired e = refl

follows_run : (h : History) (b c : ℕ) (item : RunItem) → NothingFollows h → is_ended b h ≡ false → NothingFollows (after_run b c h (Some item))
follows_run h b c item last live a = rw (under-push a b h.ran item) (go (b == a) refl)
  where
    go : (same : Bool) → (b == a) ≡ same → NothingFollowsAnEnd (runs_of a h ++ cond same (item ∷ []) [])
    go true e = nothing_follows-push (runs_of a h) item (last a) (not_terminated a h (subst (λ x. is_ended x h ≡ false) (eqb-true b a e) live))
    go false e = rw (append-nil (runs_of a h)) (last a)

-- each accepted event keeps it that nothing follows an end in a run list
pub nothing_follows_step : IsKept NothingFollows
nothing_follows_step h (Run b c) last accepted = go (next_item b c h)
  where
    go : (o : Option RunItem) → NothingFollows (after_run b c h o)
    go None = last
    go (Some item) = follows_run h b c item last (run_needs h b c accepted).2
nothing_follows_step h other last accepted = last
