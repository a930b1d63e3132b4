-- What one event makes of a world, put together at each end of the event.
use Rattle.act_world.proofs.Common.{◌≡◌, ℕ, List, map, false, Ok, Err, Result, refl, ap, sym, subst, get_or, IsErrAnd, OnErr, slice_set, on_err_weaker}
use Rattle.act_world.proofs.Common.{NoMemory, Event, Did, WorldRefusal, Outcome, KindState, Slot, NetworkView, SlotView, WorldView, slot_view, world_view}
use Rattle.act_world.proofs.Common.{with_slots, is_memory, IsGrown, FollowsRules, IsUnrefused, IsUnrefusedThere, TakesMemory, Steps, StepsThere}
use Rattle.act_world.proofs.Changes.{grown_none, slot_kept}

-- ---- the ends of an event

module _ {W : Type 0} (seen : W → WorldView) (event : Event) (old new : W) where
  -- it was refused
  pub refused : (refusal : WorldRefusal) → new ≡ old → is_memory (Err refusal) ≡ false → FollowsRules event (seen old) (seen old) (Err refusal) →
      Steps seen event old new (Ok (Err refusal))
  refused refusal same told follows = subst (λ w. Steps seen event old w (Ok (Err refusal))) (sym same)
      (record { ok = follows; told = told; refused = refl; grown = grown_none (seen old).network; memory_last = tt; memory = tt; err = tt })

  -- it was done
  pub done : (did : Did) → FollowsRules event (seen old) (seen new) (Ok did) → IsGrown (seen old).network (seen new).network →
      Steps seen event old new (Ok (Ok did))
  done did follows grown = record { ok = follows; told = refl; refused = tt; grown = grown; memory_last = tt; memory = tt; err = tt }

  -- memory was wanting
  pub wanting : (result : Result Outcome NoMemory) (P : NoMemory → Type 0) → IsErrAnd result P → new ≡ old → IsUnrefused event (seen old) →
      TakesMemory event (seen old) → Steps seen event old new result
  wanting (Ok told) P is same unrefused takes = absurd is
  wanting (Err error) P is same unrefused takes = subst (λ w. Steps seen event old w (Err error)) (sym same)
      (record { ok = tt; told = tt; refused = tt; grown = grown_none (seen old).network; memory_last = unrefused; memory = takes; err = refl })

-- ---- the same of the network, whatever the actors are

abbrev pub FollowsThere : Event → NetworkView → NetworkView → Outcome → Type 0
FollowsThere event old new told = (slots : List SlotView) → FollowsRules event (with_slots slots old) (with_slots slots new) told

module _ (event : Event) (old new : NetworkView) where
  -- a refusal by the rules, other than for want of memory, that changes nothing is a step of the network
  pub refused_there : (refusal : WorldRefusal) → new ≡ old → is_memory (Err refusal) ≡ false → FollowsThere event old old (Err refusal) →
      StepsThere event old new (Ok (Err refusal))
  refused_there refusal same told follows slots = refused (with_slots slots) event old new refusal same told (follows slots)

  -- an event done by the rules, with one letter or notice more at most, is a step of the network
  pub done_there : (did : Did) → FollowsThere event old new (Ok did) → IsGrown old new → StepsThere event old new (Ok (Ok did))
  done_there did follows grown slots = done (with_slots slots) event old new did (follows slots) grown

  -- an error that changes nothing is a step of the network, if the event takes memory and nothing refuses it
  pub wanting_there : (result : Result Outcome NoMemory) (P : NoMemory → Type 0) → IsErrAnd result P → new ≡ old → IsUnrefusedThere event old →
      ((slots : List SlotView) → TakesMemory event (with_slots slots old)) → StepsThere event old new result
  wanting_there result P is same unrefused takes slots = wanting (with_slots slots) event old new result P is same (unrefused slots) (takes slots)

-- ---- the world of a network

-- what changes the network alone is a step of the world
pub of_network : {K : Type 0} (state : K → KindState) (slots : List (Slot K)) {event shown : Event} (old new : NetworkView) (result : Result Outcome NoMemory) →
    shown ≡ event → StepsThere event old new result → Steps (world_view state) shown (with_slots slots old) (with_slots slots new) result
of_network {K = K} state slots {event} old new result is step =
    subst (λ e. Steps (world_view state) e (with_slots slots old) (with_slots slots new) result) (sym is) (go result (step (map (slot_view state) slots)))
  where
    go : (told : Result Outcome NoMemory) → Steps (with_slots (map (slot_view state) slots)) event old new told →
        Steps (world_view state) event (with_slots slots old) (with_slots slots new) told
    go (Ok (Ok did)) is = record { ok = is.ok; told = is.told; refused = tt; grown = is.grown; memory_last = tt; memory = tt; err = tt }
    go (Ok (Err refusal)) is =
        record { ok = is.ok; told = is.told; refused = ap (with_slots slots) is.refused; grown = is.grown; memory_last = tt; memory = tt; err = tt }
    go (Err error) is =
        record { ok = tt; told = tt; refused = tt; grown = is.grown; memory_last = is.memory_last; memory = is.memory; err = ap (with_slots slots) is.err }

-- ---- an event of one actor

-- the actor's slot changed, and what was refused left it as it was
pub in_slot : {K : Type 0} (state : K → KindState) (event : Event) (network : NetworkView) (slots : List (Slot K)) (p : ℕ) (x y : Slot K) (told : Outcome) →
    is_memory told ≡ false → OnErr told (y ≡ get_or slots p x) → FollowsRules event (world_view state (with_slots slots network)) (world_view state (with_slots
    (slice_set slots p y) network)) told → Steps (world_view state) event (with_slots slots network) (with_slots (slice_set slots p y) network) (Ok told)
in_slot state event network slots p x y told rules kept follows = record {
  ok = follows;
  told = rules;
  refused = on_err_weaker told (λ same. slot_kept network slots p x y same) kept;
  grown = grown_none network;
  memory_last = tt;
  memory = tt;
  err = tt;
}
