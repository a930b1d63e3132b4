-- A play that ends as the threads did shows their summary.
use Rattle.act_console.proofs.Common.{◌≡◌, ℕ, ◌+◌, ◌<◌, ◌≤◌, ◌==◌, Bool, true, false, cond, List, [], ◌∷◌, ◌++◌, length, Option, Some, None, refl, ap, sym, ◌∙◌}
use Rattle.act_console.proofs.Common.{subst, arith, ◌||◌, find, list_any, eqb-true, space, actor_text, Event, Step, state_after, kept_at, ActorSpec, contains}
use Rattle.act_console.proofs.Common.{cast_of, is_caller, calls_of, kept_of, runs_of, is_retired, history, one_to, numbered_lines, line, future_text, kept_text}
use Rattle.act_console.proofs.Common.{future_line, future_lines, actor_lines, stage_of, summary, list_any-map, OwnerView, EndView, Killed, Retired, Starved}
use Rattle.act_console.proofs.Common.{end_id, IfRetired, owner_of, end_of, calls_of_owner, kept_of_owner, log_of_end, calls_in, kept_in, log_in, RanAll}
use Rattle.act_console.proofs.Common.{IsJoined, casts_stay, all_in, found_is, world_lawful, calls_are, IsOwnerIn, IsEndIn, IsPlayOf, end_text, end_text_in}
use Rattle.act_console.proofs.Common.{none_any, numbers_alike}
use Rattle.std.proofs.Common.{flat_map}
use Rattle.std.specs.Option.{option_map}
use Rattle.act_console.specs.Threads.{joined_summary}
use Rattle.act_console.proofs.Shown.{uncast, stage_at}
use Rattle.act_console.proofs.Sorting.{among_numbers}
use Rattle.act_executor.proofs.Lists.Places.{some_is}

-- ---- lists

any_none : {X : Type 0} (p : X → Bool) (xs : List X) → list_any p xs ≡ false → find p xs ≡ None
any_none p [] none = refl
any_none p (x ∷ xs) none = go (p x) none (any_none p xs)
  where
    go : (b : Bool) → (b || list_any p xs) ≡ false → (list_any p xs ≡ false → find p xs ≡ None) → cond b (Some x) (find p xs) ≡ None
    go true none rest = absurd (cc)
    go false none rest = rest none

-- what is the same at each place is the same of all
same_placed : {X : Type 0} (f g : ℕ → X → List ℕ) (from : ℕ) (xs : List X) → ((k : ℕ) (x : X) → k < from + length xs → f k x ≡ g k x) →
    numbered_lines f from xs ≡ numbered_lines g from xs
same_placed f g from [] same = refl
same_placed {X} f g from (x ∷ xs) same =
    ap (λ front. front ++ numbered_lines f (from + 1) xs) (same from x (omega arith))
    ∙ ap (λ rest. g from x ++ rest) (same_placed f g (from + 1) xs (λ k y within. same k y (omega (arith, within))))

-- ---- a joined run and a play of it

module _ (casts : List ActorSpec) (plans : List (ℕ × List Step)) (owners : List OwnerView) (ends : List EndView) (events : List Event)
    (joined : IsJoined casts plans owners ends) (played : IsPlayOf casts events owners ends) where
  -- a caller that isn't left has no role
  stranger : (c : ℕ) → 1 ≤ c → c ≤ 16 → owner_of c owners ≡ None → is_caller c (history casts events) ≡ false
  stranger c low high none =
      ap (list_any (λ (cast : ActorSpec). contains c cast.callers)) (casts_stay casts events)
      ∙ sym (among_numbers (λ c. list_any (λ (cast : ActorSpec). contains c cast.callers) casts) 16 c low high)
      ∙ ap (contains c) (sym joined.callers)
      ∙ list_any-map (λ m. m == c) (λ (owner : OwnerView). owner.id) owners
      ∙ none_any (λ (owner : OwnerView). owner.id == c) owners none

  one_caller : (c : ℕ) (owner : Option OwnerView) → 1 ≤ c → c ≤ 16 → owner_of c owners ≡ owner →
      future_lines c (calls_of c (history casts events)) (kept_of c (history casts events)) ≡ future_lines c (calls_of_owner owner) (kept_of_owner owner)
  one_caller c None low high none =
      ap (λ calls. future_lines c calls (kept_of c (history casts events)))
      (calls_are (history casts events) c None (world_lawful casts events) (stranger c low high none))
  one_caller c (Some owner) low high found =
      let h = history casts events in
      let there = found_is (λ (owner : OwnerView). owner.id == c) owners found in
      let is : owner.id ≡ c = eqb-true owner.id c there.passes in
      let left : IsOwnerIn h owner = all_in (IsOwnerIn h) played.callers there.inside in
      let calls : owner.calls ≡ calls_of c h = left.calls ∙ ap (λ n. calls_of n h) is in
      ap (λ calls. future_lines c calls (kept_of c h)) (sym calls)
      ∙ same_placed (future_line c (kept_of c h)) (future_line c owner.kept) 0 owner.calls
      (λ k call within. ap (λ kept. line (future_text c k ++ space ++ actor_text call.actor ++ kept_text kept))
      (sym (left.answers k (omega (arith, within)) ∙ ap (λ n. kept_at (kept_of n h) k) is)))

  -- an actor that isn't left has no role
  no_cast : (a : ℕ) → 1 ≤ a → a ≤ 8 → end_of a ends ≡ None → cast_of a (history casts events) ≡ None
  no_cast a low high none =
      ap (find (λ (cast : ActorSpec). cast.actor == a)) (casts_stay casts events)
      ∙ any_none (λ (cast : ActorSpec). cast.actor == a) casts
      (sym (among_numbers (λ a. list_any (λ (cast : ActorSpec). cast.actor == a) casts) 8 a low high) ∙ ap (contains a) (sym joined.actors) ∙
      list_any-map (λ m. m == a) end_id ends ∙ none_any (λ end. end_id end == a) ends none)

  -- how an actor stands that is left
  ended_so : (end : EndView) → IsEndIn (history casts events) end → IfRetired end (RanAll casts owners) →
      stage_of (end_id end) (history casts events) ≡ Some (end_text end)
  ended_so (Killed dead) is ran =
      let h = history casts events in let cast = some_is (cast_of dead.id h) is.known in
      stage_at h dead.id (is_retired dead.id h) (state_after cast.0.opening (runs_of dead.id h)) cast.1 is.ended refl refl
  ended_so (Retired retired) is ran =
      let h = history casts events in
      stage_at h retired.id true retired.state
      (ap (find (λ (cast : ActorSpec). cast.actor == retired.id)) (casts_stay casts events) ∙ ran.at)
      is.ended.0 is.ended.1 (ran.state ∙ ap (state_after ran.cast.opening) is.runs)
  ended_so (Starved dead) is ran = absurd is.ended

  one_actor : (a : ℕ) (end : Option EndView) → 1 ≤ a → a ≤ 8 → end_of a ends ≡ end →
      actor_lines a (runs_of a (history casts events)) (stage_of a (history casts events)) ≡ actor_lines a (log_of_end end) (option_map end_text end)
  one_actor a None low high none = ap (actor_lines a (runs_of a (history casts events))) (uncast (history casts events) a (no_cast a low high none))
  one_actor a (Some end) low high found =
      let h = history casts events in let there = found_is (λ end. end_id end == a) ends found in
      let is : end_id end ≡ a = eqb-true (end_id end) a there.passes in
      let left : IsEndIn h end = all_in (IsEndIn h) played.actors there.inside in
      let stage : stage_of a h ≡ Some (end_text end) =
      subst (λ n. stage_of n h ≡ Some (end_text end)) is
      (ended_so end left (all_in (λ end. IfRetired end (RanAll casts owners)) joined.retired there.inside)) in
      ap (actor_lines a (runs_of a h)) stage
      ∙ ap (λ items. actor_lines a items (Some (end_text end))) (sym (left.runs ∙ ap (λ n. runs_of n h) is))

  -- the play shows what the threads show
  pub summary_same : summary (history casts events) ≡ joined_summary owners ends
  unfolding joined_summary
  summary_same =
      let h = history casts events in
      ap (λ front. front ++ flat_map (λ a. actor_lines a (runs_of a h) (stage_of a h)) (one_to 8))
      (numbers_alike (λ c. future_lines c (calls_of c h) (kept_of c h)) (λ c. future_lines c (calls_in owners c) (kept_in owners c)) 16
      (λ c low high. one_caller c (owner_of c owners) low high refl))
      ∙ ap (λ back. flat_map (λ c. future_lines c (calls_in owners c) (kept_in owners c)) (one_to 16) ++ back)
      (numbers_alike (λ a. actor_lines a (runs_of a h) (stage_of a h)) (λ a. actor_lines a (log_in ends a) (end_text_in ends a)) 8
      (λ a low high. one_actor a (end_of a ends) low high refl))
