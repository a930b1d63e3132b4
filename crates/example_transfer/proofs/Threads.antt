-- What a run in threads leaves of two purses, where each end that a search saw keeps their sum.
use Rattle.example_transfer.proofs.Common.{◌≡◌, ℕ, ◌≤◌, ◌==◌, true, List, map, Option, Some, None, refl, ap, sym, ◌∙◌, subst, arith, find, option_map}
use Rattle.example_transfer.proofs.Common.{option_and_then, IfSome, ActorSpec, History, history, is_dead, state_after, RetiredView, retired_view, EndView}
use Rattle.example_transfer.proofs.Common.{Killed, Retired, Starved, end_view, end_id, IfRetired, plan_of, IsJoined, RanAll, actors_of_casts, cast_at, Purse}
use Rattle.example_transfer.proofs.Common.{Together, purse_at, PurseEnd, PurseLeft, IsPurse, HoldTogether, purse_of_end, purse_left, AreLeftTogether}
use Rattle.example_transfer.proofs.Common.{HoldOtherwise, IsAnswer, IsKeptInThreads, ends_of}
use Rattle.std.specs.Global.{Vec}
use Rattle.std.specs.List.{list_any}
use Rattle.std.proofs.lemmas.Bool.{eq-eqb, eqb-true}
use Rattle.std.proofs.lemmas.Map.Keys.{any_passes_from_place}
use Rattle.actors.specs.Limits.{MAX_ACTORS}
use Rattle.actors.specs.Event.{Event}
use Rattle.actors.specs.Step.{Step}
use Rattle.actors.specs.Callers.{one_to, OwnerView}
use Rattle.act_rules.proofs.Lists.{find-map}
use Rattle.act_rules.proofs.Unique.{map-slice_get}
use Rattle.actors.specs.PlanEnds.{At, IsPlay, CanBeEndIn, EndsAsThreads, LeadsToEnd, EachRunHas, EndsInThreads}
use Rattle.act_early.proofs.Worlds.{world}
use Rattle.actors.specs.Ended.TheVariants as ended
use Rattle.act_plans.proofs.Numbers.{in_one_to}
use Rattle.actors.specs.Plays.{IsPlayedAsPlanned}
use Rattle.act_rules.proofs.Elements.{IsIn, in_from_contains, all_in, in_filter, found_is, finds}
use Rattle.example_transfer.specs.declared.purses.Purses.{Purses}
use Rattle.example_transfer.specs.Purses.{casts_of, together_of}
use Rattle.example_transfer.proofs.SamePurse.{same_held}

-- their numbers are those of actors
record AreActors (t : Together) : Type 0 where
  one : (1 ≤ t.one) × (t.one ≤ MAX_ACTORS)
  other : (1 ≤ t.other) × (t.other ≤ MAX_ACTORS)

-- ---- an actor's end is there

record IsThere (ends : List EndView) (a : ℕ) : Type 0 where
  end : EndView
  inside : IsIn ends end
  id : end_id end ≡ a
  is : find (λ x. end_id x == a) ends ≡ Some end

there : (casts : List ActorSpec) (ends : List EndView) (a : ℕ) (cast : ActorSpec) → map end_id ends ≡ actors_of_casts casts
    → 1 ≤ a → a ≤ MAX_ACTORS → cast_at a casts ≡ Some cast → IsThere ends a
there casts ends a cast ids low high e =
    let at = found_is (λ (x : ActorSpec). x.actor == a) casts e in
    let any : list_any (λ (x : ActorSpec). x.actor == a) casts ≡ true =
    any_passes_from_place (λ (x : ActorSpec). x.actor == a) casts at.inside.place cast at.inside.at at.passes in
    let within : IsIn (actors_of_casts casts) a =
    in_filter (λ n. list_any (λ (x : ActorSpec). x.actor == n) casts)
    (in_from_contains (one_to MAX_ACTORS) a (in_one_to MAX_ACTORS low high)) any in
    let listed : IsIn (map end_id ends) a = subst (λ ns. IsIn ns a) (sym ids) within in
    let one = map-slice_get end_id ends listed.place listed.at in
    let found = finds (λ end. end_id end == a) ends listed.place one.0 one.1 (eq-eqb (end_id one.0) a one.2) in
    let is = found_is (λ end. end_id end == a) ends found.is in
    record { end = found.one; inside = is.inside; id = eqb-true (end_id found.one) a is.passes; is = found.is }

-- ---- it retired with the purse of the history

-- the end is that of an actor that retired in this purse's state
record Leaves (end : EndView) (purse : Purse) : Type 0 where
  retired : RetiredView
  is : end ≡ Retired retired
  state : retired.state ≡ purse_at purse

leaves : (casts : List ActorSpec) (owners : List OwnerView) (h : History) (purse : Purse) (end : EndView) → h.casts ≡ casts
    → IsPurse h (end_id end) purse → CanBeEndIn h end → IfRetired end (RanAll casts owners) → Leaves end purse
leaves casts owners h purse (Killed dead) same p can ran = let died : is_dead dead.id h ≡ true = can.ends in absurd (cc (died, p.lives))
leaves casts owners h purse (Starved dead) same p can ran = absurd can.ends
leaves casts owners h purse (Retired retired) same p can ran =
    let here : cast_at retired.id casts ≡ Some p.cast = ap (λ l. cast_at retired.id l) (sym same) ∙ p.cast_is in
    let casts_are : Some ran.cast ≡ Some p.cast = sym ran.at ∙ here in
    let cast : ran.cast ≡ p.cast = cc in
    record {
      retired = retired;
      is = refl;
      state = ran.state ∙ ap (λ (c : ActorSpec). state_after c.opening retired.log) cast ∙ ap (λ l. state_after p.cast.opening l) can.runs ∙ p.state;
    }

-- ---- as the code has it

record IsLeft (a : ℕ) (actors : List PurseLeft) (purse : Purse) : Type 0 where
  left : Purse
  is : purse_left a actors ≡ Some left
  same : left.held ≡ purse.held

-- what is found of an actor leaves its purse
left_by : (a : ℕ) (actors : List PurseLeft) (purse : Purse) (ended : PurseEnd)
    → purse_left a actors ≡ purse_of_end ended → Leaves (end_view purse_at ended) purse → IsLeft a actors purse
left_by a actors purse (ended.Retired retired) found l =
    let is : Retired (retired_view purse_at retired) ≡ Retired l.retired = l.is in
    let same : retired_view purse_at retired ≡ l.retired = cc in
    record { left = retired.state; is = found; same = same_held retired.state purse (ap (λ (r : RetiredView). r.state) same ∙ l.state) }
left_by a actors purse end found l = cc

module _ (casts : List ActorSpec) (plans : List (ℕ × List Step)) (owners : List OwnerView) (actors : List PurseLeft) where
  abbrev ends : List EndView
  ends = map (λ (actor : PurseLeft). end_view purse_at actor.ended) actors

  record IsSame (a : ℕ) (end : EndView) : Type 0 where
    actor : PurseLeft
    found : find (λ (x : PurseLeft). end_id (end_view purse_at x.ended) == a) actors ≡ Some actor
    is : end_view purse_at actor.ended ≡ end

  found_as : (a : ℕ) (end : EndView) → find (λ x. end_id x == a) ends ≡ Some end → IsSame a end
  found_as a end e = go (find (λ (actor : PurseLeft). end_id (end_view purse_at actor.ended) == a) actors) refl
    where
      viewed : find (λ x. end_id x == a) ends
          ≡ option_map (λ (actor : PurseLeft). end_view purse_at actor.ended) (find (λ (actor : PurseLeft). end_id (end_view purse_at actor.ended) == a) actors)
      viewed = find-map (λ x. end_id x == a) (λ (actor : PurseLeft). end_view purse_at actor.ended) actors

      go : (o : Option PurseLeft) → find (λ (actor : PurseLeft). end_id (end_view purse_at actor.ended) == a) actors ≡ o → IsSame a end
      go None is =
          let bad : None ≡ Some end = sym (viewed ∙ ap (option_map (λ (actor : PurseLeft). end_view purse_at actor.ended)) is) ∙ e in cc
      go (Some actor) is =
          let here : Some (end_view purse_at actor.ended) ≡ Some end =
          sym (viewed ∙ ap (option_map (λ (actor : PurseLeft). end_view purse_at actor.ended)) is) ∙ e in
          record { actor = actor; found = is; is = cc }

  left_so : IsJoined casts plans owners ends → (early : At) → IsPlay casts (λ c. plan_of c plans) early → EndsAsThreads plans early owners ends
      → {a : ℕ} {purse : Purse} → 1 ≤ a → a ≤ MAX_ACTORS → IsPurse early.history a purse → IsLeft a actors purse
  left_so joined early play alike {a} {purse} low high p =
      let same : early.history.casts ≡ casts = (world casts (λ c. plan_of c plans) early play).casts in
      let here : cast_at a casts ≡ Some p.cast = ap (λ l. cast_at a l) (sym same) ∙ p.cast_is in
      let end = there casts ends a p.cast joined.actors low high here in
      let mine : IsPurse early.history (end_id end.end) purse = subst (λ n. IsPurse early.history n purse) (sym end.id) p in
      let can = all_in (CanBeEndIn early.history) alike.actors end.inside in
      let ran = all_in (λ x. IfRetired x (RanAll casts owners)) joined.retired end.inside in
      let gone : Leaves end.end purse = leaves casts owners early.history purse end.end same mine can ran in
      let found = found_as a end.end end.is in
      left_by a actors purse found.actor.ended (ap (option_and_then (λ (x : PurseLeft). purse_of_end x.ended)) found.found)
      (subst (λ x. Leaves x purse) (sym found.is) gone)

  left_together : {t : Together} → IsJoined casts plans owners ends → (early : At) → IsPlay casts (λ c. plan_of c plans) early
      → EndsAsThreads plans early owners ends
      → HoldTogether t early.history → AreActors t → AreLeftTogether t actors
  left_together {t} joined early play alike h known =
      let one = left_so joined early play alike known.one.0 known.one.1 h.one_is in
      let other = left_so joined early play alike known.other.0 known.other.1 h.other_is in
      let same = one.same in
      let same' = other.same in
      let sum = h.sum_is in
      record { one = one.left; other = other.left; one_is = one.is; other_is = other.is; sum_is = omega (arith, same, same', sum) }

-- each run in threads ends as a play that was seen, and so the sum is kept
pub kept_in_threads : (purses : Purses) (t : Together) (plans : List (ℕ × List Step)) → t ≡ together_of purses
    → EachRunHas (casts_of purses) plans (HoldTogether t) → IsKeptInThreads purses plans
kept_in_threads purses t plans same always = λ owners actors joined played.
    let seen : EndsInThreads (casts_of purses) plans (HoldTogether t) owners (ends_of actors) = always owners (ends_of actors) joined played in
    let held : HoldTogether (together_of purses) seen.early.history = subst (λ x. HoldTogether x seen.early.history) same seen.holds in
    left_together (casts_of purses) plans owners actors joined seen.early seen.play seen.ends_so held
    (record { one = (omega arith, omega arith); other = (omega arith, omega arith) })

-- a run with what was opened is one
pub kept_in_run : (purses : Purses) {plans : List (ℕ × List Step)} {owners : List OwnerView} (actors : List PurseLeft) (opened : List ActorSpec)
    → opened ≡ casts_of purses → IsKeptInThreads purses plans → IsJoined opened plans owners (ends_of actors)
    → IsPlayedAsPlanned opened plans owners (ends_of actors)
    → AreLeftTogether (together_of purses) actors
kept_in_run purses {plans} {owners} actors opened same kept joined played =
    kept owners actors (subst (λ l. IsJoined l plans owners (ends_of actors)) same joined)
    (subst (λ l. IsPlayedAsPlanned l plans owners (ends_of actors)) same played)

-- what a search answers is what is said of plans
pub answered : (purses : Purses) (t : Together) (plans : List (ℕ × List Step)) (found : Option (Vec Event)) → t ≡ together_of purses
    → (found ≡ None → EachRunHas (casts_of purses) plans (HoldTogether t))
    → IfSome found (λ events. LeadsToEnd (casts_of purses) (λ c. plan_of c plans) events.items)
    → IfSome found (λ events. HoldOtherwise t (history (casts_of purses) events.items)) → IsAnswer purses plans found
answered purses t plans None same always leads breaks = kept_in_threads purses t plans same (always refl)
answered purses t plans (Some events) same always leads breaks =
    (leads, subst (λ x. HoldOtherwise x (history (casts_of purses) events.items)) same breaks)
