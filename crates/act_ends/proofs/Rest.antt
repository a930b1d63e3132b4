-- Actors that retire, one after another.
use Rattle.act_ends.proofs.Common.{◌≡◌, ℕ, ◌+◌, ◌≤◌, arith, Bool, true, false, List, [], ◌∷◌, ◌++◌, Option, Some, None, Ok, refl, ap, sym, ◌∙◌, ◌||◌, ◌==◌}
use Rattle.act_ends.proofs.Common.{is_some, map, ActorSpec, History, contains, cast_of, is_dead, history, WorldView, world_summary, IsResting}
use Rattle.std.proofs.lemmas.Bool.{eqb-true, eqb-false, eq-eqb, or_right}
use Rattle.act_rules.specs.declared.event.Event.{Event}
use Rattle.act_rules.specs.declared.event.Event.TheVariants as event
use Rattle.act_rules.specs.declared.outcome.Did.{Did}
use Rattle.act_rules.specs.declared.outcome.WorldRefusal.{WorldRefusal}
use Rattle.act_rules.specs.Report.{summary}
use Rattle.act_rules.specs.Rules.{outcome_by, outcome_of, refusal_of, add_event, after_by}
use Rattle.act_world.specs.IsReachedBy.{IsReachedBy}
use Rattle.act_early.specs.Told.{told_at_rest}
use Rattle.act_early.proofs.Told.{ended_told, at_rest}
use Rattle.act_console.proofs.Shown.{summary_is}
use Rattle.act_rules.proofs.Events.{history_more}
use Rattle.act_rules.proofs.Ended.{contains_push}

accepted : (h : History) (event : Event) (refusal : Option WorldRefusal) (did : Did) → Ok did ≡ outcome_by h event refusal → refusal ≡ None
accepted h event None did e = refl
accepted h event (Some refusal) did e = cc

-- one actor more, which retires
pub rest_more : (casts : List ActorSpec) (h : History) {n a : ℕ} {old : WorldView} (new : WorldView) (did : Did) → a ≡ n + 1 →
    ((events : List Event) → IsReachedBy casts events old → Ok did ≡ outcome_of (history casts events) (event.Retire a)) → ((events : List Event) →
    IsReachedBy casts events old → IsReachedBy casts (events ++ event.Retire a ∷ []) new) → IsResting casts h n old → IsResting casts h (n + 1) new
rest_more casts h {n} {a} new did next told reached is = record {
  events = is.events ++ event.Retire a ∷ [];
  reached = reached is.events is.reached;
  retired = is.retired ++ a ∷ [];
  same = same;
  rests = rests;
}
  where
    none : refusal_of (history casts is.events) (event.Retire a) ≡ None
    none = accepted (history casts is.events) (event.Retire a) (refusal_of (history casts is.events) (event.Retire a)) did (told is.events is.reached)

    same : history casts (is.events ++ event.Retire a ∷ []) ≡ record h { retired = is.retired ++ a ∷ [] }
    same =
        history_more casts is.events (event.Retire a)
        ∙ ap (λ refusal. after_by (history casts is.events) (event.Retire a) refusal) none
        ∙ ap (λ g. add_event g (event.Retire a)) is.same

    Rests : ℕ → Type 0
    Rests b = is_some (cast_of b h) ≡ true → (is_dead b h || contains b (is.retired ++ a ∷ [])) ≡ true

    grown : (d x y : Bool) → (d || x) ≡ true → (d || (x || y)) ≡ true
    grown true x y e = refl
    grown false true y e = refl
    grown false false y e = cc

    go : (b : ℕ) → 1 ≤ b → (c : Bool) → (b == a) ≡ c → b ≤ n + 1 → Rests b
    go b low true same high there =
        or_right (is_dead b h) _
        (contains_push b a is.retired ∙ or_right (contains b is.retired) _ (eq-eqb a b (sym (eqb-true b a same))))
    go b low false other high there =
        let differs : b ≡ a → ⊥ = eqb-false b a other in
        ap (λ x. is_dead b h || x) (contains_push b a is.retired)
        ∙ grown (is_dead b h) (contains b is.retired) (a == b) (is.rests b low (omega arith) there)

    rests : (b : ℕ) → 1 ≤ b → b ≤ n + 1 → Rests b
    rests b low high = go b low (b == a) refl high

-- nothing rests yet
pub rest_none_yet : (casts : List ActorSpec) (events : List Event) (world : WorldView) → IsReachedBy casts events world
    → IsResting casts (history casts events) 0 world
rest_none_yet casts events world reached = record {
  events = events;
  reached = reached;
  retired = (history casts events).retired;
  same = refl;
  rests = λ a low high. let bad : ⊥ = omega arith in absurd bad;
}

-- what the world shows in the end
pub rest_shown : (casts : List ActorSpec) {h : History} {world : WorldView} → IsResting casts h 8 world → world_summary world ≡ told_at_rest h
rest_shown casts {h} {world} is =
    summary_is casts is.events world is.reached
    ∙ ap (λ g. summary g) is.same
    ∙ ended_told (record h { retired = is.retired }) (record h { retired = map (λ cast. cast.actor) h.casts }) refl
    (λ c. refl) (λ c. refl) (λ a. refl) (λ a. refl) is.rests (at_rest h)
