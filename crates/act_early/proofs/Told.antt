-- What is told of ends, part by part.
use Rattle.act_early.proofs.Common.{◌≡◌, ℕ, ◌≤◌, Bool, true, false, List, ◌++◌, Option, Some, None, refl, ap, sym, ◌∙◌, ◌||◌, map, is_some}
use Rattle.act_early.proofs.Common.{option_map, RunItem, Step, state_after, ActorSpec, History, cast_of, calls_of, kept_of, runs_of, is_dead, is_retired}
use Rattle.act_early.proofs.Common.{is_ended, flat_map, summary, one_to, future_lines, actor_lines, stage_of, stage_text, At, IsPlay, IsEnded, EndsAlike}
use Rattle.act_early.proofs.Common.{IsSameEnd, told_at_rest, numbers_alike, or_right}
use Rattle.act_early.proofs.Worlds.{world}
use Rattle.act_early.proofs.Listed.{cast_listed}
use Rattle.act_rules.proofs.Callers.{cast_of-same}

-- how an actor with this cast stands
abbrev pub stage_from : Option ActorSpec → Bool → Bool → List RunItem → Option (List ℕ)
stage_from cast dead retired runs = option_map (λ state. stage_text dead retired (state_after state runs)) (option_map (λ cast. cast.opening) cast)

-- the same of each actor is told, where calls, answers, run lists and stages are the same
pub told_alike : (one other : History) → ((c : ℕ) → calls_of c one ≡ calls_of c other) → ((c : ℕ) → kept_of c one ≡ kept_of c other)
    → ((a : ℕ) → 1 ≤ a → a ≤ 8 → stage_of a one ≡ stage_of a other) → ((a : ℕ) → runs_of a one ≡ runs_of a other) → summary one ≡ summary other
told_alike one other calls kept stages runs =
    ap (λ text. text ++ flat_map (λ a. actor_lines a (runs_of a one) (stage_of a one)) (one_to 8))
    (numbers_alike (λ c. future_lines c (calls_of c one) (kept_of c one)) (λ c. future_lines c (calls_of c other) (kept_of c other)) 16
    (λ c _ _. ap (λ l. future_lines c l (kept_of c one)) (calls c) ∙ ap (λ l. future_lines c (calls_of c other) l) (kept c)))
    ∙ ap (λ text. flat_map (λ c. future_lines c (calls_of c other) (kept_of c other)) (one_to 16) ++ text)
    (numbers_alike (λ a. actor_lines a (runs_of a one) (stage_of a one)) (λ a. actor_lines a (runs_of a other) (stage_of a other)) 8
    (λ a low high. ap (λ l. actor_lines a l (stage_of a one)) (runs a) ∙ ap (λ o. actor_lines a (runs_of a other) o) (stages a low high)))

stage_alike : (a : ℕ) (one other : History) → one.casts ≡ other.casts → is_dead a one ≡ is_dead a other → is_retired a one ≡ is_retired a other
    → runs_of a one ≡ runs_of a other → stage_of a one ≡ stage_of a other
stage_alike a one other casts dead retired runs =
    ap (λ cast. stage_from cast (is_dead a one) (is_retired a one) (runs_of a one)) (cast_of-same other one a casts)
    ∙ ap (λ b. stage_from (cast_of a other) b (is_retired a one) (runs_of a one)) dead
    ∙ ap (λ b. stage_from (cast_of a other) (is_dead a other) b (runs_of a one)) retired
    ∙ ap (λ items. stage_from (cast_of a other) (is_dead a other) (is_retired a other) items) runs

-- histories with the same casts and the same end have the same summary
pub same_told : (one other : History) → one.casts ≡ other.casts → IsSameEnd one other → summary one ≡ summary other
same_told one other casts same =
    told_alike one other same.calls same.kept (λ a _ _. stage_alike a one other casts (same.dead a) (same.retired a) (same.runs a)) same.runs

-- of an actor that ended it doesn't matter otherwise whether it retired
ended_stage : (cast : Option ActorSpec) (dead one other : Bool) (runs : List RunItem) → (is_some cast ≡ true → (dead || one) ≡ true)
    → (is_some cast ≡ true → (dead || other) ≡ true) → stage_from cast dead one runs ≡ stage_from cast dead other runs
ended_stage None dead one other runs first second = refl
ended_stage (Some cast) true one other runs first second = refl
ended_stage (Some cast) false one other runs first second = ap (λ b. stage_from (Some cast) false b runs) (first refl ∙ sym (second refl))

-- each actor with a cast ended
abbrev pub AllEnded : History → Type 0
AllEnded h = (a : ℕ) → 1 ≤ a → a ≤ 8 → is_some (cast_of a h) ≡ true → is_ended a h ≡ true

-- where each actor ended, calls, answers, run lists and deaths tell all
pub ended_told : (one other : History) → one.casts ≡ other.casts → ((c : ℕ) → calls_of c one ≡ calls_of c other) → ((c : ℕ) → kept_of c one ≡ kept_of c other)
    → ((a : ℕ) → runs_of a one ≡ runs_of a other) → ((a : ℕ) → is_dead a one ≡ is_dead a other) → AllEnded one → AllEnded other → summary one ≡ summary other
ended_told one other casts calls kept runs dead first second =
    let stages : (a : ℕ) → 1 ≤ a → a ≤ 8 → stage_of a one ≡ stage_of a other =
    λ a low high. ap (λ cast. stage_from cast (is_dead a one) (is_retired a one) (runs_of a one)) (cast_of-same other one a casts)
    ∙ ap (λ b. stage_from (cast_of a other) b (is_retired a one) (runs_of a one)) (dead a)
    ∙ ap (λ items. stage_from (cast_of a other) (is_dead a other) (is_retired a one) items) (runs a)
    ∙ ended_stage (cast_of a other) (is_dead a other) (is_retired a one) (is_retired a other) (runs_of a other)
    (λ there. ap (λ b. b || is_retired a one) (sym (dead a)) ∙ first a low high (ap (λ cast. is_some cast) (cast_of-same other one a casts) ∙ there))
    (λ there. second a low high there) in
    told_alike one other calls kept stages runs

pub at_rest : (h : History) → AllEnded (record h { retired = map (λ cast. cast.actor) h.casts })
at_rest h a low high there = or_right (is_dead a h) _ (cast_listed a h.casts there)

-- where a play ends as an ended one did, the same is told of it, once its actors retired, as of that one
pub alike_told : (casts : List ActorSpec) {plans : ℕ → List Step} {early : At} (late : At) → IsPlay casts plans early → IsPlay casts plans late →
    IsEnded plans late → EndsAlike plans early late.history → told_at_rest early.history ≡ summary late.history
alike_told casts {plans} {early} late play goes ended ends =
    ended_told (record early.history { retired = map (λ cast. cast.actor) early.history.casts }) late.history
    ((world casts plans early play).casts ∙ sym (world casts plans late goes).casts) ends.calls ends.kept ends.runs ends.dead (at_rest early.history)
    (λ a _ _. ended.over.ended a)
