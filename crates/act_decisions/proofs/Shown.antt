-- What a world shows, beside the lines of a history.
use Rattle.act_decisions.proofs.Common.{◌≡◌, ℕ, List, [], ◌++◌, sym, ap, subst, ◌∙◌, Event, ActorSpec, history, summary, WorldView, IsReachedBy, world_report}
use Rattle.act_decisions.proofs.Common.{summary_is, AreTold}

-- the report of no events is the summary
pub shown : (casts : List ActorSpec) (events : List Event) (world : WorldView) (empty text rest told : List ℕ) → IsReachedBy casts events world → empty ≡ []
    → text ≡ empty ++ world_report [] world → AreTold rest told → text ≡ told → AreTold rest (summary (history casts events))
shown casts events world empty text rest told reached none is make same =
    subst (AreTold rest) (sym same ∙ is ∙ ap (λ front. front ++ world_report [] world) none ∙ summary_is casts events world reached) make

-- and what is told is what is shown
pub told_shown : (casts : List ActorSpec) (events : List Event) (world : WorldView) {empty text : List ℕ} (rest told : List ℕ) → IsReachedBy casts events world
    → empty ≡ [] → text ≡ empty ++ world_report [] world → (AreTold rest text → told ≡ text) → AreTold rest (summary (history casts events)) → text ≡ told
told_shown casts events world rest told reached none is exact make =
    sym (exact (subst (AreTold rest) (sym (is ∙ ap (λ front. front ++ world_report [] world) none ∙ summary_is casts events world reached)) make))
