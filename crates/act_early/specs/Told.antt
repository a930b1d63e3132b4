-- What is told of ends.
use Rattle.std.specs.Prelude.{◌≡◌, ℕ, List, map}
use Rattle.act_rules.specs.declared.script.Step.{Step}
use Rattle.act_rules.specs.History.{ActorSpec, History}
use Rattle.act_rules.specs.Report.{summary}
use Rattle.act_early.specs.Plays.{At, IsPlay}
use Rattle.act_early.specs.Early.{IsEnded, EndsAlike}
use Rattle.act_early.specs.Quiescence.{IsSameEnd}

-- what is told of a history once its actors retired; one that is dead is told as dead
abbrev pub told_at_rest : History → List ℕ
told_at_rest h = summary (record h { retired = map (λ cast. cast.actor) h.casts })

-- the same end of the same actors is told alike
abbrev pub SameEndsAreToldAlike : Type 0
SameEndsAreToldAlike = (one other : History) → one.casts ≡ other.casts → IsSameEnd one other →
    summary one ≡ summary other

-- where a play ends as an ended one did, the same is told of it once its actors retired
abbrev pub EndsAreToldAlike : Type 0
EndsAreToldAlike = (casts : List ActorSpec) (plans : ℕ → List Step) (early late : At) → IsPlay casts plans early →
    IsPlay casts plans late → IsEnded plans late → EndsAlike plans early late.history →
    told_at_rest early.history ≡ summary late.history
