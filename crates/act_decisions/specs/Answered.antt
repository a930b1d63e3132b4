-- What actors answer, if they ran as is told.
use Rattle.std.specs.Prelude.{◌≡◌, ℕ, List, slice_get, Some}
use Rattle.act_rules.specs.History.{ActorSpec}
use Rattle.act_walks.specs.declared.told.ToldEnd.{ToldEnd}
use Rattle.act_decisions.specs.declared.answers.Answered.{Answered}
use Rattle.act_decisions.specs.Placed.{answer_told}

-- these are the answers, by the actors' numbers
abbrev pub AreAnswers : List ActorSpec → ToldEnd → List Answered → Type 0
AreAnswers casts end all = (a : ℕ) (told : Answered) → slice_get all a ≡ Some told →
    (p : ℕ) → slice_get told.answers.items p ≡ answer_told casts end a p
