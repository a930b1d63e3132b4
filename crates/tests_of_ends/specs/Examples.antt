-- Words of the worked examples.
use Rattle.std.specs.Prelude.{◌≡◌, ℕ, List, [], ◌∷◌, None}
use Rattle.act_types.specs.KindState.{KindState}
use Rattle.act_rules.specs.History.{ActorSpec, History}
use Rattle.act_drive.specs.Sessions.{SessionView}

-- one actor of two callers, without a limit
abbrev pub one_spec : KindState → List ActorSpec
one_spec state = record { actor = 1; callers = 1 ∷ 2 ∷ []; opening = state; pending = None } ∷ []

-- nothing is said of a code, or of what a check answers; all callers have the same code
abbrev pub any_end : {C : Type 0} → C → SessionView → SessionView → Type 0
any_end code first last = Unit {0}

abbrev pub any_answer : {H : Type 0} → H → History → Type 0
any_answer check h = Unit {0}

abbrev pub same_code : {C : Type 0} → C → ℕ → C → Type 0
same_code one caller code = code ≡ one
