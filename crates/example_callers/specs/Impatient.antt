-- What an impatient caller submits, and what it tells.
use Rattle.std.specs.Prelude.{◌≡◌, ◌⊎◌, ◌+◌, [], ◌∷◌, ◌++◌, length, is_some, true}
use Rattle.actors.specs.Method.TheVariants.{Pop}
use Rattle.actors.specs.Submission.{Submission}
use Rattle.actors.specs.Callers.{kept_at}
use Rattle.actors.specs.Codes.{SessionView, kills_of}
use Rattle.example_callers.specs.declared.impatient.Impatient.{Impatient}

-- its one call
abbrev pub pop_call : Impatient → Submission
pop_call caller = record { actor = caller.list; method = Pop; args = [] }

-- the call has an answer, and no kill was asked
pub record HasPopped (caller : Impatient) (old new : SessionView) : Type 0 where
  pub calls : new.calls ≡ old.calls ++ pop_call caller ∷ []
  pub answered : is_some (kept_at new.kept (length old.calls)) ≡ true
  pub kills : kills_of new caller.list ≡ kills_of old caller.list

-- the call had no answer in all its turns, and one kill of the list was asked
pub record HasAskedAKill (caller : Impatient) (old new : SessionView) : Type 0 where
  pub calls : new.calls ≡ old.calls ++ pop_call caller ∷ []
  pub kills : kills_of new caller.list ≡ kills_of old caller.list + 1

abbrev pub impatient_tells : Impatient → SessionView → SessionView → Type 0
impatient_tells caller old new = HasPopped caller old new ⊎ HasAskedAKill caller old new
