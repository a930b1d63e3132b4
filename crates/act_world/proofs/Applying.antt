-- What is told of an event that is applied: what its step tells, or that memory was wanting.
use Rattle.act_world.proofs.Common.{◌≡◌, true, false, List, [], ◌∷◌, ◌++◌, Ok, Err, Result, ap, sym, ◌∙◌, OnErr, result_unwrap_or, NoMemory, Event, ActorSpec}
use Rattle.act_world.proofs.Common.{history, Outcome, outcome_of, WorldView, IsReachedBy, is_memory, IsUnrefused, TakesMemory, ShowsWhatIsTold, Steps}
use Rattle.act_rules.specs.declared.outcome.WorldRefusal.TheVariants as refusal
use Rattle.act_world.proofs.Playing.{stands_next}
use Rattle.act_world.proofs.Shown.{one_shows, refused_shows}

pub record Applied {W : Type 0} (seen : W → WorldView) (event : Event) (old new : W) (told : Outcome) : Type 0 where
  pub outcome : is_memory told ≡ false → (casts : List ActorSpec) (before : List Event) → IsReachedBy casts before (seen old) →
      told ≡ outcome_of (history casts before) event
  pub reached : is_memory told ≡ false → (casts : List ActorSpec) (before : List Event) → IsReachedBy casts before (seen old) →
      IsReachedBy casts (before ++ event ∷ []) (seen new)
  pub shown : (casts : List ActorSpec) (before : List Event) → IsReachedBy casts before (seen old) →
      ShowsWhatIsTold (event ∷ []) (told ∷ []) (seen old) (seen new)
  pub memory_last : is_memory told ≡ true → IsUnrefused event (seen old)
  pub memory : is_memory told ≡ true → TakesMemory event (seen old)
  pub err : OnErr told (new ≡ old)

-- a step of the world applies its event, where want of memory is told as the outcome
pub applied : {W : Type 0} {seen : W → WorldView} (event : Event) (old new : W) (step : Result Outcome NoMemory) → Steps seen event old new step →
    Applied seen event old new (result_unwrap_or step (Err refusal.NoMemory))
applied {seen} event old new (Ok told) is =
    let wants : is_memory told ≡ true → true ≡ false = λ memory. sym memory ∙ is.told in
    record {
      outcome = λ free casts before reached. (is.ok casts before reached).0;
      reached = λ free casts before reached. stands_next casts before event (is.ok casts before reached).1;
      shown = λ casts before reached. one_shows event (seen old) (seen new) told is.ok casts before reached;
      memory_last = λ memory. let no = wants memory in absurd (cc);
      memory = λ memory. let no = wants memory in absurd (cc);
      err = is.refused;
    }
applied {seen} event old new (Err error) is = record {
  outcome = λ told. let no : true ≡ false = told in absurd (cc);
  reached = λ told. let no : true ≡ false = told in absurd (cc);
  shown = λ casts before reached. refused_shows event refusal.NoMemory (seen old) (seen new) (ap seen is.err);
  memory_last = λ memory. is.memory_last;
  memory = λ memory. is.memory;
  err = is.err;
}
