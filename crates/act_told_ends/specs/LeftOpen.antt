-- Where an actor's death is told of a call that ran, its reply may stand for it.
use Rattle.std.specs.Prelude.{◌≡◌, ◌⊎◌, ℕ, List, length, slice_get, Option, Some, option_and_then, Ok, Err, Contains}
use Rattle.act_types.specs.declared.call.Fault.TheVariants.{ActorDied}
use Rattle.act_types.specs.declared.call.Settled.TheVariants.{Bad}
use Rattle.act_types.specs.declared.call.Value.{Value}
use Rattle.act_rules.specs.declared.event.Event.{Event}
use Rattle.act_rules.specs.declared.history.RunItem.{RunItem}
use Rattle.act_rules.specs.declared.script.Step.{Step}
use Rattle.act_rules.specs.History.{ActorSpec, opening, opening_of}
use Rattle.act_rules.specs.RunList.{Answer, answer_at}
use Rattle.act_rules.specs.Submissions.{kept_at}
use Rattle.act_told_ends.specs.Told.{Told, EndsAsTold}

-- the caller's call k ran and gave this answer; and if that is a value, no call that ran was given its failure
pub record MayBeReply (casts : List ActorSpec) (told : Told) (c k : ℕ) (answer : Answer) : Type 0 where
  pub actor : ℕ
  pub place : ℕ
  pub item : RunItem
  pub at : slice_get (told.runs actor) place ≡ Some item
  pub caller : item.caller ≡ c
  pub future : item.future ≡ k
  pub is : option_and_then (λ state. answer_at state (told.runs actor) place) (opening_of actor (opening casts))
      ≡ Some answer
  pub unused : (value : Value) → answer ≡ Ok value → (a place : ℕ) (item : RunItem) →
      slice_get (told.runs a) place ≡ Some item → item.caller ≡ c → Contains item.args (Bad k) → ⊥

-- a death is told of the caller's call k, and an answer stands for it that may have been its reply
abbrev pub IsReplyForDeath : List ActorSpec → Told → (ℕ → List (Option Answer)) → ℕ → ℕ → Type 0
IsReplyForDeath casts told kept c k = (kept_at (told.kept c) k ≡ Some (Err ActorDied))
    × (answer : Answer) × (kept_at (kept c) k ≡ Some answer) × MayBeReply casts told c k answer

-- these answers may stand for those told: the same, but where a death is told of a call that may have given a reply
abbrev pub MayStandForKept : List ActorSpec → Told → (ℕ → List (Option Answer)) → Type 0
MayStandForKept casts told kept = (c : ℕ) → (length (kept c) ≡ length (told.kept c))
    × ((k : ℕ) → (kept_at (kept c) k ≡ kept_at (told.kept c) k) ⊎ IsReplyForDeath casts told kept c k)

-- the same told with these answers
abbrev pub with_kept : (ℕ → List (Option Answer)) → Told → Told
with_kept kept told = record told { kept = kept }

-- where some events end as is told, some end with answers that may stand for those
abbrev pub DeathsMayBeReplies : Type 0
DeathsMayBeReplies = (casts : List ActorSpec) (bound : ℕ → Option (List Step)) (told : Told)
    (kept : ℕ → List (Option Answer)) (events : List Event) →
    EndsAsTold casts bound told events → MayStandForKept casts told kept →
    (others : List Event) × EndsAsTold casts bound (with_kept kept told) others
