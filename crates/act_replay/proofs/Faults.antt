-- The faults of a run that is written down.
use Rattle.act_replay.proofs.Common.{◌≡◌, ℕ, List, None, sym, subst, Step, ActorSpec, first_bad_plan, IsFault, RecordFault, Unplayed, IsPlayFault}
use Rattle.act_replay.proofs.Common.{IsRecordFault}
use Rattle.act_replay.specs.declared.run.RecordFault.TheVariants.{Run}

-- a play's fault is one of the run, whose plans were good
pub play_fault : (casts : List ActorSpec) (plans : List (ℕ × List Step)) → first_bad_plan casts plans ≡ None → (fault : RecordFault) → IsPlayFault fault
    → IsRecordFault casts plans fault
play_fault casts plans good (Run fault) is = subst (IsFault casts plans) (sym is) tt
play_fault casts plans good Unplayed is = good
