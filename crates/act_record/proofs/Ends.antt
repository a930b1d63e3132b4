-- A play that ends as the threads did shows their summary.
use Rattle.act_record.proofs.Common.{ℕ, List, map, refl, Event, Role, Step, actor_spec_of, EndView, IsPlayOf, script_of, plans_in, IsPlay}
use Rattle.act_owner.specs.Owner.{OwnerView}
use Rattle.act_executor.specs.Joined.{IsJoined}
use Rattle.act_executor.specs.PlanPlays.{IsPlayedAsPlanned}
use Rattle.act_console.proofs.Ended.{summary_same}

-- a play of what a run of a script's plans left, which some play of the plans left, is a play of the script
pub plays : (roles : List Role) (steps : List (ℕ × Step × ℕ)) (owners : List OwnerView) (ends : List EndView) (events : List Event)
    → IsJoined (map actor_spec_of roles) (plans_in (script_of roles steps)) owners ends → IsPlayOf (map actor_spec_of roles) events owners ends
    → IsPlayedAsPlanned (map actor_spec_of roles) (plans_in (script_of roles steps)) owners ends → IsPlay (script_of roles steps) events
plays roles steps owners ends events joined played planned = record {
  accepted = played.accepted;
  ends = record {
    owners = owners;
    ends = ends;
    joined = joined;
    shown = summary_same (map actor_spec_of roles) (plans_in (script_of roles steps)) owners ends events joined played;
    events = events;
    played = played;
    told = refl;
    planned = planned;
  };
}
