use Rattle.act_rules.proofs.Planned.{planned_is_taken, planned_is_taken_among_others, actors_of-actor_spec}
use Rattle.act_rules.proofs.laws.planned_is_what_a_world_takes.Goals as goal

pub returns-clause-alone : goal.returns-clause-alone
returns-clause-alone _ casts c plan differ free = planned_is_taken casts c plan differ free

pub returns-clause-among_others : goal.returns-clause-among_others
returns-clause-among_others _ casts c plan events differ same = planned_is_taken_among_others casts c plan events differ same

pub returns-clause-by_roles : goal.returns-clause-by_roles
returns-clause-by_roles _ c roles = actors_of-actor_spec c roles
