use Rattle.std.proofs.Common.{refl}
use Rattle.std.specs.Fmt.{digits}
use Rattle.act_rows.proofs.rows.worked_rows.Goals as goal

pub returns-clause-one_call : goal.returns-clause-one_call
unfolding digits
returns-clause-one_call c = refl

pub returns-clause-reversed : goal.returns-clause-reversed
unfolding digits
returns-clause-reversed c = refl

pub returns-clause-repeated : goal.returns-clause-repeated
unfolding digits
returns-clause-repeated c = refl

pub returns-clause-lost : goal.returns-clause-lost
unfolding digits
returns-clause-lost c = refl

pub returns-clause-earlier_call_waits : goal.returns-clause-earlier_call_waits
unfolding digits
returns-clause-earlier_call_waits c = refl

pub returns-clause-another_caller_passes : goal.returns-clause-another_caller_passes
unfolding digits
returns-clause-another_caller_passes c = refl

pub returns-clause-failed_argument : goal.returns-clause-failed_argument
unfolding digits
returns-clause-failed_argument c = refl

pub returns-clause-one_packet_for_good : goal.returns-clause-one_packet_for_good
unfolding digits
returns-clause-one_packet_for_good c = refl

pub returns-clause-ran_and_yet_died : goal.returns-clause-ran_and_yet_died
unfolding digits
returns-clause-ran_and_yet_died c = refl

pub returns-clause-kill_with_held_calls : goal.returns-clause-kill_with_held_calls
unfolding digits
returns-clause-kill_with_held_calls c = refl

pub returns-clause-known_dead : goal.returns-clause-known_dead
unfolding digits
returns-clause-known_dead c = refl

pub returns-clause-largest_number : goal.returns-clause-largest_number
unfolding digits
returns-clause-largest_number c = refl

pub returns-clause-refused_submissions : goal.returns-clause-refused_submissions
unfolding digits
returns-clause-refused_submissions c = refl

pub returns-clause-release_and_retire : goal.returns-clause-release_and_retire
unfolding digits
returns-clause-release_and_retire c = refl

pub returns-clause-two_actors : goal.returns-clause-two_actors
unfolding digits
returns-clause-two_actors c = refl

pub returns-clause-nothing_there : goal.returns-clause-nothing_there
unfolding digits
returns-clause-nothing_there c = refl
