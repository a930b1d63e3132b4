use Rattle.std.proofs.Common.{◌≡◌, true, refl, length}
use Rattle.std.specs.Prelude.{nat_lt}
use Rattle.std.proofs.lemmas.Bool.{lt-ltb}
use Rattle.std.specs.Fmt.{digits}
use Rattle.act_rules.specs.Words.{method_at, number_at, int_at, closed_at, caller_at, actor_at, text_at, value_at, arg_at}
use Rattle.act_rules.specs.Grammar.{naming_at, role_at, submit_at, play_forms, thread_forms, form_at, line_at, role_fault, spelled_by}
use Rattle.act_rows.proofs.rows.worked_scripts.Goals as goal

pub returns-clause-empty : goal.returns-clause-empty
unfolding digits method_at number_at int_at closed_at caller_at actor_at text_at value_at arg_at naming_at role_at submit_at play_forms thread_forms form_at
    line_at role_fault spelled_by
returns-clause-empty c = refl

pub returns-clause-one_call : goal.returns-clause-one_call
unfolding digits method_at number_at int_at closed_at caller_at actor_at text_at value_at arg_at naming_at role_at submit_at play_forms thread_forms form_at
    line_at role_fault spelled_by
returns-clause-one_call c = refl

pub returns-clause-reversed : goal.returns-clause-reversed
unfolding digits method_at number_at int_at closed_at caller_at actor_at text_at value_at arg_at naming_at role_at submit_at play_forms thread_forms form_at
    line_at role_fault spelled_by
returns-clause-reversed c = refl

pub returns-clause-repeated : goal.returns-clause-repeated
unfolding digits method_at number_at int_at closed_at caller_at actor_at text_at value_at arg_at naming_at role_at submit_at play_forms thread_forms form_at
    line_at role_fault spelled_by
returns-clause-repeated c = refl

pub returns-clause-lost : goal.returns-clause-lost
unfolding digits method_at number_at int_at closed_at caller_at actor_at text_at value_at arg_at naming_at role_at submit_at play_forms thread_forms form_at
    line_at role_fault spelled_by
returns-clause-lost c = refl

pub returns-clause-earlier_call_waits : goal.returns-clause-earlier_call_waits
unfolding digits method_at number_at int_at closed_at caller_at actor_at text_at value_at arg_at naming_at role_at submit_at play_forms thread_forms form_at
    line_at role_fault spelled_by
returns-clause-earlier_call_waits c = refl

pub returns-clause-another_caller_passes : goal.returns-clause-another_caller_passes
unfolding digits method_at number_at int_at closed_at caller_at actor_at text_at value_at arg_at naming_at role_at submit_at play_forms thread_forms form_at
    line_at role_fault spelled_by
returns-clause-another_caller_passes c = refl

pub returns-clause-failed_argument : goal.returns-clause-failed_argument
unfolding digits method_at number_at int_at closed_at caller_at actor_at text_at value_at arg_at naming_at role_at submit_at play_forms thread_forms form_at
    line_at role_fault spelled_by
returns-clause-failed_argument c = refl

pub returns-clause-one_packet_for_good : goal.returns-clause-one_packet_for_good
unfolding digits method_at number_at int_at closed_at caller_at actor_at text_at value_at arg_at naming_at role_at submit_at play_forms thread_forms form_at
    line_at role_fault spelled_by
returns-clause-one_packet_for_good c = refl

pub returns-clause-ran_and_yet_died : goal.returns-clause-ran_and_yet_died
unfolding digits method_at number_at int_at closed_at caller_at actor_at text_at value_at arg_at naming_at role_at submit_at play_forms thread_forms form_at
    line_at role_fault spelled_by
returns-clause-ran_and_yet_died c = refl

pub returns-clause-kill_with_held_calls : goal.returns-clause-kill_with_held_calls
unfolding digits method_at number_at int_at closed_at caller_at actor_at text_at value_at arg_at naming_at role_at submit_at play_forms thread_forms form_at
    line_at role_fault spelled_by
returns-clause-kill_with_held_calls c = refl

pub returns-clause-known_dead : goal.returns-clause-known_dead
unfolding digits method_at number_at int_at closed_at caller_at actor_at text_at value_at arg_at naming_at role_at submit_at play_forms thread_forms form_at
    line_at role_fault spelled_by
returns-clause-known_dead c = refl

pub returns-clause-largest_number : goal.returns-clause-largest_number
unfolding digits method_at number_at int_at closed_at caller_at actor_at text_at value_at arg_at naming_at role_at submit_at play_forms thread_forms form_at
    line_at role_fault spelled_by
returns-clause-largest_number c = refl

pub returns-clause-refused_submissions : goal.returns-clause-refused_submissions
unfolding digits method_at number_at int_at closed_at caller_at actor_at text_at value_at arg_at naming_at role_at submit_at play_forms thread_forms form_at
    line_at role_fault spelled_by
returns-clause-refused_submissions c = refl

pub returns-clause-release_and_retire : goal.returns-clause-release_and_retire
unfolding digits method_at number_at int_at closed_at caller_at actor_at text_at value_at arg_at naming_at role_at submit_at play_forms thread_forms form_at
    line_at role_fault spelled_by
returns-clause-release_and_retire c = refl

pub returns-clause-nothing_there : goal.returns-clause-nothing_there
unfolding digits method_at number_at int_at closed_at caller_at actor_at text_at value_at arg_at naming_at role_at submit_at play_forms thread_forms form_at
    line_at role_fault spelled_by
returns-clause-nothing_there c = refl

pub returns-clause-table_script : goal.returns-clause-table_script
unfolding digits method_at number_at int_at closed_at caller_at actor_at text_at value_at arg_at naming_at role_at submit_at play_forms thread_forms form_at
    line_at role_fault spelled_by
returns-clause-table_script c = refl

pub returns-clause-leading_zero : goal.returns-clause-leading_zero
unfolding digits method_at number_at int_at closed_at caller_at actor_at text_at value_at arg_at naming_at role_at submit_at play_forms thread_forms form_at
    line_at role_fault spelled_by
returns-clause-leading_zero c = refl

pub returns-clause-role_without_caller : goal.returns-clause-role_without_caller
unfolding digits method_at number_at int_at closed_at caller_at actor_at text_at value_at arg_at naming_at role_at submit_at play_forms thread_forms form_at
    line_at role_fault spelled_by
returns-clause-role_without_caller c = refl

pub returns-clause-role_after_event : goal.returns-clause-role_after_event
unfolding digits method_at number_at int_at closed_at caller_at actor_at text_at value_at arg_at naming_at role_at submit_at play_forms thread_forms form_at
    line_at role_fault spelled_by
returns-clause-role_after_event c = refl

pub returns-clause-role_twice : goal.returns-clause-role_twice
unfolding digits method_at number_at int_at closed_at caller_at actor_at text_at value_at arg_at naming_at role_at submit_at play_forms thread_forms form_at
    line_at role_fault spelled_by
returns-clause-role_twice c = refl

pub returns-clause-caller_twice : goal.returns-clause-caller_twice
unfolding digits method_at number_at int_at closed_at caller_at actor_at text_at value_at arg_at naming_at role_at submit_at play_forms thread_forms form_at
    line_at role_fault spelled_by
returns-clause-caller_twice c = refl

pub returns-clause-step_of_threads : goal.returns-clause-step_of_threads
unfolding digits method_at number_at int_at closed_at caller_at actor_at text_at value_at arg_at naming_at role_at submit_at play_forms thread_forms form_at
    line_at role_fault spelled_by
returns-clause-step_of_threads c = refl

pub returns-clause-submit_after_release : goal.returns-clause-submit_after_release
unfolding digits method_at number_at int_at closed_at caller_at actor_at text_at value_at arg_at naming_at role_at submit_at play_forms thread_forms form_at
    line_at role_fault spelled_by
returns-clause-submit_after_release c = refl

pub returns-clause-too_many_callers : goal.returns-clause-too_many_callers
unfolding digits method_at number_at int_at closed_at caller_at actor_at text_at value_at arg_at naming_at role_at submit_at play_forms thread_forms form_at
    line_at role_fault spelled_by
returns-clause-too_many_callers c = refl

pub returns-clause-three_callers : goal.returns-clause-three_callers
unfolding digits method_at number_at int_at closed_at caller_at actor_at text_at value_at arg_at naming_at role_at submit_at play_forms thread_forms form_at
    line_at role_fault spelled_by
returns-clause-three_callers c = refl

pub returns-clause-two_plans : goal.returns-clause-two_plans
unfolding digits method_at number_at int_at closed_at caller_at actor_at text_at value_at arg_at naming_at role_at submit_at play_forms thread_forms form_at
    line_at role_fault spelled_by
returns-clause-two_plans c = record { spelled = refl; first_submits = refl; second_submits = refl }

pub returns-clause-kills_of_one_actor : goal.returns-clause-kills_of_one_actor
returns-clause-kills_of_one_actor c = refl

pub returns-clause-too_long_script : goal.returns-clause-too_long_script
unfolding digits method_at number_at int_at closed_at caller_at actor_at text_at value_at arg_at naming_at role_at submit_at play_forms thread_forms form_at
    line_at role_fault spelled_by
returns-clause-too_long_script _ bytes long = let test : nat_lt 1048576 (length bytes) ≡ true = lt-ltb 1048576 (length bytes) long in rw test refl
