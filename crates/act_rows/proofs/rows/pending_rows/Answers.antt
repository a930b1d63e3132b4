use Rattle.std.proofs.Common.{refl}
use Rattle.std.specs.Fmt.{digits}
use Rattle.act_rules.specs.Words.{method_at, number_at, limit_at, int_at, closed_at, caller_at, actor_at, text_at, value_at, arg_at}
use Rattle.act_rules.specs.Grammar.{naming_at, role_at, submit_at, play_forms, thread_forms, form_at, line_at, role_fault, spelled_by}
use Rattle.act_rows.proofs.rows.pending_rows.Goals as goal

pub returns-clause-scripts : goal.returns-clause-scripts
unfolding digits method_at number_at limit_at int_at closed_at caller_at actor_at text_at value_at arg_at naming_at role_at submit_at play_forms thread_forms
    form_at line_at role_fault spelled_by
returns-clause-scripts _ = record {
  counts_what_was_not_collected = refl;
  makes_room_at_the_death = refl;
  chains_over_two_actors = refl;
  counts_each_caller_alone = refl;
  is_the_last_refusal = refl;
  gets_no_room_by_a_late_reply = refl;
  limit_of_nothing = refl;
  limit_above_all = refl;
  limit_with_a_zero = refl;
  limit_without_its_number = refl;
  limit_alone = refl;
  limit_of_no_caller = refl;
  limit_twice = refl;
  limit_after_the_callers = refl;
  largest_limit = refl;
}

pub returns-clause-plan : goal.returns-clause-plan
unfolding digits method_at number_at limit_at int_at closed_at caller_at actor_at text_at value_at arg_at naming_at role_at submit_at play_forms thread_forms
    form_at line_at role_fault spelled_by
returns-clause-plan _ = record { spelled = refl; submits = refl }
