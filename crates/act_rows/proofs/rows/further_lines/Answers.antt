use Rattle.std.proofs.Common.{refl}
use Rattle.std.specs.Fmt.{digits}
use Rattle.act_rules.specs.Words.{method_at, number_at, int_at, closed_at, caller_at, actor_at, text_at, value_at, arg_at}
use Rattle.act_rules.specs.Grammar.{naming_at, role_at, submit_at, play_forms, thread_forms, form_at, line_at, role_fault, spelled_by}
use Rattle.act_rows.proofs.rows.further_lines.Goals as goal

pub returns-clause-faulty_lines : goal.returns-clause-faulty_lines
unfolding digits method_at number_at int_at closed_at caller_at actor_at text_at value_at arg_at naming_at role_at submit_at play_forms thread_forms form_at
    line_at role_fault spelled_by
returns-clause-faulty_lines _ = record {
  number_above_all = refl;
  minus_nothing = refl;
  plus_sign = refl;
  text_of_nothing = refl;
  long_text = refl;
  caller_above_all = refl;
  caller_with_a_zero = refl;
  actor_above_all = refl;
  zero_twice = refl;
  place_above_all = refl;
  two_spaces = refl;
  space_at_the_end = refl;
  space_after_a_method = refl;
  space_at_the_start = refl;
  tab_for_a_space = refl;
  carriage_return_at_the_end = refl;
  long_comment = refl;
  tab_in_a_comment = refl;
}

pub returns-clause-fine_lines : goal.returns-clause-fine_lines
unfolding digits method_at number_at int_at closed_at caller_at actor_at text_at value_at arg_at naming_at role_at submit_at play_forms thread_forms form_at
    line_at role_fault spelled_by
returns-clause-fine_lines _ = record {
  largest_place = refl;
  least_number = refl;
  quotes_in_a_text = refl;
  comment_of_a_full_line = refl;
  empty_line = refl;
  no_line_end = refl;
}

pub returns-clause-faulty_plans : goal.returns-clause-faulty_plans
unfolding digits method_at number_at int_at closed_at caller_at actor_at text_at value_at arg_at naming_at role_at submit_at play_forms thread_forms form_at
    line_at role_fault spelled_by
returns-clause-faulty_plans _ = record { least_caller_first = refl; awaits_no_future = refl; caller_without_a_role = refl }
