use Rattle.std.proofs.Common.{refl}
use Rattle.std.specs.Fmt.{digits}
use Rattle.act_rules.specs.Words.{method_at, number_at, int_at, closed_at, caller_at, actor_at, text_at, value_at, arg_at}
use Rattle.act_rules.specs.Grammar.{naming_at, role_at, submit_at, play_forms, thread_forms, form_at, line_at, role_fault, spelled_by}
use Rattle.act_rows.proofs.rows.end_rows.Goals as goal

pub returns-clause-scripts : goal.returns-clause-scripts
unfolding digits method_at number_at int_at closed_at caller_at actor_at text_at value_at arg_at naming_at role_at submit_at play_forms thread_forms form_at
    line_at role_fault spelled_by
returns-clause-scripts _ = record {
  waits_its_turn = refl;
  with_an_argument = refl;
  held_by_a_gap = refl;
  with_calls_of_another_held = refl;
  with_failed_arguments = refl;
  before_a_kill_is_taken = refl;
  leaves_nothing_to_retire = refl;
}

pub returns-clause-plan : goal.returns-clause-plan
unfolding digits method_at number_at int_at closed_at caller_at actor_at text_at value_at arg_at naming_at role_at submit_at play_forms thread_forms form_at
    line_at role_fault spelled_by
returns-clause-plan _ = record { spelled = refl; submits = refl; answered = refl; ended = refl }
