use Rattle.std.proofs.Common.{refl}
use Rattle.std.specs.Fmt.{digits}
use Rattle.act_rules.specs.Words.{method_at, number_at, int_at, closed_at, caller_at, actor_at, text_at, value_at, arg_at}
use Rattle.act_rules.specs.Grammar.{naming_at, role_at, submit_at, play_forms, thread_forms, form_at, line_at, role_fault, spelled_by}
use Rattle.act_rows.proofs.rows.further_rows.Goals as goal

pub returns : goal.returns
unfolding digits method_at number_at int_at closed_at caller_at actor_at text_at value_at arg_at naming_at role_at submit_at play_forms thread_forms form_at
    line_at role_fault spelled_by
returns _ = record { sent_again = refl; kill_after_retiring = refl; death_after_answer = refl; two_failed_arguments = refl }
