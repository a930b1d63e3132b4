use Rattle.act_rules.proofs.Numbers.{number_is_printed, int_is_printed}
use Rattle.act_rules.proofs.Spelling.{caller_is_text, actor_is_text, kind_is_text, method_is_text, value_is_text, arg_is_text}
use Rattle.act_rules.proofs.laws.one_spelling.Goals as goal

pub returns : goal.returns
returns _ = search (number_is_printed, int_is_printed, caller_is_text, actor_is_text, kind_is_text, method_is_text, value_is_text, arg_is_text)
