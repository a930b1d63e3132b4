use Rattle.act_rules.proofs.ReadingBack.{number_reads_back, int_reads_back, caller_reads_back, actor_reads_back, kind_reads_back, method_reads_back}
use Rattle.act_rules.proofs.ReadingBack.{value_reads_back, arg_reads_back}
use Rattle.act_rules.proofs.laws.each_text_reads_back.Goals as goal

pub returns : goal.returns
returns _ =
    search (number_reads_back, int_reads_back, caller_reads_back, actor_reads_back, kind_reads_back, method_reads_back, value_reads_back, arg_reads_back)
