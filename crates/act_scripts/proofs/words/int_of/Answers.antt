use Rattle.act_scripts.proofs.Common.{Err, rules, tests}
use Rattle.act_scripts.proofs.Integers.{int_from_parse}
use Rattle.act_scripts.proofs.words.int_of.Goals as goal

pub returns-in-Err : goal.returns-in-Err
returns-in-Err c = int_from_parse c.args.word.now (Err c.in-Err.field-0) c.in-Err.ensures.value.0 (search (rules, tests))
