use Rattle.act_scripts.proofs.Common.{Some, None, strip_suffix_char}
use Rattle.act_scripts.proofs.Marks.{closed_some, closed_none}
use Rattle.act_scripts.proofs.words.before_mark.Goals as goal

pub returns-in-Some : goal.returns-in-Some
returns-in-Some c = closed_some _ _ _ (strip_suffix_char c.args.mark c.args.word.now (Some c.in-Some.front) c.in-Some.ensures.cases c.requires)

pub returns-in-None : goal.returns-in-None
returns-in-None c = closed_none _ _ (strip_suffix_char c.args.mark c.args.word.now None c.in-None.ensures.cases c.requires)
