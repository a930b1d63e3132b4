use Rattle.act_scripts.proofs.Common.{Some, None, strip_prefix_char}
use Rattle.act_scripts.proofs.Marks.{marked_some, marked_none}
use Rattle.act_scripts.proofs.words.after_mark.Goals as goal

pub returns-in-Some : goal.returns-in-Some
returns-in-Some c = marked_some _ _ _ (strip_prefix_char c.args.mark c.args.word.now (Some c.in-Some.rest) c.in-Some.ensures.cases c.requires)

pub returns-in-None : goal.returns-in-None
returns-in-None c = marked_none _ _ (strip_prefix_char c.args.mark c.args.word.now None c.in-None.ensures.cases c.requires)
