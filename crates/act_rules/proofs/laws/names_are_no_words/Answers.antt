use Rattle.act_rules.proofs.Common.{refl}
use Rattle.act_rules.specs.Grammar.{play_forms, thread_forms}
use Rattle.act_rules.proofs.laws.names_are_no_words.Goals as goal

pub returns : goal.returns
unfolding play_forms thread_forms
returns _ = record { methods = refl; kinds = refl; events = refl; steps = refl }
