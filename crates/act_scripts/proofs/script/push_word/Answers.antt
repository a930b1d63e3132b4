use Rattle.std.proofs.lemmas.Str.{IsUtf8-from_ascii}
use Rattle.act_scripts.proofs.Plain.{plain_ascii}
use Rattle.act_scripts.proofs.script.push_word.Goals as goal

pub from_utf8_unchecked-requires : goal.from_utf8_unchecked-requires
from_utf8_unchecked-requires c = IsUtf8-from_ascii c.args.word.now (plain_ascii c.args.word.now c.requires)
