use Rattle.std.proofs.Common.{◌++◌, length, ap}
use Rattle.std.proofs.lemmas.List.{drop-replicate}
use Rattle.act_types.proofs.name.padded_bytes.Goals as goal

pub returns : goal.returns
returns c = rw c.copy_from_slice.ensures.after (ap (λ zeros. c.args.text.now ++ zeros) (drop-replicate (length c.args.text.now) 18 0))
