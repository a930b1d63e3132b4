use Rattle.act_console.proofs.Common.{◌≡◌, ◌-◌, take, drop, arith, subst, sym, IsAscii, take_all, length-drop, IsUtf8-from_ascii}
use Rattle.act_console.proofs.tail.Tail.as_str.Goals as goal

pub from_utf8_unchecked-requires : goal.from_utf8_unchecked-requires
from_utf8_unchecked-requires c =
    let start = c.self.inside.start in let bytes = c.self.inside.bytes in
    let whole : take (128 - start) (drop start bytes) ≡ drop start bytes = take_all (128 - start) (drop start bytes) (omega (arith, length-drop start bytes)) in
    IsUtf8-from_ascii _ (subst IsAscii (sym whole) c.self.invariant.1)
