use Rattle.act_console.proofs.Common.{◌≡◌, ◌≤◌, [], length, drop, rules, arith, subst, sym, IsAscii, drop_of_length-le}
use Rattle.act_console.proofs.tail.Tail.clear.Goals as goal

pub invariant_of-self : goal.invariant_of-self
invariant_of-self c =
    let all : length c.self.inside.bytes ≤ 128 = omega arith in
    let none : drop 128 c.self.inside.bytes ≡ [] = drop_of_length-le c.self.inside.bytes all in (omega arith, subst IsAscii (sym none) (search rules))

pub returns : goal.returns
returns c = let all : length c.self.inside.bytes ≤ 128 = omega arith in drop_of_length-le c.self.inside.bytes all
