use Rattle.act_console.proofs.Common.{length, decimal, drop, ap, arith, length-append, length-drop, length-decimal-le, IsAscii-decimal, IsAscii-append}
use Rattle.act_console.proofs.tail.Tail.put_number.Goals as goal

pub write_digits-self-inside-requires : goal.write_digits-self-inside-requires
write_digits-self-inside-requires c =
    let digits = length-decimal-le 20 c.args.number (omega arith) (omega arith) (omega arith) in
    let size = length-drop c.self.inside.start c.self.inside.bytes in (omega (arith, digits, size, ap length c.self.view_is), omega arith)

pub invariant_of-self : goal.invariant_of-self
invariant_of-self c =
    let written = c.write_digits-self-inside.ensures.written in
    (omega (arith, c.write_digits-self-inside.ensures.start), rw written (IsAscii-append _ _ (IsAscii-decimal c.args.number (omega arith)) c.self.invariant.1))

pub returns-clause-short : goal.returns-clause-short
returns-clause-short c =
    let digits = length-decimal-le 20 c.args.number (omega arith) (omega arith) (omega arith) in
    let long = length-append (decimal c.args.number) (drop c.self.inside.start c.self.inside.bytes) in
    omega (arith, digits, long, ap length c.write_digits-self-inside.ensures.written, ap length c.self.view_is)
