use Rattle.act_resolver.proofs.Common.{◌≡◌, ◌∙◌, ◌<◌, ◌^◌, length, get_or, ap, arith, w64, trailing_zeros, get_or_default_zero}
use Rattle.act_resolver.proofs.Levels.{first_bit, lowest_bit, word_within}
use Rattle.act_resolver.proofs.least.Level.first_in.Goals as goal

pub overflow_mul-result : goal.overflow_mul-result
overflow_mul-result c = let within = word_within c.args.self.now c.args.word c.requires.0 in omega (arith, within, c.self.invariant, ap length c.self.view_is)

pub returns : goal.returns
returns c =
    let words = c.self.inside.words.items in let n = c.index.result.now in let within = word_within c.args.self.now c.args.word c.requires.0 in
    let is : n ≡ get_or c.args.self.now c.args.word 0 = c.index.ensures ∙
    get_or_default_zero words c.args.word n (omega (arith, within, ap length c.self.view_is)) ∙ ap (λ ws. get_or ws c.args.word 0) c.self.view_is in
    let fits : get_or c.args.self.now c.args.word 0 < 2 ^ 64 = omega arith in
    let below : trailing_zeros w64 n < 64 = rw is (lowest_bit c.requires.0 fits).0 in
    record {
      first = first_bit c.args.self.now c.args.word c.requires fits (ap (trailing_zeros w64) is);
      few = omega (arith, within, below, c.self.invariant, ap length c.self.view_is);
    }
