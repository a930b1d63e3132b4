use Rattle.act_decisions.proofs.Common.{not_so}
use Rattle.act_decisions.proofs.Agreeing.{replies, told_not}
use Rattle.act_decisions.proofs.agreed.is_reply.Goals as goal

pub returns-then-not-are_words : goal.returns-then-not-are_words
returns-then-not-are_words c = λ front holds. replies front c.args.words.now c.in-Some.what.now c.in-Some.ensures
    (λ same. not_so (c.are_words.ensures.1 same) c.if-not-are_words.true) (λ same. told_not (c.are_words-then-not-are_words.ensures.1 same) holds)
