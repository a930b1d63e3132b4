use Rattle.act_rules.specs.Laws.{history}
use Rattle.act_replay.proofs.Playing.{no_owner_in, owner_in}
use Rattle.act_replay.proofs.compared.has_owner.Goals as goal

pub returns-in-None : goal.returns-in-None
returns-in-None g c = λ casts events reached. no_owner_in (history casts events) c.id.result c.args.owner.now c.id.ensures
    (c.in-None.ensures.reached casts events reached)

pub returns-in-Some : goal.returns-in-Some
returns-in-Some g c = λ casts events reached. owner_in (history casts events) c.id.result c.args.owner.now c.in-Some.other.now c.same_owner.result c.id.ensures
    (c.in-Some.ensures.reached casts events reached) c.same_owner.ensures
