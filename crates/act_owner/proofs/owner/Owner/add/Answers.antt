use Rattle.std.proofs.Common.{◌∙◌, sym}
use Rattle.act_owner.proofs.Calls.{submitted_fine}
use Rattle.act_owner.proofs.owner.Owner.add.Goals as goal

pub invariant_of-self-3 : goal.invariant_of-self-3
invariant_of-self-3 c =
    let inside = c.self.inside in let given = c.unwrap-number.ensures in
    submitted_fine c.args.a c.args.method c.args.args c.is_dead-is_dead.result c.number.new.self
    c.self.invariant (sym given ∙ c.number.ensures.value) (rw given at c.number.ensures.ok) (rw given at c.number.ensures.counted)
    c.reserve.ensures.items c.reserve-2.ensures.rows c.reserve_one.ensures.calls
    c.push_reserved.ensures.items c.enter-k.ensures.rows c.enter_call.ensures
