use Rattle.act_decisions.proofs.Common.{List, subst, flat_map, IfSome, MAX_ACTORS, MAX_CALLERS, one_to, Stem, OfCall, placed, stems_of_actor, calls_told}
use Rattle.act_decisions.proofs.Common.{ends_told, AgreeUpTo}
use Rattle.act_decisions.proofs.Agreeing.{agree_on, agree_all}
use Rattle.act_decisions.proofs.agreed.agree.Goals as goal

pub returns-in-None : goal.returns-in-None
returns-in-None c = λ holds.
    let end = c.args.end.now in
    let callers : List Stem = flat_map (λ c. placed (OfCall c) 0 (calls_told end c)) (one_to MAX_CALLERS) in
    let actors : List Stem = flat_map (λ a. stems_of_actor a (ends_told end a)) (one_to MAX_ACTORS) in
    let mid = c.in-Some.left.now in let left = c.in-Some-2.left.now in
    let first = subst (λ o. IfSome o (λ left. AgreeUpTo callers c.args.rest.now left.now)) c.in-Some.is c.in_ok-left.ensures in
    let second = subst (λ o. IfSome o (λ left. AgreeUpTo actors mid left.now)) c.in-Some-2.is c.in_ok-left-2.ensures in
    agree_all _ left (agree_on first second) c.in-None.ensures
