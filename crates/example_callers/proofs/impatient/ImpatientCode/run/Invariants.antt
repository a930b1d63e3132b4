use Rattle.example_callers.proofs.Common.{◌≡◌, ◌∷◌, ◌++◌, [], pop_call}
use Rattle.example_callers.proofs.impatient.ImpatientCode.run.Given as goal

-- its one call is submitted, and no kill is asked
abbrev pub invariant-loop : goal.invariant-loop
invariant-loop g l = ((g.S.Session.seen l.session).calls ≡ (g.S.Session.seen l.fn.session).calls ++ pop_call l.fn.self ∷ [])
    × ((g.S.Session.seen l.session).kills ≡ (g.S.Session.seen l.fn.session).kills)
