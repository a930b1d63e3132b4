use Rattle.act_code_ends.proofs.Common.{◌≡◌, AreEnds}
use Rattle.act_code_ends.proofs.ends.explore.Given as goal

-- what was found so far are ends
abbrev pub invariant-loop : goal.invariant-loop
invariant-loop g l = (l.ends.opened ≡ l.initial.ends.opened)
    × AreEnds g.K.Actor.state (g.M.Codes.makes l.codes) g.C.Code.tells (g.O.Opening.casts l.opening) l.ends.found.items
