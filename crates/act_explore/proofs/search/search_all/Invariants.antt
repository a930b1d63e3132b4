use Rattle.act_explore.proofs.Common.{ℕ, List, Step, At, HoldPlans, left_of, HasSearched}
use Rattle.act_explore.proofs.search.search_all.Given as goal

-- the states so far were looked at, and what the visit kept it keeps
abbrev pub invariant-loop : goal.invariant-loop
invariant-loop g l = record {
  searched : (plans : ℕ → List Step) → HoldPlans (g.O.Opening.casts l.opening) plans l.setups →
      (seen : List At) × HasSearched (g.O.Opening.casts l.opening) plans (g.V.Visit.passed l.visit (g.O.Opening.casts l.opening)) (left_of l.search) seen;
  keeps : (first : g.row.V.Denot) (plans : ℕ → List Step) → HoldPlans (g.O.Opening.casts l.opening) plans l.setups →
      g.V.Visit.keeps first l.fn.visit (g.O.Opening.casts l.opening) plans → g.V.Visit.keeps first l.visit (g.O.Opening.casts l.opening) plans;
}
