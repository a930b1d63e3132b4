use Rattle.act_serve.proofs.Common.{◌≡◌, NothingFollowsAnEnd, exec_clock, PassesOf, IsServing, IsTracedSoFar, endpoint_callers, IsUntaken, ExecPassesStay}
use Rattle.act_serve.proofs.turn.serve_by.Given as goal

abbrev pub invariant-loop : goal.invariant-loop
invariant-loop g l =
    let now = l.live in let before = l.initial.live in
    let replies = l.lines.replies.now in record {
      passes : PassesOf l.lines now.id now.log l.passes;
      id : now.id ≡ before.id;
      stay : ExecPassesStay l.initial.passes l.passes;
      serving : IsServing g.K.Actor.state (g.K.Actor.state before.state)
          (endpoint_callers replies l.initial.passes.notices.items) replies l.passes.letters.taken now l.passes.notices.items;
      untaken : IsUntaken l.passes.kills;
      last : NothingFollowsAnEnd now.log;
      traced : IsTracedSoFar now.id replies now.log l.passes;
    }

-- the deaths' stamp: what the clock shows
abbrev pub ghosts-tell_deaths : goal.ghosts-tell_deaths
ghosts-tell_deaths g a = record { stamp = exec_clock a.passes.now }
