use Rattle.act_explore.proofs.Common.{Found, LeadsToEnd}
use Rattle.act_explore.proofs.Collecting.{found_last, found_before, all_more}
use Rattle.act_explore.proofs.exploring.CollectingVisit.visit.Goals as goal

pub returns-clause-passed : goal.returns-clause-passed
returns-clause-passed g c = λ is casts reached. found_last c.args.self.now.found.items (record { events = c.args.end.events }) c.in_ok-push.ensures.items

pub returns-clause-earlier : goal.returns-clause-earlier
returns-clause-earlier g c = λ casts events before. found_before (record { events = c.args.end.events }) c.in_ok-push.ensures.items before

pub returns-clause-keeps : goal.returns-clause-keeps
returns-clause-keeps g c = λ first casts plans leads reached before. all_more (λ (found : Found). LeadsToEnd casts plans found.events.items)
    c.args.self.now.found.items (record { events = c.args.end.events }) c.in_ok-push.ensures.items leads before
