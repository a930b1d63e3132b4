use Rattle.act_walks.proofs.Common.{world_view, replicate, Parts, parts_of}
use Rattle.act_walks.proofs.Wholly.{opened, no_steps_done, does_all, decides}
use Rattle.act_walks.proofs.walks.walk.Goals as goal

pub returns : goal.returns
returns g c =
    let old : Parts = record { world = world_view g.K.Actor.state c.args.world; events = c.new.result.items; done = replicate 17 0 } in
    let new : Parts = parts_of g.K.Actor.state c.go_far.new.walk in let end = c.args.end.now in
    record {
      accepted = λ casts reached. (c.in_ok-go_far.ensures.stands casts (opened end casts old.world old.events c.new.ensures.items reached)).behind.accepted;
      reached = λ casts reached. (c.in_ok-go_far.ensures.stands casts (opened end casts old.world old.events c.new.ensures.items reached)).behind.reached;
      does = λ done casts reached d steps is. does_all end old new c.in_ok-go_far.ensures done casts
          (opened end casts old.world old.events c.new.ensures.items reached) d steps is;
      decides = λ casts reached. decides end old new c.go_far.new.walk.is_done c.in_ok-go_far.ensures casts
          (opened end casts old.world old.events c.new.ensures.items reached) c.new.ensures.items no_steps_done;
    }
