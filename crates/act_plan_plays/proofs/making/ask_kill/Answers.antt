use Rattle.act_plan_plays.proofs.Moving.{asked_more}
use Rattle.act_plan_plays.proofs.making.ask_kill.Goals as goal

pub returns-clause-does : goal.returns-clause-does
returns-clause-does g c = λ casts h behind asked.
    let done = c.in_ok-do_event.ensures.behind casts h behind in
    record {
      may = done.0;
      behind = done.2;
      asked = asked_more h c.args.c c.args.a c.args.played.now.asked.items c.add_actor.new.actors.items c.in_ok-add_actor.ensures asked;
    }
