use Rattle.act_walks.proofs.Common.{refl}
use Rattle.act_walks.proofs.played.must_do.Goals as goal

pub returns : goal.returns
returns g c = record {
  does = record {
    events = c.in_ok-told.ensures.kept;
    done = refl;
    behind = λ casts h behind. let done = c.in_ok-told.ensures.behind casts h behind in (done.0, done.2);
  };
  says = λ casts h behind. (c.in_ok-told.ensures.behind casts h behind).1;
}
