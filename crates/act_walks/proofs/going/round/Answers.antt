use Rattle.act_walks.proofs.Common.{subst, Moves, NoActs, NoServings, NoMove, parts_of}
use Rattle.act_walks.proofs.Onward.{Nothing, moves_both}
use Rattle.act_walks.proofs.Rounds.{moves_two}
use Rattle.act_walks.proofs.going.round.Goals as goal

pub returns : goal.returns
returns g c =
    let end = c.args.end.now in
    let none : Nothing = λ told done h. NoActs end 16 told done h × NoServings 8 told done h in
    moves_both (NoMove end) (λ told done h one two. record { acts = one.0; servings = one.1; tells = two })
    (subst (λ b. Moves end none (parts_of g.K.Actor.state c.args.walk.now) (parts_of g.K.Actor.state c.serve_all.new.walk) b) c.if-moved.false
    (moves_two end none (λ told done h one two. (one, two)) c.in_ok-moved.ensures c.in_ok-moved-2.ensures))
    c.in_ok-has_heard.ensures
