use Rattle.act_explore.proofs.Common.{◌∷◌, subst, left_of, HasAdded}
use Rattle.act_explore.proofs.Looking.{looked_more}
use Rattle.act_explore.proofs.search.Search.look.Goals as goal

pub returns-clause-on : goal.returns-clause-on
returns-clause-on g c = λ is casts plans at seen stands quiescent made searched.
    let old = left_of c.args.self.now in let new = left_of c.add_all.new.self in let path = c.args.path.now in let choices = c.in_ok-choices.choices.items in
    let added : HasAdded path choices old new = subst (λ l. HasAdded path l old new) c.as_slice.ensures.value c.in_ok-add_all.ensures in (
      at ∷ seen,
      looked_more casts plans (g.V.Visit.passed c.args.visit.now casts) (g.V.Visit.passed c.visit_end.new.visit casts)
          (λ events before. c.in_ok-visit_end.ensures.earlier casts events before) old new path choices at seen searched added c.know_numbers.ensures
          (record { play = stands.play; quiescent = quiescent; made = made }) (c.in_ok-choices.ensures.runs casts plans at stands)
          (c.in_ok-choices.ensures.kills casts plans at stands)
          (λ done. c.visit_end.ensures.passed (cc (c.in_ok-visit_end.was, c.in-GoOn.is)) casts plans at stands done),
    )
