use Rattle.act_owner.proofs.Common.{◌≡◌, ◌∙◌, ap, sym, length, Err, ◌++◌, ◌∷◌, [], ActorDied, after_keep, unanswered_row, answered_row}
use Rattle.act_owner.proofs.Answers.{keep_last}
use Rattle.act_owner.proofs.owner.enter.Goals as goal

pub returns-then-is_dead-clause-rows : goal.returns-then-is_dead-clause-rows
returns-then-is_dead-clause-rows c =
    let rows = c.args.table.now.rows in
    let entered : c.enter_reserved-k.new.self.rows ≡ rows ++ unanswered_row c.args.a ∷ [] = c.enter_reserved-k.ensures.rows in
    let place : c.enter_reserved-k.result ≡ length rows = c.enter_reserved-k.ensures.future in
    c.keep.ensures.rows
    ∙ ap (λ k. after_keep k (Err ActorDied) c.enter_reserved-k.new.self.rows) place
    ∙ ap (after_keep (length rows) (Err ActorDied)) entered
    ∙ keep_last rows c.args.a
    ∙ ap (λ dead. rows ++ answered_row c.args.a dead ∷ []) (sym c.if-is_dead.true)
