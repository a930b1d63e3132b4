use Rattle.example_transfer.proofs.Common.{history}
use Rattle.example_transfer.proofs.SamePurse.{kept_if, none_kept}
use Rattle.example_transfer.proofs.together.Together.is_kept.Goals as goal

pub returns : goal.returns
returns c = λ casts events reached.
    kept_if c.args.self.now c.add_to.result
    (c.in-Some.ensures casts events reached) (c.in-Some-purse_in.ensures casts events reached) c.add_to.ensures

pub returns-in_default : goal.returns-in_default
returns-in_default c = λ casts events reached.
    none_kept c.args.self.now (history casts events) (λ held. c.in_default.ensures casts events reached held.one held.one_is)

pub returns-in_default-purse_in : goal.returns-in_default-purse_in
returns-in_default-purse_in c = λ casts events reached.
    none_kept c.args.self.now (history casts events) (λ held. c.in_default-purse_in.ensures casts events reached held.other held.other_is)
