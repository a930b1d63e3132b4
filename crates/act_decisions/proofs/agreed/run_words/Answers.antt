use Rattle.act_decisions.proofs.Common.{◌++◌, ◌∙◌, ap, flat_map, space, method_text, settled_text}
use Rattle.act_decisions.proofs.Agreeing.{spaced}
use Rattle.act_decisions.proofs.agreed.run_words.Goals as goal

pub returns : goal.returns
returns c =
    let method = method_text c.args.run.now.method in
    c.in_ok-push_args.ensures
    ∙ ap (λ l. l ++ flat_map (λ arg. space ++ settled_text arg) c.as_slice.result.now) (c.in_ok-text.ensures.ok ∙ c.word.ensures)
    ∙ ap (λ args. method ++ flat_map (λ arg. space ++ settled_text arg) args) c.as_slice.ensures
    ∙ ap (λ l. method ++ l) (spaced c.args.run.now.args)
