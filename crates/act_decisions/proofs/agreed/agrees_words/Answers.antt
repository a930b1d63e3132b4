use Rattle.act_decisions.proofs.Common.{◌++◌, ◌∙◌, sym, ap, append_assoc, map, subst, All, method_text, settled_text, with_spaces, IsReadable}
use Rattle.act_decisions.proofs.agreed.agrees_words.Goals as goal

pub returns : goal.returns
returns c = λ front holds.
    let run = c.args.run.now in (
      ap (λ l. front ++ l) (c.are_words.ensures.0 holds ∙ c.as_bytes.ensures.value ∙ c.in_ok-told.ensures)
          ∙ sym (append_assoc front (method_text run.method) (with_spaces (map settled_text run.args))),
      c.is_sayable_method.ensures c.if-not-is_sayable_method.false,
      subst (All IsReadable) c.as_slice.ensures (c.are_readable.ensures c.if-not-are_readable.false),
    )
