use Rattle.act_executor.proofs.Common.{ℕ, ◌==◌, ap, sym, ◌∙◌, Some, option_map, find_some, others_stay, find-None}
use Rattle.act_executor.proofs.work.take_code.Goals as goal

pub returns-in_err-place-clause-taken : goal.returns-in_err-place-clause-taken
returns-in_err-place-clause-taken g c =
    let none = sym (rw c.deref.ensures.value at c.in_err-place.ensures) in
    c.from_residual.ensures ∙
    sym (ap (option_map (λ (given : ℕ × _). given.1)) (find-None (λ (given : ℕ × _). given.0 == c.args.caller) c.args.codes.now.items none))

pub returns-clause-taken : goal.returns-clause-taken
returns-clause-taken g c =
    let some = sym (rw c.deref.ensures.value at c.in_ok-place.ensures) in
    let here = find_some (λ (given : ℕ × _). given.0 == c.args.caller) c.args.codes.now.items c.remove.result some in
    ap (λ (given : ℕ × _). Some given.1) c.remove.ensures.value ∙ sym (ap (option_map (λ (given : ℕ × _). given.1)) here.1)

pub returns-clause-others : goal.returns-clause-others
returns-clause-others g c =
    let some = sym (rw c.deref.ensures.value at c.in_ok-place.ensures) in
    λ m apart. rw c.remove.ensures.items (ap (option_map (λ (given : ℕ × _). given.1))
    (others_stay (λ (given : ℕ × _). given.0) c.args.caller c.args.codes.now.items c.remove.result some m apart))
