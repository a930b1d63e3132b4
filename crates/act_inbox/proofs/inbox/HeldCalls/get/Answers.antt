use Rattle.act_inbox.proofs.Common.{◌≡◌, Some, None, sym, ◌∙◌, ap, arith, option_copied, option_and_then, get, key_of}
use Rattle.act_inbox.proofs.Keys.{key_at, finds, none_held}
use Rattle.act_inbox.proofs.inbox.HeldCalls.get.Goals as goal

pub returns-in_err-key : goal.returns-in_err-key
returns-in_err-key c =
    let keys = c.self.inside.keys.items in
    let at : key_of keys c.args.caller c.args.number ≡ None =
    key_at keys (omega (arith, c.self.invariant.one_each)) c.index.ensures c.args.number c.number.ensures.value ∙ sym c.in_err-key.ensures.value in
    ap option_copied c.from_residual.ensures ∙
    rw (← c.self.view_is) (sym (none_held c.self.inside.packets keys c.self.invariant c.args.caller c.args.number at))

pub returns : goal.returns
returns c =
    let packets = c.self.inside.packets in let keys = c.self.inside.keys.items in
    let at : key_of keys c.args.caller c.args.number ≡ Some c.in_ok-key.key =
    key_at keys (omega (arith, c.self.invariant.one_each)) c.index.ensures c.args.number c.number.ensures.value ∙ sym c.in_ok-key.ensures.value in
    rw (← c.self.view_is)
    (c.get-2.ensures ∙ sym (finds packets keys c.self.invariant c.args.caller c.args.number ∙ ap (option_and_then (λ key. get packets key)) at))
