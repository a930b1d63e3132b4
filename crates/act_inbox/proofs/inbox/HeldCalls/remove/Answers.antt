use Rattle.act_inbox.proofs.Common.{◌≡◌, ◌<◌, ℕ, Some, None, sym, ◌∙◌, arith, refl, if◌then◌else◌, slice_set, length-set, key_of}
use Rattle.act_inbox.proofs.Keys.{is_same, is_same_itself, key_at, key_of-set, key_of-kept, names, held_same, none_held, one_held, held_gone, found_gone}
use Rattle.act_inbox.proofs.Keys.{all_after}
use Rattle.act_inbox.proofs.inbox.HeldCalls.remove.Goals as goal
use Rattle.act_inbox.proofs.inbox.HeldCalls.remove.Goals.{After-remove-2}

pub invariant_of-self : goal.invariant_of-self
invariant_of-self c =
    let keys = c.self.inside.keys.items in
    held_same c.self.inside.packets (slice_set keys c.number.result c.remove.new.self) c.self.invariant
    (λ key. refl) (length-set _ _ _)
    (key_of-kept keys c.number.result c.index_mut.result.now c.remove.new.self
    (omega (arith, c.self.invariant.one_each)) c.index_mut.ensures.value c.in_err-key.ensures.unchanged)

pub returns-in_err-key-clause-value : goal.returns-in_err-key-clause-value
returns-in_err-key-clause-value c =
    let keys = c.self.inside.keys.items in
    let at : key_of keys c.args.caller c.args.number ≡ None = key_at keys
    (omega (arith, c.self.invariant.one_each)) c.index_mut.ensures.value c.args.number c.number.ensures.value ∙ sym c.in_err-key.ensures.value in
    c.from_residual.ensures ∙ rw (← c.self.view_is) (sym (none_held c.self.inside.packets keys c.self.invariant c.args.caller c.args.number at))

pub returns-in_err-key-clause-gone : goal.returns-in_err-key-clause-gone
returns-in_err-key-clause-gone c =
    let keys = c.self.inside.keys.items in
    let at : key_of keys c.args.caller c.args.number ≡ None = key_at keys
    (omega (arith, c.self.invariant.one_each)) c.index_mut.ensures.value c.args.number c.number.ensures.value ∙ sym c.in_err-key.ensures.value in
    none_held c.self.inside.packets keys c.self.invariant c.args.caller c.args.number at

pub remove-requires-2 : goal.remove-requires-2
remove-requires-2 c = let named = names c.self.inside.packets c.self.inside.keys.items c.self.invariant c.args.caller c.args.number c.in_ok-key.key
    (key_at c.self.inside.keys.items (omega (arith, c.self.invariant.one_each)) c.index_mut.ensures.value c.args.number c.number.ensures.value ∙
    sym c.in_ok-key.ensures.value) in rw named.reached refl

-- the key of the call that goes
at : (c : After-remove-2) → key_of c.self.inside.keys.items c.args.caller c.args.number ≡ Some c.in_ok-key.key
at c = key_at c.self.inside.keys.items (omega (arith, c.self.invariant.one_each)) c.index_mut.ensures.value c.args.number c.number.ensures.value ∙
    sym c.in_ok-key.ensures.value

-- the call's index no longer names its key
unkeyed : (c : After-remove-2) (other count : ℕ) → key_of (slice_set c.self.inside.keys.items c.number.result c.remove.new.self) other count ≡
    (if is_same c.args.caller c.args.number other count then None else key_of c.self.inside.keys.items other count)
unkeyed c other count =
    rw (← c.number.ensures.value) (key_of-set c.self.inside.keys.items c.number.result c.index_mut.result.now c.remove.new.self
    (omega (arith, c.self.invariant.one_each)) c.index_mut.ensures.value c.args.number None c.remove.ensures.updates other count)

pub invariant_of-self-2 : goal.invariant_of-self-2
invariant_of-self-2 c =
    held_gone c.self.inside.packets c.remove-2.new.self c.self.inside.keys.items
    (slice_set c.self.inside.keys.items c.number.result c.remove.new.self) c.remove-2.result c.args.caller c.args.number c.in_ok-key.key
    c.self.invariant (at c) c.remove-2.ensures.value c.remove-2.ensures.updates (length-set _ _ _) (unkeyed c)

pub returns-clause-value : goal.returns-clause-value
returns-clause-value c = rw (← c.self.view_is)
    (sym (one_held c.self.inside.packets c.self.inside.keys.items c.self.invariant c.args.caller c.args.number (at c) c.remove-2.ensures.value))

pub returns-clause-others : goal.returns-clause-others
returns-clause-others c =
    rw (← c.self.view_is) (found_gone c.self.inside.packets c.remove-2.new.self c.self.inside.keys.items
    (slice_set c.self.inside.keys.items c.number.result c.remove.new.self) c.remove-2.result c.args.caller c.args.number c.in_ok-key.key c.self.invariant
    (at c) c.remove-2.ensures.value c.remove-2.ensures.updates (length-set _ _ _) (unkeyed c))

pub returns-clause-gone : goal.returns-clause-gone
returns-clause-gone c =
    none_held c.remove-2.new.self (slice_set c.self.inside.keys.items c.number.result c.remove.new.self) (invariant_of-self-2 c) c.args.caller c.args.number
    (rw (is_same_itself c.args.caller c.args.number) at (unkeyed c c.args.caller c.args.number))

pub returns-clause-numbered : goal.returns-clause-numbered
returns-clause-numbered c = λ all. all_after c.self.inside.packets c.remove-2.new.self c.in_ok-key.key None c.remove-2.ensures.updates
    (λ each. each.number < 65536) (λ each same. absurd (cc)) (rw (← c.self.view_is) at all)
