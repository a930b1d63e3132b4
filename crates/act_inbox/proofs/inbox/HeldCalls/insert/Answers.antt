use Rattle.act_inbox.proofs.Common.{◌≡◌, ◌<◌, ℕ, Some, None, Result, Ok, Err, true, false, sym, ◌∙◌, subst, arith, is_err, OnOk, OnErr, refl, if◌then◌else◌}
use Rattle.act_inbox.proofs.Common.{slice_set, length-set, values, Packet, key_of, IsHeld, is_packet_of}
use Rattle.act_inbox.proofs.Keys.{key_of-set, key_of-kept, held_same, not_keyed, held_came, found_came, all_after}
use Rattle.act_inbox.proofs.inbox.HeldCalls.insert.Goals as goal

on_ok : {T E : Type 0} (r : Result T E) (P : Type 0) → is_err r ≡ false → OnOk r P → P
on_ok (Ok x) P e holds = holds
on_ok (Err y) P e holds = absurd (cc)

on_err : {T E : Type 0} (r : Result T E) (P : Type 0) → is_err r ≡ true → OnErr r P → P
on_err (Ok x) P e holds = absurd (cc)
on_err (Err y) P e holds = holds

pub invariant_of-self-then-is_err-2 : goal.invariant_of-self-then-is_err-2
invariant_of-self-then-is_err-2 c =
    let keys = c.self.inside.keys.items in
    let same = on_err c.insert.result _ (sym c.is_err-2.ensures.value ∙ c.if-is_err-2.true) c.insert.ensures.err in
    held_same c.reserve.new.self (slice_set keys c.number.result c.insert.new.self) c.self.invariant
    (λ key. rw c.reserve.ensures.rest_kept refl) (length-set _ _ _)
    (key_of-kept keys c.number.result c.index_mut-index.result.now c.insert.new.self
    (omega (arith, c.self.invariant.one_each)) c.index_mut-index.ensures.value same)

-- the call's index names the key that the slab gives next
keyed : (c : goal.After-insert_reserved) (caller number : ℕ) → key_of (slice_set c.self.inside.keys.items c.number.result c.insert.new.self) caller number ≡
    (if is_packet_of caller number c.args.packet then Some c.insert_reserved.result else key_of c.self.inside.keys.items caller number)
keyed c caller number =
    let keys = c.self.inside.keys.items in
    let updates = on_ok c.insert.result _ (sym c.is_err-2.ensures.value ∙ c.if-is_err-2.false) c.insert.ensures.updates in
    let same : c.vacant_key-key.result ≡ c.insert_reserved.result = c.vacant_key-key.ensures.value ∙ sym c.insert_reserved.ensures.key in
    rw (← c.number.ensures.value, ← same) (key_of-set keys c.number.result c.index_mut-index.result.now c.insert.new.self
    (omega (arith, c.self.invariant.one_each)) c.index_mut-index.ensures.value c.args.packet.number (Some c.vacant_key-key.result) updates caller number)

-- with room for one more packet the slab holds what it held
roomy : (c : goal.After-insert_reserved) → IsHeld c.reserve.new.self c.self.inside.keys.items
roomy c = held_same c.reserve.new.self c.self.inside.keys.items c.self.invariant (λ key. rw c.reserve.ensures.rest_kept refl) refl (λ _ _. refl)

view_same : (c : goal.After-insert_reserved) → c.args.self.now ≡ values c.reserve.new.self
view_same c = rw (← c.self.view_is, c.reserve.ensures.rest_kept) refl

absent : (c : goal.After-insert_reserved) → key_of c.self.inside.keys.items c.args.packet.caller c.args.packet.number ≡ None
absent c =
    not_keyed c.self.inside.packets c.self.inside.keys.items c.self.invariant c.args.packet.caller c.args.packet.number (rw (← c.self.view_is) at c.requires)

pub invariant_of-self-2 : goal.invariant_of-self-2
invariant_of-self-2 c =
    held_came c.reserve.new.self c.insert_reserved.new.self c.self.inside.keys.items
    (slice_set c.self.inside.keys.items c.number.result c.insert.new.self) c.args.packet c.insert_reserved.result
    (roomy c) (absent c) c.insert_reserved.ensures.was_vacant c.insert_reserved.ensures.updates (length-set _ _ _) (keyed c)

pub returns-clause-found : goal.returns-clause-found
returns-clause-found c =
    rw (view_same c) (found_came c.reserve.new.self c.insert_reserved.new.self c.self.inside.keys.items
    (slice_set c.self.inside.keys.items c.number.result c.insert.new.self) c.args.packet c.insert_reserved.result (roomy c)
    (absent c) c.insert_reserved.ensures.was_vacant c.insert_reserved.ensures.updates (length-set _ _ _) (keyed c))

pub returns-clause-numbered : goal.returns-clause-numbered
returns-clause-numbered c = λ small all. all_after c.reserve.new.self c.insert_reserved.new.self c.insert_reserved.result
    (Some c.args.packet) c.insert_reserved.ensures.updates (λ each. each.number < 65536)
    (λ each same. let one : c.args.packet ≡ each = cc in subst (λ (p : Packet). p.number < 65536) one small) (rw (view_same c) at all)
