use Rattle.act_handles.proofs.Common.{◌≡◌, arith, ap, refl, rules, ◌+◌, Handle, given_of_all}
use Rattle.act_handles.proofs.Places.{change_fine, change_is, counted}
use Rattle.act_handles.proofs.handles.Handles.number.Goals as goal

pub invariant_of-self : goal.invariant_of-self
invariant_of-self c =
    let handle = c.index_mut-handle.result.now in
    let given : c.sum-numbers_given.result ≡ given_of_all c.deref.result.now = search rules in
    change_fine _ c.self.view_is c.self.invariant c.in_ok-place.ensures.place c.index_mut-handle.ensures.value refl
    (omega (arith, given, ap given_of_all c.deref.ensures.value))

pub returns-clause-ok : goal.returns-clause-ok
returns-clause-ok c =
    change_is (λ (handle : Handle). record handle { given = handle.given + 1 }) c.self.view_is c.in_ok-place.ensures.place c.index_mut-handle.ensures.value

pub returns-clause-counted : goal.returns-clause-counted
returns-clause-counted c =
    counted c.args.self.now c.self.inside.handles.items c.in_ok-place.place c.index_mut-handle.result.now _ c.self.view_is c.in_ok-place.ensures.place.below
    c.index_mut-handle.ensures.value refl
