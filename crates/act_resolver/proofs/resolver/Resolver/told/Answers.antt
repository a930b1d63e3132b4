use Rattle.act_resolver.proofs.Common.{◌≡◌, ◌∙◌, length, true, false, Some, refl, sym, ap, arith, subst, rules, slice_get, slice_set, length-set, IsTelling}
use Rattle.act_resolver.proofs.Common.{Row, calls_of, is_free, with_one_less, with_told, take_written_over}
use Rattle.act_resolver.proofs.Counting.{changed_is, found_at, length-calls, same_calls, told_start, told_step, waiter_entered, waiter_counted}
use Rattle.act_resolver.proofs.resolver.Resolver.told.Goals as goal

pub loop-waiter-init : goal.loop-waiter-init
loop-waiter-init c =
    let rows = c.self.inside.calls.items in let i = c.number-place.result in
    let found : Row = record {
      call = record { futures = c.call.inside.futures.value; answered = c.call.inside.answered; sent = c.call.inside.sent };
      missing = c.call.inside.missing;
    } in
    let lists : calls_of rows ≡ c.args.self.now.calls = ap (λ v. v.calls) c.self.view_is in
    let read : slice_get rows i ≡ Some found = found_at rows c.args.self.now.calls c.self.inside.calls.len i c.args.k found c.index_mut-call.result.now lists
    c.self.inside.calls.ok.0 c.number-place.ensures c.requires c.index_mut-call.ensures.value c.call.view_is in
    let start = told_start rows i found c.self.invariant read in
    record {
      telling = rw c.take_out.ensures (subst (λ k. IsTelling k (slice_set rows i (record found { call = record found.call { answered = true } }))
          c.self.inside.waiters.lists (slice_set c.self.inside.ready i false)) c.number-place.ensures start);
      calls = refl;
      calls_len = refl;
      calls_room = refl;
      future_room = refl;
      place_room = refl;
      ready_room = refl;
    }

pub tell_place-requires-clause-entered : goal.tell_place-requires-clause-entered
tell_place-requires-clause-entered c =
    rw c.deref_mut.ensures.value (waiter_entered _ c.in-Some.waiter (waiter_counted _ _ c.loop-waiter.invariant.telling (sym c.in-Some.ensures.value)))

pub tell_place-requires-clause-waits : goal.tell_place-requires-clause-waits
tell_place-requires-clause-waits c = rw c.deref_mut.ensures.value (waiter_counted _ _ c.loop-waiter.invariant.telling (sym c.in-Some.ensures.value))

pub loop-waiter-preserved : goal.loop-waiter-preserved
loop-waiter-preserved c =
    let rows = c.loop-waiter.self-inside.calls.items in let waiter = c.in-Some.waiter in let first = sym c.in-Some.ensures.value in
    let within = waiter_entered rows waiter (waiter_counted _ _ c.loop-waiter.invariant.telling first) in
    let less : c.tell_place.new.calls ≡ with_one_less rows waiter = c.tell_place.ensures.calls ∙ ap (λ rs. with_one_less rs waiter) c.deref_mut.ensures.value in
    let same : calls_of c.tell_place.new.calls ≡ calls_of rows = ap calls_of less ∙ same_calls rows within in
    let written = take_written_over rows c.tell_place.new.calls c.loop-waiter.self-inside.calls.ok.0
    (omega (arith, ap length same, length-calls rows, length-calls c.tell_place.new.calls)) in
    let ready : c.tell_place.new.ready ≡ slice_set c.loop-waiter.self-inside.ready waiter (is_free (with_one_less rows waiter) waiter) =
    c.tell_place.ensures.ready ∙ ap (λ rs. slice_set c.loop-waiter.self-inside.ready waiter (is_free rs waiter)) less in
    let step = told_step c.args.k rows waiter c.loop-waiter.invariant.telling first in
    record {
      telling = rw (written, less, ready, c.in-Some.ensures.lists) step;
      calls = rw written (same ∙ c.loop-waiter.invariant.calls);
      calls_len = search rules;
      calls_room = search rules;
      future_room = search rules;
      place_room = search rules;
      ready_room = search (rules, length-set);
    }

pub returns-clause-calls : goal.returns-clause-calls
returns-clause-calls c =
    let rows = c.self.inside.calls.items in let i = c.number-place.result in
    let found : Row = record {
      call = record { futures = c.call.inside.futures.value; answered = c.call.inside.answered; sent = c.call.inside.sent };
      missing = c.call.inside.missing;
    } in
    let lists : calls_of rows ≡ c.args.self.now.calls = ap (λ v. v.calls) c.self.view_is in
    let read : slice_get rows i ≡ Some found = found_at rows c.args.self.now.calls c.self.inside.calls.len i c.args.k found c.index_mut-call.result.now lists
    c.self.inside.calls.ok.0 c.number-place.ensures c.requires c.index_mut-call.ensures.value c.call.view_is in
    c.loop-waiter.invariant.calls
    ∙ changed_is rows i found (λ call. record call { answered = true }) read
    ∙ ap (λ n. with_told (calls_of rows) n) c.number-place.ensures
    ∙ ap (λ cs. with_told cs c.args.k) lists
