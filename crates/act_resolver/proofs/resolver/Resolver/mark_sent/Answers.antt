use Rattle.act_resolver.proofs.Common.{◌≡◌, ◌∙◌, true, Some, ap, slice_get, Row, calls_of, with_mark}
use Rattle.act_resolver.proofs.Counting.{changed_is, found_at, sent_fine}
use Rattle.act_resolver.proofs.resolver.Resolver.mark_sent.Goals as goal

pub invariant_of-self : goal.invariant_of-self
invariant_of-self c =
    let rows = c.self.inside.calls.items in let i = c.number-place.result in
    let found : Row = record {
      call = record { futures = c.call.inside.futures.value; answered = c.call.inside.answered; sent = c.call.inside.sent };
      missing = c.call.inside.missing;
    } in
    let lists : calls_of rows ≡ c.args.self.now.calls = ap (λ v. v.calls) c.self.view_is in
    let read : slice_get rows i ≡ Some found = found_at rows c.args.self.now.calls c.self.inside.calls.len i c.args.k found c.index_mut-call.result.now lists
    c.self.inside.calls.ok.0 c.number-place.ensures c.requires c.index_mut-call.ensures.value c.call.view_is in
    rw c.set.ensures (sent_fine rows i found c.self.invariant read)

pub returns-clause-calls : goal.returns-clause-calls
returns-clause-calls c =
    let rows = c.self.inside.calls.items in let i = c.number-place.result in
    let found : Row = record {
      call = record { futures = c.call.inside.futures.value; answered = c.call.inside.answered; sent = c.call.inside.sent };
      missing = c.call.inside.missing;
    } in
    let lists : calls_of rows ≡ c.args.self.now.calls = ap (λ v. v.calls) c.self.view_is in
    let read : slice_get rows i ≡ Some found = found_at rows c.args.self.now.calls c.self.inside.calls.len i c.args.k found c.index_mut-call.result.now lists
    c.self.inside.calls.ok.0 c.number-place.ensures c.requires c.index_mut-call.ensures.value c.call.view_is in
    changed_is rows i found (λ call. record call { sent = true }) read
    ∙ ap (λ n. with_mark (calls_of rows) n) c.number-place.ensures
    ∙ ap (λ cs. with_mark cs c.args.k) lists
