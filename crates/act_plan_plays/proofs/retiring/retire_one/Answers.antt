use Rattle.act_plan_plays.proofs.Common.{◌≡◌, sym, ◌∙◌}
use Rattle.act_plan_plays.proofs.RetiredAll.{behind_of, retired_more, retired_before}
use Rattle.act_plan_plays.proofs.retiring.retire_one.Goals as goal

pub returns-then-not-is_live : goal.returns-then-not-is_live
returns-then-not-is_live g c = λ casts plans at end r.
    let is : c.unwrap-a.result ≡ c.args.number = rw c.unwrap-a.ensures at c.new.ensures.value in
    retired_before casts plans at end r is
    (sym c.is_live.ensures ∙ c.if-not-is_live.true)

pub returns : goal.returns
returns g c = λ casts plans at end r.
    let is : c.unwrap-a.result ≡ c.args.number = rw c.unwrap-a.ensures at c.new.ensures.value in
    let done = c.in_ok-do_event.ensures.behind casts end.history
    (behind_of at end r) in
    retired_more casts plans at end r is done.0 done.2
