use Rattle.act_world.proofs.Common.{refl, sym, ◌∙◌, arith}
use Rattle.act_world.proofs.Lawful.{world_lawful}
use Rattle.act_world.proofs.Collecting.{collected, collect_owned, late_follows, no_notice_follows, notice_unrefused, reply_takes}
use Rattle.act_world.proofs.Stepping.{refused_there, done_there, wanting_there}
use Rattle.act_world.proofs.network.Network.collect.Goals as goal

pub returns-in_default : goal.returns-in_default
returns-in_default c = refused_there _ _ _ _ refl refl (no_notice_follows c.args.self.now c.args.j c.in_default.ensures)

pub returns-in_default-place_of : goal.returns-in_default-place_of
returns-in_default-place_of c =
    let here = rw (← c.self.view_is) at c.in-Some.ensures in
    rw (← c.self.view_is) (refused_there _ _ _ _ refl refl (λ slots casts before refines. absurd
    (collect_owned _ slots c.args.j (world_lawful casts before) refines (sym here) (sym (rw c.deref.ensures.value at c.in_default-place_of.ensures)))))

pub returns-in-Late : goal.returns-in-Late
returns-in-Late c =
    let here = rw (← c.self.view_is) at c.in-Some.ensures in
    rw (← c.self.view_is) (done_there _ _ _ _ (λ slots casts before refines. late_follows _ slots c.args.j c.in-Some-place_of.place c.in-Late.k
    c.index.result.now (world_lawful casts before) refines (sym here)
    (record { place_is = sym (rw c.deref.ensures.value at c.in-Some-place_of.ensures); owner_is = c.index.ensures }) (sym c.in-Late.ensures)) (omega arith))

pub returns-in_err-notice : goal.returns-in_err-notice
returns-in_err-notice c =
    let here = rw (← c.self.view_is) at c.in-Some.ensures in
    rw (← c.self.view_is) (wanting_there _ _ _ _ _ c.from_residual.ensures.1 refl (notice_unrefused _ c.args.j here)
    (λ slots casts before refines. reply_takes _ slots c.args.j c.in-Some-place_of.place c.index.result.now (world_lawful casts before) refines (sym here)
    (record { place_is = sym (rw c.deref.ensures.value at c.in-Some-place_of.ensures); owner_is = c.index.ensures }) c.in_err-notice.ensures.memory_last
    (λ k late. c.in_default-collected.not-Late k (c.collected.ensures ∙ late))))

pub returns : goal.returns
returns c = rw (← c.self.view_is) (collected _ c.args.j c.in-Some-place_of.place c.in-Some.posted.now c.in_ok-notice.notice c.index_mut.result.now
    c.collect-collected.new.self c.collect-collected.result c.collect_outcome.result (rw (← c.self.view_is) at c.in-Some.ensures)
    (record { place_is = sym (rw c.deref.ensures.value at c.in-Some-place_of.ensures); owner_is = c.index_mut.ensures.value }) c.in_ok-notice.ensures.ok
    c.collect-collected.ensures.value c.collect-collected.ensures.after c.collect-collected.ensures.known c.collect_outcome.ensures.value
    c.collect_outcome.ensures.told)
