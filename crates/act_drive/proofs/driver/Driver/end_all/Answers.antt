use Rattle.act_drive.proofs.Common.{rules, arith, ◌≡◌, ◌<◌, true, false, length, take, subst, All, HasEndedAt, take_all}
use Rattle.act_drive.proofs.Through.{through_more}
use Rattle.act_drive.proofs.Drivers.{stays_trans}
use Rattle.act_drive.proofs.Kills.{kills_long}
use Rattle.act_drive.proofs.driver.Driver.end_all.Goals as goal
use Rattle.act_drive.proofs.driver.Driver.end_all.Goals.{then-is_through, else-is_through}

pub end-is_ended-requires : goal.end-is_ended-requires
end-is_ended-requires g c = record { calling = c.loop-at.invariant.calling; below = omega (arith, kills_long _ _ c.loop-at.invariant.stay) }

pub loop-at-preserved : goal.loop-at-preserved
loop-at-preserved g c = record {
  calling = c.end-is_ended.ensures.calling;
  stay = stays_trans c.loop-at.invariant.stay c.end-is_ended.ensures.stays;
  through = λ both. elim c.if-is_through.branch [
    | then-is_through w ↦
        let was : c.loop-at.is_through ≡ true = search rules in let ended : c.end-is_ended.result ≡ true = search rules in
        let long = kills_long _ _ c.loop-at.invariant.stay in
        let below : c.loop-at.at < length c.loop-at.self.passes.kills.items = omega (arith, long) in
        through_more c.args.lines.now.controls.now c.loop-at.at below (c.end-is_ended.ensures.same ended) (c.loop-at.invariant.through was)
        (c.end-is_ended.ensures.through ended)
    | else-is_through w ↦ let bad : true ≡ false = search rules in absurd (cc bad)
  ];
}

pub returns-clause-through : goal.returns-clause-through
returns-clause-through g c = λ is.
    let kills = c.loop-at.self.passes.kills.items in let long = kills_long _ _ c.loop-at.invariant.stay in
    let whole : take c.loop-at.at kills ≡ kills = take_all c.loop-at.at kills (omega (arith, long)) in
    subst (λ l. All (HasEndedAt c.args.lines.now.controls.now c.loop-at.self.owner c.loop-at.self.passes) l) whole (c.loop-at.invariant.through is)
