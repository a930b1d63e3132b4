use Rattle.act_orders.proofs.Common.{◌≡◌, ◌+◌, ◌-◌, arith, sym, subst, ap, ◌∙◌, Some, Run, IsUpTo, run_of}
use Rattle.act_orders.proofs.Lasting.{found_up_to, nothing_up_to}
use Rattle.act_orders.proofs.told.Told.last_run.Goals as goal

pub returns-then-count-eq0 : goal.returns-then-count-eq0
returns-then-count-eq0 c =
    let told = c.args.self.now in let k = c.runs_up_to-count.result in
    sym (nothing_up_to told k c.runs_up_to-count.ensures (λ i lt. absurd (omega (arith, lt, c.if-count-eq0.true))))

pub returns-then-run-actor : goal.returns-then-run-actor
returns-then-run-actor c =
    let told = c.args.self.now in let k = c.runs_up_to-count.result in let a = c.args.actor in
    let run : c.run-run.result ≡ run_of told (k - 1) = c.run-run.ensures in let one : k ≡ (k - 1) + 1 = omega (arith, c.if-count-eq0.false) in
    let up : IsUpTo told a ((k - 1) + 1) = subst (IsUpTo told a) one c.runs_up_to-count.ensures in
    ap (λ (r : Run). Some r.call) run
    ∙ sym (found_up_to told a (k - 1) up (omega (arith, up.most)) (ap (λ (r : Run). r.actor) (sym run) ∙ c.if-run-actor.true))

pub returns-else-run-actor : goal.returns-else-run-actor
returns-else-run-actor c =
    let told = c.args.self.now in let k = c.runs_up_to-count.result in let a = c.args.actor in
    let run : c.run-run.result ≡ run_of told (k - 1) = c.run-run.ensures in
    let actor : (run_of told (k - 1)).actor ≡ c.run-run.result.actor = ap (λ (r : Run). r.actor) (sym run) in
    let up = c.runs_up_to-count.ensures in
    sym (nothing_up_to told k up (λ i lt. let below = up.before (k - 1) (omega (arith, c.if-count-eq0.false)) in let rise =
    c.requires.run_actors i (k - 1) (omega (arith, lt)) (omega (arith, up.most, lt)) in omega (arith, below, rise, actor, c.if-run-actor.false)))
