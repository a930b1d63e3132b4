use Rattle.act_serve.proofs.Common.{ap, sym, ◌∙◌, subst, Letter, TakerView, IsServing, HasCome, Nothing}
use Rattle.act_serve.proofs.Nexts.{idle_turn}
use Rattle.act_serve.proofs.turn.take_turn.Goals as goal

pub returns-in-Err-clause-serving : goal.returns-in-Err-clause-serving
returns-in-Err-clause-serving g c = c.take_letter.ensures.serving

pub returns-in-Ok-Ran-clause-serving : goal.returns-in-Ok-Ran-clause-serving
returns-in-Ok-Ran-clause-serving g c = c.take_letter.ensures.serving

pub returns-in-Err-run_one-clause-serving : goal.returns-in-Err-run_one-clause-serving
returns-in-Err-run_one-clause-serving g c = λ opening callers h. subst (λ l. IsServing g.K.Actor.state opening callers c.args.lines.now.replies.now l
    c.run_one.new.live c.run_one.new.passes.notices.items) (sym (ap (λ (p : TakerView Letter (Unit {0})). p.taken) c.run_one.ensures.taken.0))
    (c.run_one.ensures.serving opening callers c.take_letter.new.passes.letters.taken (c.take_letter.ensures.serving opening callers h))

pub returns-in-Ok-clause-serving : goal.returns-in-Ok-clause-serving
returns-in-Ok-clause-serving g c = λ opening callers h. subst (λ l. IsServing g.K.Actor.state opening callers c.args.lines.now.replies.now l c.run_one.new.live
    c.run_one.new.passes.notices.items) (sym (ap (λ (p : TakerView Letter (Unit {0})). p.taken) c.run_one.ensures.taken.0))
    (c.run_one.ensures.serving opening callers c.take_letter.new.passes.letters.taken (c.take_letter.ensures.serving opening callers h))

pub returns-in-Err-run_one-2-clause-serving : goal.returns-in-Err-run_one-2-clause-serving
returns-in-Err-run_one-2-clause-serving g c =
    λ opening callers h. subst (λ l. IsServing g.K.Actor.state opening callers c.args.lines.now.replies.now l c.run_one-in-Ok-Nothing.new.live
    c.run_one-in-Ok-Nothing.new.passes.notices.items) (sym (ap (λ (p : TakerView Letter (Unit {0})). p.taken) c.run_one-in-Ok-Nothing.ensures.taken.0))
    (c.run_one-in-Ok-Nothing.ensures.serving opening callers c.take_letter.new.passes.letters.taken (c.take_letter.ensures.serving opening callers h))

pub returns-then-ran-clause-serving : goal.returns-then-ran-clause-serving
returns-then-ran-clause-serving g c =
    λ opening callers h. subst (λ l. IsServing g.K.Actor.state opening callers c.args.lines.now.replies.now l c.run_one-in-Ok-Nothing.new.live
    c.run_one-in-Ok-Nothing.new.passes.notices.items) (sym (ap (λ (p : TakerView Letter (Unit {0})). p.taken) c.run_one-in-Ok-Nothing.ensures.taken.0))
    (c.run_one-in-Ok-Nothing.ensures.serving opening callers c.take_letter.new.passes.letters.taken (c.take_letter.ensures.serving opening callers h))

pub returns-else-ran-clause-serving : goal.returns-else-ran-clause-serving
returns-else-ran-clause-serving g c =
    λ opening callers h. subst (λ l. IsServing g.K.Actor.state opening callers c.args.lines.now.replies.now l c.run_one-in-Ok-Nothing.new.live
    c.run_one-in-Ok-Nothing.new.passes.notices.items) (sym (ap (λ (p : TakerView Letter (Unit {0})). p.taken) c.run_one-in-Ok-Nothing.ensures.taken.0))
    (c.run_one-in-Ok-Nothing.ensures.serving opening callers c.take_letter.new.passes.letters.taken (c.take_letter.ensures.serving opening callers h))

pub returns-else-ran-clause-idle : goal.returns-else-ran-clause-idle
returns-else-ran-clause-idle g c = λ _.
    let replies = c.args.lines.now.replies.now in let before = c.args.live.now in let between = c.take_letter.new.live in
    let after = c.run_one-in-Ok-Nothing.new.live in
    let none : HasCome Nothing c.args.passes.now.letters.taken c.take_letter.new.passes.letters.taken c.args.passes.now.notices.items
    c.take_letter.new.passes.notices.items before between = rw c.in-Ok-Nothing.field-0-is at c.in-Ok-Nothing.ensures.came in
    let still = idle_turn replies before after (c.in-Ok-Nothing.ensures.still c.in-Ok-Nothing.field-0-is) none
    (rw c.if-ran.false at c.in-Ok-run_one.ensures.gone) in
    (c.run_one-in-Ok-Nothing.ensures.taken.0 ∙ still.0, still.1)

pub returns-in-Err-clause-traced : goal.returns-in-Err-clause-traced
returns-in-Err-clause-traced g c = c.take_letter.ensures.traced

pub returns-in-Ok-Ran-clause-traced : goal.returns-in-Ok-Ran-clause-traced
returns-in-Ok-Ran-clause-traced g c = c.take_letter.ensures.traced

pub returns-in-Err-run_one-clause-traced : goal.returns-in-Err-run_one-clause-traced
returns-in-Err-run_one-clause-traced g c = λ opening callers h lives so_far.
    c.run_one.ensures.traced opening callers (c.take_letter.ensures.serving opening callers h) (c.take_letter.ensures.traced opening callers h lives so_far)

pub returns-in-Ok-clause-traced : goal.returns-in-Ok-clause-traced
returns-in-Ok-clause-traced g c = λ opening callers h lives so_far.
    c.run_one.ensures.traced opening callers (c.take_letter.ensures.serving opening callers h) (c.take_letter.ensures.traced opening callers h lives so_far)

pub returns-in-Err-run_one-2-clause-traced : goal.returns-in-Err-run_one-2-clause-traced
returns-in-Err-run_one-2-clause-traced g c = λ opening callers h lives so_far. c.run_one-in-Ok-Nothing.ensures.traced opening callers
    (c.take_letter.ensures.serving opening callers h) (c.take_letter.ensures.traced opening callers h lives so_far)

pub returns-then-ran-clause-traced : goal.returns-then-ran-clause-traced
returns-then-ran-clause-traced g c = λ opening callers h lives so_far. c.run_one-in-Ok-Nothing.ensures.traced opening callers
    (c.take_letter.ensures.serving opening callers h) (c.take_letter.ensures.traced opening callers h lives so_far)

pub returns-else-ran-clause-traced : goal.returns-else-ran-clause-traced
returns-else-ran-clause-traced g c = λ opening callers h lives so_far. c.run_one-in-Ok-Nothing.ensures.traced opening callers
    (c.take_letter.ensures.serving opening callers h) (c.take_letter.ensures.traced opening callers h lives so_far)
