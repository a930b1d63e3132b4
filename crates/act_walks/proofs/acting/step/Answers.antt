use Rattle.act_walks.proofs.Common.{◌<◌, Some, length, refl, ap, sym, ◌∙◌, subst, arith, get_or, slice_get-get_or, Parts, parts_of, TriesStep}
use Rattle.act_walks.proofs.Shown.{read_at, read_none}
use Rattle.act_walks.proofs.Steps.{steps_are, last_step, step_waits, step_taken}
use Rattle.act_walks.proofs.acting.step.Goals as goal

pub returns-in_default-get : goal.returns-in_default-get
returns-in_default-get g c =
    let valid = c.number-slot.ensures.valid in let value = c.number-slot.ensures.value in let within : c.args.c < length c.args.walk.now.done = omega arith in
    let n = get_or c.args.walk.now.done c.number-slot.result 0 in
    last_step c.args.end.now c.args.c n (parts_of g.K.Actor.state c.args.walk.now)
    (steps_are c.args.end.now c.args.c
    (read_at c.deref.ensures.value c.number-slot.ensures.value c.in-Some.ensures.lookup.0 c.in-Some.ensures.lookup.1) c.in-Some-steps.is)
    (slice_get-get_or c.args.walk.now.done c.args.c 0 within ∙ ap (λ m. Some (get_or c.args.walk.now.done m 0)) (sym c.number-slot.ensures.value))
    (read_none n n c.deref-2.ensures.value refl c.in_default-get.ensures.lookup.0)

pub returns-then-not-branch : goal.returns-then-not-branch
returns-then-not-branch g c =
    let valid = c.number-slot.ensures.valid in let value = c.number-slot.ensures.value in let within : c.args.c < length c.args.walk.now.done = omega arith in
    let n = get_or c.args.walk.now.done c.number-slot.result 0 in let old : Parts = parts_of g.K.Actor.state c.args.walk.now in
    let new : Parts = parts_of g.K.Actor.state c.do_step.new.walk in
    step_waits c.args.end.now c.args.c n old new
    (steps_are c.args.end.now c.args.c
    (read_at c.deref.ensures.value c.number-slot.ensures.value c.in-Some.ensures.lookup.0 c.in-Some.ensures.lookup.1) c.in-Some-steps.is)
    (slice_get-get_or c.args.walk.now.done c.args.c 0 within ∙ ap (λ m. Some (get_or c.args.walk.now.done m 0)) (sym c.number-slot.ensures.value))
    (read_at {n = n} {m = n} c.deref-2.ensures.value refl c.in-Some-get.ensures.lookup.0 c.in-Some-get.ensures.lookup.1)
    (subst (λ b. TriesStep c.args.c c.in-Some-get.step.now old new b) c.if-not-branch.true c.in_ok-do_step.ensures)

pub returns : goal.returns
returns g c =
    let valid = c.number-slot.ensures.valid in let value = c.number-slot.ensures.value in let within : c.args.c < length c.args.walk.now.done = omega arith in
    let n = get_or c.args.walk.now.done c.number-slot.result 0 in let old : Parts = parts_of g.K.Actor.state c.args.walk.now in
    let new : Parts = parts_of g.K.Actor.state c.do_step.new.walk in
    step_taken c.args.end.now c.args.c n old new c.number-slot.ensures.value
    (steps_are c.args.end.now c.args.c
    (read_at c.deref.ensures.value c.number-slot.ensures.value c.in-Some.ensures.lookup.0 c.in-Some.ensures.lookup.1) c.in-Some-steps.is)
    (slice_get-get_or c.args.walk.now.done c.args.c 0 within ∙ ap (λ m. Some (get_or c.args.walk.now.done m 0)) (sym c.number-slot.ensures.value))
    (read_at {n = n} {m = n} c.deref-2.ensures.value refl c.in-Some-get.ensures.lookup.0 c.in-Some-get.ensures.lookup.1)
    (subst (λ b. TriesStep c.args.c c.in-Some-get.step.now old new b) c.if-not-branch.false c.in_ok-do_step.ensures)
