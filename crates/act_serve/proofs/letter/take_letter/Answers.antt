use Rattle.act_serve.proofs.Common.{◌≡◌, IfOk, [], ◌∷◌, ◌++◌, ap, sym, ◌∙◌, subst, LiveView, Call, Note, ExecPasses, IsFed, IsServing, IsTracedSoFar, HasCome}
use Rattle.act_serve.proofs.Logs.{fed_note}
use Rattle.act_serve.proofs.Nexts.{came_some}
use Rattle.act_serve.proofs.Serving.{serving_in}
use Rattle.act_serve.proofs.Traces.{traced_letter}
use Rattle.act_serve.proofs.letter.take_letter.Goals as goal

pub returns-in-Some-Call-clause-came : goal.returns-in-Some-Call-clause-came
returns-in-Some-Call-clause-came g c =
    let letters = c.args.passes.now.letters.taken in let packet = c.in-Some-Call.packet in
    let taken : c.take_call.new.passes.letters.taken ≡ letters ++ Call packet ∷ [] = ap (λ p. p.taken) c.take_call.ensures.taken.0 ∙
    ap (λ p. p.taken) c.in-Some-Call.ensures.taken ∙ ap (λ x. letters ++ x ∷ []) c.in-Some-Call.field-0-is in
    subst (λ l. IfOk c.take_call.result
    (λ came. HasCome came letters l c.args.passes.now.notices.items c.take_call.new.passes.notices.items c.args.live.now c.take_call.new.live)) (sym taken)
    (c.take_call.ensures.came letters)

pub returns-in-Some-Call-clause-still : goal.returns-in-Some-Call-clause-still
returns-in-Some-Call-clause-still g c = came_some c.take_call.result c.args.passes.now.letters.taken
    (Call c.in-Some-Call.packet) _ _ _ _ _ (c.take_call.ensures.came c.args.passes.now.letters.taken)

pub returns-in-Some-Call-clause-serving : goal.returns-in-Some-Call-clause-serving
returns-in-Some-Call-clause-serving g c =
    let letters = c.args.passes.now.letters.taken in let packet = c.in-Some-Call.packet in
    let taken : c.take_call.new.passes.letters.taken ≡ letters ++ Call packet ∷ [] = ap (λ p. p.taken) c.take_call.ensures.taken.0 ∙
    ap (λ p. p.taken) c.in-Some-Call.ensures.taken ∙ ap (λ x. letters ++ x ∷ []) c.in-Some-Call.field-0-is in
    λ opening callers h.
    subst (λ l. IsServing g.K.Actor.state opening callers c.args.lines.now.replies.now l c.take_call.new.live c.take_call.new.passes.notices.items) (sym taken)
    (c.take_call.ensures.serving opening callers letters h)

pub returns-in-Some-Note-clause-serving : goal.returns-in-Some-Note-clause-serving
returns-in-Some-Note-clause-serving g c =
    let before = c.args.live.now in let after = c.released.new.self in let letters = c.args.passes.now.letters.taken in let note = c.in-Some-Note.note in
    let taken : c.try_take.new.pass.taken ≡ letters ++ Note note ∷ [] =
    ap (λ p. p.taken) c.in-Some-Note.ensures.taken ∙ ap (λ x. letters ++ x ∷ []) c.in-Some-Note.field-0-is in
    λ opening callers h.
    serving_in c.try_take.new.pass.taken c.released.ensures.same
    (λ who fed. subst (λ l. IsFed who l after) (sym taken) (subst (λ s. IsFed who (letters ++ Note note ∷ []) s) (sym c.released.ensures.same) (fed_note who
    letters note before after.inbox c.released.ensures.arrival c.released.ensures.calls.0 c.released.ensures.calls.1 c.released.ensures.notes fed)))
    h

pub returns-in-Some-Call-clause-traced : goal.returns-in-Some-Call-clause-traced
returns-in-Some-Call-clause-traced g c =
    let before = c.args.live.now in let passes = c.args.passes.now in let packet = c.in-Some-Call.packet in let lines = c.args.lines.now.replies.now in
    let between : ExecPasses = record passes { letters = c.try_take.new.pass } in
    let taken : c.try_take.new.pass.taken ≡ passes.letters.taken ++ Call packet ∷ [] =
    ap (λ p. p.taken) c.in-Some-Call.ensures.taken ∙ ap (λ x. passes.letters.taken ++ x ∷ []) c.in-Some-Call.field-0-is in
    let stamped = c.in-Some-Call.ensures.stamped in
    λ opening callers h lives so_far.
    c.take_call.ensures.traced opening callers passes.letters.taken h (sym taken)
    (traced_letter lines between (Call packet) stamped.0 taken stamped.1 (λ i. passes.kills) (λ i. passes.notices.items) lives so_far)

pub returns-in-Some-Note-clause-traced : goal.returns-in-Some-Note-clause-traced
returns-in-Some-Note-clause-traced g c =
    let before = c.args.live.now in let after = c.released.new.self in let passes = c.args.passes.now in let note = c.in-Some-Note.note in
    let lines = c.args.lines.now.replies.now in
    let between : ExecPasses = record passes { letters = c.try_take.new.pass } in
    let taken : c.try_take.new.pass.taken ≡ passes.letters.taken ++ Note note ∷ [] =
    ap (λ p. p.taken) c.in-Some-Note.ensures.taken ∙ ap (λ x. passes.letters.taken ++ x ∷ []) c.in-Some-Note.field-0-is in
    let stamped = c.in-Some-Note.ensures.stamped in
    λ opening callers h lives so_far.
    subst (λ (s : LiveView _). IsTracedSoFar s.id lines s.log between) (sym c.released.ensures.same)
    (traced_letter lines between (Note note) stamped.0 taken stamped.1 (λ i. passes.kills) (λ i. passes.notices.items) lives so_far)
