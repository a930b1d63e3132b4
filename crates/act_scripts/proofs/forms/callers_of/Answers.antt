use Rattle.act_scripts.proofs.Common.{rules, ◌≡◌, ℕ, ◌==◌, false, List, [], ◌∷◌, length, Bor, err_from_is_err_and, caller_at, callers_at, some_callers_at}
use Rattle.act_scripts.proofs.Each.{texts, with_front, goes_on, ends, is_done}
use Rattle.act_scripts.proofs.forms.callers_of.Goals as goal

-- words of which there are some spell callers as any words do
some : (words : List (Bor (List ℕ))) → (length words == 0) ≡ false → with_front [] (callers_at (texts words)) ≡ some_callers_at (texts words)
some [] none = absurd (cc)
some (word ∷ words) none = search rules

pub loop-word-init : goal.loop-word-init
loop-word-init c = rw c.in_ok-callers.ensures.none (some c.args.words.now (search rules))

pub loop-word-preserved : goal.loop-word-preserved
loop-word-preserved c =
    rw c.in_ok-push.ensures.ok
    (goes_on caller_at c.loop-word.callers c.args.words.now c.loop-word.word-index _ c.in_ok-caller_of.field-0 _
    c.loop-word-test.true c.in_ok-caller_of.ensures c.loop-word.invariant)

pub returns-in_err-caller_of : goal.returns-in_err-caller_of
returns-in_err-caller_of c =
    let p = err_from_is_err_and c.from_residual-in_err-caller_of.result c.from_residual-in_err-caller_of.ensures.1 in
    rw (p.1, p.2)
    (ends caller_at c.in_err-caller_of.field-0.0 c.loop-word.callers c.args.words.now c.loop-word.word-index _ _
    c.loop-word-test.true c.in_err-caller_of.ensures c.loop-word.invariant)

pub returns : goal.returns
returns c = is_done caller_at c.loop-word.callers c.args.words.now c.loop-word.word-index _ c.loop-word-test.false c.loop-word.invariant
