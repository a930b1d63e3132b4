use Rattle.act_scripts.proofs.Common.{◌≡◌, map, drop, callers_at, some_callers_at}
use Rattle.act_scripts.proofs.Each.{with_front}
use Rattle.act_scripts.proofs.forms.callers_of.Given as goal

-- what was read so far, and what is still to be read
abbrev pub invariant-loop-word : goal.invariant-loop-word
invariant-loop-word l = with_front l.callers (callers_at (map (λ w. w.now) (drop l.word-index l.words))) ≡ some_callers_at (map (λ w. w.now) l.words)
