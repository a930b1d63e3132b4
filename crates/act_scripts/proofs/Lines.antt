-- Reading lines one after the other, as a loop does.
use Rattle.act_scripts.proofs.Common.{◌≡◌, ℕ, ◌+◌, List, ◌∷◌, Result, Err, refl, sym, ap, ◌∙◌, Wrong, ◌>>=◌, Form, Script, plain_at, spelled_from, line_added}
use Rattle.act_scripts.proofs.Common.{in_line, LineFault, Fails, FailsAt, fault_at_line}
use Rattle.act_rules.specs.Grammar.{line_at}
use Rattle.act_scripts.specs.declared.line.LineFault.TheVariants as faults

-- what a line's reading gives, and then that of the other lines
abbrev and_then : List Form → ℕ → List (List ℕ) → Result Script Wrong → Result Script (ℕ × Wrong)
and_then forms n lines read = in_line n read >>= λ next. spelled_from forms (n + 1) next lines

-- a line that is not short and plain adds nothing
pub not_plain : (forms : List Form) (n : ℕ) (script : Script) (line : List ℕ) (fault : LineFault) → Fails fault (plain_at line) →
    Fails fault (line_added forms script n line)
unfolding line_at
not_plain forms n script line faults.Memory fails = tt
not_plain forms n script line (faults.Wrong wrong) fails = rw fails refl

module _ (forms : List Form) (n : ℕ) (script : Script) (lines : List (List ℕ)) (line : List ℕ) (others : List (List ℕ))
    (total : Result Script (ℕ × Wrong)) (first : lines ≡ line ∷ others) (so_far : spelled_from forms n script lines ≡ total) where
  -- the first line is read, and then the others
  turn : (read : Result Script Wrong) → line_added forms script n line ≡ read → and_then forms n others read ≡ total
  turn read h = sym (ap (spelled_from forms n script) first ∙ ap (and_then forms n others) h) ∙ so_far

  pub ends : (fault : LineFault) → Fails fault (line_added forms script n line) → FailsAt (fault_at_line n fault) total
  ends faults.Memory h = tt
  ends (faults.Wrong wrong) h = sym (turn (Err wrong) h)
