-- The lines of a history that tell what was left.
use Rattle.std.specs.Prelude.{◌≡◌, ◌≢◌, ◌-◌, ◌++◌, ◌==◌, ◌||◌, ◌⊎◌, ℕ, Bool, true, false, List, [], All, codes, length, map, take, if◌then◌else◌}
use Rattle.std.specs.List.{flat_map, ends_with}
use Rattle.act_rules.specs.Grammar.{is_skipped, lines_in}
use Rattle.act_rules.specs.Report.{line}

-- a line with its end, and nothing where it is skipped
abbrev pub told_line : List ℕ → List ℕ
told_line text = if is_skipped text then [] else line text

-- the lines that are not skipped
abbrev pub told_lines : List ℕ → List ℕ
told_lines bytes = flat_map told_line (lines_in bytes)

abbrev pub ends_in : List ℕ → List ℕ → Bool
ends_in end text = ends_with (λ a b. a == b) text end

-- whether a line ends in a mark, which leaves open what stands there: an answer, or a state
abbrev pub is_open : List ℕ → Bool
is_open text = ends_in (codes " = *") text || ends_in (codes " live ?") text || ends_in (codes " retired ?") text

-- something of the same line stands in the place of the mark
pub record IsFilledIn (text told : List ℕ) : Type 0 where
  pub marked : is_open text ≡ true
  pub what : List ℕ
  pub of_one_line : All (λ b. b ≢ 10) what
  pub filled : told ≡ take (length text - 1) text ++ what

-- the line as it stands, or with its mark filled in
abbrev pub IsToldAs : List ℕ → List ℕ → Type 0
IsToldAs text told = (told ≡ text) ⊎ IsFilledIn text told

-- those of the lines that are not skipped make this text, each as it is told
pub record Make (lines : List (List ℕ)) (text : List ℕ) : Type 0 where
  pub pairs : List (List ℕ × List ℕ)
  pub given : map (λ pair. pair.0) pairs ≡ lines
  pub told : All (λ pair. IsToldAs pair.0 pair.1) pairs
  pub whole : text ≡ flat_map (λ pair. told_line pair.1) pairs

-- the lines of these bytes make this text
abbrev pub AreTold : List ℕ → List ℕ → Type 0
AreTold bytes text = Make (lines_in bytes) text

-- where no line has a mark, the text is the lines that are not skipped
abbrev pub AreToldAsTheyStand : Type 0
AreToldAsTheyStand = (bytes text : List ℕ) → All (λ line. is_open line ≡ false) (lines_in bytes) → AreTold bytes text →
    text ≡ told_lines bytes
