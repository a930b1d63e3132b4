-- The lines that are opened so far, for the casts or parts of a list, with their passes dealt to hands.
use Rattle.std.specs.Prelude.{◌≡◌, ℕ, List, [], ◌∷◌, length, map}
use Rattle.atomic_table.specs.Seated.{TableId}
use Rattle.act_executor.specs.declared.open.OpenedLines.{OpenedLines}
use Rattle.act_executor.specs.Groups.{endpoints_from, AreHands}

-- what is made of each line's id and of what the line is for
abbrev pub made_of : {F X : Type 0} → (TableId → F → X) → List TableId → List F → List X
made_of make [] given = []
made_of make (id ∷ ids) [] = []
made_of make (id ∷ ids) (one ∷ given) = make id one ∷ made_of make ids given

pub record AreMade {F L E P : Type 0} (id : L → TableId) (line : TableId → F → L) (end : TableId → F → E)
    (pass : TableId → ℕ → P) (number : P → ℕ) (names : F → List ℕ) (given : List F) (numbers : List ℕ)
    (opened : OpenedLines L E P) : Type 0 where
  pub long : length opened.lines.items ≡ length given
  pub lines : opened.lines.items ≡ made_of line (map id opened.lines.items) given
  pub ends : opened.ends.items ≡ made_of end (map id opened.lines.items) given
  pub hands : AreHands number numbers
      (endpoints_from pass 0 (map id opened.lines.items) (map names given)) opened.hands.items
