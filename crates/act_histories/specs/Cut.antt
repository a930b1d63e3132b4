-- Where the lines of what was left begin.
use Rattle.std.specs.Prelude.{ℕ, ◌==◌, ◌&&◌, ◌||◌, Bool, false, if◌then◌else◌, nat_le, List, [], ◌∷◌}

-- whether a line that begins here tells what was left: it begins with an `a` or a `c`, and then a digit
abbrev pub tells_left : List ℕ → Bool
tells_left [] = false
tells_left (letter ∷ []) = false
tells_left (letter ∷ digit ∷ more) = ((letter == 97) || (letter == 99)) && (nat_le 48 digit && nat_le digit 57)

-- what stands from the first such line on, where a line begins here or not
abbrev pub told_part : Bool → List ℕ → List ℕ
told_part begins [] = []
told_part begins (byte ∷ bytes) = if begins && tells_left (byte ∷ bytes) then byte ∷ bytes
    else told_part (byte == 10) bytes
