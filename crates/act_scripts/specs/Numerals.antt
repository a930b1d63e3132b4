-- How numerals begin.
use Rattle.std.specs.Prelude.{ℕ, List, Bool, false, length, slice_index, nat_le, ◌==◌, ◌&&◌, if◌then◌else◌}

-- whether a numeral of more than one digit begins so: with a digit that is not 0
abbrev pub begins_numeral : List ℕ → Bool
begins_numeral word = if length word == 0 then false
    else nat_le 49 (slice_index word 0) && nat_le (slice_index word 0) 57
