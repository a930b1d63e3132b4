-- What contracts see of a line's passes.
use Rattle.std.specs.Prelude.{ℕ, List, []}
use Rattle.atomic_table.specs.Seated.{TableId}

-- a putter's pass: its line, its number, what it put, the stamp of each item that it put, and its label
pub record PutterView (T N : Type 0) : Type 0 where
  pub line : TableId
  pub number : ℕ
  pub put : List T
  pub stamps : List ℕ
  pub label : List N

-- the taker's pass: its line, the putters that have passes, what was taken, the stamp that each item taken was put
-- with, and its label
pub record TakerView (T N : Type 0) : Type 0 where
  pub line : TableId
  pub putters : List ℕ
  pub taken : List T
  pub stamps : List ℕ
  pub label : List N

-- a putter's pass that has put nothing
abbrev pub new_putter : {T N : Type 0} → TableId → ℕ → PutterView T N
new_putter line number = record { line = line; number = number; put = []; stamps = []; label = [] }

-- a taker's pass that has taken nothing
abbrev pub new_taker : {T N : Type 0} → TableId → List ℕ → TakerView T N
new_taker line putters = record { line = line; putters = putters; taken = []; stamps = []; label = [] }
