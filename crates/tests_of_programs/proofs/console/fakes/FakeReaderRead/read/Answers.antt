use Rattle.std.proofs.Common.{◌≡◌, ℕ, ◌-◌, ◌<◌, ◌≤◌, List, [], ◌∷◌, ◌++◌, length, take, drop, slice_set, slice_index_or, refl, arith, rules, tests}
use Rattle.std.proofs.lemmas.List.{take_rest}
use Rattle.tests_of_programs.proofs.console.fakes.FakeReaderRead.read.Goals as goal

-- one byte goes from the text to the buffer
one_read : (xs buf : List ℕ) → 1 ≤ length xs → 0 < length buf → (xs ≡ take 1 (slice_set buf 0 (slice_index_or xs 0 0)) ++ take (length xs - 1) (drop 1 xs)) ×
    (◌≡◌ {A = ℕ} 1 0 → 0 < length (slice_set buf 0 (slice_index_or xs 0 0)) → take (length xs - 1) (drop 1 xs) ≡ [])
one_read [] buf h k = absurd (omega arith)
one_read (x ∷ xs) [] h k = absurd (omega arith)
one_read (x ∷ xs) (b ∷ bs) h k = (rw (take_rest (x ∷ xs) 1) refl, λ e l. absurd (omega arith))

pub returns-in-len1-up-clause-bytes : goal.returns-in-len1-up-clause-bytes
returns-in-len1-up-clause-bytes c = one_read c.args.self.now.rest.now c.args.buf.now c.in-len1-up.len_at_least (search (rules, tests))
