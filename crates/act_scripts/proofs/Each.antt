-- Reading words one after the other, as a loop does.
use Rattle.act_scripts.proofs.Common.{◌≡◌, ℕ, ◌+◌, ◌<◌, ◌≤◌, List, [], ◌∷◌, ◌++◌, length, map, drop, get_or, Result, Ok, Err, Bor, refl, sym, ap, ◌∙◌}
use Rattle.act_scripts.proofs.Common.{append_assoc, add-one, drop-cons, drop_of_length-le, Wrong, LineFault, ◌>>=◌, Fails, each_at, append-nil}
use Rattle.act_scripts.specs.declared.line.LineFault.TheVariants as faults

-- the texts of borrowed words
abbrev pub texts : List (Bor (List ℕ)) → List (List ℕ)
texts ws = map (λ w. w.now) ws

-- what was read before, and what is still read
abbrev pub with_front : {A : Type 0} → List A → Result (List A) Wrong → Result (List A) Wrong
with_front front read = read >>= λ xs. Ok (front ++ xs)

regroup : {A : Type 0} (front : List A) (x : A) (read : Result (List A) Wrong) →
    with_front front (read >>= λ xs. Ok (x ∷ xs)) ≡ with_front (front ++ x ∷ []) read
regroup front x (Ok xs) = ap Ok (simp append_assoc)
regroup front x (Err w) = refl

-- one word is read, and then the others
turn : {A : Type 0} (f : List ℕ → Result A Wrong) (ws : List (Bor (List ℕ))) (i : ℕ) (d : Bor (List ℕ)) → i < length ws →
    each_at f (texts (drop i ws)) ≡ (f ((get_or ws i d).now) >>= λ x. each_at f (texts (drop (i + 1) ws)) >>= λ xs. Ok (x ∷ xs))
turn f ws i d lt = rw (add-one, drop-cons ws i d) refl

-- a word that is read joins those read before; with the words still to be read they make the same whole
pub goes_on : {A : Type 0} (f : List ℕ → Result A Wrong) (front : List A) (ws : List (Bor (List ℕ))) (i : ℕ) (d : Bor (List ℕ)) (x : A)
    (total : Result (List A) Wrong) → i < length ws → f ((get_or ws i d).now) ≡ Ok x → with_front front (each_at f (texts (drop i ws))) ≡ total →
    with_front (front ++ x ∷ []) (each_at f (texts (drop (i + 1) ws))) ≡ total
goes_on f front ws i d x total lt h so_far =
    sym (regroup front x (each_at f (texts (drop (i + 1) ws)))) ∙
    sym (ap (with_front front) (turn f ws i d lt ∙ ap (λ r. r >>= λ y. each_at f (texts (drop (i + 1) ws)) >>= λ xs. Ok (y ∷ xs)) h)) ∙ so_far

-- where reading the next word fails, reading all of them fails by the same fault
pub ends : {A : Type 0} (f : List ℕ → Result A Wrong) (e : LineFault) (front : List A) (ws : List (Bor (List ℕ))) (i : ℕ) (d : Bor (List ℕ)) (total : Result
    (List A) Wrong) → i < length ws → Fails e (f ((get_or ws i d).now)) → with_front front (each_at f (texts (drop i ws))) ≡ total → Fails e total
ends f faults.Memory front ws i d total lt h so_far = tt
ends f (faults.Wrong w) front ws i d total lt h so_far =
    sym so_far ∙ ap (with_front front) (turn f ws i d lt ∙ ap (λ r. r >>= λ y. each_at f (texts (drop (i + 1) ws)) >>= λ xs. Ok (y ∷ xs)) h)

-- where no word is left to be read, those read before are the whole
pub is_done : {A : Type 0} (f : List ℕ → Result A Wrong) (front : List A) (ws : List (Bor (List ℕ))) (i : ℕ) (total : Result (List A) Wrong) → length ws ≤ i →
    with_front front (each_at f (texts (drop i ws))) ≡ total → total ≡ Ok front
is_done f front ws i total le so_far = sym so_far ∙ ap (λ left. with_front front (each_at f (texts left))) (drop_of_length-le ws le) ∙ ap Ok (append-nil front)
