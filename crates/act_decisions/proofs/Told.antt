-- The lines that are told, one after the other.
use Rattle.act_decisions.proofs.Common.{◌≡◌, ℕ, List, [], ◌∷◌, ◌++◌, Bor, refl, sym, ap, ◌∙◌, flat_map, flat_map-append, append-nil, map-append, All-append}
use Rattle.act_decisions.proofs.Common.{All-cons, All-nil, told_line, IsToldAs, Make}
use Rattle.act_scripts.proofs.Each.{texts}
use Rattle.act_summaries.proofs.AsTheyStand.{told_of}

-- none yet
pub none : Make [] []
none = record { pairs = []; given = refl; told = All-nil (λ (pair : List ℕ × List ℕ). IsToldAs pair.0 pair.1); whole = refl }

-- one line more
pub one_more : (lines : List (Bor (List ℕ))) (line : Bor (List ℕ)) (told old new : List ℕ) → IsToldAs line.now told → new ≡ old ++ told_line told
    → Make (texts lines) old → Make (texts (lines ++ line ∷ [])) new
one_more lines line told old new as_told is so_far =
    let pair : List ℕ × List ℕ = (line.now, told) in
    record {
      pairs = so_far.pairs ++ pair ∷ [];
      given =
          map-append (λ (pair : List ℕ × List ℕ). pair.0) so_far.pairs (pair ∷ [])
          ∙ ap (λ front. front ++ line.now ∷ []) so_far.given
          ∙ sym (map-append (λ (line : Bor (List ℕ)). line.now) lines (line ∷ []));
      told = All-append (λ (pair : List ℕ × List ℕ). IsToldAs pair.0 pair.1) so_far.pairs (pair ∷ []) so_far.told
          (All-cons (λ (pair : List ℕ × List ℕ). IsToldAs pair.0 pair.1) pair [] as_told (All-nil (λ (pair : List ℕ × List ℕ). IsToldAs pair.0 pair.1)));
      whole =
          is
          ∙ ap (λ front. front ++ told_line told) so_far.whole
          ∙ ap (λ back. flat_map told_of so_far.pairs ++ back) (sym (append-nil (told_line told)))
          ∙ sym (flat_map-append told_of so_far.pairs (pair ∷ []));
    }
