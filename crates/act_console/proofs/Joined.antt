-- What a joined run shows, as a summary tells it.
use Rattle.act_console.proofs.Common.{◌≡◌, ℕ, ◌==◌, List, [], ◌++◌, map, get_or, Some, None, option_map, ap, sym, ◌∙◌, append_assoc, position, flat_map, one_to}
use Rattle.act_console.proofs.Common.{numbered_lines, future_line, actor_lines, find-map, find-None, OwnerView, EndView, end_id, end_log, owner_of, end_of}
use Rattle.act_console.proofs.Common.{calls_of_owner, kept_of_owner, log_of_end, find_some, owner_lines, end_text}
use Rattle.act_console.specs.Threads.{owner_lines_in, end_lines_in, joined_summary}
use Rattle.act_console.proofs.Shown.{found_named}

-- ---- one caller, one actor

-- a caller that isn't there
pub no_owner : (owners : List OwnerView) (c : ℕ) {n : ℕ} → c ≡ n → owner_of c owners ≡ None → owner_lines_in owners n ≡ []
unfolding owner_lines_in
no_owner owners c is none =
    ap (owner_lines_in owners) (sym is) ∙ ap (λ owner. numbered_lines (future_line c (kept_of_owner owner)) 0 (calls_of_owner owner)) none

-- a caller that is there
pub one_owner : (owners : List OwnerView) {owner : OwnerView} (c : ℕ) {n : ℕ} → c ≡ n → owner_of c owners ≡ Some owner →
    owner_lines owner ≡ owner_lines_in owners n
unfolding owner_lines_in
one_owner owners {owner} c is found =
    ap (λ id. numbered_lines (future_line id owner.kept) 0 owner.calls) (found_named c owners owner found)
    ∙ ap (λ found. numbered_lines (future_line c (kept_of_owner found)) 0 (calls_of_owner found)) (sym found)
    ∙ ap (owner_lines_in owners) is

-- an actor that isn't there
pub no_end : (ends : List EndView) (a : ℕ) {n : ℕ} → a ≡ n → end_of a ends ≡ None → end_lines_in ends n ≡ []
unfolding end_lines_in
no_end ends a is none = ap (end_lines_in ends) (sym is) ∙ ap (λ end. actor_lines a (log_of_end end) (option_map end_text end)) none

-- an actor that is there
pub one_end : (ends : List EndView) (end : EndView) (a : ℕ) {n : ℕ} → a ≡ n → end_of a ends ≡ Some end →
    actor_lines a (end_log end) (Some (end_text end)) ≡ end_lines_in ends n
unfolding end_lines_in
one_end ends end a is found = ap (λ found. actor_lines a (log_of_end found) (option_map end_text found)) (sym found) ∙ ap (end_lines_in ends) is

-- ---- an actor's place

-- no actor is seen as this one
pub none_view : {X : Type 0} (seen : X → EndView) (a : ℕ) (xs : List X) → position (λ x. end_id (seen x) == a) xs ≡ None → end_of a (map seen xs) ≡ None
none_view seen a xs none = find-map (λ end. end_id end == a) seen xs ∙ ap (option_map seen) (find-None (λ x. end_id (seen x) == a) xs none)

-- the first that is seen as this one, at its place
pub one_view : {X : Type 0} (seen : X → EndView) (a : ℕ) (xs : List X) {i : ℕ} (d : X) → position (λ x. end_id (seen x) == a) xs ≡ Some i →
    end_of a (map seen xs) ≡ Some (seen (get_or xs i d))
one_view seen a xs {i} d some = find-map (λ end. end_id end == a) seen xs ∙ ap (option_map seen) (find_some (λ x. end_id (seen x) == a) xs d some).1

-- ---- all of them

-- two parts that were added one after the other
pub two_parts : (before head tail lines first whole : List ℕ) → first ≡ before ++ head → whole ≡ first ++ tail → head ++ tail ≡ lines → whole ≡ before ++ lines
two_parts before head tail lines first whole one two all = two ∙ ap (λ text. text ++ tail) one ∙ append_assoc before head tail ∙ ap (λ text. before ++ text) all

-- a text that was made part by part is the summary
pub both_parts : (owners : List OwnerView) (ends : List EndView) {empty : List ℕ} (first whole : List ℕ) → empty ≡ [] → first ≡ empty ++ flat_map
    (owner_lines_in owners) (one_to 16) → whole ≡ first ++ flat_map (end_lines_in ends) (one_to 8) → whole ≡ joined_summary owners ends
unfolding owner_lines_in end_lines_in joined_summary
both_parts owners ends first whole none one two =
    two ∙ ap (λ text. text ++ flat_map (end_lines_in ends) (one_to 8)) (one ∙ ap (λ text. text ++ flat_map (owner_lines_in owners) (one_to 16)) none)
