-- A table of answers by its places.
use Rattle.act_world.proofs.Common.{◌≡◌, ℕ, suc, ◌+◌, List, [], ◌∷◌, length, map, Some, refl, ap, ◌∙◌, arith, Option, slice_get, option_map, enumerate_from}
use Rattle.act_world.proofs.Common.{slice_get-map, Submission, Answer, History, calls_of, kept_of, first_answer, slice_get-enumerate_from}

table_from : (n : ℕ) (new : List (Option Answer)) (calls : List Submission) (G : ℕ × Submission → Option Answer) → length new ≡ length calls →
    ((j : ℕ) (x : Submission) → slice_get calls j ≡ Some x → slice_get new j ≡ Some (G (n + j, x))) → new ≡ map G (enumerate_from n calls)
table_from n [] [] G long h = refl
table_from n [] (x ∷ calls) G long h = absurd (cc)
table_from n (o ∷ new) [] G long h = absurd (cc)
table_from n (o ∷ new) (x ∷ calls) G long h =
    let none : n + 0 ≡ n = omega arith in
    let first : o ≡ G (n, x) = (let e : Some o ≡ Some (G (n + 0, x)) = h 0 x refl in let one : o ≡ G (n + 0, x) = cc in one ∙ ap (λ m. G (m, x)) none) in
    let rest : new ≡ map G (enumerate_from (n + 1) calls) = table_from (n + 1) new calls G (omega arith)
    (λ j y e. let more : n + suc j ≡ (n + 1) + j = omega arith in h (suc j) y e ∙ ap (λ m. Some (G (m, y))) more) in
    ap (λ answer. answer ∷ new) first ∙ ap (λ answers. G (n, x) ∷ answers) rest

-- a table as long as the calls, with at each place what the call there gives by it, is the list of what they give
pub table_is : (new : List (Option Answer)) (calls : List Submission) (G : ℕ × Submission → Option Answer) → length new ≡ length calls →
    ((j : ℕ) (x : Submission) → slice_get calls j ≡ Some x → slice_get new j ≡ Some (G (j, x))) → new ≡ map G (enumerate_from 0 calls)
table_is new calls G long h = table_from 0 new calls G long (λ j x e. let z : j ≡ 0 + j = omega arith in h j x e ∙ ap (λ m. Some (G (m, x))) z)

-- what is kept of a call that stands
pub kept_there : (h : History) (c j : ℕ) (x : Submission) → slice_get (calls_of c h) j ≡ Some x → slice_get (kept_of c h) j ≡ Some (first_answer h c (j, x))
kept_there h c j x e =
    let z : 0 + j ≡ j = omega arith in
    slice_get-map (first_answer h c) (enumerate_from 0 (calls_of c h)) j
    ∙ ap (λ o. option_map (first_answer h c) o) (slice_get-enumerate_from 0 (calls_of c h) j ∙ ap (λ o. option_map (λ y. (0 + j, y)) o) e)
    ∙ ap (λ m. Some (first_answer h c (m, x))) z
