-- Where the lines of what was left begin, line by line.
use Rattle.act_histories.proofs.Common.{◌≡◌, ◌≢◌, inl, inr, ℕ, ◌==◌, cond, true, false, List, [], ◌∷◌, ◌++◌, refl, sym, ap, ◌∙◌, append_assoc, tells_left}
use Rattle.act_histories.proofs.Common.{told_part}
use Rattle.std.proofs.lemmas.List.Elements.{All-tail}
use Rattle.act_decisions.proofs.Agreeing.{other_byte}
use Rattle.act_decisions.proofs.Exact.{IsOfOneLine, IsCut}

-- within a line nothing begins
inside : (line below : List ℕ) → IsOfOneLine line → told_part false (line ++ 10 ∷ below) ≡ told_part true below
inside [] below plain = refl
inside (b ∷ line) below plain =
    ap (λ begins. told_part begins (line ++ 10 ∷ below)) (other_byte b line plain) ∙ inside line below (All-tail (λ b. b ≢ 10) b line plain)

inside_last : (line : List ℕ) → IsOfOneLine line → told_part false line ≡ []
inside_last [] plain = refl
inside_last (b ∷ line) plain = ap (λ begins. told_part begins line) (other_byte b line plain) ∙ inside_last line (All-tail (λ b. b ≢ 10) b line plain)

-- a first line that tells nothing of what was left
first_line : (line below : List ℕ) → IsOfOneLine line → tells_left (line ++ 10 ∷ below) ≡ false → told_part true (line ++ 10 ∷ below) ≡ told_part true below
first_line [] below plain none = ap (λ tells. cond tells (10 ∷ below) (told_part true below)) none
first_line (b ∷ line) below plain none =
    ap (λ tells. cond tells (b ∷ line ++ 10 ∷ below) (told_part (b == 10) (line ++ 10 ∷ below))) none
    ∙ ap (λ begins. told_part begins (line ++ 10 ∷ below)) (other_byte b line plain) ∙ inside line below (All-tail (λ b. b ≢ 10) b line plain)

only_line : (line : List ℕ) → IsOfOneLine line → tells_left line ≡ false → told_part true line ≡ []
only_line [] plain none = refl
only_line (b ∷ line) plain none =
    ap (λ tells. cond tells (b ∷ line) (told_part (b == 10) line)) none
    ∙ ap (λ begins. told_part begins line) (other_byte b line plain) ∙ inside_last line (All-tail (λ b. b ≢ 10) b line plain)

-- what is left to look through
pub record IsLeft (bytes left : List ℕ) : Type 0 where
  pub front : List ℕ
  pub parts : bytes ≡ front ++ left
  pub told : told_part true bytes ≡ told_part true left

-- one line less
pub one_less : {bytes left : List ℕ} (line below : List ℕ) → IsOfOneLine line → IsCut left line below → tells_left left ≡ false → IsLeft bytes left →
    IsLeft bytes below
one_less line below plain (inl cut) none so_far = record {
  front = so_far.front ++ (line ++ 10 ∷ []);
  parts = so_far.parts ∙ ap (λ l. so_far.front ++ l) (cut ∙ sym (append_assoc line (10 ∷ []) below)) ∙ sym (append_assoc so_far.front (line ++ 10 ∷ []) below);
  told = so_far.told ∙ ap (told_part true) cut ∙ first_line line below plain (ap tells_left (sym cut) ∙ none);
}
one_less {left} line below plain (inr (all, empty)) none so_far = record {
  front = so_far.front ++ left;
  parts = so_far.parts ∙ (let e : so_far.front ++ left ≡ (so_far.front ++ left) ++ [] =
      sym (append_assoc so_far.front left [] ∙ ap (λ l. so_far.front ++ l) (append_none left)) in e) ∙ ap (λ l. (so_far.front ++ left) ++ l) (sym empty);
  told = so_far.told ∙ ap (told_part true) all ∙ only_line line plain (ap tells_left (sym all) ∙ none) ∙ sym (ap (told_part true) empty);
}
  where
    append_none : (l : List ℕ) → l ++ [] ≡ l
    append_none [] = refl
    append_none (b ∷ l) = ap (λ m. b ∷ m) (append_none l)

-- a line that tells what was left is where it begins
here : (left : List ℕ) → tells_left left ≡ true → told_part true left ≡ left
here [] tells = refl
here (b ∷ left) tells = ap (λ is. cond is (b ∷ left) (told_part (b == 10) left)) tells
