-- What is written of ends, one by one.
use Rattle.ray_explore.proofs.Common.{◌≡◌, ℕ, ◌+◌, ◌≤◌, Bool, true, List, [], ◌∷◌, ◌++◌, length-append, Option, inl, inr, refl, ap, sym, ◌∙◌, subst, arith}
use Rattle.ray_explore.proofs.Common.{TellsEnd, TellsNew, TellsEnds, TellsCount, TellsMore}

-- after what was written of some ends, what is written of one more
pub one_end_more : (script : List ℕ) (ends : List (List ℕ)) (lines : List ℕ) (first old new : Option (List ℕ)) → TellsEnds script ends first old →
    TellsEnd script lines old new → TellsEnds script (ends ++ lines ∷ []) first new
one_end_more script [] lines first old new told wrote = (new, subst (λ (bytes : Option (List ℕ)). TellsEnd script lines bytes new) told wrote, refl)
one_end_more script (one ∷ ends) lines first old new (mid, wrote_one, told) wrote = (mid, wrote_one, one_end_more script ends lines mid old new told wrote)

-- the same where they are counted
pub more : (script : List ℕ) (count after : ℕ) (first old new : Option (List ℕ)) → TellsCount script count first old → TellsMore script count after old new
    → TellsCount script after first new
more script count after first old new told (inl (stays, same)) = record {
  ends = told.ends;
  counted = told.counted ∙ sym stays;
  told = subst (TellsEnds script told.ends first) (sym same) told.told;
}
more script count after first old new told (inr (grows, lines, wrote)) = record {
  ends = told.ends ++ lines ∷ [];
  counted = length-append told.ends (lines ∷ []) ∙ ap (λ (n : ℕ). n + 1) told.counted ∙ sym grows;
  told = one_end_more script told.ends lines first old new told.told wrote;
}

-- one end more is written
pub one_more : (script seen lines : List ℕ) (count : ℕ) (is_new : Bool) (old new : Option (List ℕ)) → seen ≡ script → is_new ≡ true →
    TellsNew seen lines is_new old new → TellsMore script count (count + 1) old new
one_more script seen lines count is_new old new same fresh wrote =
    inr (refl, lines, subst (λ (s : List ℕ). TellsEnd s lines old new) same (subst (λ (b : Bool). TellsNew seen lines b old new) fresh wrote))

-- after a look there is at most one end more
pub at_most : (script : List ℕ) (count after counter : ℕ) (old new : Option (List ℕ)) → count ≤ counter → TellsMore script count after old new
    → after ≤ counter + 1
at_most script count after counter old new few (inl (stays, same)) = omega arith
at_most script count after counter old new few (inr (grows, lines, wrote)) = omega arith
