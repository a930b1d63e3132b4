-- What holds of the items of a list, and of one more.
use Rattle.act_code_ends.proofs.Common.{◌≡◌, List, [], ◌++◌, Option, Some, None, option_to_list, sym, subst, All, IfSome, All-append, All-cons, All-nil}

-- it holds of the items of a list, and of one more, where there is one
pub one_more : {X : Type 0} (P : X → Type 0) (xs ys : List X) (item : Option X) → ys ≡ xs ++ option_to_list item → IfSome item P → All P xs → All P ys
one_more P xs ys item is holds all = subst (All P) (sym is) (All-append P xs (option_to_list item) all (alone item holds))
  where
    alone : (o : Option _) → IfSome o P → All P (option_to_list o)
    alone None fine = All-nil P
    alone (Some x) fine = All-cons P x [] fine (All-nil P)
