-- What is asked of all items of a list, and of what is seen of them.
use Rattle.act_replay.proofs.Common.{◌↔◌, Bool, List, map, subst, arith, All, IsTrue, get_or-map, length-map, All-map}

-- what is asked of each item is asked of what is seen of it
pub over_map : {X Y : Type 0} (P : X → Type 0) (f : Y → X) (ys : List Y) (r : Bool) → (IsTrue r ↔ All (λ y. P (f y)) ys) → IsTrue r ↔ All P (map f ys)
over_map P f ys r tells = (
  λ holds. All-map P f ys (tells.0 holds),
  λ all. tells.1 (λ k d within. subst P (get_or-map f ys k d (f d) within) (all k (f d) (omega (arith, length-map ys f)))),
)
