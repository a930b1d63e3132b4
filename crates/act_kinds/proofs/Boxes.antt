-- A box that was lent, and came back.
use Rattle.act_kinds.proofs.Common.{◌≡◌, ◌∙◌, Result, Ok, Err, OnErr}
use Rattle.std.specs.declared.dyn_box.DynBox.{DynBox}

-- where the value behind the vtable came back as it was, the box is as it was
pub back_on_err : {X Z A E : Type 0} {F : X → Type 0} (box : DynBox X Z F) (i : X) (lent back : F i) (result : Result A E)
    → ◌≡◌ {A = (k : X) × F k} (i, lent) (box.vtable, box.value) → OnErr result (back ≡ lent)
    → OnErr result (◌≡◌ {A = DynBox X Z F} (record { ptr = box.ptr; vtable = i; alloc = box.alloc; value = back }) box)
back_on_err box i lent back (Ok value) is same = tt
back_on_err {X} {Z} {A} {E} {F} box i lent back (Err error) is same =
    ◌∙◌ {A = DynBox X Z F} (λ j. record { ptr = box.ptr; vtable = i; alloc = box.alloc; value = same j })
    (λ j. record { ptr = box.ptr; vtable = (is j).0; alloc = box.alloc; value = (is j).1 })
