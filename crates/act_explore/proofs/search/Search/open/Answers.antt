use Rattle.act_explore.proofs.Common.{◌≡◌, ℕ, false, List, [], ap, subst, string_bytes, String, Global, BTreeSet, nat_cmp, list_any, slice_cmp, is_at}
use Rattle.act_explore.proofs.Common.{contains_text, left_of, HasPut}
use Rattle.act_explore.proofs.Putting.{put_first}
use Rattle.act_explore.proofs.search.Search.open.Goals as goal

nothing : (set : BTreeSet (String Global)) (key : List ℕ) → set.keys ≡ [] → contains_text set key ≡ false
nothing set key none = ap (list_any (is_at (λ k. slice_cmp nat_cmp key (string_bytes k)))) none

pub returns : goal.returns
returns c =
    let old = left_of (record { waiting = c.new.result; known = c.new-2.result }) in
    let new = left_of c.put.new.self in
    put_first old new (subst (λ l. HasPut l old new) c.new-3.ensures.items c.in_ok-put.ensures) (λ key. nothing c.new-2.result key c.new-2.ensures.empty)
