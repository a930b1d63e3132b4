-- What a search does next, and the circle that it may meet.
use Rattle.act_orders.proofs.Common.{◌≡◌, ℕ, ◌+◌, ◌-◌, ◌<◌, inl, inr, List, [], ◌∷◌, ◌++◌, length, drop, sym, ap, subst, ◌∙◌, arith, Option, Some, None}
use Rattle.act_orders.proofs.Common.{slice_get, Contains, length-append, length-drop, Contains-push_cases, slice_get_within, same_Some, Next, Finish, Pass}
use Rattle.act_orders.proofs.Common.{Happening, Told, Happened, IsCause, Graph, Needs, Standing, IsWhole, HasPlaces, graph_of, IsCircle, IsAtCause, IsNext}
use Rattle.act_orders.proofs.Common.{place_in, stands_in, slice_get_more, slice_get_last}
use Rattle.act_orders.proofs.Lists.{get_pushed, get_dropped}
use Rattle.act_orders.proofs.Causing.{needs_cause}

pub next_at : (g : Graph Happening) (marks : List ℕ) (path order : List Happening) (top : Happening) (m : ℕ) {cause : Happening} (next : Next) →
    slice_get (g.slots top) (m - 1) ≡ Some (Some cause) → IsAtCause g marks path order cause next → IsNext g marks path order top m next
next_at g marks path order top m Finish at is = absurd is
next_at g marks path order top m {cause} Pass at is = (
  slice_get_within (g.slots top) (m - 1) (Some cause) at,
  (λ u e node. let same : cause ≡ u = same_Some cause u (same_Some (Some cause) (Some u) (sym at ∙ e)) in
      subst (Contains order) same (is (subst g.IsNode (sym same) node))),
)
next_at g marks path order top m next at is = ((m - 1, at ∙ ap (λ x. Some (Some x)) (sym is.0)), is.1, is.2)

-- a slot without a cause
pub next_empty : (g : Graph Happening) (order : List Happening) (top : Happening) (m : ℕ) → slice_get (g.slots top) (m - 1) ≡ Some None →
    (m - 1 < length (g.slots top)) × ((u : Happening) → slice_get (g.slots top) (m - 1) ≡ Some (Some u) → g.IsNode u → Contains order u)
next_empty g order top m at = (
  slice_get_within (g.slots top) (m - 1) None at,
  (λ u e node. absurd (let no : None ≡ Some u = same_Some None (Some u) (sym at ∙ e) in cc)),
)

-- the rest of a list has only items of it
in_rest : {A : Type 0} (k : ℕ) (xs : List A) (v : A) → Contains (drop k xs) v → Contains xs v
in_rest k xs v has = let f = place_in (drop k xs) v has in stands_in xs (k + f.0) (sym (get_dropped k xs f.0) ∙ f.1)

pub circle_is : {told : Told} {places : List (Option ℕ)} (done : ℕ) {marks : List ℕ} {path order circle : List Happening} (top : Happening) {cause : Happening}
    (k : ℕ) → HasPlaces told told.runs places → IsWhole told → Standing (graph_of told places) done marks path order →
    slice_get path (length path - 1) ≡ Some top → Needs (graph_of told places) top cause → Happened told cause → slice_get path k ≡ Some cause →
    circle ≡ drop k path ++ cause ∷ [] → IsCircle told circle
circle_is {told} {places} done {path} {circle} top {cause} k at whole s last needs here there is =
    let rest = drop k path in let short : k < length path = slice_get_within path k cause there in
    let len : length circle ≡ length rest + 1 = ap length is ∙ length-append rest (cause ∷ []) in
    let first : slice_get rest 0 ≡ Some cause =
    get_dropped k path 0 ∙ (let e : k + 0 ≡ k = omega arith in ap (λ j. slice_get path j) e) ∙ there in
    let some : 0 < length rest = slice_get_within rest 0 cause first in
    let node : (v : Happening) → Contains path v → Happened told v = λ v on. (s.begun v on).0 in
    record {
      more = omega (arith, len, some);
      happened = λ v has. elim (Contains-push_cases rest cause v (subst (λ ws. Contains ws v) is has)) [
        | inl in' ↦ node v (in_rest k path v in')
        | inr e ↦ subst (Happened told) e here
      ];
      waits = λ i one next at_i at_next.
          elim (get_pushed rest cause i (ap (λ ws. slice_get ws i) (sym is) ∙ at_i)) [
            | inr h ↦ absurd (let w = slice_get_within circle (i + 1) next at_next in omega (arith, h.0, w, len))
            | inl h ↦
                let one_at : slice_get path (k + i) ≡ Some one = sym (get_dropped k path i) ∙ h.1 in
                let is_node = node one (stands_in path (k + i) one_at) in
                elim (get_pushed rest cause (i + 1) (ap (λ ws. slice_get ws (i + 1)) (sym is) ∙ at_next)) [
                  | inl j ↦
                      let e : k + (i + 1) ≡ k + i + 1 = omega arith in
                      let next_at' : slice_get path (k + i + 1) ≡ Some next =
                      ap (λ n. slice_get path n) (sym e) ∙ sym (get_dropped k path (i + 1)) ∙ j.1 in
                      needs_cause one next at whole is_node (s.chain (k + i) one next one_at next_at')
                  | inr j ↦
                      let e : length path - 1 ≡ k + i = omega (arith, j.0, length-drop k path, short) in
                      let same : top ≡ one = same_Some top one (sym last ∙ ap (λ n. slice_get path n) e ∙ one_at) in
                      subst (λ w. IsCause told w one) j.1
                      (needs_cause one cause at whole is_node (subst (λ w. Needs (graph_of told places) w cause) same needs))
                ]
          ];
      first = cause;
      begins = ap (λ ws. slice_get ws 0) is ∙ slice_get_more rest (cause ∷ []) 0 first;
      ends = let e : length circle - 1 ≡ length rest = omega (arith, len) in
          ap (λ ws. slice_get ws (length circle - 1)) is ∙ ap (λ n. slice_get (rest ++ cause ∷ []) n) e ∙ slice_get_last rest cause;
    }
