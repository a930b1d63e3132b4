-- What a change of the links does to the chains.
use Rattle.act_replies.proofs.Common.{◌≡◌, ◌≢◌, ℕ, ◌<◌, ◌≤◌, List, [], ◌∷◌, ◌++◌, length, map, take, drop, get_or, Bool, true, false, Option, Some, None, refl}
use Rattle.act_replies.proofs.Common.{sym, ◌∙◌, ap, subst, arith, slice_set, IfSome, is_some, not, get_or-map, get_or_default, length-map, length-set}
use Rattle.act_replies.proofs.Common.{set-get_or, map-set, map-append, map-set_same, Link, found_at, with_found, IsLastBelow, IsFirstAbove, linked_actors}
use Rattle.act_replies.proofs.Common.{before_of, after_of, IsLinked, take_written_over}
use Rattle.act_replies.proofs.Chains.{within, removed_last, removed_inner, pushed}

-- what is read of a link
pub read_link : (read : Link → Option ℕ) (items : List Link) {place : ℕ} {link : Link} → place < length items → link ≡ get_or items place link →
    found_at (map read items) place ≡ read link
read_link read items {place} {link} below is = get_or-map read items place link None below ∙ ap read (sym is)

-- the link of a future that waits no more
abbrev silent : Link → Link
silent link = record { actor = None; before = link.before; after = link.after }

-- the links after a future was taken out of its chain
pub record IsOut (items : List Link) (link : Link) (place : ℕ) (new : List Link) : Type 0 where
  pub actors : linked_actors new ≡ slice_set (linked_actors items) place None
  pub before : before_of new ≡ with_found (before_of items) link.after link.before
  pub after : after_of new ≡ with_found (after_of items) link.before link.after

pub taken_out : (items : List Link) {middle : List Link} (new : List Link) (place : ℕ) {n : ℕ} (link : Link) {here : Link} → n ≡ length items → here ≡ get_or
    items place here → middle ≡ slice_set items place (record { actor = None; before = here.before; after = here.after }) → linked_actors new ≡ linked_actors
    middle → before_of new ≡ with_found (before_of middle) link.after link.before → after_of new ≡ with_found (after_of middle) link.before link.after →
    IsOut items link place (take n (new ++ drop (length new) (slice_set items place (record { actor = None; before = here.before; after = here.after }))))
taken_out items {middle} new place {n} link {here} all here_is middle_is actors before after =
    let out = slice_set items place (silent here) in
    let as_many : length new ≡ length out =
    sym (length-map new (λ (l : Link). l.actor)) ∙ ap length actors ∙ length-map middle (λ (l : Link). l.actor) ∙ ap length middle_is in
    let before_same : before_of middle ≡ before_of items =
    ap before_of middle_is ∙ map-set_same (λ (l : Link). l.before) items place (silent here) here (ap (λ (l : Link). l.before) here_is) in
    let after_same : after_of middle ≡ after_of items =
    ap after_of middle_is ∙ map-set_same (λ (l : Link). l.after) items place (silent here) here (ap (λ (l : Link). l.after) here_is) in
    rw (take_written_over out new (all ∙ sym (length-set items place (silent here))) as_many) (record {
      actors = actors ∙ ap linked_actors middle_is ∙ map-set (λ (l : Link). l.actor) items place (silent here);
      before = before ∙ ap (λ l. with_found l link.after link.before) before_same;
      after = after ∙ ap (λ l. with_found l link.before link.after) after_same;
    })

-- what stands before and after a future that waits is in the list
pub before_within : (items : List Link) (last : List (Option ℕ)) {place a : ℕ} {link : Link} → IsLinked items last → place < length items →
    link ≡ get_or items place link → link.actor ≡ Some a → IfSome link.before (λ k. k < length items)
before_within items last {place} {a} {link} fine below is waits =
    let here : found_at (linked_actors items) place ≡ Some a = read_link (λ l. l.actor) items below is ∙ waits in
    let before : IsLastBelow (linked_actors items) a place link.before =
    subst (IsLastBelow (linked_actors items) a place) (read_link (λ l. l.before) items below is) (fine.befores place a here) in
    cases link.before before
  where
    cases : (o : Option ℕ) → IsLastBelow (linked_actors items) a place o → IfSome o (λ k. k < length items)
    cases None before = tt
    cases (Some k) before = omega (arith, before.0, below)

pub after_within : (items : List Link) (last : List (Option ℕ)) {place a : ℕ} {link : Link} → IsLinked items last → place < length items →
    link ≡ get_or items place link → link.actor ≡ Some a → IfSome link.after (λ k. k < length items)
after_within items last {place} {a} {link} fine below is waits =
    let here : found_at (linked_actors items) place ≡ Some a = read_link (λ l. l.actor) items below is ∙ waits in
    let after : IsFirstAbove (linked_actors items) a place link.after =
    subst (IsFirstAbove (linked_actors items) a place) (read_link (λ l. l.after) items below is) (fine.afters place a here) in
    cases link.after after
  where
    cases : (o : Option ℕ) → IsFirstAbove (linked_actors items) a place o → IfSome o (λ k. k < length items)
    cases None after = tt
    cases (Some k) after = omega (arith, within (linked_actors items) k a after.1, length-map items (λ (l : Link). l.actor))

same_length : (items : List Link) (read read2 : Link → Option ℕ) → length (map read items) ≡ length (map read2 items)
same_length items read read2 = length-map items read ∙ sym (length-map items read2)

pub removal_last : (items new : List Link) (last : List (Option ℕ)) {place a : ℕ} {link : Link} → IsLinked items last → place < length items → a < length last →
    link ≡ get_or items place link → link.actor ≡ Some a → link.after ≡ None → IsOut items link place new → IsLinked new (slice_set last a link.before)
removal_last items new last {place} {a} {link} fine below listed is waits none out =
    rw (out.actors, out.before, out.after)
    (removed_last last place a link.before link.after fine (same_length items (λ l. l.before) (λ l. l.actor))
    (same_length items (λ l. l.after) (λ l. l.actor)) listed (read_link (λ l. l.actor) items below is ∙ waits)
    (sym (read_link (λ l. l.before) items below is)) (sym (read_link (λ l. l.after) items below is)) none)

pub removal_inner : (items new : List Link) (last : List (Option ℕ)) {place a : ℕ} {link : Link} → IsLinked items last → place < length items →
    link ≡ get_or items place link → link.actor ≡ Some a → link.after ≢ None → IsOut items link place new → IsLinked new last
removal_inner items new last {place} {a} {link} fine below is waits some out =
    rw (out.actors, out.before, out.after)
    (removed_inner last place a link.before link.after fine (same_length items (λ l. l.before) (λ l. l.actor)) (same_length items (λ l. l.after) (λ l. l.actor))
    (read_link (λ l. l.actor) items below is ∙ waits) (sym (read_link (λ l. l.before) items below is)) (sym (read_link (λ l. l.after) items below is)) some)

-- a future that waits for no actor stays so
pub stays_out : (items : List Link) {actors : List (Option ℕ)} {place k : ℕ} {link : Link} → linked_actors items ≡ actors → place ≡ k → k < length actors →
    link ≡ get_or items place link → link.actor ≡ None → actors ≡ slice_set actors k None
stays_out items {actors} {place} {k} {link} same at below is none =
    let many : place < length items = omega (arith, at, below, ap length same, length-map items (λ (l : Link). l.actor)) in
    let found : found_at actors k ≡ None =
    ap (λ l. found_at l k) (sym same) ∙ ap (found_at (linked_actors items)) (sym at) ∙ read_link (λ l. l.actor) items many is ∙ none in
    sym (set-get_or actors k None) ∙ ap (slice_set actors k) found

-- a new future's link is the last one, and its actor the last actor
entered_last : (items : List Link) {middle : List Link} (new : List Link) {all : List Link} (n : ℕ) (link : Link) → n ≡ length items → middle ≡ items →
    linked_actors new ≡ linked_actors middle → all ≡ take n (new ++ drop (length new) items) ++ link ∷ [] → all ≡ new ++ link ∷ []
entered_last items {middle} new n link n_is middle_is actors_new all_is =
    let as_many : length new ≡ length items =
    sym (length-map new (λ (l : Link). l.actor)) ∙ ap length actors_new ∙ length-map middle (λ (l : Link). l.actor) ∙ ap length middle_is in
    all_is ∙ ap (λ l. l ++ link ∷ []) (take_written_over items new n_is as_many)

pub entered_actors : {items middle : List Link} (new : List Link) {all : List Link} {n : ℕ} (link : Link) → n ≡ length items → middle ≡ items → linked_actors
    new ≡ linked_actors middle → all ≡ take n (new ++ drop (length new) items) ++ link ∷ [] → linked_actors all ≡ linked_actors items ++ link.actor ∷ []
entered_actors {items} {middle} new {all} {n} link n_is middle_is actors_new all_is =
    ap linked_actors (entered_last items new n link n_is middle_is actors_new all_is)
    ∙ map-append (λ (l : Link). l.actor) new (link ∷ [])
    ∙ ap (λ l. l ++ link.actor ∷ []) (actors_new ∙ ap linked_actors middle_is)

-- the links after a new future was linked to the last one of its actor
pub entered : (items middle new all : List Link) (last : List (Option ℕ)) (n a at at2 future : ℕ) (found : Option ℕ) → IsLinked items last → n ≡ length items →
    middle ≡ items → a ≤ 8 → a < length last → at ≡ a → at2 ≡ a → future ≡ n → linked_actors new ≡ linked_actors middle → before_of new ≡ before_of middle →
    after_of new ≡ with_found (after_of middle) (get_or last at found) (Some future) → all ≡ take n (new ++ drop (length new) items) ++
    record { actor = Some a; before = get_or last at found; after = None } ∷ [] → IsLinked all (slice_set last at2 (Some future))
entered items middle new all last n a at at2 future found fine n_is middle_is valid listed at_is at2_is future_is actors_new before_new after_new all_is =
    let o : Option ℕ = get_or last at found in let link : Link = record { actor = Some a; before = o; after = None } in
    let number : future ≡ length (linked_actors items) = future_is ∙ n_is ∙ sym (length-map items (λ (l : Link). l.actor)) in
    let is : all ≡ new ++ link ∷ [] = entered_last items new n link n_is middle_is actors_new all_is in
    let actors : linked_actors all ≡ linked_actors items ++ Some a ∷ [] = entered_actors new link n_is middle_is actors_new all_is in
    let before : before_of all ≡ before_of items ++ o ∷ [] =
    ap before_of is ∙ map-append (λ (l : Link). l.before) new (link ∷ []) ∙ ap (λ l. l ++ o ∷ []) (before_new ∙ ap before_of middle_is) in
    let after : after_of all ≡ with_found (after_of items) o (Some (length (linked_actors items))) ++ None ∷ [] =
    ap after_of is ∙ map-append (λ (l : Link). l.after) new (link ∷ [])
    ∙ ap (λ l. l ++ None ∷ [])
    (after_new ∙ ap (λ l. with_found (after_of l) o (Some future)) middle_is ∙ ap (λ m. with_found (after_of items) o (Some m)) number) in
    let ends : slice_set last at2 (Some future) ≡ slice_set last a (Some (length (linked_actors items))) =
    ap (λ m. slice_set last m (Some future)) at2_is ∙ ap (λ m. slice_set last a (Some m)) number in
    let last_one : o ≡ found_at last a = ap (λ m. get_or last m found) at_is ∙ get_or_default last a found None listed in
    rw (actors, before, after, ends)
    (pushed (linked_actors items) (before_of items) (after_of items) last a o fine (same_length items (λ l. l.before) (λ l. l.actor))
    (same_length items (λ l. l.after) (λ l. l.actor)) listed valid last_one)

-- whether there is one
pub told_none : (o : Option ℕ) {told : Bool} → is_some o ≡ not told → told ≡ true → o ≡ None
told_none None is true_is = refl
told_none (Some k) is true_is = cc (is, ap not true_is)

pub told_some : (o : Option ℕ) {told : Bool} → is_some o ≡ not told → told ≡ false → o ≢ None
told_some o is false_is none = let nothing : is_some o ≡ false = ap is_some none in cc (is, ap not false_is, nothing)
