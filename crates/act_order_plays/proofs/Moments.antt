-- What one event brings about: what comes before each call and each run.
use Rattle.act_order_plays.proofs.Common.{◌≡◌, ℕ, zero, suc, ◌+◌, ◌<◌, ◌≤◌, ◌==◌, ◌||◌, ◌⊎◌, inl, inr, Bool, true, false, cond, List, [], ◌∷◌, ◌++◌, length}
use Rattle.act_order_plays.proofs.Common.{filter, take, Some, None, slice_get, refl, sym, ap, subst, ◌∙◌, arith, length-append, Option, option_map, list_any}
use Rattle.act_order_plays.proofs.Common.{list_all, Contains, lt-ltb, eqb-true, eq-eqb, and_parts, and_from, append-nil, slice_get-map, slice_get_within, Arg}
use Rattle.act_order_plays.proofs.Common.{Fut, Event, RunItem, Submission, is_known, History, under, calls_of, runs_of, kept_of, ran_count, next_item}
use Rattle.act_order_plays.proofs.Common.{add_event, after_run, after, slice_get_front, slice_get_last, element, runs_grow, under-push, after_keeps}
use Rattle.act_order_plays.proofs.Common.{IsSoundLetter, has_letter-sound, IsNext, next_item_is, calls_to-at, one_place, IsSound, Run, Told, call_of, RunsNext}
use Rattle.act_order_plays.proofs.Common.{IsWhole, LeavesTold, args_of, future_of, Submit, RunNext, CallLetter, or_cases, list_any-append, place_in, any_in}
use Rattle.act_order_plays.proofs.Fronts.{is_run_of, rank, run_ranks}
use Rattle.act_order_plays.proofs.Left.{IsOf, call_there, item_at}
use Rattle.act_order_plays.proofs.Turns.{here}
use Rattle.act_order_plays.proofs.Along.{Within}
use Rattle.act_order_plays.proofs.Happenings.{is_item, has_call, has_run, has_answer}
use Rattle.act_order_plays.proofs.Orders.{not_both}
use Rattle.act_rules.proofs.Places.{all_at}
use Rattle.std.proofs.lemmas.List.Sums.{AllPass-from_list_all}

-- ---- one event

is_longer : (b : Bool) (call : Submission) → length {A = Submission} (cond b (call ∷ []) []) ≤ 1
is_longer true call = omega arith
is_longer false call = omega arith

-- it submits one call at most
abbrev OneMore : ℕ → History → History → Type 0
OneMore c h g = length (calls_of c g) ≤ length (calls_of c h) + 1

added_one : (h : History) (event : Event) (c : ℕ) → OneMore c h (add_event h event)
added_one h (Submit d a method args) c =
    let call : Submission = record { actor = a; method = method; args = args } in
    let long : length (under c (h.submitted ++ (d, call) ∷ [])) ≡ length (calls_of c h) + length {A = Submission} (cond (d == c) (call ∷ []) []) =
    ap (λ l. length l) (under-push c d h.submitted call) ∙ length-append (calls_of c h) (cond (d == c) (call ∷ []) []) in
    let short = is_longer (d == c) call in omega arith
added_one h (RunNext a d) c = go (next_item a d h)
  where
    go : (o : Option RunItem) → OneMore c h (after_run a d h o)
    go None = omega arith
    go (Some item) = omega arith
added_one h event c = omega arith

pub one_call_more : (h : History) (event : Event) (c : ℕ) → length (calls_of c (after h event)) ≤ length (calls_of c h) + 1
one_call_more h event c = after_keeps (OneMore c h) h event (omega arith) (λ accepted. added_one h event c)

-- it runs nothing at an actor, or a caller's next call
pub record RanNext (a : ℕ) (h g : History) : Type 0 where
  pub caller : ℕ
  pub item : RunItem
  pub next : next_item a caller h ≡ Some item
  pub more : runs_of a g ≡ runs_of a h ++ item ∷ []

abbrev pub MayRun : ℕ → History → History → Type 0
MayRun a h g = (runs_of a g ≡ runs_of a h) ⊎ (RanNext a h g)

added_run : (h : History) (event : Event) (a : ℕ) → MayRun a h (add_event h event)
added_run h (RunNext b d) a = go (next_item b d h) refl
  where
    at : (item : RunItem) → next_item b d h ≡ Some item → (same : Bool) → (b == a) ≡ same →
        runs_of a (after_run b d h (Some item)) ≡ runs_of a h ++ cond same (item ∷ []) [] → MayRun a h (after_run b d h (Some item))
    at item next true e more = inr (record { caller = d; item = item; next = subst (λ x. next_item x d h ≡ Some item) (eqb-true b a e) next; more = more })
    at item next false e more = inl (more ∙ append-nil (runs_of a h))

    go : (o : Option RunItem) → next_item b d h ≡ o → MayRun a h (after_run b d h o)
    go None next = inl refl
    go (Some item) next = at item next (b == a) refl (under-push a b h.ran item)
added_run h event a = inl refl

may_run : (h : History) (event : Event) (a : ℕ) → MayRun a h (after h event)
may_run h event a = after_keeps (MayRun a h) h event (inl refl) (λ accepted. added_run h event a)

pub is_of_item : (told : Told) (n : ℕ) (item : RunItem) → is_item (call_of told n).caller (future_of told n) item ≡ true → IsOf told n item
is_of_item told n item e =
    let parts = and_parts (item.caller == (call_of told n).caller) (item.future == future_of told n) e in
    record { caller = eqb-true item.caller (call_of told n).caller parts.0; future = eqb-true item.future (future_of told n) parts.1 }

pub item_is : {told : Told} (n : ℕ) {item : RunItem} → IsOf told n item → is_item (call_of told n).caller (future_of told n) item ≡ true
item_is {told} n {item} is =
    and_from (item.caller == (call_of told n).caller) (item.future == future_of told n)
    (eq-eqb item.caller (call_of told n).caller is.caller) (eq-eqb item.future (future_of told n) is.future)

last_any : (p : RunItem → Bool) (items : List RunItem) (item : RunItem) → list_any p items ≡ false → list_any p (items ++ item ∷ []) ≡ true → p item ≡ true
last_any p items item f t = elim (or_cases (list_any p items) (p item || false) (sym (list_any-append p items (item ∷ [])) ∙ t)) [
  | inl old ↦ not_both f old
  | inr new ↦ elim (or_cases (p item) false new) [ inl is ↦ is | inr bad ↦ absurd (cc) ]
]

-- a call that an event ran is the item that it ran
pub record RanCall (told : Told) (n : ℕ) (h g : History) : Type 0 where
  pub ran : RanNext (call_of told n).actor h g
  pub is : IsOf told n ran.item

pub ran_call : (told : Told) (n : ℕ) (h : History) (event : Event) → has_run told h n ≡ false → has_run told (after h event) n ≡ true →
    RanCall told n h (after h event)
ran_call told n h event f t = elim (may_run h event (call_of told n).actor) [
  | inl same ↦ not_both f (subst (λ items. list_any p items ≡ true) same t)
  | inr r ↦ record {
    ran = r;
    is = is_of_item told n r.item (last_any p (runs_of (call_of told n).actor h) r.item f (subst (λ items. list_any p items ≡ true) r.more t));
  }
]
  where
    p : RunItem → Bool
    p = is_item (call_of told n).caller (future_of told n)

rank_more : {A : Type 0} (t : A → Bool) (xs : List A) (i : ℕ) (x : A) → slice_get xs i ≡ Some x → t x ≡ true →
    length (filter t (take (suc i) xs)) ≡ suc (length (filter t (take i xs)))
rank_more t [] i x at passes = absurd (cc)
rank_more t (y ∷ xs) zero x at passes = let same : y ≡ x = cc in let there : t y ≡ true = ap t same ∙ passes in rw there refl
rank_more {A = A} t (y ∷ xs) (suc i) x at passes = go (t y) (rank_more t xs i x at passes)
  where
    go : (b : Bool) → length (filter t (take (suc i) xs)) ≡ suc (length (filter t (take i xs))) →
        length (cond b (y ∷ filter t (take (suc i) xs)) (filter t (take (suc i) xs))) ≡ suc (length (cond b (y ∷ filter t (take i xs)) (filter t (take i xs))))
    go true rest = ap (λ k. suc k) rest
    go false rest = rest

module _ (told : Told) (last : History) (whole : IsWhole told) (sound : IsSound last) (leaves : LeavesTold told last) (h g : History)
    (way : Within h last) (then : Within g last) (n : ℕ) (lt : n < length told.calls) (ran : RanCall told n h g) where
  next : IsNext (call_of told n).actor ran.ran.caller h ran.ran.item
  next = next_item_is (call_of told n).actor ran.ran.caller h ran.ran.next

  caller : ran.ran.caller ≡ (call_of told n).caller
  caller = ap (λ (i : RunItem). i.caller) next.is ∙ ran.is.caller

  future : next.call.0 ≡ future_of told n
  future = ap (λ (i : RunItem). i.future) next.is ∙ ran.is.future

  -- it stands where it runs
  stood : slice_get (calls_of (call_of told n).caller h) (future_of told n) ≡ Some next.call.1
  stood =
      let at = calls_to-at (call_of told n).actor (calls_of ran.ran.caller h) (ran_count ran.ran.caller (call_of told n).actor h) next.at in
      subst (λ c. slice_get (calls_of c h) (future_of told n) ≡ Some next.call.1) caller
      (subst (λ k. slice_get (calls_of ran.ran.caller h) k ≡ Some next.call.1) future at.at)

  pub run_submitted : has_call told h n ≡ true
  run_submitted = lt-ltb (future_of told n) (length (calls_of (call_of told n).caller h))
      (slice_get_within (calls_of (call_of told n).caller h) (future_of told n) next.call.1 stood)

  -- the answers that it takes are kept
  pub run_takes : (m : ℕ) → Contains (call_of told n).takes m → (call_of told m).caller ≡ (call_of told n).caller → has_answer told h m ≡ true
  run_takes m takes same =
      let c = ran.ran.caller in let a = (call_of told n).actor in
      let letter : IsSoundLetter h (CallLetter c a (ran_count c a h)) =
      has_letter-sound (IsSoundLetter h) (CallLetter c a (ran_count c a h)) h.arrived way.sound.letters.arrived next.arrived in
      let both : Some letter.0 ≡ Some next.call = sym letter.1 ∙ next.at in let one : letter.0 ≡ next.call = cc in
      let known : list_all (is_known (kept_of c h)) next.call.1.args ≡ true =
      subst (λ (call : ℕ × Submission). list_all (is_known (kept_of c h)) call.1.args ≡ true) one letter.2 in
      let args : next.call.1.args ≡ args_of told n =
      ap (λ (p : ℕ × List Arg). p.1) (call_there told last whole sound leaves n way.grows lt stood) in
      let all : list_all (is_known (kept_of c h)) (args_of told n) ≡ true = subst (λ l. list_all (is_known (kept_of c h)) l ≡ true) args known in
      let place = place_in (call_of told n).takes m takes in
      let at : slice_get (args_of told n) place.0 ≡ Some (Fut (future_of told m)) =
      slice_get-map (λ k. Fut (future_of told k)) (call_of told n).takes place.0 ∙ ap (option_map (λ k. Fut (future_of told k))) place.1 in
      let is : is_known (kept_of c h) (Fut (future_of told m)) ≡ true =
      all_at (λ x. is_known (kept_of c h) x ≡ true) (args_of told n) place.0
      (AllPass-from_list_all (is_known (kept_of c h)) (args_of told n) all) at in
      subst (λ d. is_known (kept_of d h) (Fut (future_of told m)) ≡ true) (caller ∙ sym same) is

  -- what its actor ran before it ran
  pub run_follows : (m : ℕ) → RunsNext told m n → has_run told h m ≡ true
  run_follows m follows =
      let i = follows.0 in let a = follows.1 in let one : Run = record { actor = a; call = m } in let two : Run = record { actor = a; call = n } in
      let j = rank told a i in let here_m = here told last whole sound leaves i one follows.2 in
      let here_n = here told last whole sound leaves (i + 1) two follows.3 in
      let place : rank told a (i + 1) ≡ suc j =
      (let e : i + 1 ≡ suc i = omega arith in rw e (rank_more (is_run_of a) told.runs i one follows.2 (eq-eqb a a refl))) in
      let item_m = item_at told last whole sound leaves a j m (run_ranks told i follows.2) in
      let item_n = item_at told last whole sound leaves a (rank told a (i + 1)) n (run_ranks told (i + 1) follows.3) in
      let more : runs_of a g ≡ runs_of a h ++ ran.ran.item ∷ [] =
      subst (λ b. runs_of b g ≡ runs_of b h ++ ran.ran.item ∷ []) here_n ran.ran.more in
      let at_g : slice_get (runs_of a g) (length (runs_of a h)) ≡ Some ran.ran.item =
      ap (λ l. slice_get l (length (runs_of a h))) more ∙ slice_get_last (runs_of a h) ran.ran.item in
      let at : slice_get (runs_of a last) (length (runs_of a h)) ≡ Some ran.ran.item =
      slice_get_front (runs_of a g) (runs_of a last) (length (runs_of a h)) (runs_grow a then.grows) at_g in
      let same = (one_place last a (rank told a (i + 1)) a (length (runs_of a h)) sound.order
      item_n.1 item_n.2.caller item_n.2.future at ran.is.caller ran.is.future).1 in
      let short : j < length (runs_of a h) = omega arith in let there = element (runs_of a h) j short in
      let in_last = slice_get_front (runs_of a h) (runs_of a last) j (runs_grow a way.grows) there.1 in
      let both : Some there.0 ≡ Some item_m.0 = sym in_last ∙ item_m.1 in let item : there.0 ≡ item_m.0 = cc in
      subst (λ b. list_any (is_item (call_of told m).caller (future_of told m)) (runs_of b h) ≡ true) (sym here_m)
      (any_in (is_item (call_of told m).caller (future_of told m)) (record { place = j; at = there.1 ∙ ap Some item }) (item_is m item_m.2))
