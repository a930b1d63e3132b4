-- A retired actor ran every call that was submitted to it, of every caller.
use Rattle.act_rules.proofs.Common.{◌≡◌, ℕ, ◌+◌, ◌≤◌, Bool, true, false, cond, List, [], ◌∷◌, length, Some, None, refl, ap, sym, ◌∙◌, subst, arith, ◌⊎◌}
use Rattle.act_rules.proofs.Common.{⊎_elim, ◌-◌, Option, ◌==◌, ◌||◌, not, map, filter, find, slice_get, is_some, AllByRecursion, list_all, eqb-true}
use Rattle.act_rules.proofs.Common.{and_parts, or_right, length-map, length-enumerate_from, RunItem, Event, Submit, Run, Retire, Handle, ActorEnded, NotDrained}
use Rattle.act_rules.proofs.Common.{NoActor, items_of, Submission, calls_to, needs, ActorSpec, History, opening, contains, callers_in, cast_of, names, calls_of}
use Rattle.act_rules.proofs.Common.{count_pairs, copies_of, runs_of, ran_count, is_done, is_drained, is_dead, is_retired, is_ended, next_item, refusal_of}
use Rattle.act_rules.proofs.Common.{add_event, after_run, after_all, list_all-weaker, map-enumerate_from, NoteLetter}
use Rattle.act_rules.proofs.Lists.{All_more, All_at, front_whole}
use Rattle.act_rules.proofs.Growth.{Grows, added_grows}
use Rattle.act_rules.proofs.Steps.{IsKept, after_all_keeps}
use Rattle.act_rules.proofs.Ended.{needs-none, ended_stays, contains_or}
use Rattle.act_rules.proofs.Letters.{has_letter-sound, has_front}
use Rattle.act_rules.proofs.Order.{numbered, numbers}
use Rattle.act_rules.proofs.AsSubmitted.{filter-slice_get, calls_to-at}
use Rattle.act_rules.proofs.Unique.{map-slice_get}
use Rattle.act_rules.proofs.Sound.{IsSound}
use Rattle.act_rules.proofs.Retired.{IsSoundNote, NotesAreSound, notes_step, submit_needs}

-- ---- each call goes to an actor whose cast names its caller

-- the cast of the call's actor names the call's caller
abbrev pub IsNamed : History → ℕ × Submission → Type 0
IsNamed h call = names call.0 (cast_of call.1.actor h) ≡ true

-- each call that was submitted went to an actor whose cast names the caller
abbrev pub AllNamed : History → Type 0
AllNamed h = AllByRecursion (IsNamed h) h.submitted

-- where a caller has a count of copies of an actor's handle, the actor's cast names the caller
pub copies_named : (c a : ℕ) (h : History) → is_some (copies_of c a h) ≡ true → names c (cast_of a h) ≡ true
copies_named c a h e = go (names c (cast_of a h)) ((1 + count_pairs c a h.copied) - count_pairs c a h.released) e
  where
    go : (b : Bool) (n : ℕ) → is_some (cond b (Some n) None) ≡ true → b ≡ true
    go true n e = refl
    go false n e = cc

pub named_step : IsKept AllNamed
named_step h (Submit c a method args) s accepted =
    All_more (IsNamed h) h.submitted (c, record { actor = a; method = method; args = args }) s (copies_named c a h (submit_needs h c a method args accepted).0)
named_step h (Run a c) s accepted = go (next_item a c h)
  where
    go : (o : Option RunItem) → AllNamed (after_run a c h o)
    go None = s
    go (Some item) = s
named_step h other s accepted = s

-- ---- a retired actor is drained

drained_grows : (a : ℕ) (h : History) {g : History} → Grows h g → runs_of a g ≡ runs_of a h → is_drained a h ≡ true → is_drained a g ≡ true
drained_grows a h {g} grows same e =
    let casts : cast_of a g ≡ cast_of a h = ap (λ casts. find (λ (cast : ActorSpec). cast.actor == a) casts) grows.casts in
    subst (λ o. list_all (λ c. is_done c a g) (callers_in o) ≡ true) (sym casts)
    (list_all-weaker (λ c. is_done c a h) (λ c. is_done c a g) (callers_in (cast_of a h)) (λ c done. let count : ran_count c a g ≡ ran_count c a h =
    ap (λ items. length (items_of c items)) same in has_front (NoteLetter c a (ran_count c a g)) h.arrived g.arrived grows.arrived (rw count done)) e)

retire_needs : (h : History) (a : ℕ) → refusal_of h (Retire a) ≡ None → is_drained a h ≡ true
retire_needs h a e =
    let first = needs-none (is_some (cast_of a h)) (Handle NoActor) (needs (not (is_ended a h)) ActorEnded (needs (is_drained a h) NotDrained None)) e in
    let second = needs-none (not (is_ended a h)) ActorEnded (needs (is_drained a h) NotDrained None) first.1 in
    (needs-none (is_drained a h) NotDrained None second.1).0

abbrev pub RetiredDrained : History → Type 0
RetiredDrained h = (a : ℕ) → is_retired a h ≡ true → is_drained a h ≡ true

stays_drained : (h : History) (event : Event) → refusal_of h event ≡ None → RetiredDrained h → (a : ℕ) → is_retired a h ≡ true →
    is_drained a (add_event h event) ≡ true
stays_drained h event accepted s a retired =
    let ended = or_right (is_dead a h) (is_retired a h) retired in
    let after = ended_stays a (runs_of a h) h event (record { ended = ended; same = refl }) accepted in
    drained_grows a h (added_grows h event) after.same (s a retired)

pub retired_step : IsKept RetiredDrained
retired_step h (Run a c) s accepted b retired = stays_drained h (Run a c) accepted s b (go (next_item a c h) retired)
  where
    go : (o : Option RunItem) → is_retired b (after_run a c h o) ≡ true → is_retired b h ≡ true
    go None e = e
    go (Some item) e = e
retired_step h (Retire b) s accepted a retired =
    ⊎_elim (λ before. stays_drained h (Retire b) accepted s a before)
    (λ same. subst (λ x. is_drained x h ≡ true) same (retire_needs h b accepted))
    (contains_or h.retired a b retired)
retired_step h other s accepted x retired = stays_drained h other accepted s x retired

-- ---- all of them

-- notes are sound, casts name the callers of their actors' calls, and each retired actor is drained
pub record Retires (h : History) : Type 0 where
  pub notes : NotesAreSound h
  pub named : AllNamed h
  pub drained : RetiredDrained h

-- each accepted event keeps these three facts
pub retires_step : IsKept Retires
retires_step h event s accepted = search (notes_step, named_step, retired_step)

-- they hold after any events from an opening
pub world_retires : (casts : List ActorSpec) (events : List Event) → Retires (after_all (opening casts) events)
world_retires casts events = after_all_keeps Retires retires_step (opening casts) events (record {
  notes = record { mail = tt; arrived = tt };
  named = tt;
  drained = λ a e. cc;
})

nothing_at : {A : Type 0} (xs : List A) → ((n : ℕ) (x : A) → slice_get xs n ≡ Some x → ⊥) → length xs ≡ 0
nothing_at [] none = refl
nothing_at (x ∷ xs) none = absurd (none 0 x refl)

named_as : (h : History) (d b c a : ℕ) → d ≡ c → b ≡ a → names d (cast_of b h) ≡ true → names c (cast_of a h) ≡ true
named_as h d b c a first second is = subst (λ x. names c (cast_of x h) ≡ true) second (subst (λ y. names y (cast_of b h) ≡ true) first is)

-- a caller that the cast doesn't name has no calls to the actor
stranger_calls : (h : History) (c a : ℕ) → AllNamed h → names c (cast_of a h) ≡ false → length (calls_to a (calls_of c h)) ≡ 0
stranger_calls h c a named stranger = nothing_at (calls_to a (calls_of c h)) (λ n call at. let found = calls_to-at a (calls_of c h) n at in let pair =
    map-slice_get (λ (s : ℕ × Submission). s.1) (filter (λ (s : ℕ × Submission). s.0 == c) h.submitted) call.0 found.at in let place =
    filter-slice_get (λ (s : ℕ × Submission). s.0 == c) h.submitted call.0 pair.1 in let mine : pair.0.0 ≡ c = eqb-true pair.0.0 c place.passes in
    let to : pair.0.1.actor ≡ a = ap (λ (s : Submission). s.actor) pair.2 ∙ found.actor in let is : names pair.0.0 (cast_of pair.0.1.actor h) ≡ true =
    All_at (IsNamed h) h.submitted place.place named place.at in let bad : names c (cast_of a h) ≡ true = named_as h pair.0.0 pair.0.1.actor c a mine to is in
    let no : true ≡ false = sym bad ∙ stranger in cc)

-- where each of a list passes, any that the list contains does
pub list_all-contains : (p : ℕ → Bool) (xs : List ℕ) (c : ℕ) → list_all p xs ≡ true → contains c xs ≡ true → p c ≡ true
list_all-contains p [] c all e = cc
list_all-contains p (x ∷ xs) c all e = let parts = and_parts (p x) (list_all p xs) all in go (x == c) refl parts.0 (list_all-contains p xs c parts.1) e
  where
    go : (same : Bool) → (x == c) ≡ same → p x ≡ true → (contains c xs ≡ true → p c ≡ true) → (same || contains c xs) ≡ true → p c ≡ true
    go true is first rest e = subst (λ n. p n ≡ true) (eqb-true x c is) first
    go false is first rest e = rest e

-- the futures of numbered items
pub map-numbered : (items : List RunItem) → map (λ (p : ℕ × ℕ). p.1) (map numbered items) ≡ map (λ (item : RunItem). item.future) items
map-numbered [] = refl
map-numbered (item ∷ items) = ap (λ l. item.future ∷ l) (map-numbered items)

-- a retired actor ran every call of a caller to it, in the caller's order
pub ran_all : {h : History} (a c : ℕ) → IsSound h → Retires h → is_retired a h ≡ true →
    map (λ (item : RunItem). item.future) (items_of c (runs_of a h)) ≡ map (λ (call : ℕ × Submission). call.0) (calls_to a (calls_of c h))
ran_all {h} a c s r retired =
    sym (map-numbered (items_of c (runs_of a h)))
    ∙ ap (map (λ (p : ℕ × ℕ). p.1)) (front_whole (map numbered (items_of c (runs_of a h))) (numbers a (calls_of c h)) (s.order a c) short)
    ∙ map-enumerate_from 0 (map (λ (call : ℕ × Submission). call.0) (calls_to a (calls_of c h)))
  where
    counted : (named : Bool) → names c (cast_of a h) ≡ named → length (calls_to a (calls_of c h)) ≤ ran_count c a h
    counted false e = let none = stranger_calls h c a r.named e in omega arith
    counted true e =
        let done : is_done c a h ≡ true = list_all-contains (λ d. is_done d a h) (callers_in (cast_of a h)) c (r.drained a retired) e in
        let note = has_letter-sound (IsSoundNote h) (NoteLetter c a (ran_count c a h)) h.arrived r.notes.arrived done in
        let count : ran_count c a h ≡ length (calls_to a (calls_of c h)) = note.1 in omega arith

    short : length (numbers a (calls_of c h)) ≤ length (map numbered (items_of c (runs_of a h)))
    short =
        let all : length (numbers a (calls_of c h)) ≡ length (calls_to a (calls_of c h)) = length-enumerate_from 0 (map (λ (call : ℕ × Submission). call.0)
        (calls_to a (calls_of c h))) ∙ length-map (calls_to a (calls_of c h)) (λ (call : ℕ × Submission). call.0) in
        let some : length (map numbered (items_of c (runs_of a h))) ≡ ran_count c a h = length-map (items_of c (runs_of a h)) numbered in
        let few = counted (names c (cast_of a h)) refl in rw (all, some) few

-- a caller knows the actor of each call that it submitted
pub named_call : (h : History) (c k : ℕ) {call : Submission} → AllNamed h → slice_get (calls_of c h) k ≡ Some call → names c (cast_of call.actor h) ≡ true
named_call h c k {call} named at =
    let pair = map-slice_get (λ (s : ℕ × Submission). s.1) (filter (λ (s : ℕ × Submission). s.0 == c) h.submitted) k at in
    let place = filter-slice_get (λ (s : ℕ × Submission). s.0 == c) h.submitted k pair.1 in
    let mine : pair.0.0 ≡ c = eqb-true pair.0.0 c place.passes in
    let to : pair.0.1.actor ≡ call.actor = ap (λ (s : Submission). s.actor) pair.2 in
    let is : names pair.0.0 (cast_of pair.0.1.actor h) ≡ true =
    All_at (λ (one : ℕ × Submission). names one.0 (cast_of one.1.actor h) ≡ true) h.submitted place.place named place.at in
    subst (λ x. names x (cast_of call.actor h) ≡ true) mine (subst (λ y. names pair.0.0 (cast_of y h) ≡ true) to is)
