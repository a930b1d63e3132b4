-- No list of events leaves the circle: what runs first needs an answer that nothing gave.
use Rattle.act_replay.proofs.Common.{◌≡◌, ℕ, ◌==◌, Bool, true, false, cond, List, [], ◌∷◌, ◌++◌, Some, None, refl, sym, ap, subst, ◌∙◌, arith, Option}
use Rattle.act_replay.proofs.Common.{slice_get, map, pos, Ok, Err, AllByRecursion, eqb-true, Value, Int, Good, Event, Submit, Copy, Release, Send, Deliver, Run}
use Rattle.act_replay.proofs.Common.{Collect, AskKill, TakeKill, Tell, Retire, WorldRefusal, RunItem, Submission, Answer, kept_at, settle, settled_future}
use Rattle.act_replay.proofs.Common.{IsPrefix, IsAsSubmitted, IsAnswerOfRun, Consistent, ActorSpec, History, opening, opening_of, calls_of, runs_of, kept_of}
use Rattle.act_replay.proofs.Common.{is_dead, next_item, refusal_of, add_event, after_by, after_run, after_all, whole_front, slice_get_front, front_trans}
use Rattle.act_replay.proofs.Common.{added_grows, runs_grow, calls_grow, IsKept, after_all_keeps, under-push, held_submission, IsSound, sound_step, world_sound}
use Rattle.act_replay.proofs.Common.{consistent, five_arg, first_future, circle_push, circle_calls, circle_ran, circle_log}

-- ---- run lists and calls only grow

pub record IsAfter (h g : History) : Type 0 where
  pub runs : (a : ℕ) → IsPrefix (runs_of a h) (runs_of a g)
  pub calls : (c : ℕ) → IsPrefix (calls_of c h) (calls_of c g)

after_step : (h : History) → IsKept (IsAfter h)
after_step h g event so_far accepted =
    let grows = added_grows g event in
    record {
      runs = λ a. front_trans (runs_of a h) (runs_of a g) (runs_of a (add_event g event)) (so_far.runs a) (runs_grow a grows);
      calls = λ c. front_trans (calls_of c h) (calls_of c g) (calls_of c (add_event g event)) (so_far.calls c) (calls_grow c grows);
    }

pub is_after : (h : History) (events : List Event) → IsAfter h (after_all h events)
is_after h events = after_all_keeps (IsAfter h) (after_step h) h events
    (record { runs = λ a. whole_front (runs_of a h); calls = λ c. whole_front (calls_of c h) })

-- ---- the first item of a list

-- an argument that settled to a value has that answer kept
good_kept : (v : Value) (o : Option Answer) → Good v ≡ settled_future 0 o → o ≡ Some (Ok v)
good_kept v None e = absurd (cc)
good_kept v (Some (Ok w)) e = cc
good_kept v (Some (Err fault)) e = absurd (cc)

-- nothing stands in an empty list
pub nothing_at : {A : Type 0} (k : ℕ) {x : A} → slice_get [] k ≡ Some x → ⊥
nothing_at k e = cc

-- the list a can't have run the other's second call while the list o, to which the first one went, ran nothing
not_first : (a o : ℕ) (h : History) → IsSound h → IsPrefix (calls_of o h) (circle_calls o a) → runs_of a h ≡ circle_ran o 1 2 ∷ [] → runs_of o h ≡ [] → ⊥
not_first a o h s front here there = nothing_at answer.place (subst (λ l. slice_get l answer.place ≡ Some answer.item) there
    (subst (λ x. slice_get (runs_of x h) answer.place ≡ Some answer.item) actor answer.at))
  where
    fits : Consistent (λ x. opening_of x h) (λ c. calls_of c h) (λ x. runs_of x h) (λ c. kept_of c h) (λ x. is_dead x h)
    fits = consistent h s

    submitted : IsAsSubmitted (λ c. calls_of c h) (λ c. kept_of c h) (circle_ran o 1 2)
    submitted = (subst (AllByRecursion (IsAsSubmitted (λ c. calls_of c h) (λ c. kept_of c h))) here (fits.as_submitted a)).0

    call : circle_push a first_future ≡ submitted.call
    call = let e : Some (circle_push a first_future) ≡ Some submitted.call = slice_get_front (calls_of o h) (circle_calls o a) 1 front submitted.at in cc

    kept : kept_at (kept_of o h) 0 ≡ Some (Ok (Int (pos 2)))
    kept =
        let args : Good (Int (pos 2)) ∷ [] ≡ settled_future 0 (kept_at (kept_of o h) 0) ∷ [] =
        submitted.args ∙ ap (λ (s : Submission). map (settle (kept_of o h)) s.args) (sym call) in
        good_kept (Int (pos 2)) (kept_at (kept_of o h) 0) cc

    answer : IsAnswerOfRun (λ x. opening_of x h) (λ x. runs_of x h) o 0 (Ok (Int (pos 2)))
    answer = fits.answers o 0 (Ok (Int (pos 2))) kept (λ e. cc)

    actor : answer.actor ≡ o
    actor =
        let held = held_submission h answer.actor 0 answer.place s.order answer.at answer.caller answer.future in
        let e : Some (circle_push o five_arg) ≡ Some held.0 = slice_get_front (calls_of o h) (circle_calls o a) 0 front held.1 in
        let same : circle_push o five_arg ≡ held.0 = cc in sym held.2 ∙ ap (λ (s : Submission). s.actor) (sym same)

-- the first item, where it is the first of the list that comes to be
one_item : (a o : ℕ) (h : History) {g : History} (item : RunItem) → IsSound h → IsAfter h g → runs_of a h ≡ item ∷ [] → runs_of o h ≡ [] →
    calls_of o g ≡ circle_calls o a → runs_of a g ≡ circle_log a o → ⊥
one_item a o h item s after here there calls_are runs_are =
    not_first a o h s (subst (IsPrefix (calls_of o h)) calls_are (after.calls o)) (here ∙ ap (λ i. i ∷ []) same) there
  where
    grown : IsPrefix (item ∷ []) (circle_log a o)
    grown = subst (λ l. IsPrefix l (circle_log a o)) here (subst (IsPrefix (runs_of a h)) runs_are (after.runs a))

    same : item ≡ circle_ran o 1 2
    same = let e : item ∷ ([] ++ grown.0) ≡ circle_ran o 1 2 ∷ circle_ran a 0 5 ∷ [] = grown.1 in cc

-- ---- no list of events

-- the calls of the two callers, and the run lists of the two lists
pub record IsCircle (h : History) : Type 0 where
  pub calls_1 : calls_of 1 h ≡ circle_calls 1 2
  pub calls_2 : calls_of 2 h ≡ circle_calls 2 1
  pub runs_1 : runs_of 1 h ≡ circle_log 1 2
  pub runs_2 : runs_of 2 h ≡ circle_log 2 1

-- what a world can't come to, while neither list ran anything
abbrev Rest : List Event → Type 0
Rest events = (h : History) → IsSound h → runs_of 1 h ≡ [] → runs_of 2 h ≡ [] → IsCircle (after_all h events) → ⊥

-- an item more of the list b
item_more : (events : List Event) → Rest events → (b c : ℕ) (h : History) (item : RunItem) → IsSound (after_run b c h (Some item)) → runs_of 1 h ≡ []
    → runs_of 2 h ≡ [] → IsCircle (after_all (after_run b c h (Some item)) events) → ⊥
item_more events rest b c h item s none_1 none_2 end = go (b == 1) (b == 2) refl refl (more 1 none_1) (more 2 none_2)
  where
    g : History
    g = after_run b c h (Some item)

    more : (a : ℕ) → runs_of a h ≡ [] → runs_of a g ≡ cond (b == a) (item ∷ []) []
    more a none = under-push a b h.ran item ∙ ap (λ l. l ++ cond (b == a) (item ∷ []) []) none

    go : (one two : Bool) → (b == 1) ≡ one → (b == 2) ≡ two → runs_of 1 g ≡ cond one (item ∷ []) [] → runs_of 2 g ≡ cond two (item ∷ []) [] → ⊥
    go true true e f first_future second = let bad : 1 ≡ 2 = sym (eqb-true b 1 e) ∙ eqb-true b 2 f in absurd (omega (arith, bad))
    go true false e f first_future second = one_item 1 2 g item s (is_after g events) first_future second end.calls_2 end.runs_1
    go false true e f first_future second = one_item 2 1 g item s (is_after g events) second first_future end.calls_1 end.runs_2
    go false false e f first_future second = rest g s first_future second end

event_more : (events : List Event) → Rest events → (h : History) (event : Event) → IsSound (add_event h event) → runs_of 1 h ≡ [] → runs_of 2 h ≡ []
    → IsCircle (after_all (add_event h event) events) → ⊥
event_more events rest h (Submit c a method args) s none_1 none_2 end = rest (add_event h (Submit c a method args)) s none_1 none_2 end
event_more events rest h (Copy c a) s none_1 none_2 end = rest (add_event h (Copy c a)) s none_1 none_2 end
event_more events rest h (Release c a) s none_1 none_2 end = rest (add_event h (Release c a)) s none_1 none_2 end
event_more events rest h (Send c k) s none_1 none_2 end = rest (add_event h (Send c k)) s none_1 none_2 end
event_more events rest h (Deliver i) s none_1 none_2 end = rest (add_event h (Deliver i)) s none_1 none_2 end
event_more events rest h (Run b c) s none_1 none_2 end = go (next_item b c h) s end
  where
    go : (o : Option RunItem) → IsSound (after_run b c h o) → IsCircle (after_all (after_run b c h o) events) → ⊥
    go None s end = rest h s none_1 none_2 end
    go (Some item) s end = item_more events rest b c h item s none_1 none_2 end
event_more events rest h (Collect j) s none_1 none_2 end = rest (add_event h (Collect j)) s none_1 none_2 end
event_more events rest h (AskKill c a) s none_1 none_2 end = rest (add_event h (AskKill c a)) s none_1 none_2 end
event_more events rest h (TakeKill a) s none_1 none_2 end = rest (add_event h (TakeKill a)) s none_1 none_2 end
event_more events rest h (Tell a c) s none_1 none_2 end = rest (add_event h (Tell a c)) s none_1 none_2 end
event_more events rest h (Retire a) s none_1 none_2 end = rest (add_event h (Retire a)) s none_1 none_2 end

no_events : (events : List Event) → Rest events
no_events [] h s none_1 none_2 end = let bad : [] ≡ circle_ran 2 1 2 ∷ circle_ran 1 0 5 ∷ [] = sym none_1 ∙ end.runs_1 in cc
no_events (event ∷ events) h s none_1 none_2 end = go (refusal_of h event) refl (no_events events) end
  where
    go : (o : Option WorldRefusal) → refusal_of h event ≡ o → Rest events → IsCircle (after_all (after_by h event o) events) → ⊥
    go None accepted rest end = event_more events rest h event (sound_step h event s accepted) none_1 none_2 end
    go (Some refusal) refused rest end = rest h s none_1 none_2 end

pub unplayed : (casts : List ActorSpec) (events : List Event) → IsCircle (after_all (opening casts) events) → ⊥
unplayed casts events end = no_events events (opening casts) (world_sound casts []) refl refl end
