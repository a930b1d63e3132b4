-- How a play stands after what happened so far.
use Rattle.act_order_plays.proofs.Common.{◌≡◌, ℕ, ◌==◌, Bool, true, false, cond, List, [], ◌∷◌, ◌++◌, map, filter, Some, None, Err, slice_get, refl, sym, ap}
use Rattle.act_order_plays.proofs.Common.{subst, ◌∙◌, AllByRecursion, ActorDied, Event, Post, RunItem, Submission, kept_at, History, contains, under, calls_of}
use Rattle.act_order_plays.proofs.Common.{runs_of, kept_of, refusal_of, add_event, after, after_by, after_all, after_all-append, Grows, PostsAreSound}
use Rattle.act_order_plays.proofs.Common.{kept_stays, IsSound, Happening, Outcome, Failed, Died, Open, Told, call_of, kept_for, casts_of, args_of, future_of}
use Rattle.act_order_plays.proofs.Common.{ReplyPost, DeathPost, Ran, Told_answer, IsIn}
use Rattle.act_order_plays.proofs.Fronts.{submits, rans, is_by, is_to, subs_of, rans_of}
use Rattle.act_order_plays.proofs.Answering.{Suits, method_of, IsTaken, IsItem, AreItems}

-- ---- events that lead on

-- some events lead to a history of which this holds
abbrev pub Leads : (History → Type 0) → History → Type 0
Leads P h = (events : List Event) × P (after_all h events)

-- no event is needed to lead to what already holds
pub leads_now : (P : History → Type 0) (h : History) → P h → Leads P h
leads_now P h p = ([], p)

-- what events lead to after an accepted event, events lead to from before it
pub leads_by : (P : History → Type 0) (h : History) (event : Event) → refusal_of h event ≡ None → Leads P (add_event h event) → Leads P h
leads_by P h event accepted rest =
    let same : add_event h event ≡ after h event = ap (λ o. after_by h event o) (sym accepted) in
    (event ∷ rest.0, subst (λ g. P (after_all g rest.0)) same rest.1)

-- where events lead to one thing, and from wherever it holds on to a second, events lead to the second
pub leads_then : (P Q : History → Type 0) (h : History) → Leads P h → ((g : History) → P g → Leads Q g) → Leads Q h
leads_then P Q h first then =
    let second = then (after_all h first.0) first.1 in (first.0 ++ second.0, subst Q (sym (after_all-append h first.0 second.0)) second.1)

-- ---- what stands

-- a call's submission: to its actor, with the method for its outcome and the futures that it takes
abbrev pub sub_of : Told → ℕ → Submission
sub_of told n = record { actor = (call_of told n).actor; method = method_of (call_of told n).outcome; args = args_of told n }

-- a call's submission, with its caller
abbrev pub pair_of : Told → ℕ → ℕ × Submission
pair_of told n = ((call_of told n).caller, sub_of told n)

-- all that ran, by the calls
abbrev pub Agree : Told → List (ℕ × RunItem) → List ℕ → Type 0
Agree told [] [] = Unit {0}
Agree told [] (n ∷ ns) = ⊥
Agree told (run ∷ runs) [] = ⊥
Agree told (run ∷ runs) (n ∷ ns) = (run.0 ≡ (call_of told n).actor) × IsItem told n run.1 × Agree told runs ns

-- the answer of some call to this actor was told, and it is the actor's death
pub record IsDeath (told : Told) (before : List Happening) (a : ℕ) : Type 0 where
  pub call : ℕ
  pub has : IsIn before (Told_answer call)
  pub died : (call_of told call).outcome ≡ Died
  pub actor : (call_of told call).actor ≡ a

-- a right post is a reply of a call that ran at its place and whose answer is taken, or a death that was told
abbrev pub IsRight : Told → List Happening → Post → Type 0
IsRight told before (ReplyPost c a place) = (n : ℕ) × (slice_get (rans_of told before a) place ≡ Some n) × IsTaken (call_of told n).outcome
IsRight told before (DeathPost c a) = IsDeath told before a

-- the lists
pub record Shape (told : Told) (before : List Happening) (h : History) : Type 0 where
  pub casts : h.casts ≡ casts_of told
  pub copied : h.copied ≡ []
  pub released : h.released ≡ []
  pub retired : h.retired ≡ []
  pub submitted : h.submitted ≡ map (pair_of told) (submits before)
  pub ran : Agree told h.ran (rans before)
  pub collected : AllByRecursion (IsRight told before) h.collected
  pub killed : (a : ℕ) → contains a h.killed ≡ true → IsDeath told before a
  pub sound : IsSound h

-- the answers
pub record Keeps (told : Told) (before : List Happening) (h : History) : Type 0 where
  pub answers : (n : ℕ) → IsIn before (Ran n) → IsTaken (call_of told n).outcome → Suits (call_of told n).outcome (kept_for told n h)
  pub deaths : (n : ℕ) → IsIn before (Told_answer n) → (call_of told n).outcome ≡ Died → kept_for told n h ≡ Some (Err ActorDied)

pub record Stands (told : Told) (before : List Happening) (h : History) : Type 0 where
  pub shape : Shape told before h
  pub keeps : Keeps told before h

-- ---- what stays

pub kept_for_stays : (h g : History) (c k : ℕ) (outcome : Outcome) → Grows h g → PostsAreSound h → Suits outcome (kept_at (kept_of c h) k) →
    Suits outcome (kept_at (kept_of c g) k)
kept_for_stays h g c k Failed grows sound kept = (kept.0, kept_stays h c k grows sound kept.1, kept.2)
kept_for_stays h g c k Open grows sound kept = tt
kept_for_stays h g c k outcome grows sound kept = kept_stays h c k grows sound kept

-- kept answers that fit what happened still do in a history that grew, where its posts were sound before
pub keeps_stays : {told : Told} {before : List Happening} {h g : History} → Grows h g → PostsAreSound h → Keeps told before h → Keeps told before g
keeps_stays {told} {h} {g} grows sound keeps = record {
  answers = λ n has taken. kept_for_stays h g (call_of told n).caller (future_of told n) (call_of told n).outcome grows sound (keeps.answers n has taken);
  deaths = λ n has died. kept_stays h (call_of told n).caller (future_of told n) grows sound (keeps.deaths n has died);
}

-- the lists that a history shares with another
pub record IsLike (h g : History) : Type 0 where
  pub casts : g.casts ≡ h.casts
  pub copied : g.copied ≡ h.copied
  pub released : g.released ≡ h.released
  pub retired : g.retired ≡ h.retired
  pub submitted : g.submitted ≡ h.submitted
  pub ran : g.ran ≡ h.ran
  pub collected : g.collected ≡ h.collected
  pub killed : g.killed ≡ h.killed

-- lists that agree with what happened do so in a sound history that shares them, too
pub shape_stays : {told : Told} {before : List Happening} (h : History) {g : History} → IsLike h g → IsSound g → Shape told before h → Shape told before g
shape_stays {told} {before} h like sound shape = record {
  casts = like.casts ∙ shape.casts;
  copied = like.copied ∙ shape.copied;
  released = like.released ∙ shape.released;
  retired = like.retired ∙ shape.retired;
  submitted = like.submitted ∙ shape.submitted;
  ran = subst (λ ran. Agree told ran (rans before)) (sym like.ran) shape.ran;
  collected = subst (λ posts. AllByRecursion (IsRight told before) posts) (sym like.collected) shape.collected;
  killed = λ a is. shape.killed a (subst (λ killed. contains a killed ≡ true) like.killed is);
  sound = sound;
}

-- ---- lists by the calls

pub agree_push : {told : Told} (runs : List (ℕ × RunItem)) (ns : List ℕ) (run : ℕ × RunItem) (n : ℕ) → Agree told runs ns → run.0 ≡ (call_of told n).actor →
    IsItem told n run.1 → Agree told (runs ++ run ∷ []) (ns ++ n ∷ [])
agree_push [] [] run n agree actor is = (actor, is, tt)
agree_push {told} (first ∷ runs) (m ∷ ns) run n agree actor is = (agree.0, agree.1, agree_push runs ns run n agree.2 actor is)
agree_push runs ns run n agree actor is = absurd agree

pub agree_under : (told : Told) (a : ℕ) (runs : List (ℕ × RunItem)) (ns : List ℕ) → Agree told runs ns → AreItems told (under a runs) (filter (is_to told a) ns)
agree_under told a [] [] agree = tt
agree_under told a (run ∷ runs) (n ∷ ns) agree =
    let same : (run.0 == a) ≡ is_to told a n = ap (λ b. b == a) agree.0 in
    subst (λ b. AreItems told (map (λ (r : ℕ × RunItem). r.1)
    (cond b (run ∷ filter (λ (r : ℕ × RunItem). r.0 == a) runs) (filter (λ (r : ℕ × RunItem). r.0 == a) runs)))
    (cond (is_to told a n) (n ∷ filter (is_to told a) ns) (filter (is_to told a) ns))) (sym same) (go (is_to told a n) (agree_under told a runs ns agree.2))
  where
    go : (b : Bool) → AreItems told (under a runs) (filter (is_to told a) ns) → AreItems told (map (λ (r : ℕ × RunItem). r.1) (cond b (run ∷ filter
        (λ (r : ℕ × RunItem). r.0 == a) runs) (filter (λ (r : ℕ × RunItem). r.0 == a) runs))) (cond b (n ∷ filter (is_to told a) ns) (filter (is_to told a) ns))
    go true rest = (agree.1, rest)
    go false rest = rest
agree_under told a runs ns agree = absurd agree

-- an actor's run list
pub runs_are : {told : Told} {before : List Happening} {h : History} (a : ℕ) → Shape told before h → AreItems told (runs_of a h) (rans_of told before a)
runs_are {told} {before} {h} a shape = agree_under told a h.ran (rans before) shape.ran

under_map : (told : Told) (c : ℕ) (ns : List ℕ) → under c (map (pair_of told) ns) ≡ map (sub_of told) (filter (is_by told c) ns)
under_map told c [] = refl
under_map told c (n ∷ ns) = go (is_by told c n) (under_map told c ns)
  where
    go : (b : Bool) → under c (map (pair_of told) ns) ≡ map (sub_of told) (filter (is_by told c) ns) →
        map (λ (p : ℕ × Submission). p.1) (cond b (pair_of told n ∷ filter (λ (p : ℕ × Submission). p.0 == c) (map (pair_of told) ns)) (filter
        (λ (p : ℕ × Submission). p.0 == c) (map (pair_of told) ns))) ≡ map (sub_of told) (cond b (n ∷ filter (is_by told c) ns) (filter (is_by told c) ns))
    go true rest = ap (λ l. sub_of told n ∷ l) rest
    go false rest = rest

-- a caller's submissions
pub calls_are : (told : Told) (before : List Happening) (h : History) (c : ℕ) → Shape told before h → calls_of c h ≡ map (sub_of told) (subs_of told before c)
calls_are told before h c shape = ap (λ pairs. under c pairs) shape.submitted ∙ under_map told c (submits before)
