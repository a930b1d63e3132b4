-- How a walk goes on: one event, one thing after the other, and rounds.
use Rattle.act_walks.proofs.Common.{◌≡◌, ℕ, ◌+◌, Bool, true, false, List, [], ◌∷◌, ◌++◌, Option, Some, None, refl, ap, sym, ◌∙◌, subst, append_assoc}
use Rattle.act_walks.proofs.Common.{append-nil, arith, ◌||◌, inl, inr, ◌⊎◌, cases_lt, Event, Step, ActorSpec, History, history, ◌<◌, ◌≤◌, ◌==◌, ◌≢◌, slice_get}
use Rattle.act_walks.proofs.Common.{slice_set, eqb-true, eq-eqb, WorldView, IsBehind, get_set-same, get_set-other, Told, one_step_more, ToldEnd, IsEager}
use Rattle.act_walks.proofs.Common.{KillsAreAsked, bound_of, step_of, IsPaced, Others, Parts, done_in, Stands, IsEndOf, IsWalking, GoesOn, Moves, DoesEvent}
use Rattle.act_walks.proofs.Common.{DoesPost, bring, or_parts}
use Rattle.act_rules.specs.declared.event.Event.TheVariants as event

-- ---- where it stands

-- the history of a world is that of its events
pub behind_here : {casts : List ActorSpec} {h : History} {world : WorldView} {events : List Event} → IsBehind casts h world events
    → IsBehind casts (history casts events) world events
behind_here b = record { is = refl; reached = b.reached; accepted = b.accepted }

-- an event that is no step of a bound caller
pub stands_event : {end : ToldEnd} {casts : List ActorSpec} {one : Event} {old new : Parts} →
    ((c : ℕ) (steps : List Step) → bound_of end c ≡ Some steps → step_of c one ≡ None) → DoesEvent one old new → Stands end casts old → Stands end casts new
stands_event {end} {casts} {one} {old} {new} strange does s = record {
  behind = behind_here (does.behind casts (history casts old.events) s.behind).1;
  paced = subst (λ l. IsPaced casts (bound_of end) (done_in new.done) l) (sym does.events) (subst (λ d. IsPaced casts (bound_of end) (done_in d)
      (old.events ++ one ∷ [])) (sym does.done) (Others (done_in old.done) old.events one strange s.paced));
}

pub paced_letter : {casts : List ActorSpec} {bound : ℕ → Option (List Step)} {done : ℕ → ℕ} {events : List Event} (letter : Option ℕ) →
    IsPaced casts bound done events → IsPaced casts bound done (events ++ bring letter)
paced_letter {casts} {bound} {done} {events} None paced = subst (IsPaced casts bound done) (sym (append-nil events)) paced
paced_letter {done} {events} (Some i) paced = Others done events (event.Deliver i) (λ c steps is. refl) paced

pub stands_post : (end : ToldEnd) (casts : List ActorSpec) {one : Event} (old new : Parts) →
    ((c : ℕ) (steps : List Step) → bound_of end c ≡ Some steps → step_of c one ≡ None) → DoesPost one old new → Stands end casts old → Stands end casts new
stands_post end casts {one} old new strange does s = record {
  behind = behind_here (does.behind casts (history casts old.events) s.behind).1;
  paced = subst (λ l. IsPaced casts (bound_of end) (done_in new.done) l) (sym (does.events ∙ sym (append_assoc old.events (one ∷ []) (bring does.letter))))
      (subst (λ d. IsPaced casts (bound_of end) (done_in d) ((old.events ++ one ∷ []) ++ bring does.letter)) (sym does.done)
      (paced_letter does.letter (Others (done_in old.done) old.events one strange s.paced)));
}

-- ---- where some events end as is told

-- a walk keeps to what is told where its history is eager by its counts of steps, and the kills were asked
pub walking_to : (end : ToldEnd) {casts : List ActorSpec} {told : Told} {done : ℕ → ℕ} (new : Parts) {g : History} → done ≡ done_in new.done →
    g ≡ history casts new.events → IsEager casts (bound_of end) told done g → KillsAreAsked (bound_of end) told g → IsWalking end casts told new
walking_to end {casts} {told} {done} new same is eager asked = record {
  eager = subst (λ d. IsEager casts (bound_of end) told d (history casts new.events)) same (subst (IsEager casts (bound_of end) told done) is eager);
  asked = subst (KillsAreAsked (bound_of end) told) is asked;
}

-- ---- one step more

pub done_more : (c slot n : ℕ) (done : List ℕ) → slot ≡ c → slice_get done c ≡ Some n → one_step_more c (done_in done) ≡ done_in (slice_set done slot (n + 1))
done_more c slot n done same at = λ i d. each d i
  where
    each : (d : ℕ) → one_step_more c (done_in done) d ≡ done_in (slice_set done slot (n + 1)) d
    each d = go (c == d) refl
      where
        go : (b : Bool) → (c == d) ≡ b → one_step_more c (done_in done) d ≡ done_in (slice_set done slot (n + 1)) d
        go true e =
            let is : c ≡ d = eqb-true c d e in
            let one : slice_get (slice_set done slot (n + 1)) d ≡ Some (n + 1) =
            ap (λ m. slice_get (slice_set done m (n + 1)) d) same ∙ ap (λ m. slice_get (slice_set done c (n + 1)) m) (sym is)
            ∙ get_set-same done c (n + 1) at in
            rw (e, one, ap (slice_get done) (sym is) ∙ at) refl
        go false e =
            let apart : slot ≢ d = λ other. let bad : true ≡ false = sym (eq-eqb c d (sym same ∙ other)) ∙ e in cc in
            rw (e, get_set-other done slot d (n + 1) apart) refl

-- ---- whether it moved

pub goes_same : (end : ToldEnd) (walk : Parts) → GoesOn end walk walk
goes_same end walk = record { stands = λ casts s. s; walks = λ casts told e s w. w }

-- a walk that goes on to a second, which goes on to a third, goes on to the third
pub goes_trans : {end : ToldEnd} {p q r : Parts} → GoesOn end p q → GoesOn end q r → GoesOn end p r
goes_trans one two = record {
  stands = λ casts s. two.stands casts (one.stands casts s);
  walks = λ casts told e s w. two.walks casts told e (one.stands casts s) (one.walks casts told e s w);
}

-- what can't be done
abbrev pub Nothing : Type 1
Nothing = Told → (ℕ → ℕ) → History → Type 0

-- a walk that stays where it is didn't move, if what would move it can't be done of what is told
pub moves_none : (end : ToldEnd) (none : Nothing) (walk : Parts) → ((casts : List ActorSpec) (told : Told) → IsEndOf end casts told → Stands end casts walk →
    IsWalking end casts told walk → none told (done_in walk.done) (history casts walk.events)) → Moves end none walk walk false
moves_none end none walk holds = record { goes = goes_same end walk; still = λ _ casts told e s w. (refl, holds casts told e s w) }

-- a walk that goes on may be said to have moved
pub moves_yes : (end : ToldEnd) (none : Nothing) (old new : Parts) → GoesOn end old new → Moves end none old new true
moves_yes end none old new goes = record { goes = goes; still = λ e. cc }

-- two things after one another
pub moves_both : {end : ToldEnd} {first second : Nothing} (both : Nothing) {p q r : Parts} {moved : Bool} → ((told : Told) (done : ℕ → ℕ) (h : History) →
    first told done h → second told done h → both told done h) → Moves end first p q false → Moves end second q r moved → Moves end both p r moved
moves_both {end} {second} both {p} {q} {r} join one two = record {
  goes = goes_trans one.goes two.goes;
  still = λ none casts told e s w.
      let f = one.still refl casts told e s w in
      let g = two.still none casts told e (one.goes.stands casts s) (one.goes.walks casts told e s w) in (
        g.0 ∙ f.0,
        join told (done_in p.done) (history casts p.events) f.1 (subst (λ (x : Parts). second told (done_in x.done) (history casts x.events)) f.0 g.1),
      );
}

-- the last of many
pub moves_last : {end : ToldEnd} {none : Nothing} {start now new : Parts} (moved : Bool) → GoesOn end start now → (moved ≡ false → now ≡ start)
    → Moves end none now new false → Moves end none start new moved
moves_last {end} {none} {start} {now} {new} moved goes same last = record {
  goes = goes_trans goes last.goes;
  still = λ e casts told en s w.
      let is = same e in
      let f = last.still refl casts told en (goes.stands casts s) (goes.walks casts told en s w) in
      (f.0 ∙ is, subst (λ (x : Parts). none told (done_in x.done) (history casts x.events)) is f.1);
}

-- ---- one more of a row

-- a walk that tried a row's numbers up to n, and then the next, tried all up to that; it moved if it did in either
pub moves_row : {end : ToldEnd} (none : ℕ → Nothing) (n : ℕ) {m : ℕ} {p q r : Parts} {one two : Bool} → m ≡ n + 1
    → Moves end (λ told done h. (k : ℕ) → 1 ≤ k → k ≤ n → none k told done h) p q one → Moves end (none m) q r two
    → Moves end (λ told done h. (k : ℕ) → 1 ≤ k → k ≤ n + 1 → none k told done h) p r (one || two)
moves_row {end} none n {m} {p} {q} {r} {one} {two} is first second = record {
  goes = goes_trans first.goes second.goes;
  still = λ e casts told en s w.
      let both = or_parts one two e in let f = first.still both.0 casts told en s w in
      let g = second.still both.1 casts told en (first.goes.stands casts s) (first.goes.walks casts told en s w) in
      let last = subst (λ (x : Parts). none m told (done_in x.done) (history casts x.events)) f.0 g.1 in (
        g.0 ∙ f.0,
        λ k from upto. row told (done_in p.done) (history casts p.events) f.1
            (subst (λ x. none x told (done_in p.done) (history casts p.events)) is last) k from upto,
      );
}
  where
    row : (told : Told) (done : ℕ → ℕ) (h : History) → ((k : ℕ) → 1 ≤ k → k ≤ n → none k told done h) → none (n + 1) told done h
        → (k : ℕ) → 1 ≤ k → k ≤ n + 1 → none k told done h
    row told done h before last k from upto = go (cases_lt k (n + 1))
      where
        go : (k < n + 1) ⊎ (n + 1 ≤ k) → none k told done h
        go (inl lt) = before k from (omega arith)
        go (inr ge) = let same : n + 1 ≡ k = omega arith in subst (λ x. none x told done h) same last

-- a walk that tried no number of a row yet is where it was, and didn't move
pub row_none : (end : ToldEnd) (none : ℕ → Nothing) (walk : Parts) → Moves end (λ told done h. (k : ℕ) → 1 ≤ k → k ≤ 0 → none k told done h) walk walk false
row_none end none walk = moves_none end (λ told done h. (k : ℕ) → 1 ≤ k → k ≤ 0 → none k told done h) walk
    (λ casts told e s w k from upto. absurd (omega arith))
