-- An actor that is told retired can retire once all else is done.
use Rattle.act_told_ends.proofs.Common.{◌≡◌, ℕ, zero, suc, Bool, true, false, List, [], ◌∷◌, length, Option, Some, None, inl, inr, ◌⊎◌, refl, ap, sym, or_left}
use Rattle.act_told_ends.proofs.Common.{◌∙◌, subst, arith, All, IsOk, ◌==◌, ◌||◌, find, is_some, nat_lt, nat_tests, list_all, AllByRecursion, eq-eqb, or_right}
use Rattle.act_told_ends.proofs.Common.{length-map, and_from, Event, Letter, RunItem, Submission, Step, ActorSpec, History, opening, contains, names, cast_of}
use Rattle.act_told_ends.proofs.Common.{callers_in, is_caller, calls_of, copies_of, runs_of, ran_count, items_of, is_dead, is_retired, is_ended, is_done}
use Rattle.act_told_ends.proofs.Common.{is_drained, has_letter, calls_to, handle_refusal, deliver_refusal, outcomes, history, ran_all, summary, At, IsPlay}
use Rattle.act_told_ends.proofs.Common.{both_ways, NoteLetter, named_among, notes_sent, NotesSent, IsWorld, world, Told, Leaves, EndsAsTold, IsThrough}
use Rattle.act_told_ends.proofs.Common.{MayRetire, LetsGo, Notes, Retires, IsToRetire, RetiredAsTold, last_note, letter_place}
use Rattle.act_early.proofs.Listed.{all_actors, cast_listed}
use Rattle.act_early.proofs.Told.{same_told}
use Rattle.act_told_ends.proofs.Bridge.{IsLate, late_play, free_play}
use Rattle.act_told_ends.proofs.Covered.{cast_same}
use Rattle.act_told_ends.proofs.Going.{has_copies, may_deliver}
use Rattle.act_told_ends.proofs.Through.{world_of}
use Rattle.act_rules.proofs.Elements.{all_listed}

-- a play that ends as is told, and a walk that is through
record IsRest (casts : List ActorSpec) (bound : ℕ → Option (List Step)) (told : Told) (plans : ℕ → List Step) (late : At) (g : History) : Type 0 where
  end : IsLate casts bound told plans late
  left : Leaves told g
  world : IsWorld casts g
  notes : NotesSent g

-- ---- one actor

-- a retired actor ran all that it was sent, and the walk made the same calls
counted : (casts : List ActorSpec) (bound : ℕ → Option (List Step)) (told : Told) (plans : ℕ → List Step) (late : At) (g : History) (c a : ℕ)
    → IsRest casts bound told plans late g → told.retired a ≡ true → ran_count c a g ≡ length (calls_to a (calls_of c g))
counted casts bound told plans late g c a r is =
    let w = world casts plans late r.end.play in
    let runs : runs_of a g ≡ runs_of a late.history = r.left.runs a ∙ sym (r.end.leaves.runs a) in
    let calls : calls_of c late.history ≡ calls_of c g = r.end.leaves.calls c ∙ sym (r.left.calls c) in
    ap (λ items. length (items_of c items)) runs
    ∙ sym (length-map (items_of c (runs_of a late.history)) (λ (i : RunItem). i.future))
    ∙ ap (λ l. length l) (ran_all a c w.sound w.retires (r.end.retired a ∙ is))
    ∙ length-map (calls_to a (calls_of c late.history)) (λ (call : ℕ × Submission). call.0)
    ∙ ap (λ l. length (calls_to a l)) calls

lives : (casts : List ActorSpec) (bound : ℕ → Option (List Step)) (told : Told) (plans : ℕ → List Step) (late : At) (g : History) (a : ℕ)
    → IsRest casts bound told plans late g → IsToRetire told a g → is_ended a g ≡ false
lives casts bound told plans late g a r to =
    let w = world casts plans late r.end.play in
    let alive : is_dead a g ≡ false = r.left.dead a ∙ sym (r.end.leaves.dead a) ∙ w.live a (r.end.retired a ∙ to.0) in
    ap (λ b. b || is_retired a g) alive ∙ to.1

-- a caller is done with it, or there is something to do
one_caller : (casts : List ActorSpec) (bound : ℕ → Option (List Step)) (told : Told) (plans : ℕ → List Step) (late : At) (g : History) (c a : ℕ)
    → IsRest casts bound told plans late g → IsToRetire told a g → names c (cast_of a g) ≡ true → (is_done c a g ≡ true) ⊎ MayRetire told g
one_caller casts bound told plans late g c a r to named = copies (has_copies c a g named)
  where
    known : is_caller c g ≡ true
    known = named_among c a g.casts named

    letter : Letter
    letter = last_note c a g

    arrives : copies_of c a g ≡ Some 0 → (y : Bool) → has_letter letter g.arrived ≡ y → (is_done c a g ≡ true) ⊎ MayRetire told g
    arrives gone true e = inl (subst (λ n. has_letter (NoteLetter c a n) g.arrived ≡ true) (sym (counted casts bound told plans late g c a r to.0)) e)
    arrives gone false e =
        let place = letter_place letter g.mail (r.notes c a gone) in
        inr (Notes c a place.0 to e place.1 (ap (λ o. deliver_refusal o g) place.1 ∙ may_deliver letter g (lives casts bound told plans late g a r to)))

    copies : (n : ℕ) × (copies_of c a g ≡ Some n) → (is_done c a g ≡ true) ⊎ MayRetire told g
    copies (zero, gone) = arrives gone (has_letter letter g.arrived) refl
    copies (suc n, holds) =
        let some : nat_lt 0 (suc n) ≡ true = grind (arith, nat_tests) in
        let free : handle_refusal (copies_of c a g) ≡ None = ap handle_refusal holds ∙ rw some refl in inr (LetsGo c a to (rw (known, free) refl))

-- all of these callers are done with it, or there is something to do
each_caller : {casts : List ActorSpec} {bound : ℕ → Option (List Step)} {told : Told} {plans : ℕ → List Step} {late : At} (g : History) (a : ℕ)
    → IsRest casts bound told plans late g → IsToRetire told a g → (cs : List ℕ) → ((c : ℕ) → contains c cs ≡ true → names c (cast_of a g) ≡ true)
    → (list_all (λ c. is_done c a g) cs ≡ true) ⊎ MayRetire told g
each_caller g a r to [] named = inl refl
each_caller {casts} {bound} {told} {plans} {late} g a r to (c ∷ cs) named =
    both (one_caller casts bound told plans late g c a r to (named c (or_left (c == c) (contains c cs) (eq-eqb c c refl))))
    (each_caller g a r to cs (λ d has. named d (or_right (c == d) (contains d cs) has)))
  where
    both : (is_done c a g ≡ true) ⊎ MayRetire told g → (list_all (λ c. is_done c a g) cs ≡ true) ⊎ MayRetire told g
        → (list_all (λ c. is_done c a g) (c ∷ cs) ≡ true) ⊎ MayRetire told g
    both (inr goal) rest = inr goal
    both (inl done) (inr goal) = inr goal
    both (inl done) (inl rest) = inl (and_from (is_done c a g) (list_all (λ c. is_done c a g) cs) done rest)

one_actor : (casts : List ActorSpec) (bound : ℕ → Option (List Step)) (told : Told) (plans : ℕ → List Step) (late : At) (g : History) (a : ℕ)
    → IsRest casts bound told plans late g → IsToRetire told a g → MayRetire told g
one_actor casts bound told plans late g a r to = go (each_caller g a r to (callers_in (cast_of a g)) (λ c has. has))
  where
    w : IsWorld casts late.history
    w = world casts plans late r.end.play

    cast : is_some (cast_of a g) ≡ true
    cast = ap (λ o. is_some o) (cast_same a w r.world) ∙ w.cast a (r.end.retired a ∙ to.0)

    go : (is_drained a g ≡ true) ⊎ MayRetire told g → MayRetire told g
    go (inr goal) = goal
    go (inl drained) = let live = lives casts bound told plans late g a r to in Retires a to (rw (cast, live, drained) refl)

-- ---- all actors

-- one is retired as is told, or there is something to do
is_so : (casts : List ActorSpec) (bound : ℕ → Option (List Step)) (told : Told) (plans : ℕ → List Step) (late : At) (g : History) (a : ℕ)
    → IsRest casts bound told plans late g → (told.retired a ≡ true → is_retired a g ≡ true) ⊎ MayRetire told g
is_so casts bound told plans late g a r = go (told.retired a) (is_retired a g) refl refl
  where
    go : (x y : Bool) → told.retired a ≡ x → is_retired a g ≡ y → (told.retired a ≡ true → is_retired a g ≡ true) ⊎ MayRetire told g
    go false y e f = inl (λ is. let bad : true ≡ false = sym is ∙ e in cc)
    go true true e f = inl (λ _. f)
    go true false e f = inr (one_actor casts bound told plans late g a r (e, f))

all_so : {casts : List ActorSpec} {bound : ℕ → Option (List Step)} {told : Told} {plans : ℕ → List Step} {late : At} (g : History) (xs : List ℕ)
    → IsRest casts bound told plans late g → AllByRecursion (λ a. told.retired a ≡ true → is_retired a g ≡ true) xs ⊎ MayRetire told g
all_so g [] r = inl tt
all_so {casts} {bound} {told} {plans} {late} g (a ∷ xs) r = both (is_so casts bound told plans late g a r) (all_so g xs r)
  where
    both : (told.retired a ≡ true → is_retired a g ≡ true) ⊎ MayRetire told g → AllByRecursion (λ a. told.retired a ≡ true → is_retired a g ≡ true) xs ⊎
        MayRetire told g → AllByRecursion (λ a. told.retired a ≡ true → is_retired a g ≡ true) (a ∷ xs) ⊎ MayRetire told g
    both (inr goal) rest = inr goal
    both (inl one) (inr goal) = inr goal
    both (inl one) (inl rest) = inl (one, rest)

-- where some events end as is told, others that leave this, with none retired but those told, end so or may go on
pub retire_on : {casts : List ActorSpec} {bound : ℕ → Option (List Step)} {told : Told} {events : List Event} (walk : List Event) →
    EndsAsTold casts bound told events → All IsOk (outcomes (opening casts) walk) → Leaves told (history casts walk) →
    ((a : ℕ) → is_retired a (history casts walk) ≡ true → told.retired a ≡ true) → RetiredAsTold told (history casts walk) ⊎ MayRetire told (history casts walk)
retire_on {casts} {bound} {told} {events} walk ends accepted leaves only =
    let played : (plans : ℕ → List Step) × (at : At) × IsPlay casts plans at × (at.history ≡ g) = free_play casts walk accepted in
    let r : IsRest casts bound told found.0 found.1 g =
    record { end = found.2; left = leaves; world = world_of casts walk; notes = subst (λ h. NotesSent h) played.3 (notes_sent played.2) } in
    go (all_so g (all_actors casts) r)
  where
    g : History
    g = history casts walk

    found : (plans : ℕ → List Step) × (late : At) × IsLate casts bound told plans late
    found = late_play ends

    listed : (a : ℕ) → told.retired a ≡ true → contains a (all_actors casts) ≡ true
    listed a e =
        let w = world casts found.0 found.1 found.2.play in
        cast_listed a casts (ap (λ l. is_some (find (λ (cast : ActorSpec). cast.actor == a) l)) (sym w.casts) ∙ w.cast a (found.2.retired a ∙ e))

    go : AllByRecursion (λ a. told.retired a ≡ true → is_retired a g ≡ true) (all_actors casts) ⊎ MayRetire told g → RetiredAsTold told g ⊎ MayRetire told g
    go (inr goal) = inr goal
    go (inl all) = inl (λ a. both_ways (is_retired a g) (told.retired a) (only a)
        (λ e. all_listed (λ a. told.retired a ≡ true → is_retired a g ≡ true) (all_actors casts) a all (listed a e) e))

pub retiring : (casts : List ActorSpec) (bound : ℕ → Option (List Step)) (told : Told) (done : ℕ → ℕ) (events walk : List Event) →
    EndsAsTold casts bound told events → All IsOk (outcomes (opening casts) walk) → IsThrough bound told done (history casts walk) →
    ((a : ℕ) → is_retired a (history casts walk) ≡ true → told.retired a ≡ true) → RetiredAsTold told (history casts walk) ⊎ MayRetire told (history casts walk)
retiring casts bound told done events walk ends accepted through only = retire_on walk ends accepted through.leaves only

-- ---- what is told

pub told_alike : (told : Told) (one other : History) → one.casts ≡ other.casts → Leaves told one → RetiredAsTold told one → Leaves told other
    → RetiredAsTold told other → summary one ≡ summary other
told_alike told one other casts first retired second gone = same_told one other casts (record {
  calls = λ c. first.calls c ∙ sym (second.calls c);
  kept = λ c. first.kept c ∙ sym (second.kept c);
  runs = λ a. first.runs a ∙ sym (second.runs a);
  dead = λ a. first.dead a ∙ sym (second.dead a);
  retired = λ a. retired a ∙ sym (gone a);
})
