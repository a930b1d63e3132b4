-- What is done without a choice: where the play stands then.
use Rattle.act_plan_plays.proofs.Common.{◌≡◌, ◌≢◌, ℕ, ◌+◌, ◌<◌, ◌≤◌, Bool, true, false, cond, List, [], ◌∷◌, ◌++◌, length, Option, Some, None, refl, ap, sym}
use Rattle.act_plan_plays.proofs.Common.{◌∙◌, subst, arith, get_or, ◌==◌, ◌||◌, slice_get, slice_set, eqb-true, eq-eqb, slice_get_past, get_or_from_slice_get}
use Rattle.act_plan_plays.proofs.Common.{Event, Did, WorldRefusal, Step, Submit, Copy, Release, Kill, Await, occurrences, ActorSpec, History, contains, names}
use Rattle.act_plan_plays.proofs.Common.{cast_of, is_dead, refusal_of, did, add_event, after_by, after, slice_get_last, WorldView, get_set-same, get_set-other}
use Rattle.act_plan_plays.proofs.Common.{contains_push, At, steps_of, next_step, MayTake, taken, skipped, with_event, IsPlay, Closes, Happens, HaveSameChoices}
use Rattle.act_plan_plays.proofs.Common.{occurrences-push, Quiesces, quiesces_same, quiesces_trans, quiet_quiesces, step_quiesces, skip_quiesces}
use Rattle.act_plan_plays.proofs.Common.{death_quiesces, Parts, IsBehind, HasSteps, HasAsked, IsBrought, Stands, after_mail, after_post, after_move, HasDone}
use Rattle.act_rules.specs.declared.event.Event.TheVariants as event
use Rattle.act_rules.specs.declared.outcome.Did.TheVariants as did_so
use Rattle.act_rules.specs.declared.history.Post.TheVariants.{Death as DeathPost}
use Rattle.act_plan_plays.proofs.Brought.{brought_kept, brought_release, brought_send}

-- where the play comes to
abbrev pub Comes : List ActorSpec → (ℕ → List Step) → At → Parts → Type 0
Comes casts plans at new = (next : At) × Stands casts plans next new × HaveSameChoices at.history next.history

pub comes : (casts : List ActorSpec) (plans : ℕ → List Step) (at next : At) (new : Parts) → Quiesces casts plans at next → IsBehind casts next.history new.world
    new.events → HasSteps next new.done → HasAsked next.history new.asked → IsBrought next.history → Comes casts plans at new
comes casts plans at next new goes behind steps asked brought = (
  next,
  record { play = goes.play; live = goes.live; behind = behind; steps = steps; asked = asked; brought = brought },
  record { choices = λ a. sym (goes.choices a); killed = λ a. ap (contains a) (sym goes.killed) },
)

-- ---- a letter that is brought

abbrev moved : At → History → At
moved p h = record { history = h; stepped = p.stepped }

deliver_goes : (casts : List ActorSpec) (plans : ℕ → List Step) (i : ℕ) (p : At) → IsPlay casts plans p → p.history.retired ≡ []
    → Quiesces casts plans p (moved p (after p.history (event.Deliver i)))
deliver_goes casts plans i p play live = go (refusal_of p.history (event.Deliver i)) refl
  where
    go : (o : Option WorldRefusal) → refusal_of p.history (event.Deliver i) ≡ o → Quiesces casts plans p (moved p (after_by p.history (event.Deliver i) o))
    go None e = quiet_quiesces (event.Deliver i) play live refl refl (Happens p (event.Deliver i) play refl e)
    go (Some refusal) e = quiesces_same play live

mail_goes : {casts : List ActorSpec} {plans : ℕ → List Step} (told : Did) (p : At) → IsPlay casts plans p → p.history.retired ≡ []
    → Quiesces casts plans p (moved p (after_mail told p.history))
mail_goes {casts} {plans} (did_so.Mail i) p play live = deliver_goes casts plans i p play live
mail_goes {casts} {plans} told p play live = quiesces_same play live

-- what was asked stays
deliver_asked : (h : History) (i : ℕ) → (after h (event.Deliver i)).asked ≡ h.asked
deliver_asked h i = go (refusal_of h (event.Deliver i))
  where
    go : (o : Option WorldRefusal) → (after_by h (event.Deliver i) o).asked ≡ h.asked
    go None = refl
    go (Some refusal) = refl

pub mail_asked : (told : Did) (h : History) → (after_mail told h).asked ≡ h.asked
mail_asked (did_so.Mail i) h = deliver_asked h i
mail_asked told h = refl

-- ---- a caller's steps

-- the places of the callers, where one goes on
pub steps_more : (c : ℕ) (at next : At) (done : List ℕ) → c < 17 → HasSteps at done → next.stepped ≡ at.stepped ++ c ∷ []
    → HasSteps next (slice_set done c (steps_of c at + 1))
steps_more c at next done below steps more d within = go (c == d) refl
  where
    count : steps_of d next ≡ steps_of d at + cond (c == d) 1 0
    count = ap (occurrences d) more ∙ occurrences-push d c at.stepped

    go : (b : Bool) → (c == d) ≡ b → slice_get (slice_set done c (steps_of c at + 1)) d ≡ Some (steps_of d next)
    go true e =
        let same : c ≡ d = eqb-true c d e in
        let one : steps_of d next ≡ steps_of d at + 1 = count ∙ ap (λ x. steps_of d at + cond x 1 0) e in
        subst (λ x. slice_get (slice_set done c (steps_of c at + 1)) x ≡ Some (steps_of x at + 1)) same
        (get_set-same done c (steps_of c at + 1) (steps c below))
        ∙ ap (λ n. Some n) (sym one)
    go false e =
        let none : steps_of d next ≡ steps_of d at + 0 = count ∙ ap (λ x. steps_of d at + cond x 1 0) e in
        let apart : c ≢ d = λ same. let bad : true ≡ false = sym (eq-eqb c d same) ∙ e in cc in
        get_set-other done c d (steps_of c at + 1) apart ∙ steps d within
        ∙ ap (λ n. Some n) (let same : steps_of d at ≡ steps_of d next = omega (arith, none) in same)

-- what is read of a caller's steps
pub done_is : {c n : ℕ} (at : At) (done : List ℕ) → n ≡ c → c < 17 → HasSteps at done → get_or done n 0 ≡ steps_of c at
done_is {c} at done same below steps = ap (λ m. get_or done m 0) same ∙ get_or_from_slice_get done c (steps_of c at) 0 (steps c below)

-- a caller's next step is what stands in its plan at the number of steps that it is done with
pub next_is : (plans : ℕ → List Step) (c : ℕ) {n : ℕ} (at : At) {plan : List Step} {next : Option Step} → plans c ≡ plan → n ≡ steps_of c at →
    slice_get plan n ≡ next → next_step plans c at ≡ next
next_is plans c at {plan} holds count at_plan = ap (λ l. slice_get l (steps_of c at)) holds ∙ ap (slice_get plan) (sym count) ∙ at_plan

-- a caller that is done with as many steps as its plan has, or more, has no next one
pub next_none : (plans : ℕ → List Step) (c : ℕ) {n : ℕ} (at : At) {plan : List Step} → plans c ≡ plan → n ≡ steps_of c at → length plan ≤ n
    → next_step plans c at ≡ None
next_none plans c {n} at {plan} holds count past = next_is plans c at holds count (slice_get_past plan n past)

step_brought : (c : ℕ) (step : Step) (h : History) → MayTake c step h → IsBrought h → IsBrought (after_move c step h)
step_brought c (Submit a method args) h may brought = brought_kept h (event.Submit c a method args) may refl brought
step_brought c (Copy a) h may brought = brought_kept h (event.Copy c a) may refl brought
step_brought c (Release a) h may brought = brought_release h c a may brought
step_brought c (Kill a) h may brought = brought_kept h (event.AskKill c a) may refl brought
step_brought c (Await k) h may brought = brought

-- the caller took the step, and a letter that it told was brought
step_goes : (casts : List ActorSpec) (plans : ℕ → List Step) (c : ℕ) (step : Step) (p : At) → IsPlay casts plans p → p.history.retired ≡ [] → next_step plans c
    p ≡ Some step → MayTake c step p.history → Quiesces casts plans p (record { history = after_move c step p.history; stepped = p.stepped ++ c ∷ [] })
step_goes casts plans c (Release a) p play live next may =
    let first = step_quiesces c (Release a) p play live next may in let q = taken c (Release a) p in
    quiesces_trans first
    (mail_goes (did p.history (event.Release c a)) q first.play first.live)
step_goes casts plans c step p play live next may = step_quiesces c step p play live next may

pub step_comes : (casts : List ActorSpec) (plans : ℕ → List Step) (c : ℕ) {step : Step} (at : At) {old new : Parts} {slot : ℕ} (n : ℕ) → c < 17 →
    Stands casts plans at old → next_step plans c at ≡ Some step → HasDone casts at.history c step new → new.done ≡ old.done → slot ≡ c → n ≡ steps_of c at →
    Comes casts plans at (record new { done = slice_set new.done slot (n + 1) })
step_comes casts plans c {step} at {old} {new} n below stands next did same slot_is count =
    subst (λ m. Comes casts plans at (record new { done = slice_set new.done m (n + 1) })) (sym slot_is)
    (subst (λ m. Comes casts plans at (record new { done = slice_set new.done c (m + 1) })) (sym count) (
    let q : At = record { history = after_move c step at.history; stepped = at.stepped ++ c ∷ [] } in
    comes casts plans at q (record new { done = slice_set new.done c (steps_of c at + 1) })
    (step_goes casts plans c step at stands.play stands.live next did.may) did.behind
    (subst (λ l. HasSteps q (slice_set l c (steps_of c at + 1))) (sym same) (steps_more c at q old.done below stands.steps refl)) did.asked
    (step_brought c step at.history did.may stands.brought)))

pub skip_comes : (casts : List ActorSpec) (plans : ℕ → List Step) (c a : ℕ) (at : At) {old : Parts} {slot : ℕ} (n : ℕ) → c < 17 → Stands casts plans at old →
    next_step plans c at ≡ Some (Kill a) → names c (cast_of a at.history) ≡ true → is_dead a at.history ≡ true → slot ≡ c → n ≡ steps_of c at →
    Comes casts plans at (record old { done = slice_set old.done slot (n + 1) })
skip_comes casts plans c a at {old} n below stands next named dead slot_is count =
    subst (λ m. Comes casts plans at (record old { done = slice_set old.done m (n + 1) })) (sym slot_is)
    (subst (λ m. Comes casts plans at (record old { done = slice_set old.done c (m + 1) })) (sym count) (
    comes casts plans at (skipped c at) (record old { done = slice_set old.done c (steps_of c at + 1) })
    (skip_quiesces c a at stands.play stands.live next named dead) stands.behind
    (steps_more c at (skipped c at) old.done below stands.steps refl) stands.asked stands.brought))

-- ---- what is no step

-- a kill more is asked
pub asked_more : (h : History) (c a : ℕ) (asked more : List ℕ) → ((b : ℕ) → contains b more ≡ (contains b asked || (a == b))) → HasAsked h asked
    → HasAsked (add_event h (event.AskKill c a)) more
asked_more h c a asked more is held b = is b ∙ ap (λ x. x || (a == b)) (held b) ∙ sym (contains_push b a h.asked)

pub asked_same : (h g : History) (asked : List ℕ) → g.asked ≡ h.asked → HasAsked h asked → HasAsked g asked
asked_same h g asked same held a = held a ∙ ap (λ l. contains a l) (sym same)

pub close_comes : (casts : List ActorSpec) (plans : ℕ → List Step) (c a : ℕ) (at : At) {old : Parts} {world : WorldView} {events : List Event} →
    Stands casts plans at old → next_step plans c at ≡ None → refusal_of at.history (event.Release c a) ≡ None →
    IsBehind casts (after_post (event.Release c a) at.history) world events → Comes casts plans at (record old { world = world; events = events })
close_comes casts plans c a at {old} {world} {events} stands next may behind =
    let q = with_event (event.Release c a) at in
    let first = quiet_quiesces (event.Release c a) stands.play stands.live refl refl (Closes at c a stands.play next may) in
    let told = did at.history (event.Release c a) in let r = moved q (after_mail told q.history) in
    comes casts plans at r (record old { world = world; events = events })
    (quiesces_trans first (mail_goes told q first.play first.live)) behind
    stands.steps (asked_same at.history r.history old.asked (mail_asked told q.history) stands.asked) (brought_release at.history c a may stands.brought)

pub release_asked : (h : History) (c a : ℕ) (asked : List ℕ) → HasAsked h asked → HasAsked (after_move c (Release a) h) asked
release_asked h c a asked held = asked_same h (after_post (event.Release c a) h) asked
    (mail_asked (did h (event.Release c a)) (add_event h (event.Release c a))) held

pub send_comes : (casts : List ActorSpec) (plans : ℕ → List Step) (c k : ℕ) (at : At) {old : Parts} {world : WorldView} {events : List Event} →
    Stands casts plans at old → refusal_of at.history (event.Send c k) ≡ None → IsBehind casts (after_post (event.Send c k) at.history) world events →
    Comes casts plans at (record old { world = world; events = events })
send_comes casts plans c k at {old} {world} {events} stands may behind =
    let q = with_event (event.Send c k) at in
    let first = quiet_quiesces (event.Send c k) stands.play stands.live refl refl (Happens at (event.Send c k) stands.play refl may) in
    let told = did at.history (event.Send c k) in let r = moved q (after_mail told q.history) in
    comes casts plans at r (record old { world = world; events = events })
    (quiesces_trans first (mail_goes told q first.play first.live)) behind
    stands.steps (asked_same at.history r.history old.asked (mail_asked told q.history) stands.asked) (brought_send at.history c k may stands.brought)

-- two outcomes that tell places are the same where their places are
pub told_place : {i j : ℕ} → did_so.Told i ≡ did_so.Told j → i ≡ j
told_place e = cc

pub tell_comes : (casts : List ActorSpec) (plans : ℕ → List Step) (c a j : ℕ) (at : At) {old : Parts} {world : WorldView} {events : List Event} →
    Stands casts plans at old → refusal_of at.history (event.Tell a c) ≡ None → j ≡ length at.history.posts → refusal_of (add_event at.history (event.Tell a c))
    (event.Collect j) ≡ None → IsBehind casts (add_event (add_event at.history (event.Tell a c)) (event.Collect j)) world events →
    Comes casts plans at (record old { world = world; events = events })
tell_comes casts plans c a j at {old} {world} {events} stands may place collects behind =
    let h = at.history in let q = with_event (event.Tell a c) at in
    let first = quiet_quiesces (event.Tell a c) stands.play stands.live refl refl (Happens at (event.Tell a c) stands.play refl may) in
    let there : slice_get q.history.posts j ≡ Some (DeathPost c a) = ap (slice_get q.history.posts) place ∙ slice_get_last h.posts (DeathPost c a) in
    let r = with_event (event.Collect j) q in let told = brought_kept h (event.Tell a c) may refl stands.brought in
    comes casts plans at r (record old { world = world; events = events })
    (quiesces_trans first (death_quiesces casts plans j c a q first.play first.live there)) behind
    stands.steps stands.asked (brought_kept q.history (event.Collect j) collects refl told)

-- ---- one after the other

-- if a history has the choices of another, and that one those of a third, the first has those of the third
pub same_trans : {h g k : History} → HaveSameChoices h g → HaveSameChoices g k → HaveSameChoices h k
same_trans one two = record { choices = λ a. one.choices a ∙ two.choices a; killed = λ a. one.killed a ∙ two.killed a }

pub same_here : (h : History) → HaveSameChoices h h
same_here h = record { choices = λ a. refl; killed = λ a. refl }
