-- A run whose reply is collected at once, and a kill: where the play stands then.
use Rattle.act_plan_plays.proofs.Common.{◌≡◌, ℕ, true, List, length, Option, Some, None, refl, sym, ◌∙◌, subst, Event, RunItem, Step, ActorSpec, History}
use Rattle.act_plan_plays.proofs.Common.{next_item, refusal_of, did, did_run, add_event, after_run, WorldView, added_grows, At, with_event, Happens, HasRunMore}
use Rattle.act_plan_plays.proofs.Common.{HasTakenMore, HaveSameChoices, heard_quiet, choices_same, run_more, Choice, Run, Take, Parts, IsBehind, Stands}
use Rattle.act_plan_plays.proofs.Common.{HasChosen, world_of, contains_push}
use Rattle.act_rules.specs.declared.event.Event.TheVariants as event
use Rattle.act_rules.specs.declared.outcome.Did.TheVariants as did_so
use Rattle.act_plan_plays.proofs.Brought.{brought_kept}
use Rattle.act_plan_plays.proofs.Moving.{asked_same}

-- what a run leaves as it was
record IsLeft (h g : History) : Type 0 where
  mail : g.mail ≡ h.mail
  asked : g.asked ≡ h.asked
  retired : g.retired ≡ h.retired

left_run : (h : History) (a c : ℕ) → IsLeft h (add_event h (event.Run a c))
left_run h a c = go (next_item a c h)
  where
    go : (o : Option RunItem) → IsLeft h (after_run a c h o)
    go None = record { mail = refl; asked = refl; retired = refl }
    go (Some item) = record { mail = refl; asked = refl; retired = refl }

-- what is told of a run
told_run : (h : History) (a c place j : ℕ) → did_so.Ran place j ≡ did h (event.Run a c) → (item : RunItem) × (next_item a c h ≡ Some item)
    × (j ≡ length h.posts)
told_run h a c place j e = go (next_item a c h) refl e
  where
    go : (o : Option RunItem) → next_item a c h ≡ o → did_so.Ran place j ≡ did_run a h o → (item : RunItem) × (next_item a c h ≡ Some item)
        × (j ≡ length h.posts)
    go None is e = cc
    go (Some item) is e = (item, is, cc)

pub run_comes : (casts : List ActorSpec) (plans : ℕ → List Step) (a c : ℕ) {place : ℕ} (j : ℕ) (at : At) {old : Parts} {world : WorldView}
    {events : List Event} → Stands casts plans at old → refusal_of at.history (event.Run a c) ≡ None → did_so.Ran place j ≡ did at.history (event.Run a c) →
    refusal_of (add_event at.history (event.Run a c)) (event.Collect j) ≡ None → IsBehind casts (add_event (add_event at.history (event.Run a c)) (event.Collect
    j)) world events → (next : At) × Stands casts plans next (record old { world = world; events = events }) × HasRunMore a c true at.history next.history
run_comes casts plans a c {place} j at {old} stands may told collects behind =
    let h = at.history in let q = with_event (event.Run a c) at in let next = with_event (event.Collect j) q in let told = told_run h a c place j told in
    let left = left_run h a c in (
      next,
      record {
        play = Happens q (event.Collect j) (Happens at (event.Run a c) stands.play refl may) refl collects;
        live = left.retired ∙ stands.live;
        behind = behind;
        steps = stands.steps;
        asked = asked_same h next.history old.asked left.asked stands.asked;
        brought = brought_kept q.history (event.Collect j) collects refl (brought_kept h (event.Run a c) may left.mail stands.brought);
      },
      subst (λ i. HasRunMore a c true h (with_event (event.Collect i) q).history) (sym told.2) (run_more casts plans a c at told.0 stands.play may told.1),
    )

pub kill_comes : (casts : List ActorSpec) (plans : ℕ → List Step) (a : ℕ) (at : At) {old : Parts} {world : WorldView} {events : List Event} →
    Stands casts plans at old → refusal_of at.history (event.TakeKill a) ≡ None → IsBehind casts (add_event at.history (event.TakeKill a)) world events →
    (next : At) × Stands casts plans next (record old { world = world; events = events }) × HasTakenMore a at.history next.history
kill_comes casts plans a at stands may behind =
    let h = at.history in let next = with_event (event.TakeKill a) at in
    let sound = (world_of casts plans at stands.play).sound in (
      next,
      record {
        play = Happens at (event.TakeKill a) stands.play refl may;
        live = stands.live;
        behind = behind;
        steps = stands.steps;
        asked = stands.asked;
        brought = brought_kept h (event.TakeKill a) may refl stands.brought;
      },
      (
        (λ b. choices_same h next.history b refl (λ place item there. heard_quiet h b place (added_grows h (event.TakeKill a)) sound refl there)),
        λ b. contains_push b a h.killed,
      ),
    )

-- and then on without a choice
pub run_on : (a c : ℕ) (h g k : History) → HasRunMore a c true h g → HaveSameChoices g k → HasRunMore a c true h k
run_on a c h g k more same = ((λ b. sym (same.choices b) ∙ more.0 b), λ b. sym (same.killed b) ∙ more.1 b)

pub taken_on : (a : ℕ) (h g k : History) → HasTakenMore a h g → HaveSameChoices g k → HasTakenMore a h k
taken_on a h g k more same = ((λ b. sym (same.choices b) ∙ more.0 b), λ b. sym (same.killed b) ∙ more.1 b)

pub chosen_on : (choice : Choice) (h : History) {g : History} (k : History) → HasChosen choice h g → HaveSameChoices g k → HasChosen choice h k
chosen_on (Run a c) h {g} k more same = run_on a c h g k more same
chosen_on (Take a) h {g} k more same = taken_on a h g k more same
