-- A play can be quiescent: deaths told, steps taken, handles let go, letters sent and delivered.
use Rattle.act_early.proofs.Common.{◌≡◌, ℕ, true, List, Option, Some, None, refl, ap, sym, ◌∙◌, subst, ◌==◌, find, is_some, AllByRecursion, Step, Await, Answer}
use Rattle.act_early.proofs.Common.{kept_at, ActorSpec, History, contains, names, cast_of, is_caller, kept_of, needs-none, copies_named, kept_from, At, MayTake}
use Rattle.act_early.proofs.Common.{IsQuiescent, NoCaller, named_among, named_call}
use Rattle.act_early.proofs.Worlds.{IsWorld, world}
use Rattle.act_early.proofs.Quiesces.{Quiesces, quiesces_trans}
use Rattle.act_early.proofs.Listed.{all_callers, all_actors, caller_listed, actor_listed, IsOpen}
use Rattle.act_early.proofs.Telling.{IsTold, told_stays, quiescence, tell_all}
use Rattle.act_early.proofs.Stepping.{IsStuck, going_on, step_all}
use Rattle.act_early.proofs.Closing.{IsClosed, closing_on, close_all}
use Rattle.act_early.proofs.Mailing.{IsSent, IsNoted, mailing, send_all, note_all}
use Rattle.act_rules.proofs.Elements.{all_listed}

-- ---- who does anything is listed

pub named_as_listed : {specs : List ActorSpec} (h : History) (c a : ℕ) → h.casts ≡ specs → names c (cast_of a h) ≡ true
    → (contains c (all_callers specs) ≡ true) × (contains a (all_actors specs) ≡ true)
named_as_listed {specs} h c a casts named =
    let there : names c (find (λ (cast : ActorSpec). cast.actor == a) specs) ≡ true =
    ap (λ l. names c (find (λ (cast : ActorSpec). cast.actor == a) l)) (sym casts) ∙ named in
    (caller_listed c specs (named_among c a specs there), actor_listed c a specs there)

caller_as_listed : {specs : List ActorSpec} (h : History) (c : ℕ) → h.casts ≡ specs → is_caller c h ≡ true → contains c (all_callers specs) ≡ true
caller_as_listed h c casts is = subst (λ l. contains c (all_callers l) ≡ true) casts (caller_listed c h.casts is)

pub may_listed : (specs : List ActorSpec) {h : History} (c : ℕ) (step : Step) → IsWorld specs h → MayTake c step h → contains c (all_callers specs) ≡ true
may_listed specs {h} c (Await k) w may = go (kept_at (kept_of c h) k) refl may
  where
    go : (o : Option Answer) → kept_at (kept_of c h) k ≡ o → is_some o ≡ true → contains c (all_callers specs) ≡ true
    go None e some = cc
    go (Some answer) e some =
        let from = kept_from h c k w.sound.posts e in (named_as_listed h c from.call.actor w.casts (named_call h c k w.retires.named from.at)).0
may_listed specs {h} c step w may = caller_as_listed h c w.casts (needs-none (is_caller c h) NoCaller _ may).0

-- ---- what holds for all that are listed holds for all

abbrev ForBoth : List ActorSpec → (ℕ → ℕ → Type 0) → Type 0
ForBoth specs P = AllByRecursion (λ c. AllByRecursion (P c) (all_actors specs)) (all_callers specs)

for_named : {specs : List ActorSpec} (h : History) (P : ℕ → ℕ → Type 0) → h.casts ≡ specs → ForBoth specs P → (c a : ℕ) → names c (cast_of a h) ≡ true → P c a
for_named {specs} h P casts all c a named =
    let listed = named_as_listed h c a casts named in
    all_listed (P c) (all_actors specs) a (all_listed (λ c. AllByRecursion (P c) (all_actors specs)) (all_callers specs) c all listed.0) listed.1

-- ---- all of it

pub record IsDone (specs : List ActorSpec) (plans : ℕ → List Step) (p q : At) : Type 0 where
  pub quiesces : Quiesces specs plans p q
  pub quiescent : IsQuiescent plans q

pub quiesce : (specs : List ActorSpec) (plans : ℕ → List Step) (p : At) → IsOpen specs plans p → (q : At) × IsDone specs plans p q
quiesce specs plans p begun =
    let one = tell_all specs plans p begun in
    let two = step_all specs plans one.0 ((quiescence specs plans).opens p one.0 one.1) in
    let three = close_all specs plans two.0 ((going_on specs plans).opens one.0 two.0 two.1) in
    let four = send_all specs plans three.0 ((closing_on specs plans).opens two.0 three.0 three.1) in
    let five = note_all specs plans four.0 ((mailing specs plans).opens three.0 four.0 four.1) in
    let q = five.0 in
    let mails = (mailing specs plans).joins three.0 four.0 q four.1 five.1 in
    let w = world specs plans q five.1.quiesces.play in let first = world specs plans one.0 one.1.play in
    let later = quiesces_trans two.1.quiesces (quiesces_trans three.1.quiesces mails.quiesces) in (
      q,
      record {
        quiesces = quiesces_trans one.1 later;
        quiescent = record {
          waits = λ c step next may.
              let listed = may_listed specs c step w may in
              let stuck : IsStuck plans c two.0 = all_listed (λ c. IsStuck plans c two.0) (all_callers specs) c two.2 listed in
              (mails.stuck c (three.1.stuck c stuck)).waits step next may;
          needs = λ c a next named.
              let listed = (named_as_listed q.history c a w.casts named).0 in
              let stuck : IsStuck plans c two.0 = all_listed (λ c. IsStuck plans c two.0) (all_callers specs) c two.2 listed in
              (mails.stuck c (three.1.stuck c stuck)).needs a next named;
          closed = λ c a next named. mails.closed c a (for_named q.history (IsClosed plans three.0) w.casts three.2 c a named) next named;
          sent = λ c k call at none known live.
              let listed = (named_as_listed q.history c call.actor w.casts (named_call q.history c k w.retires.named at)).0 in
              let sent : (k : ℕ) → IsSent four.0 c k = all_listed (λ c. (k : ℕ) → IsSent four.0 c k) (all_callers specs) c four.2 listed in
              five.1.sent c k (sent k) call at none known live;
          noted = λ c a gone live.
              let named = copies_named c a q.history (ap (λ o. is_some o) gone) in for_named q.history (IsNoted q) w.casts five.2 c a named gone live;
          told = λ c a dead named. told_stays specs plans one.0 q later c a (for_named q.history (IsTold one.0) w.casts one.2 c a named) dead named;
          live = five.1.quiesces.live;
        };
      },
    )
