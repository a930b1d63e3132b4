-- Each deed is an event that a play takes, and so are all of them.
use Rattle.act_causes.proofs.Common.{◌≡◌, List, ◌∷◌, ◌++◌, None, refl, ap, sym, ◌∙◌, subst, IsOk, AllByRecursion, AllZip, cons_option, append-nil, append_assoc}
use Rattle.act_causes.proofs.Common.{All-from_recursion, filter_map-append, Answered, Death, Event, ActorSpec, History, opening, history, outcome_by}
use Rattle.act_causes.proofs.Common.{outcome_of, outcomes, add_event, after_by, Grows, added_grows, All_more, slice_get_front, outcomes-append, Copied}
use Rattle.act_causes.proofs.Common.{Released, Submitted, Sent, Noticed, Site, Action, IsCaused, AreCaused, SpecsFit, IsEventOf, Actor, Caller, KillAsked}
use Rattle.act_causes.proofs.Common.{names, CallRun, DeathTold, KillTaken, CallTaken, NoteTaken, Retirement, []}
use Rattle.act_rules.proofs.Steps.{after_all-append}
use Rattle.act_causes.proofs.Changing.{copied, released, submitted, sent, asked}
use Rattle.act_causes.proofs.Collecting.{heard_death, heard_reply}
use Rattle.act_causes.proofs.Ending.{took_kill, told_death, retired}
use Rattle.act_causes.proofs.Fronts.{EachFront, IsInOrder, IsStepwisePlay, post_of, letter_of, keeps_answers, one_front, told_more}
use Rattle.act_causes.proofs.Keeping.{Keeps, GoesOn, told_of}
use Rattle.act_causes.proofs.Made.{dead_is}
use Rattle.act_causes.proofs.Opening.{keeps_opening}
use Rattle.act_causes.proofs.Running.{ran}
use Rattle.act_causes.proofs.Taking.{took_call, took_note}

-- a deed that is caused is an event that a play takes
goes_on : (casts : List ActorSpec) (deeds : List (Site × Action)) (h : History) (deed : Site × Action) → SpecsFit casts → Keeps casts deeds h →
    IsCaused casts deeds deed → GoesOn casts deeds h deed
goes_on casts deeds h (Caller c, Copied a) fitting keeps caused = copied casts deeds h c keeps caused.may.0 a caused.may.1
goes_on casts deeds h (Caller c, Released a) fitting keeps caused = released casts deeds h c keeps caused.may.0 a caused.may.1
goes_on casts deeds h (Caller c, Submitted a method args) fitting keeps caused = submitted casts deeds h c keeps caused.may.0 a method args caused.may.1
goes_on casts deeds h (Caller c, Sent k) fitting keeps caused = sent casts deeds h c keeps caused.may.0 k caused.may.1
goes_on casts deeds h (Caller c, Noticed (Answered reply)) fitting keeps caused = heard_reply casts deeds h c keeps caused.may.0 reply caused.given
goes_on casts deeds h (Caller c, Noticed (Death a)) fitting keeps caused = heard_death casts deeds h c keeps caused.may.0 a fitting.actors caused.given
goes_on casts deeds h (Caller c, KillAsked a) fitting keeps caused = asked casts deeds h c keeps caused.may.0 a fitting.actors caused.may.1
goes_on casts deeds h (Actor a, CallTaken packet) fitting keeps caused = took_call casts deeds h keeps a packet caused.may.2 caused.given
goes_on casts deeds h (Actor a, NoteTaken note) fitting keeps caused = took_note casts deeds h keeps a note caused.may.2 caused.given
goes_on casts deeds h (Actor a, CallRun item) fitting keeps caused = ran casts deeds h a item keeps caused.may.0.callers caused.may.2
goes_on casts deeds h (Actor a, KillTaken asker note) fitting keeps caused =
    took_kill casts deeds h a keeps asker note caused.may.2 caused.given.0 caused.given.1
goes_on casts deeds h (Actor a, DeathTold c) fitting keeps caused =
    told_death casts deeds h a keeps c caused.may.2.0 (ap (names c) caused.may.1 ∙ caused.may.2.1)
goes_on casts deeds h (Actor a, Retirement) fitting keeps caused = retired casts deeds h a keeps caused.may.0 caused.may.1 caused.may.2
goes_on casts deeds h (Caller c, action) fitting keeps caused = absurd caused.may.1
goes_on casts deeds h (Actor a, action) fitting keeps caused = absurd caused.may.2

-- what is found by its place stays there
event_stays : (h : History) {g : History} (deed : Site × Action) (event : Event) → Grows h g → IsEventOf h deed event → IsEventOf g deed event
event_stays h {g} (Caller c, Noticed (Answered reply)) event grows is = (is.0, is.1, slice_get_front h.posts g.posts is.0 grows.posts is.2)
event_stays h {g} (Caller c, Noticed (Death a)) event grows is = (is.0, is.1, slice_get_front h.posts g.posts is.0 grows.posts is.2)
event_stays h {g} (Actor a, CallTaken packet) event grows is = (is.0, is.1, slice_get_front h.mail g.mail is.0 grows.mail is.2)
event_stays h {g} (Actor a, NoteTaken note) event grows is = (is.0, is.1, slice_get_front h.mail g.mail is.0 grows.mail is.2)
event_stays h deed event grows is = is

steps_stay : (h : History) {g : History} (deeds : List (Site × Action)) (events : List Event) → Grows h g → AllZip (IsEventOf h) deeds events →
    AllZip (IsEventOf g) deeds events
steps_stay h [] [] grows steps = tt
steps_stay h [] (event ∷ events) grows steps = steps
steps_stay h (deed ∷ deeds) [] grows steps = steps
steps_stay h {g} (deed ∷ deeds) (event ∷ events) grows steps = (event_stays h deed event grows steps.0, steps_stay h deeds events grows steps.1)

-- one deed more, which is an event more
one_step : (h : History) (deeds : List (Site × Action)) (events : List Event) (deed : Site × Action) (event : Event) → AllZip (IsEventOf h) deeds events →
    IsEventOf h deed event → AllZip (IsEventOf h) (deeds ++ deed ∷ []) (events ++ event ∷ [])
one_step h [] [] deed event steps is = (is, tt)
one_step h [] (other ∷ events) deed event steps is = absurd steps
one_step h (one ∷ deeds) [] deed event steps is = absurd steps
one_step h (one ∷ deeds) (other ∷ events) deed event steps is = (steps.0, one_step h deeds events deed event steps.1 is)

-- events that stand for the deeds, and that a play takes
pub record IsReplayed (casts : List ActorSpec) (deeds : List (Site × Action)) : Type 0 where
  pub events : List Event
  pub steps : AllZip (IsEventOf (history casts events)) deeds events
  pub accepted : AllByRecursion IsOk (outcomes (opening casts) events)
  pub keeps : Keeps casts deeds (history casts events)
  pub fronts : EachFront casts [] [] deeds events
  pub in_order : IsInOrder casts deeds events

-- one event more, which nothing refuses
one_event : (casts : List ActorSpec) (deeds : List (Site × Action)) (deed : Site × Action) (before : IsReplayed casts deeds) →
    GoesOn casts deeds (history casts before.events) deed → IsReplayed casts (deeds ++ deed ∷ [])
one_event casts deeds deed before on =
    let h = history casts before.events in
    let told : outcome_of h on.event ≡ outcome_by h on.event None = ap (λ r. outcome_by h on.event r) on.accepted in
    let ok : IsOk (outcome_of h on.event) = subst (λ o. IsOk o) (sym told) refl in
    let reached : history casts (before.events ++ on.event ∷ []) ≡ add_event h on.event =
    after_all-append (opening casts) before.events (on.event ∷ []) ∙ ap (λ r. after_by h on.event r) on.accepted in
    let keeps : Keeps casts (deeds ++ deed ∷ []) (history casts (before.events ++ on.event ∷ [])) =
    subst (λ g. Keeps casts (deeds ++ deed ∷ []) g) (sym reached) on.keeps in
    record {
      events = before.events ++ on.event ∷ [];
      steps = subst (λ g. AllZip (IsEventOf g) (deeds ++ deed ∷ []) (before.events ++ on.event ∷ [])) (sym reached)
          (one_step (add_event h on.event) deeds before.events deed on.event (steps_stay h deeds before.events (added_grows h on.event) before.steps)
          (event_stays h deed on.event (added_grows h on.event) on.is));
      accepted = subst (λ l. AllByRecursion IsOk l) (sym (outcomes-append (opening casts) before.events (on.event ∷ [])))
          (All_more IsOk (outcomes (opening casts) before.events) (outcome_of h on.event) before.accepted ok);
      keeps = keeps;
      fronts = one_front [] [] deeds before.events deed on.event before.fronts (keeps_answers casts (before.events ++ on.event ∷ []) keeps);
      in_order = record {
        collected = ap (λ (g : History). g.collected) reached ∙ (told_more h deed on.event on.is).collected ∙
            ap (λ l. l ++ cons_option (post_of deed) []) before.in_order.collected ∙ sym (filter_map-append post_of deeds (deed ∷ []));
        arrived = ap (λ (g : History). g.arrived) reached ∙ (told_more h deed on.event on.is).arrived ∙
            ap (λ l. l ++ cons_option (letter_of deed) []) before.in_order.arrived ∙ sym (filter_map-append letter_of deeds (deed ∷ []));
      };
    }

-- all deeds after those that were replayed
replays : (casts : List ActorSpec) (deeds later : List (Site × Action)) → SpecsFit casts → IsReplayed casts deeds → AreCaused casts deeds later →
    IsReplayed casts (deeds ++ later)
replays casts deeds [] fitting before caused = subst (IsReplayed casts) (sym (append-nil deeds)) before
replays casts deeds (deed ∷ later) fitting before caused =
    let next = one_event casts deeds deed before (goes_on casts deeds (history casts before.events) deed fitting before.keeps caused.0) in
    subst (IsReplayed casts) (append_assoc deeds (deed ∷ []) later) (replays casts (deeds ++ deed ∷ []) later fitting next caused.1)

-- deeds, each caused by those before it, can be done as the events of a play, step by step, where the casts fit
pub play_of : (casts : List ActorSpec) (deeds : List (Site × Action)) → SpecsFit casts → AreCaused casts [] deeds →
    (events : List Event) × IsStepwisePlay casts deeds events
play_of casts deeds fitting caused =
    let all = replays casts [] deeds fitting (record {
      events = [];
      steps = tt;
      accepted = tt;
      keeps = keeps_opening casts fitting;
      fronts = keeps_answers casts [] (keeps_opening casts fitting);
      in_order = record { collected = refl; arrived = refl };
    }) caused in (
      all.events,
      record {
        play = record {
          steps = all.steps;
          leaves = record {
            accepted = All-from_recursion IsOk (outcomes (opening casts) all.events) all.accepted;
            calls = λ c. (told_of casts deeds (history casts all.events) c all.keeps).calls;
            kept = λ c. (told_of casts deeds (history casts all.events) c all.keeps).kept;
            runs = all.keeps.actors.runs;
            dead = λ a. dead_is a all.keeps.actors;
            retired = all.keeps.actors.retired;
          };
        };
        fronts = all.fronts;
        in_order = all.in_order;
      },
    )
