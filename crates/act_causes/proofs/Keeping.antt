-- What a history keeps of the deeds that its events stand for, and one deed more.
use Rattle.act_causes.proofs.Common.{◌≡◌, ℕ, ◌≤◌, true, List, ◌∷◌, ◌++◌, length, Option, Some, None, Ok, inl, inr, refl, ap, sym, ◌∙◌, subst, Contains, cond}
use Rattle.act_causes.proofs.Common.{Bool, false, map, find, slice_get, ◌==◌, cons_option, enumerate_from, eqb-true, Contains-push_cases}
use Rattle.act_causes.proofs.Common.{filter_map-append, Packet, Event, Run, AskKill, Did, WorldRefusal, Letter, RunItem, Submission, AllNamed, IsPrefix}
use Rattle.act_causes.proofs.Common.{ActorSpec, History, contains, cast_of, names, is_caller, has_letter, next_item, calls_of, kept_of, first_answer}
use Rattle.act_causes.proofs.Common.{refusal_of, outcome_by, outcome_of, add_event, after_run, after_by, after, whole_front, more_front, added_grows}
use Rattle.act_causes.proofs.Common.{contains_more, IsInbox, packet_at, is_sent, Sent, is_known_at, cast_at, is_owner, SlotView, Runs, WorldView, IsOwnerOf}
use Rattle.act_causes.proofs.Common.{IsOwnerAt, Refines, IsLawful, lawful_step, named_caller, Site, Action, IsNamed, owner_by, IsEventOf, named_call, Actor}
use Rattle.act_causes.proofs.Common.{Caller, action_at, actions_of, left_by, KillAsked, DeathTold, CallTaken, NoteTaken, [], CallLetter, NoteLetter, DeathPost}
use Rattle.act_causes.proofs.Common.{has_front}
use Rattle.act_causes.proofs.Made.{known_on, sent_on, AreActorsOf}
use Rattle.act_causes.proofs.Marks.{HasPost, AreReplied, AreNoted, post_stays, replied_step, noted_step}
use Rattle.act_rules.proofs.Callers.{is_named}

-- ---- what each deed has left

-- the caller's call was sent, and it makes a packet of it for good
pub record WasSent (casts : List ActorSpec) (deeds : List (Site × Action)) (c k : ℕ) : Type 0 where
  pub named : IsNamed casts c
  pub known : is_known_at (owner_by casts c deeds) k ≡ true
  pub sent : is_sent (owner_by casts c deeds) k ≡ true

-- the call's letter arrived, and its caller makes this packet of it for good
pub record HasCome (casts : List ActorSpec) (deeds : List (Site × Action)) (h : History) (a : ℕ) (packet : Packet) : Type 0 where
  pub to : packet.actor ≡ a
  pub named : IsNamed casts packet.caller
  pub known : is_known_at (owner_by casts packet.caller deeds) packet.future ≡ true
  pub is : packet_at (owner_by casts packet.caller deeds) packet.future ≡ Some packet
  pub came : has_letter (CallLetter packet.caller a packet.number) h.arrived ≡ true
  pub listed : names packet.caller (cast_at a casts) ≡ true

-- what the deed leaves is there: a call sent, a letter arrived, a kill asked, or a death posted
abbrev pub HasLeft : List ActorSpec → List (Site × Action) → History → Site × Action → Type 0
HasLeft casts deeds h (Caller c, Sent k) = WasSent casts deeds c k
HasLeft casts deeds h (Caller c, KillAsked a) = (names c (cast_at a casts) ≡ true) × (contains a h.asked ≡ true)
HasLeft casts deeds h (Actor a, CallTaken packet) = HasCome casts deeds h a packet
HasLeft casts deeds h (Actor a, NoteTaken note) = has_letter (NoteLetter note.caller a note.after) h.arrived ≡ true
HasLeft casts deeds h (Actor a, DeathTold c) = HasPost h (DeathPost c a)
HasLeft casts deeds h deed = Unit {0}

asked_grows : (h : History) (event : Event) → IsPrefix h.asked (add_event h event).asked
asked_grows h (Run a c) = go (next_item a c h)
  where
    go : (o : Option RunItem) → IsPrefix h.asked (after_run a c h o).asked
    go None = whole_front h.asked
    go (Some item) = whole_front h.asked
asked_grows h (AskKill c a) = more_front h.asked (a ∷ [])
asked_grows h event = whole_front h.asked

arrived_stays : (h : History) (event : Event) (letter : Letter) → has_letter letter h.arrived ≡ true → has_letter letter (add_event h event).arrived ≡ true
arrived_stays h event letter has = has_front letter h.arrived (add_event h event).arrived (added_grows h event).arrived has

-- what a deed has left stays
left_stays : (casts : List ActorSpec) (deeds : List (Site × Action)) (deed : Site × Action) (h : History) (event : Event) (one : Site × Action) →
    HasLeft casts deeds h one → HasLeft casts (deeds ++ deed ∷ []) (add_event h event) one
left_stays casts deeds deed h event (Caller c, Sent k) has = record {
  named = has.named;
  known = (known_on casts c k deeds (deed ∷ []) has.known).0;
  sent = sent_on casts c k deeds (deed ∷ []) has.sent;
}
left_stays casts deeds deed h event (Caller c, KillAsked a) has =
    let front = asked_grows h event in (has.0, subst (λ l. contains a l ≡ true) front.1 (contains_more a h.asked front.0 has.1))
left_stays casts deeds deed h event (Actor a, CallTaken packet) has =
    let stays = known_on casts packet.caller packet.future deeds (deed ∷ []) has.known in
    record {
      to = has.to;
      named = has.named;
      known = stays.0;
      is = stays.1 ∙ has.is;
      came = arrived_stays h event (CallLetter packet.caller a packet.number) has.came;
      listed = has.listed;
    }
left_stays casts deeds deed h event (Actor a, NoteTaken note) has = arrived_stays h event (NoteLetter note.caller a note.after) has
left_stays casts deeds deed h event (Actor a, DeathTold c) has = post_stays h (add_event h event) (added_grows h event).posts has
left_stays casts deeds deed h event one has = tt

-- ---- who is no caller does nothing

-- a deed of a caller's is that of one which some cast names
abbrev pub IsByNamed : List ActorSpec → Site × Action → Type 0
IsByNamed casts (Caller c, step) = IsNamed casts c
IsByNamed casts (Actor a, step) = Unit {0}

strangers_on : (casts : List ActorSpec) (deeds : List (Site × Action)) (deed : Site × Action) → IsByNamed casts deed → ((c : ℕ) → is_named casts c ≡ false →
    actions_of (Caller c) deeds ≡ []) → (c : ℕ) → is_named casts c ≡ false → actions_of (Caller c) (deeds ++ deed ∷ []) ≡ []
strangers_on casts deeds deed named none c stranger =
    filter_map-append (action_at (Caller c)) deeds (deed ∷ []) ∙ ap (λ steps. steps ++ actions_of (Caller c) (deed ∷ [])) (none c stranger) ∙ by_deed deed named
  where
    by_step : (d : ℕ) (step : Action) → IsNamed casts d → (b : Bool) → (d == c) ≡ b → cons_option (cond b (Some step) None) [] ≡ []
    by_step d step named true is = let bad : true ≡ false = sym named ∙ ap (is_named casts) (eqb-true d c is) ∙ stranger in cc
    by_step d step named false is = refl

    by_deed : (one : Site × Action) → IsByNamed casts one → actions_of (Caller c) (one ∷ []) ≡ []
    by_deed (Caller d, step) named = by_step d step named (d == c) refl
    by_deed (Actor a, step) named = refl

-- ---- the world of the deeds

-- some inbox is as any inbox is
abbrev pub HasInbox : Option SlotView → Type 0
HasInbox (Some (Runs live)) = IsInbox live.inbox.lanes live.inbox.held
HasInbox slot = Unit {0}

-- a world stands for the history, in which each caller is as the deeds leave it
pub record IsWorldOf (casts : List ActorSpec) (deeds : List (Site × Action)) (h : History) (world : WorldView) : Type 0 where
  pub refines : Refines h world
  pub owners : (c : ℕ) → IsNamed casts c → find (is_owner c) world.network.owners ≡ Some (owner_by casts c deeds)
  pub inboxes : (a : ℕ) → HasInbox (slice_get world.slots a)
  pub room : 9 ≤ length world.network.asked

-- the history stands for the deeds
pub record Keeps (casts : List ActorSpec) (deeds : List (Site × Action)) (h : History) : Type 0 where
  pub lawful : IsLawful h
  pub replied : AreReplied h
  pub noted : AreNoted h
  pub casts_are : h.casts ≡ casts
  pub world : WorldView
  pub reached : IsWorldOf casts deeds h world
  pub actors : AreActorsOf deeds h
  pub left : (deed : Site × Action) → Contains deeds deed → HasLeft casts deeds h deed
  pub strangers : (c : ℕ) → is_named casts c ≡ false → actions_of (Caller c) deeds ≡ []

-- an event stands for one deed more
pub record GoesOn (casts : List ActorSpec) (deeds : List (Site × Action)) (h : History) (deed : Site × Action) : Type 0 where
  pub event : Event
  pub accepted : refusal_of h event ≡ None
  pub is : IsEventOf h deed event
  pub keeps : Keeps casts (deeds ++ deed ∷ []) (add_event h event)

-- what is told as done was not refused
told_done : (h : History) (event : Event) (told : Did) → Ok told ≡ outcome_of h event → refusal_of h event ≡ None
told_done h event told e = go (refusal_of h event) refl e
  where
    go : (r : Option WorldRefusal) → refusal_of h event ≡ r → Ok told ≡ outcome_by h event r → refusal_of h event ≡ None
    go None is e = is
    go (Some refusal) is e = cc

-- an accepted event stands for the deed that it is, if that leaves world and history as the deeds then tell
pub go_on : (casts : List ActorSpec) (deeds : List (Site × Action)) (h : History) (deed : Site × Action) (event : Event) (told : Did) (world : WorldView) →
    Keeps casts deeds h → IsEventOf h deed event → IsByNamed casts deed → (Ok told ≡ outcome_of h event) × Refines (after h event) world →
    ((c : ℕ) → IsNamed casts c → find (is_owner c) world.network.owners ≡ Some (owner_by casts c (deeds ++ deed ∷ []))) →
    ((a : ℕ) → HasInbox (slice_get world.slots a)) → 9 ≤ length world.network.asked → AreActorsOf (deeds ++ deed ∷ []) (add_event h event) →
    HasLeft casts (deeds ++ deed ∷ []) (add_event h event) deed → GoesOn casts deeds h deed
go_on casts deeds h deed event told world keeps is named follows owners inboxes room actors new =
    let accepted = told_done h event told follows.0 in
    record {
      event = event;
      accepted = accepted;
      is = is;
      keeps = record {
        lawful = lawful_step h event keeps.lawful accepted;
        replied = replied_step h event keeps.replied accepted;
        noted = noted_step h event keeps.noted accepted;
        casts_are = (added_grows h event).casts ∙ keeps.casts_are;
        world = world;
        reached = record { refines = subst (λ r. Refines (after_by h event r) world) accepted follows.1; owners = owners; inboxes = inboxes; room = room };
        actors = actors;
        left = λ one has. elim (Contains-push_cases deeds deed one has) [
          | inl was ↦ left_stays casts deeds deed h event one (keeps.left one was)
          | inr last ↦ subst (HasLeft casts (deeds ++ deed ∷ []) (add_event h event)) last new
        ];
        strangers = strangers_on casts deeds deed named keeps.strangers;
      };
    }

-- ---- what such a history tells

pub named_is : {casts : List ActorSpec} (h : History) (c : ℕ) → h.casts ≡ casts → IsNamed casts c → is_caller c h ≡ true
named_is h c same named = subst (λ l. IsNamed l c) (sym same) named

-- an actor's cast in a history of these casts is its cast among them
pub cast_is : (casts : List ActorSpec) (h : History) (a : ℕ) → h.casts ≡ casts → cast_of a h ≡ cast_at a casts
cast_is casts h a same = ap (cast_at a) same

-- the caller, as the history tells
pub owner_of : (casts : List ActorSpec) (deeds : List (Site × Action)) (h : History) (c : ℕ) → Keeps casts deeds h → IsNamed casts c →
    IsOwnerOf h c (owner_by casts c deeds)
owner_of casts deeds h c keeps named =
    let at : IsOwnerAt h c (Some (owner_by casts c deeds)) = subst (IsOwnerAt h c) (keeps.reached.owners c named) (keeps.reached.refines.owners c) in at.1

-- who is no caller has no calls and no answers
stranger_calls : (h : History) (c : ℕ) → AllNamed h → is_caller c h ≡ false → calls_of c h ≡ []
stranger_calls h c all stranger = go (calls_of c h) refl
  where
    go : (calls : List Submission) → calls_of c h ≡ calls → calls_of c h ≡ []
    go [] e = e
    go (call ∷ calls) e =
        let named = named_call h c 0 all (ap (λ l. slice_get l 0) e) in
        let bad : true ≡ false = sym (named_caller c call.actor h named) ∙ stranger in cc

-- each caller's calls and answers, as the deeds leave them
pub record IsToldOf (casts : List ActorSpec) (deeds : List (Site × Action)) (h : History) (c : ℕ) : Type 0 where
  pub calls : calls_of c h ≡ (owner_by casts c deeds).calls
  pub kept : kept_of c h ≡ (owner_by casts c deeds).kept

-- in a history that stands for deeds, each caller has the calls and the kept answers that they leave it
pub told_of : (casts : List ActorSpec) (deeds : List (Site × Action)) (h : History) (c : ℕ) → Keeps casts deeds h → IsToldOf casts deeds h c
told_of casts deeds h c keeps = go (is_named casts c) refl
  where
    go : (b : Bool) → is_named casts c ≡ b → IsToldOf casts deeds h c
    go true named = let is = owner_of casts deeds h c keeps named in record { calls = sym is.calls; kept = sym is.kept }
    go false stranger =
        let none = stranger_calls h c keeps.lawful.retires.named (ap (λ l. is_named l c) keeps.casts_are ∙ stranger) in
        let same = keeps.strangers c stranger in
        record {
          calls = none ∙ sym (ap (λ steps. (left_by casts c steps).calls) same);
          kept = ap (λ calls. map (first_answer h c) (enumerate_from 0 calls)) none ∙ sym (ap (λ steps. (left_by casts c steps).kept) same);
        }
