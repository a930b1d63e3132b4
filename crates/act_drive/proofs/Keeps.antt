-- No letter that is due is lost.
use Rattle.act_drive.proofs.Common.{◌≡◌, ◌≢◌, ℕ, zero, suc, ◌+◌, ◌-◌, ◌<◌, ◌⊎◌, Bool, true, false, if◌then◌else◌, List, [], ◌∷◌, ◌++◌, length, get_or, set}
use Rattle.act_drive.proofs.Common.{Option, Some, None, refl, sym, ◌∙◌, ap, subst, arith, All, Contains, inl, inr, slice_get, unwrap_or, option_map}
use Rattle.act_drive.proofs.Common.{unwrap_or-slice_get, get_or_default, get_or-set_other, eqb_tells, All-set, Contains-append_left, Contains-append_right}
use Rattle.act_drive.proofs.Common.{Contains-append_cases, Contains-push, Contains-push_cases, Method, Arg, Packet, ReleaseNote, Notice, Death, calls_to}
use Rattle.act_drive.proofs.Common.{copies_held, copies_in, with_copy, without_copy, copies-opened, copies-with_copy, copies-with_copy-other}
use Rattle.act_drive.proofs.Common.{copies-without_copy, copies-without_copy-other, copies-with_number, OwnerView, opened_under, packet_at, is_sent}
use Rattle.act_drive.proofs.Common.{with_handles, with_submission, with_sent, is_known_at, MailView, PutterView, Letter, Call, Note, Endpoint, actor_of_letter}
use Rattle.act_drive.proofs.Common.{OwnerGoesOn, last_note, IsDue, posted_in, IsApart, IsIdle, IsKeeping}

-- ---- the owner goes on

-- what is marked sent, or let go, later was so before
pub record Returns (owner later : OwnerView) : Type 0 where
  pub sent : (k : ℕ) → is_sent later k ≡ true → is_sent owner k ≡ true
  pub ended : (a : ℕ) → copies_in a later.handles ≡ Some 0 → copies_in a owner.handles ≡ Some 0

due_before : (owner later : OwnerView) (letter : Letter) → OwnerGoesOn owner later → Returns owner later →
    ((k : ℕ) → is_sent owner k ≡ true → is_known_at owner k ≡ true) → IsDue later letter → IsDue owner letter
due_before owner later (Call packet) on back known due =
    let sent = back.sent packet.future due.1 in (sym (on.packets packet.future (known packet.future sent)).1 ∙ due.0, sent)
due_before owner later (Note note) on back known due =
    let none = back.ended note.actor due.1 in
    let count = (on.ended note.actor (ap copies_held none)).1 in (
      due.0 ∙ ap (λ n. Note (record { caller = n; actor = note.actor; after = length (calls_to note.actor later.calls) })) on.id ∙
          ap (λ n. Note (record { caller = owner.id; actor = note.actor; after = n })) count,
      none,
    )

-- a letter among these, or that need not be posted, is so with more letters and notices
more : (mails : List MailView) (taken later : List Notice) (endpoints : List (Endpoint (PutterView Letter Unit))) (letters others : List Letter)
    (letter : Letter) → ((n : Notice) → Contains taken n → Contains later n) → (Contains letters letter → Contains others letter) → Contains letters letter ⊎
    IsIdle mails taken endpoints (actor_of_letter letter) → Contains others letter ⊎ IsIdle mails later endpoints (actor_of_letter letter)
more mails taken later endpoints letters others letter heard grown (inl here) = inl (grown here)
more mails taken later endpoints letters others letter heard grown (inr (inl dead)) = inr (inl (heard (Death (actor_of_letter letter)) dead))
more mails taken later endpoints letters others letter heard grown (inr (inr apart)) = inr (inr apart)

-- still no due letter is lost where the owner goes on, sends no call, lets no last handle go and forgets no notice
pub keeps_on : {mails : List MailView} {owner : OwnerView} (later : OwnerView) {taken : List Notice} (more_taken : List Notice)
    {endpoints : List (Endpoint (PutterView Letter Unit))} {held : List Letter} → OwnerGoesOn owner later → Returns owner later →
    ((n : Notice) → Contains taken n → Contains more_taken n) → IsKeeping mails owner taken endpoints held → IsKeeping mails later more_taken endpoints held
keeps_on {mails} {owner} later {taken} more_taken {endpoints} {held} on back heard keeps = record {
  known = λ k is. (on.packets k (keeps.known k (back.sent k is))).0;
  due = λ letter due. more mails taken more_taken endpoints (posted_in endpoints ++ held) (posted_in endpoints ++ held) letter heard (λ here. here)
      (keeps.due letter (due_before owner later letter on back keeps.known due));
}

pub same_returns : (owner later : OwnerView) → later.sent ≡ owner.sent → later.handles ≡ owner.handles → Returns owner later
same_returns owner later sent handles = record {
  sent = λ k is. ap (λ l. unwrap_or (slice_get l k) false) (sym sent) ∙ is;
  ended = λ a is. ap (copies_in a) (sym handles) ∙ is;
}

sent_before : (flags : List Bool) (k : ℕ) → unwrap_or (slice_get (flags ++ false ∷ []) k) false ≡ true → unwrap_or (slice_get flags k) false ≡ true
sent_before [] zero is = is
sent_before [] (suc k) is = is
sent_before (b ∷ flags) zero is = is
sent_before (b ∷ flags) (suc k) is = sent_before flags k is

-- after a submission no call is newly marked sent, and of no actor each handle is newly let go
pub submit_returns : (owner : OwnerView) (a : ℕ) (method : Method) (args : List Arg) → Returns owner (with_submission owner a method args)
submit_returns owner a method args = record { sent = λ k is. sent_before owner.sent k is; ended = λ b is. sym (copies-with_number a b owner.handles) ∙ is }

not_more : (copies : Option ℕ) → option_map (λ n. n + 1) copies ≡ Some 0 → copies ≡ Some 0
not_more None is = absurd (cc is)
not_more (Some n) is = let one : n + 1 ≡ 0 = cc is in absurd (omega (arith, one))

-- after a copy no call is newly marked sent, and of no actor each handle is newly let go
pub copy_returns : (owner : OwnerView) (a : ℕ) → Returns owner (with_handles owner (with_copy a owner.handles))
copy_returns owner a = record {
  sent = λ k is. is;
  ended = λ b is. elim (eqb_tells a b) [
    | inl t ↦ subst (λ n. copies_in n (with_copy a owner.handles) ≡ Some 0 → copies_in n owner.handles ≡ Some 0) t.1
        (λ none. not_more (copies_in a owner.handles) (sym (copies-with_copy a owner.handles) ∙ none)) is
    | inr f ↦ sym (copies-with_copy-other a b owner.handles f.1) ∙ is
  ];
}

not_less : (copies : Option ℕ) → copies ≢ Some 1 → option_map (λ n. n - 1) copies ≡ Some 0 → copies ≡ Some 0
not_less None one is = absurd (cc is)
not_less (Some zero) one is = refl
not_less (Some (suc zero)) one is = absurd (one refl)
not_less (Some (suc (suc n))) one is = let none : suc (suc n) - 1 ≡ 0 = cc is in absurd (omega (arith, none))

pub release_returns : (owner : OwnerView) (a : ℕ) → copies_in a owner.handles ≢ Some 1 → Returns owner (with_handles owner (without_copy a owner.handles))
release_returns owner a one = record {
  sent = λ k is. is;
  ended = λ b is. elim (eqb_tells a b) [
    | inl t ↦ subst (λ n. copies_in n (without_copy a owner.handles) ≡ Some 0 → copies_in n owner.handles ≡ Some 0) t.1
        (λ none. not_less (copies_in a owner.handles) one (sym (copies-without_copy a owner.handles) ∙ none)) is
    | inr f ↦ sym (copies-without_copy-other a b owner.handles f.1) ∙ is
  ];
}

-- ---- the opening

one_is_some : (listed : Bool) → if◌then◌else◌ {A = Option ℕ} listed (Some 1) None ≡ Some 0 → ⊥
one_is_some true is = cc is
one_is_some false is = cc is

pub keeps_opened : (mails : List MailView) (limits : List (ℕ × Option ℕ)) (id : ℕ) (actors : List ℕ) (endpoints : List (Endpoint (PutterView Letter Unit))) →
    IsKeeping mails (opened_under limits id actors) [] endpoints []
keeps_opened mails limits id actors endpoints = record { known = λ k is. absurd (cc is); due = due }
  where
    due : (letter : Letter) → IsDue (opened_under limits id actors) letter →
        Contains (posted_in endpoints ++ []) letter ⊎ IsIdle mails [] endpoints (actor_of_letter letter)
    due (Call packet) is = absurd (cc is.1)
    due (Note note) is = absurd (one_is_some _ (sym (copies-opened note.actor actors) ∙ is.1))

-- ---- what is in the outbox

sent_other : (owner : OwnerView) (k j : ℕ) → j ≢ k → is_sent (with_sent owner k) j ≡ is_sent owner j
sent_other owner k j apart =
    unwrap_or-slice_get (set owner.sent k true) j false ∙ get_or-set_other owner.sent k j true false apart ∙ sym (unwrap_or-slice_get owner.sent j false)

held_more : (mails : List MailView) (taken : List Notice) (endpoints : List (Endpoint (PutterView Letter Unit))) (held letter : Letter) →
    Contains (posted_in endpoints ++ []) letter ⊎ IsIdle mails taken endpoints (actor_of_letter letter) →
    Contains (posted_in endpoints ++ held ∷ []) letter ⊎ IsIdle mails taken endpoints (actor_of_letter letter)
held_more mails taken endpoints held letter is =
    more mails taken taken endpoints _ _ letter (λ n has. has) (λ here. elim (Contains-append_cases (posted_in endpoints) [] letter here) [
      | inl before ↦ Contains-append_left (posted_in endpoints) (held ∷ []) letter before
      | inr none ↦ absurd (let below = none.1 in omega (arith, below))
    ]) is

pub keeps_taken : {mails : List MailView} (owner : OwnerView) {taken : List Notice} {endpoints : List (Endpoint (PutterView Letter Unit))} (k : ℕ)
    (packet : Packet) → packet_at owner k ≡ Some packet → is_known_at owner k ≡ true → IsKeeping mails owner taken endpoints [] →
    IsKeeping mails (with_sent owner k) taken endpoints (Call packet ∷ [])
keeps_taken {mails} owner {taken} {endpoints} k packet at known keeps = record {
  known = λ j is. elim (eqb_tells j k) [
    | inl t ↦ subst (λ n. is_known_at owner n ≡ true) (sym t.1) known
    | inr f ↦ keeps.known j (sym (sent_other owner k j f.1) ∙ is)
  ];
  due = due;
}
  where
    due : (letter : Letter) → IsDue (with_sent owner k) letter →
        Contains (posted_in endpoints ++ Call packet ∷ []) letter ⊎ IsIdle mails taken endpoints (actor_of_letter letter)
    due (Call other) is = elim (eqb_tells other.future k) [
      | inl t ↦
          let same : packet ≡ other = cc (sym at ∙ sym (ap (packet_at owner) t.1) ∙ is.0) in
          inl (subst (λ p. Contains (posted_in endpoints ++ Call packet ∷ []) (Call p)) same (Contains-push (posted_in endpoints) (Call packet)))
      | inr f ↦ held_more mails taken endpoints (Call packet) (Call other) (keeps.due (Call other) (is.0, sym (sent_other owner k other.future f.1) ∙ is.1))
    ]
    due (Note note) is = held_more mails taken endpoints (Call packet) (Note note) (keeps.due (Note note) is)

-- the last handle is let go, and its note is held
pub keeps_noted : {mails : List MailView} (owner : OwnerView) {taken : List Notice} {endpoints : List (Endpoint (PutterView Letter Unit))} (a : ℕ)
    (note : ReleaseNote) → Note note ≡ last_note owner a → IsKeeping mails owner taken endpoints [] →
    IsKeeping mails (with_handles owner (without_copy a owner.handles)) taken endpoints (Note note ∷ [])
keeps_noted {mails} owner {taken} {endpoints} a note last keeps = record { known = keeps.known; due = due }
  where
    due : (letter : Letter) → IsDue (with_handles owner (without_copy a owner.handles)) letter →
        Contains (posted_in endpoints ++ Note note ∷ []) letter ⊎ IsIdle mails taken endpoints (actor_of_letter letter)
    due (Call packet) is = held_more mails taken endpoints (Note note) (Call packet) (keeps.due (Call packet) is)
    due (Note other) is = elim (eqb_tells a other.actor) [
      | inl t ↦
          let same : Note note ≡ Note other = last ∙ ap (last_note owner) t.1 ∙ sym is.0 in
          inl (subst (λ l. Contains (posted_in endpoints ++ Note note ∷ []) l) same (Contains-push (posted_in endpoints) (Note note)))
      | inr f ↦ held_more mails taken endpoints (Note note) (Note other)
          (keeps.due (Note other) (is.0, sym (copies-without_copy-other a other.actor owner.handles f.1) ∙ is.1))
    ]

-- the letter that is held need not be posted
pub keeps_dropped : {mails : List MailView} {owner : OwnerView} {taken : List Notice} {endpoints : List (Endpoint (PutterView Letter Unit))} (held : Letter) →
    IsIdle mails taken endpoints (actor_of_letter held) → IsKeeping mails owner taken endpoints (held ∷ []) → IsKeeping mails owner taken endpoints []
keeps_dropped {mails} {taken} {endpoints} held idle keeps = record { known = keeps.known; due = λ letter due. go letter (keeps.due letter due) }
  where
    go : (letter : Letter) → Contains (posted_in endpoints ++ held ∷ []) letter ⊎ IsIdle mails taken endpoints (actor_of_letter letter) →
        Contains (posted_in endpoints ++ []) letter ⊎ IsIdle mails taken endpoints (actor_of_letter letter)
    go letter (inr is) = inr is
    go letter (inl here) = elim (Contains-push_cases (posted_in endpoints) held letter here) [
      | inl before ↦ inl (Contains-append_left (posted_in endpoints) [] letter before)
      | inr same ↦ inr (subst (λ l. IsIdle mails taken endpoints (actor_of_letter l)) same idle)
    ]

-- ---- what is posted

-- at an endpoint more was put
put_stays : (endpoints : List (Endpoint (PutterView Letter Unit))) (at : ℕ) (next : Endpoint (PutterView Letter Unit)) (letter : Letter) →
    (Contains (get_or endpoints at next).pass.put letter → Contains next.pass.put letter) → Contains (posted_in endpoints) letter →
    Contains (posted_in (set endpoints at next)) letter
put_stays [] at next letter grown here = here
put_stays (endpoint ∷ endpoints) zero next letter grown here = elim (Contains-append_cases endpoint.pass.put (posted_in endpoints) letter here) [
  | inl first ↦ Contains-append_left next.pass.put (posted_in endpoints) letter (grown first)
  | inr later ↦ Contains-append_right next.pass.put (posted_in endpoints) letter later
]
put_stays (endpoint ∷ endpoints) (suc at) next letter grown here = elim (Contains-append_cases endpoint.pass.put (posted_in endpoints) letter here) [
  | inl first ↦ Contains-append_left endpoint.pass.put (posted_in (set endpoints at next)) letter first
  | inr later ↦ Contains-append_right endpoint.pass.put (posted_in (set endpoints at next)) letter (put_stays endpoints at next letter grown later)
]

put_here : (endpoints : List (Endpoint (PutterView Letter Unit))) (at : ℕ) (next : Endpoint (PutterView Letter Unit)) (letter : Letter) →
    at < length endpoints → Contains next.pass.put letter → Contains (posted_in (set endpoints at next)) letter
put_here [] at next letter below here = absurd (omega (arith, below))
put_here (endpoint ∷ endpoints) zero next letter below here = Contains-append_left next.pass.put (posted_in endpoints) letter here
put_here (endpoint ∷ endpoints) (suc at) next letter below here =
    Contains-append_right endpoint.pass.put (posted_in (set endpoints at next)) letter (put_here endpoints at next letter (omega (arith, below)) here)

all_posted : (mails : List MailView) (taken : List Notice) (endpoints later : List (Endpoint (PutterView Letter Unit))) (held : Letter) →
    ((letter : Letter) → Contains (posted_in endpoints) letter → Contains (posted_in later) letter) → Contains (posted_in later) held →
    ((a : ℕ) → All (IsApart mails a) endpoints → All (IsApart mails a) later) → (letter : Letter) → Contains (posted_in endpoints ++ held ∷ []) letter ⊎
    IsIdle mails taken endpoints (actor_of_letter letter) → Contains (posted_in later ++ []) letter ⊎ IsIdle mails taken later (actor_of_letter letter)
all_posted mails taken endpoints later held stays posted apart letter (inl here) = elim (Contains-push_cases (posted_in endpoints) held letter here) [
  | inl before ↦ inl (Contains-append_left (posted_in later) [] letter (stays letter before))
  | inr same ↦ inl (Contains-append_left (posted_in later) [] letter (subst (Contains (posted_in later)) same posted))
]
all_posted mails taken endpoints later held stays posted apart letter (inr (inl dead)) = inr (inl dead)
all_posted mails taken endpoints later held stays posted apart letter (inr (inr off)) = inr (inr (apart (actor_of_letter letter) off))

-- a letter more at an endpoint: what was posted before is, and so is the letter
pub more_posted : (endpoints : List (Endpoint (PutterView Letter Unit))) (at : ℕ) {endpoint : Endpoint (PutterView Letter Unit)} (pass : PutterView Letter Unit)
    (held : Letter) → at < length endpoints → endpoint ≡ get_or endpoints at endpoint → pass.put ≡ endpoint.pass.put ++ held ∷ [] → ((letter : Letter) →
    Contains (posted_in endpoints) letter → Contains (posted_in (set endpoints at (record { place = endpoint.place; pass = pass }))) letter) × Contains
    (posted_in (set endpoints at (record { place = endpoint.place; pass = pass }))) held
more_posted endpoints at {endpoint} pass held below here put =
    let next : Endpoint (PutterView Letter Unit) = record { place = endpoint.place; pass = pass } in
    let there : get_or endpoints at next ≡ endpoint = get_or_default endpoints at next endpoint below ∙ sym here in (
      λ letter. put_stays endpoints at next letter (λ has. subst (λ l. Contains l letter) (sym put) (Contains-append_left endpoint.pass.put (held ∷ []) letter
          (subst (λ (s : Endpoint (PutterView Letter Unit)). Contains s.pass.put letter) there has))),
      put_here endpoints at next held below (subst (λ l. Contains l held) (sym put) (Contains-push endpoint.pass.put held)),
    )

pub keeps_posted : (mails : List MailView) {owner : OwnerView} {taken : List Notice} {endpoints : List (Endpoint (PutterView Letter Unit))} (at : ℕ)
    (endpoint : Endpoint (PutterView Letter Unit)) (pass : PutterView Letter Unit) (held : Letter) → at < length endpoints →
    endpoint ≡ get_or endpoints at endpoint → pass.put ≡ endpoint.pass.put ++ held ∷ [] → IsKeeping mails owner taken endpoints (held ∷ []) →
    IsKeeping mails owner taken (set endpoints at (record { place = endpoint.place; pass = pass })) []
keeps_posted mails {taken} {endpoints} at endpoint pass held below here put keeps =
    let next : Endpoint (PutterView Letter Unit) = record { place = endpoint.place; pass = pass } in
    let more = more_posted endpoints at pass held below here put in
    let apart : (a : ℕ) → All (IsApart mails a) endpoints → All (IsApart mails a) (set endpoints at next) =
    λ a all. All-set (IsApart mails a) endpoints at next (subst (IsApart mails a) (sym here) (all at endpoint below)) all in
    record {
      known = keeps.known;
      due = λ letter due. all_posted mails taken endpoints (set endpoints at next) held more.0 more.1 apart letter (keeps.due letter due);
    }
