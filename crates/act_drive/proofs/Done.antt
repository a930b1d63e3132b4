-- A plan that is done, and the opening.
use Rattle.act_drive.proofs.Common.{◌≡◌, ℕ, zero, suc, ◌+◌, ◌-◌, ◌<◌, ◌==◌, ◌⊎◌, Bool, true, false, if◌then◌else◌, ◌||◌, List, [], ◌∷◌, ◌++◌, length, replicate}
use Rattle.act_drive.proofs.Common.{Option, Some, None, is_some, get_or, refl, sym, ◌∙◌, ap, subst, arith, rules, All, AllPairs, Contains, append-nil}
use Rattle.act_drive.proofs.Common.{option_to_list, inl, inr, list_any, list_all, or_right, leb_tells, length-replicate, get_or-replicate, get_or_past}
use Rattle.act_drive.proofs.Common.{All-weaker, Notice, Death, Answer, Step, Progress, holds, occurrences, done_by, nothing_done, copies_held, kept_at}
use Rattle.act_drive.proofs.Common.{copies_in, actors_in, copies-opened, OwnerView, Hears, hears_opened, PutterView, MailView, Letter, Endpoint, CallerLines}
use Rattle.act_drive.proofs.Common.{Driver, CallerPasses, AreTwo, IsEndpoint, IsPosting, IsCalling, Stays, Waits, FollowsSteps, HasAsked, OnlyReleases}
use Rattle.act_drive.proofs.Common.{IsFreshCaller, IsFreshEndpoint, HasDone, HasDriven, HasEndedAt, HasPosted, AreDistinct, last_note, IsKeeping, posted_in}
use Rattle.act_drive.proofs.Common.{IsIdle, IsDue, actor_of_letter, IsTracingClosed}
use Rattle.act_drive.proofs.Keeps.{keeps_opened}
use Rattle.act_drive.proofs.Drivers.{posting_less}
use Rattle.act_drive.proofs.PlanSteps.{kills_on}
use Rattle.act_drive.proofs.Endpoints.{posted_once, distinct_stays}
use Rattle.act_drive.proofs.Tracing.{traced_of}

-- ---- a plan

kept_all : (kept : List (Option Answer)) (k : ℕ) → list_all is_some kept ≡ true → k < length kept → is_some (kept_at kept k) ≡ true
kept_all [] k all below = absurd (omega arith)
kept_all (None ∷ kept) k all below = absurd (cc all)
kept_all (Some answer ∷ kept) zero all below = refl
kept_all (Some answer ∷ kept) (suc k) all below = kept_all kept k all (omega arith)

any_at : (a : ℕ) (xs : List ℕ) (k : ℕ) → k < length xs → get_or xs k a ≡ a → list_any (λ b. b == a) xs ≡ true
any_at a [] k below here = absurd (omega (arith, below))
any_at a (x ∷ xs) zero below here = let same : (a == a) ≡ true = search rules in ap (λ t. t || list_any (λ b. b == a) xs) (ap (λ n. n == a) here ∙ same)
any_at a (x ∷ xs) (suc k) below here = or_right (x == a) _ (any_at a xs k (omega (arith, below)) here)

listed_holds : (a : ℕ) (actors : List ℕ) (p : Progress) → Contains actors a → is_some (holds a actors p) ≡ true
listed_holds a actors p has =
    ap (λ t. is_some (if t then Some ((1 + occurrences a p.copied) - occurrences a p.released) else None)) (any_at a actors has.0 has.1 has.2)

let_go_all : (copies : Option ℕ) → is_some copies ≡ true → copies_held copies ≡ 0 → copies ≡ Some 0
let_go_all None some none = absurd (cc some)
let_go_all (Some n) some none = ap Some none

-- what was kept of what is due, with nothing in the outbox
due_posted : (mails : List MailView) (taken : List Notice) (endpoints : List (Endpoint (PutterView Letter Unit))) {outbox : Option Letter} (letter : Letter) →
    outbox ≡ None → Contains (posted_in endpoints ++ option_to_list outbox) letter ⊎ IsIdle mails taken endpoints (actor_of_letter letter) →
    Contains (posted_in endpoints) letter ⊎ IsIdle mails taken endpoints (actor_of_letter letter)
due_posted mails taken endpoints letter empty is =
    subst (λ l. Contains l letter ⊎ IsIdle mails taken endpoints (actor_of_letter letter))
    (ap (λ h. posted_in endpoints ++ option_to_list h) empty ∙ append-nil (posted_in endpoints)) is

-- at an endpoint nothing is idle but after the death
note_posted : (mails : List MailView) (taken : List Notice) (endpoints : List (Endpoint (PutterView Letter Unit))) (letter : Letter) (a k : ℕ)
    (s : Endpoint (PutterView Letter Unit)) (d : MailView) → k < length endpoints → (get_or mails (get_or endpoints k s).place d).actor ≡ a →
    Contains (posted_in endpoints) letter ⊎ IsIdle mails taken endpoints a → Contains (posted_in endpoints) letter ⊎ Contains taken (Death a)
note_posted mails taken endpoints letter a k s d below here (inl posted) = inl posted
note_posted mails taken endpoints letter a k s d below here (inr (inl dead)) = inr dead
note_posted mails taken endpoints letter a k s d below here (inr (inr apart)) = absurd (apart k s below d here)

pub done_of : {lines : CallerLines} (actors : List ℕ) (plan : List Step) {one two three : Driver} → OnlyReleases one two →
    All (λ mail. copies_held (copies_in mail.actor two.owner.handles) ≡ 0) lines.mails.now → Waits two three → IsCalling lines three →
    list_all is_some three.owner.kept ≡ true → three.outbox ≡ None → FollowsSteps lines actors plan one → HasDone lines actors plan three.owner three.passes
done_of {lines} actors plan {one} {three} only_releases closed waits calling answered empty f =
    let mails = lines.mails.now in let taken = three.passes.collects.taken in let endpoints = three.passes.letters.items in
    let sent : (letter : Letter) → IsDue three.owner letter → Contains (posted_in endpoints) letter ⊎ IsIdle mails taken endpoints (actor_of_letter letter) =
    λ letter due. due_posted mails taken endpoints letter empty (calling.keeps.due letter due) in
    record {
      calls = waits.calls ∙ only_releases.calls ∙ f.calls;
      answered = λ k below. kept_all three.owner.kept k answered (let places = calling.places in omega (arith, below, places));
      kills = subst (λ v. All (HasAsked lines.controls.now plan taken) v) (sym (waits.kills ∙ only_releases.kills)) (kills_on lines.controls.now plan plan
          one.passes.collects.taken taken one.passes.kills.items (λ a. refl) (λ n has. waits.heard n (only_releases.heard n has)) f.kills);
      sent = sent;
      notes = λ k s below d listed.
          let place = (get_or endpoints k s).place in let a = (get_or mails place d).actor in
          let some : is_some (copies_in a three.owner.handles) ≡ true =
          ap (λ h. is_some (copies_in a h)) waits.handles ∙ (only_releases.handles a).0 ∙ ap (λ o. is_some o) (f.copies a) ∙
          listed_holds a actors (done_by actors nothing_done plan) listed in
          let none : copies_held (copies_in a three.owner.handles) ≡ 0 =
          ap (λ h. copies_held (copies_in a h)) waits.handles ∙ closed place d (calling.letters k s below).below in
          note_posted mails taken endpoints (last_note three.owner a) a k s d below refl
          (sent (last_note three.owner a) (refl, let_go_all (copies_in a three.owner.handles) some none));
    }

-- ---- the opening

-- no flag is set
pub unset_flags : (n a : ℕ) → get_or (replicate n false) a false ≡ false
unset_flags n a = elim (leb_tells (suc a) n) [
  | inl t ↦ get_or-replicate n a false false t.1
  | inr f ↦ let long : length (replicate n false) ≡ n = length-replicate n false in get_or_past (replicate n false) a false (omega (arith, f.1, long))
]

posting_none : (owner : OwnerView) (a : ℕ) → IsPosting owner a [] []
posting_none owner a =
    record { sent = λ k e below. absurd (omega arith); distinct = λ i j e lt below. absurd (omega arith); marked = λ k e below. absurd (omega arith) }

posting_fresh : (owner : OwnerView) (a : ℕ) {put : List Letter} → put ≡ [] → IsPosting owner a [] put
posting_fresh owner a is = subst (λ l. IsPosting owner a [] l) (sym is) (posting_none owner a)

-- a caller as it was opened, with an empty outbox and no flag set, is a caller at work
pub fresh_calling : {lines : CallerLines} {owner : OwnerView} {passes : CallerPasses} (note_posted : List Bool) → ((a : ℕ) → get_or note_posted a false ≡
    false) → IsFreshCaller lines owner passes → IsCalling lines (record { owner = owner; passes = passes; outbox = None; note_posted = note_posted })
fresh_calling {lines} {owner} {passes} note_posted unset fresh =
    let actors = actors_in owner.handles in
    record {
      places = rw fresh.owner_is refl;
      flags = rw fresh.owner_is refl;
      hears = subst (λ l. Hears owner l) (sym fresh.unused.taken) (subst (λ o. Hears o []) (sym fresh.owner_is) (hears_opened owner.limits owner.id actors));
      collects = fresh.unused.collects;
      held = tt;
      letters = All-weaker (IsFreshEndpoint lines.mails.now owner.id) (IsEndpoint lines.mails.now owner []) (λ endpoint s. record {
        below = s.below;
        line = s.line;
        number = s.number;
        posting = λ d. posting_fresh owner (get_or lines.mails.now endpoint.place d).actor s.put;
      }) passes.letters.items fresh.unused.letters;
      kills = fresh.unused.kills;
      keeps = rw fresh.unused.taken (subst (λ o. IsKeeping lines.mails.now o [] passes.letters.items []) (sym fresh.owner_is)
          (keeps_opened lines.mails.now owner.limits owner.id actors passes.letters.items));
      note_posted = λ a set. absurd (cc (unset a, set));
      names = λ k s below d. subst (λ l. All
          (λ kill. kill.note ≡ record { caller = owner.id; actor = (get_or lines.controls.now (get_or passes.kills.items k s).place d).actor }) l)
          (sym (fresh.unused.asked k s below)) (λ i e inside. absurd (omega arith));
    }

-- a caller as it was opened, with an empty outbox, is a caller of its actors that did no steps
pub fresh_follows : {lines : CallerLines} {owner : OwnerView} {passes : CallerPasses} (note_posted : List Bool) → IsFreshCaller lines owner passes →
    FollowsSteps lines (actors_in owner.handles) [] (record { owner = owner; passes = passes; outbox = None; note_posted = note_posted })
fresh_follows {owner} note_posted fresh = record {
  calls = ap (λ (o : OwnerView). o.calls) fresh.owner_is;
  copies = λ a. ap (λ (o : OwnerView). copies_in a o.handles) fresh.owner_is ∙ copies-opened a (actors_in owner.handles);
  kills = λ k s below d. inl (ap (λ l. length l) (fresh.unused.asked k s below));
}

have_posted : {lines : CallerLines} (driver : Driver) → IsCalling lines driver → All (HasPosted lines.mails.now driver.owner) driver.passes.letters.items
have_posted driver calling k s below d =
    let posting = (calling.letters k s below).posting d in
    let less = posting_less _ posting in (
      less.sent,
      subst (AllPairs AreTwo) (append-nil (get_or driver.passes.letters.items k s).pass.put) less.distinct,
    )

-- what a caller's thread leaves, put together: it did its plan, or it starved and is through with its actors
pub driven_of : {lines : CallerLines} (plan : List Step) (starved : Bool) (start : Driver) {new : Driver} → AreDistinct lines.mails.now
    start.passes.letters.items → IsCalling lines new → Stays start new → (starved ≡ false → HasDone lines (actors_in start.owner.handles) plan new.owner
    new.passes) → (starved ≡ true → All (HasEndedAt lines.controls.now new.owner new.passes) new.passes.kills.items) → (starved ≡ false → IsTracingClosed
    start.owner lines plan new) → HasDriven lines start.owner start.passes plan (record { owner = new.owner; starved = starved; passes = new.passes })
driven_of {lines} plan starved start {new} distinct calling stay done ended traced = record {
  id = stay.id;
  limits = stay.limits;
  stay = stay.passes;
  letters = have_posted new calling;
  once = posted_once lines.mails.now new.owner new.passes.letters.items
      (distinct_stays lines.mails.now start.passes.letters.items new.passes.letters.items stay.passes.letters distinct) (have_posted new calling);
  hears = calling.hears;
  names = calling.names;
  done = done;
  ended = ended;
  traced = λ well. traced_of lines start.owner plan new (traced well);
}
