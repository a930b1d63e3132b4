-- What stays of a world where its history goes on, part by part.
use Rattle.act_world.proofs.Common.{◌≡◌, ◌≢◌, ℕ, zero, suc, ◌<◌, Bool, true, false, cond, List, [], ◌∷◌, ◌++◌, length, Some, None, inl, inr, refl, ap, sym, ◌∙◌}
use Rattle.act_world.proofs.Common.{subst, arith, get_or, Option, ◌||◌, find, position, slice_get, slice_set, option_map, option_and_then, nat_lt}
use Rattle.act_world.proofs.Common.{list_any, eq-eqb, ne_eqb, eqb_tells, find-set, find_past, position-Some, Answered, RunItem, Submission, Letter, Post}
use Rattle.act_world.proofs.Common.{items_of, state_after, has_terminated, calls_to, ActorSpec, History, contains, under, cast_of, names, is_caller, calls_of}
use Rattle.act_world.proofs.Common.{copies_of, runs_of, ran_count, kept_of, is_ended, is_dead, is_retired, has_letter, was_sent, slice_get_front, All_at, Grows}
use Rattle.act_world.proofs.Common.{calls_grow, runs_grow, calls_to_grow, not_terminated, IsSoundPost, answer_of_stays, IsSoundLetter, kept_extends}
use Rattle.act_world.proofs.Common.{has_letter-sound, arguments_stay, kept_of-same, find-Some, find-None, position_or_len-Some, limit_of-same, OwnerView}
use Rattle.act_world.proofs.Common.{ActorView, MailEntry, MailedNotice, is_owner, SlotView, Runs, Died, Ended, Vacant, IsOwnerOf, IsOwnerAt, is_death_to}
use Rattle.act_world.proofs.Common.{packet_by_number, mail_entry, reply_as, reply_at, posted_notice, held_packet, IsLive, IsStage, CallLetter, NoteLetter}
use Rattle.act_world.proofs.Common.{ReplyPost, DeathPost}
use Rattle.act_world.proofs.Lawful.{IsLawful}
use Rattle.act_rules.proofs.Callers.{cast_of-same}

-- ---- the casts

pub is_caller-same : (h g : History) (c : ℕ) → g.casts ≡ h.casts → is_caller c g ≡ is_caller c h
is_caller-same h g c casts = ap (λ l. list_any (λ (cast : ActorSpec). contains c cast.callers) l) casts

pub names-same : (h g : History) (c a : ℕ) → g.casts ≡ h.casts → names c (cast_of a g) ≡ names c (cast_of a h)
names-same h g c a casts = ap (names c) (cast_of-same h g a casts)

-- ---- callers

-- nothing of the caller's changes
pub record SameCaller (c : ℕ) (h g : History) : Type 0 where
  pub calls : calls_of c g ≡ calls_of c h
  pub copies : (a : ℕ) → copies_of c a g ≡ copies_of c a h
  pub sent : (k : ℕ) → was_sent c k (slice_get (calls_of c h) k) g ≡ was_sent c k (slice_get (calls_of c h) k) h
  pub kept : kept_of c g ≡ kept_of c h
  pub deaths : (a : ℕ) → list_any (is_death_to c a) g.collected ≡ list_any (is_death_to c a) h.collected

owner_stays : (c : ℕ) (h g : History) {owner : OwnerView} → g.casts ≡ h.casts → SameCaller c h g → IsOwnerOf h c owner → IsOwnerOf g c owner
owner_stays c h g casts same is = record {
  id = is.id;
  copies = λ a. is.copies a ∙ sym (same.copies a);
  limits = λ a. is.limits a ∙ sym (limit_of-same h g c a casts);
  given = λ a. is.given a ∙ ap (λ calls. length (calls_to a calls)) (sym same.calls);
  calls = is.calls ∙ sym same.calls;
  marks = is.marks ∙ ap (λ calls. length calls) (sym same.calls);
  sent = λ k. is.sent k ∙ sym (same.sent k) ∙ ap (λ calls. was_sent c k (slice_get calls k) g) (sym same.calls);
  kept = is.kept ∙ sym same.kept;
  deaths = λ a. is.deaths a ∙ sym (same.deaths a);
}

-- callers of whom nothing changes
pub owner_at_stays : (c : ℕ) (h g : History) (owner : Option OwnerView) → g.casts ≡ h.casts → SameCaller c h g → IsOwnerAt h c owner → IsOwnerAt g c owner
owner_at_stays c h g None casts same is = is_caller-same h g c casts ∙ is
owner_at_stays c h g (Some owner) casts same is = (is_caller-same h g c casts ∙ is.0, owner_stays c h g casts same is.1)

-- while the casts stay and nothing of any caller changes, the world's callers are what the history tells
pub owners_stay : (h g : History) (owners : List OwnerView) → g.casts ≡ h.casts → ((c : ℕ) → SameCaller c h g)
    → ((c : ℕ) → IsOwnerAt h c (find (is_owner c) owners)) → (c : ℕ) → IsOwnerAt g c (find (is_owner c) owners)
owners_stay h g owners casts same all c = owner_at_stays c h g (find (is_owner c) owners) casts (same c) (all c)

-- the caller at its place, and none
pub owner_here : (h : History) (owners : List OwnerView) (c : ℕ) {place : ℕ} (d : OwnerView) → ((c : ℕ) → IsOwnerAt h c (find (is_owner c) owners)) →
    position (is_owner c) owners ≡ Some place → (is_caller c h ≡ true) × IsOwnerOf h c (get_or owners place d)
owner_here h owners c {place} d all at = subst (IsOwnerAt h c) (find-Some (is_owner c) owners d at) (all c)

-- who stands at no place among the world's callers is no caller of the history
pub owner_absent : (h : History) (owners : List OwnerView) (c : ℕ) → ((c : ℕ) → IsOwnerAt h c (find (is_owner c) owners)) →
    position (is_owner c) owners ≡ None → is_caller c h ≡ false
owner_absent h owners c all at = subst (IsOwnerAt h c) (find-None (is_owner c) owners at) (all c)

pub not_owner : (c d : ℕ) (owner : OwnerView) → c ≢ d → owner.id ≡ c → is_owner d owner ≡ false
not_owner c d owner apart id = ne_eqb owner.id d (λ same. apart (sym id ∙ same))

-- one caller changes, and nothing of the others
pub owners_change : (h : History) {g : History} (owners : List OwnerView) {c place : ℕ} {new : OwnerView} → g.casts ≡ h.casts →
    ((c : ℕ) → IsOwnerAt h c (find (is_owner c) owners)) → position (is_owner c) owners ≡ Some place → IsOwnerOf g c new →
    ((d : ℕ) → c ≢ d → SameCaller d h g) → (d : ℕ) → IsOwnerAt g d (find (is_owner d) (slice_set owners place new))
owners_change h {g} owners {c} {place} {new} casts all at is others d = elim (eqb_tells c d) [
  | inl t ↦ subst (λ x. IsOwnerAt g x (find (is_owner x) (slice_set owners place new))) t.1
      (subst (IsOwnerAt g c) (sym (find-set (is_owner c) owners place new (sym (position_or_len-Some (is_owner c) owners at)) within (eq-eqb new.id c is.id)))
      (is_caller-same h g c casts ∙ (owner_here h owners c new all at).0, is))
  | inr f ↦ subst (IsOwnerAt g d) (sym (find_past (is_owner d) owners place new new (not_owner c d (get_or owners place new) f.1
      (owner_here h owners c new all at).1.id) (not_owner c d new f.1 is.id))) (owner_at_stays d h g (find (is_owner d) owners) casts (others d f.1) (all d))
]
  where
    within : place < length owners
    within = (position-Some (is_owner c) owners place new at).0

-- where no list of a caller's changes, nothing of it does
pub same_caller : (c : ℕ) (h : History) {g : History} → IsLawful h → Grows h g → g.submitted ≡ h.submitted → g.copied ≡ h.copied → g.released ≡ h.released →
    g.mail ≡ h.mail → g.collected ≡ h.collected → SameCaller c h g
same_caller c h {g} lawful grows submitted copied released mail collected = record {
  calls = ap (under c) submitted;
  copies = λ a. rw (names-same h g c a grows.casts, copied, released) refl;
  sent = λ k. sent_same k (slice_get (calls_of c h) k);
  kept = kept_of-same c grows lawful.sound.posts submitted collected;
  deaths = λ a. ap (list_any (is_death_to c a)) collected;
}
  where
    sent_same : (k : ℕ) (call : Option Submission) → was_sent c k call g ≡ was_sent c k call h
    sent_same k None = refl
    sent_same k (Some call) = rw (submitted, mail) refl

-- ---- what is on its way

-- a sound call letter's packet stays
pub packet_stays : (h : History) {g : History} (c a n : ℕ) → IsLawful h → Grows h g → IsSoundLetter h (CallLetter c a n) →
    packet_by_number g c a n ≡ packet_by_number h c a n
packet_stays h {g} c a n lawful grows sound =
    let there : slice_get (calls_to a (calls_of c g)) n ≡ Some sound.0 = slice_get_front (calls_to a (calls_of c h)) (calls_to a (calls_of c g)) n
    (calls_to_grow a (calls_of c h) (calls_of c g) (calls_grow c grows)) sound.1 in
    let same = (arguments_stay (kept_of c h) (kept_of c g) (kept_extends c grows lawful.sound.posts) sound.0.1.args sound.2).1 in
    rw (there, sound.1) (ap (λ args. Some (record { caller = c; actor = a; number = n; future = sound.0.0; method = sound.0.1.method; args = args })) same)

pub mailed_stays : (h g : History) (letter : Letter) → IsLawful h → Grows h g → IsSoundLetter h letter → mail_entry g letter ≡ mail_entry h letter
mailed_stays h g (CallLetter c a n) lawful grows sound =
    let there : slice_get (calls_to a (calls_of c g)) n ≡ Some sound.0 = slice_get_front (calls_to a (calls_of c h)) (calls_to a (calls_of c g)) n
    (calls_to_grow a (calls_of c h) (calls_of c g) (calls_grow c grows)) sound.1 in
    rw (there, sound.1) refl
mailed_stays h g (NoteLetter c a n) lawful grows sound = refl

mailed_at_stays : (h g : History) (i : ℕ) (found : Option Letter) → slice_get h.mail i ≡ found → IsLawful h → Grows h g →
    option_and_then (mail_entry g) found ≡ option_and_then (mail_entry h) found
mailed_at_stays h g i None is lawful grows = refl
mailed_at_stays h g i (Some letter) is lawful grows = mailed_stays h g letter lawful grows (All_at (IsSoundLetter h) h.mail i lawful.sound.letters.mail is)

-- the letters that were there stay
pub mail_stays : {h g : History} (mail : List MailEntry) → IsLawful h → Grows h g → ((i : ℕ) →
    slice_get mail i ≡ option_and_then (mail_entry h) (slice_get h.mail i)) → (i : ℕ) → slice_get mail i ≡ option_and_then (mail_entry g) (slice_get h.mail i)
mail_stays {h} {g} mail lawful grows all i = all i ∙ sym (mailed_at_stays h g i (slice_get h.mail i) refl lawful grows)

-- two lists that go together go on together
pub go_together : {X Y : Type 0} (f : Y → Option X) (xs : List X) (ys : List Y) {x : X} (y : Y) → f y ≡ Some x → length xs ≡ length ys
    → ((i : ℕ) → slice_get xs i ≡ option_and_then f (slice_get ys i)) → (i : ℕ) → slice_get (xs ++ x ∷ []) i ≡ option_and_then f (slice_get (ys ++ y ∷ []) i)
go_together f [] [] y some same h zero = sym some
go_together f [] [] y some same h (suc i) = refl
go_together f [] (z ∷ ys) y some same h i = absurd (cc)
go_together f (z ∷ xs) [] y some same h i = absurd (cc)
go_together f (w ∷ xs) (z ∷ ys) y some same h zero = h 0
go_together f (w ∷ xs) (z ∷ ys) {x} y some same h (suc i) = go_together f xs ys y some (omega arith) (λ j. h (suc j)) i

reply_stays : (h g : History) (c a place : ℕ) (item : RunItem) → Grows h g → slice_get (runs_of a h) place ≡ Some item →
    reply_at g c a place (slice_get (runs_of a g) place) ≡ reply_at h c a place (slice_get (runs_of a h) place)
reply_stays h g c a place item grows at =
    let there : slice_get (runs_of a g) place ≡ Some item = slice_get_front (runs_of a h) (runs_of a g) place (runs_grow a grows) at in
    rw (there, at) (ap (option_map (reply_as c a place item)) (answer_of_stays h g a place item grows at))

pub posted_stays : (h g : History) (post : Post) → Grows h g → IsSoundPost h post → posted_notice g post ≡ posted_notice h post
posted_stays h g (ReplyPost c a place) grows sound =
    ap (option_map (λ reply. record { caller = c; notice = Answered reply })) (reply_stays h g c a place sound.0 grows sound.1)
posted_stays h g (DeathPost c a) grows sound = refl

posted_at_stays : (h g : History) (j : ℕ) (found : Option Post) → slice_get h.posts j ≡ found → IsLawful h → Grows h g →
    option_and_then (posted_notice g) found ≡ option_and_then (posted_notice h) found
posted_at_stays h g j None is lawful grows = refl
posted_at_stays h g j (Some post) is lawful grows = posted_stays h g post grows (All_at (IsSoundPost h) h.posts j lawful.sound.posts.posts is)

-- the notices that were there stay
pub replies_stay : (h g : History) (replies : List MailedNotice) → IsLawful h → Grows h g → ((j : ℕ) → slice_get replies j ≡ option_and_then (posted_notice h)
    (slice_get h.posts j)) → (j : ℕ) → slice_get replies j ≡ option_and_then (posted_notice g) (slice_get h.posts j)
replies_stay h g replies lawful grows all j = all j ∙ sym (posted_at_stays h g j (slice_get h.posts j) refl lawful grows)

-- ---- actors

held_stays : (h g : History) (a c n : ℕ) → IsLawful h → Grows h g → g.arrived ≡ h.arrived → runs_of a g ≡ runs_of a h →
    held_packet g a c n ≡ held_packet h a c n
held_stays h g a c n lawful grows arrived ran =
    rw (ran, arrived) (ap (λ rest. cond (nat_lt n (ran_count c a h)) None rest) (by_arrival (has_letter (CallLetter c a n) h.arrived) refl))
  where
    by_arrival : (b : Bool) → has_letter (CallLetter c a n) h.arrived ≡ b → cond b (packet_by_number g c a n) None ≡ cond b (packet_by_number h c a n) None
    by_arrival true e = packet_stays h c a n lawful grows (has_letter-sound (IsSoundLetter h) (CallLetter c a n) h.arrived lawful.sound.letters.arrived e)
    by_arrival false e = refl

-- an actor that runs did not terminate
pub still_lives : (h : History) (a : ℕ) {live : ActorView} → IsLive h a live → has_terminated live.log ≡ false
still_lives h a is = ap has_terminated is.log ∙ not_terminated a h is.runs

-- an actor at which nothing arrives, runs or ends stays
pub live_stays : (h g : History) (a : ℕ) (live : ActorView) → IsLawful h → Grows h g → g.arrived ≡ h.arrived → runs_of a g ≡ runs_of a h →
    is_ended a g ≡ is_ended a h → IsLive h a live → IsLive g a live
live_stays h g a live lawful grows arrived ran ended is = record {
  cast = is.cast;
  cast_is = cast_of-same h g a grows.casts ∙ is.cast_is;
  runs = ended ∙ is.runs;
  id = is.id;
  log = is.log ∙ sym ran;
  state = is.state ∙ ap (state_after is.cast.opening) (sym ran);
  listed = λ c. is.listed c ∙ sym (names-same h g c a grows.casts);
  handed = λ c named. is.handed c (sym (names-same h g c a grows.casts) ∙ named) ∙ ap (λ items. length (items_of c items)) (sym ran);
  waits = λ c n named. is.waits c n (sym (names-same h g c a grows.casts) ∙ named) ∙ sym (held_stays h g a c n lawful grows arrived ran);
  notes = λ c n named. is.notes c n (sym (names-same h g c a grows.casts) ∙ named) ∙ ap (has_letter (NoteLetter c a n)) (sym arrived);
}

-- where nothing arrives, an actor that runs nothing and doesn't end stays where the history says
pub stage_stays : (h g : History) (a : ℕ) (stage : Option SlotView) → IsLawful h → Grows h g → g.arrived ≡ h.arrived → runs_of a g ≡ runs_of a h →
    is_dead a g ≡ is_dead a h → is_retired a g ≡ is_retired a h → IsStage h a stage → IsStage g a stage
stage_stays h g a None lawful grows arrived ran dead retired is = cast_of-same h g a grows.casts ∙ is
stage_stays h g a (Some Vacant) lawful grows arrived ran dead retired is = cast_of-same h g a grows.casts ∙ is
stage_stays h g a (Some (Runs live)) lawful grows arrived ran dead retired is = live_stays h g a live lawful grows arrived ran (rw (dead, retired) refl) is
stage_stays h g a (Some (Died died)) lawful grows arrived ran dead retired is = record {
  cast = is.cast;
  cast_is = cast_of-same h g a grows.casts ∙ is.cast_is;
  died = dead ∙ is.died;
  id = is.id;
  log = is.log ∙ sym ran;
}
stage_stays h g a (Some (Ended ended)) lawful grows arrived ran dead retired is = record {
  cast = is.cast;
  cast_is = cast_of-same h g a grows.casts ∙ is.cast_is;
  lived = dead ∙ is.lived;
  ended = retired ∙ is.ended;
  id = is.id;
  log = is.log ∙ sym ran;
  state = is.state ∙ ap (state_after is.cast.opening) (sym ran);
}

-- an actor that took no kill and ran nothing is as dead as before
pub dead_same : (h g : History) (a : ℕ) → contains a g.killed ≡ contains a h.killed → runs_of a g ≡ runs_of a h → is_dead a g ≡ is_dead a h
dead_same h g a killed ran = ap (λ b. b || has_terminated (runs_of a g)) killed ∙ ap (λ items. contains a h.killed || has_terminated items) ran

-- actors stay where nothing arrives, runs or ends
pub stages_stay : (h g : History) (slots : List SlotView) → IsLawful h → Grows h g → g.arrived ≡ h.arrived → g.ran ≡ h.ran → g.killed ≡ h.killed →
    g.retired ≡ h.retired → ((a : ℕ) → IsStage h a (slice_get slots a)) → (a : ℕ) → IsStage g a (slice_get slots a)
stages_stay h g slots lawful grows arrived ran killed retired all a =
    stage_stays h g a (slice_get slots a) lawful grows arrived (ap (under a) ran) (dead_same h g a (ap (contains a) killed) (ap (under a) ran))
    (ap (contains a) retired) (all a)
