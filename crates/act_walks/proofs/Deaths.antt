-- A caller hears of the death of an actor.
use Rattle.act_walks.proofs.Common.{◌≡◌, ℕ, zero, suc, ◌+◌, ◌<◌, Bool, true, false, List, [], ◌∷◌, length, Option, Some, None, refl, ap, sym, ◌∙◌, subst, arith}
use Rattle.act_walks.proofs.Common.{◌==◌, ◌||◌, Contains, slice_get, option_map, is_some, eqb-true, eq-eqb, map-slice_get, Event, Post, Submission, Answer}
use Rattle.act_walks.proofs.Common.{Step, ActorSpec, History, history, names, cast_of, is_caller, kept_of, kept_at, is_dead, refusal_of, add_event, is_reply}
use Rattle.act_walks.proofs.Common.{needs-none, NoCaller, NotDead, Handle, NoActor, needs, some_cast, ◌≤◌, ◌⊎◌, inl, inr, get_or, get_or_from_slice_get}
use Rattle.act_walks.proofs.Common.{cases_lt, IsBehind, WorldView, SlotView, Died, Ended, Vacant, IsStage, stage_of_slot, is_dead_slot, Refines, IsOwnerOf}
use Rattle.act_walks.proofs.Common.{is_death_to, shows_dead, option_map_or, Did, copies_in, OwnerView, is_known_dead, list_any, not_dead, length-map}
use Rattle.act_walks.proofs.Common.{slice_get-map, DeathPost, Told, MayHear, Left, Open, Reply, Death, ToldCall, ToldEnd, SomeEnd, IsEager, Fits, FitsLeft}
use Rattle.act_walks.proofs.Common.{bound_of, calls_in, submission_of_call, Parts, done_in, Moves, NoTell, Does, HearsNow, Hears, lets_hear, answer_lets}
use Rattle.act_walks.proofs.Common.{AllLetHear, place_in, or_right}
use Rattle.act_plan_plays.proofs.Common.{Runs}
use Rattle.act_plan_plays.proofs.Done.{names_copies}
use Rattle.act_plan_plays.proofs.Moving.{told_place}
use Rattle.act_rules.specs.declared.event.Event.TheVariants as event
use Rattle.act_rules.specs.declared.outcome.Did.TheVariants as did_so
use Rattle.act_world.proofs.Lawful.{world_lawful}
use Rattle.act_world.proofs.Heard.{death_listed}
use Rattle.act_walks.proofs.EagerRuns.{heard}
use Rattle.act_walks.proofs.Kills.{kills_event}
use Rattle.act_walks.proofs.Onward.{stands_event, walking_to, moves_none, moves_yes}

-- ---- who is dead

dead_slot : (h : History) (a : ℕ) (o : Option SlotView) → IsStage h a o → is_some (cast_of a h) ≡ true → is_dead a h ≡ true
    → option_map_or is_dead_slot (stage_of_slot o) false ≡ true
dead_slot h a None is some dead = let bad : true ≡ false = sym some ∙ ap (λ o. is_some o) is in cc
dead_slot h a (Some Vacant) is some dead = let bad : true ≡ false = sym some ∙ ap (λ o. is_some o) is in cc
dead_slot h a (Some (Runs live)) is some dead = let bad : true ≡ false = sym dead ∙ not_dead a h is.runs in cc
dead_slot h a (Some (Died one)) is some dead = refl
dead_slot h a (Some (Ended retired)) is some dead = let bad : true ≡ false = sym dead ∙ is.lived in cc

-- what the telling of a death needs
pub tell_needs : (h : History) (a c : ℕ) → refusal_of h (event.Tell a c) ≡ None → (is_caller c h ≡ true) × (names c (cast_of a h) ≡ true) × (is_dead a h ≡ true)
tell_needs h a c may =
    let one = needs-none (is_caller c h) NoCaller (needs (names c (cast_of a h)) (Handle NoActor) (needs (is_dead a h) NotDead None)) may in
    let two = needs-none (names c (cast_of a h)) (Handle NoActor) (needs (is_dead a h) NotDead None) one.1 in
    (one.0, two.0, (needs-none (is_dead a h) NotDead None two.1).0)

pub not_shown : (end : ToldEnd) (c a : ℕ) {casts : List ActorSpec} (h : History) {world : WorldView} {before : List Event} → IsBehind casts h world before →
    shows_dead world a ≡ false → Hears end c a h false
not_shown end c a h {world} behind hidden = record {
  yes = λ e. cc;
  none = λ _ told fits few hears never may.
      let needed = tell_needs h a c may in
      let refines : Refines h world = subst (λ g. Refines g world) (sym behind.is) behind.reached in
      let bad : true ≡ false = sym (dead_slot h a (slice_get world.slots a) (refines.actors a) (some_cast c (cast_of a h) needed.1) needed.2) ∙ hidden in cc;
}

pub no_caller : (end : ToldEnd) (c a : ℕ) (h : History) → is_caller c h ≡ false → Hears end c a h false
no_caller end c a h none = record {
  yes = λ e. cc;
  none = λ _ told fits few hears never may. let bad : true ≡ false = sym (tell_needs h a c may).0 ∙ none in cc;
}

-- ---- a death that was collected

at_any : (c a i : ℕ) (posts : List Post) → slice_get posts i ≡ Some (DeathPost c a) → list_any (is_death_to c a) posts ≡ true
at_any c a i [] at = cc
at_any c a zero (post ∷ posts) at =
    let is : post ≡ DeathPost c a = cc in ap (λ p. is_death_to c a p || list_any (is_death_to c a) posts) is ∙ rw (eq-eqb c c refl, eq-eqb a a refl) refl
at_any c a (suc i) (post ∷ posts) at = or_right (is_death_to c a post) _ (at_any c a i posts at)

known_death : (h : History) (c a : ℕ) {owner : OwnerView} → IsOwnerOf h c owner → Contains h.collected (DeathPost c a) → is_known_dead owner a ≡ true
known_death h c a is has = let place = place_in h.collected (DeathPost c a) has in is.deaths a ∙ at_any c a place.0 h.collected place.1

-- ---- the answers

reply_some : (answer : Option Answer) → is_reply answer ≡ true → is_some answer ≡ true
reply_some None e = cc
reply_some (Some answer) e = refl

-- a call that is told, and what is said of it
said_call : (end : ToldEnd) {told : Told} (c k : ℕ) (call : Submission) → Fits end told → slice_get (told.calls c) k ≡ Some call
    → (said : ToldCall) × (slice_get (calls_in end c) k ≡ Some said) × (submission_of_call said ≡ call)
said_call end c k call fits at = map-slice_get submission_of_call (calls_in end c) k (ap (λ l. slice_get l k) (fits.calls c) ∙ at)

left_said : {end : ToldEnd} {told : Told} (c k : ℕ) {said : ToldCall} → Fits end told → slice_get (calls_in end c) k ≡ Some said
    → FitsLeft said.left (kept_at (told.kept c) k)
left_said {told} c k fits at =
    subst (λ l. FitsLeft l (kept_at (told.kept c) k)) (ap (λ o. option_map_or (λ (call : ToldCall). call.left) o Open) at)
    (fits.left c k)

answer_some : (left : Left) (answer own : Option Answer) → FitsLeft left answer → answer_lets left own ≡ true → is_some answer ≡ true
answer_some Open answer own fits lets = cc
answer_some Reply answer own fits lets = reply_some answer fits
answer_some Death answer own fits lets = fits.0

answer_own : (left : Left) (answer own : Option Answer) → FitsLeft left answer → answer_lets left own ≡ true → is_reply answer ≡ true → is_some own ≡ true
answer_own Open answer own fits lets reply = cc
answer_own Reply answer own fits lets reply = lets
answer_own Death answer own fits lets reply = let bad : true ≡ false = sym reply ∙ fits.1 in cc

lets_answer : (left : Left) (answer own : Option Answer) → FitsLeft left answer → is_some answer ≡ true → (is_reply answer ≡ true → is_some own ≡ true)
    → answer_lets left own ≡ true
lets_answer Open answer own fits some reply = let bad : true ≡ false = sym some ∙ ap (λ o. is_some o) fits in cc
lets_answer Reply answer own fits some reply = reply fits
lets_answer Death answer own fits some reply = refl

-- a call to the actor
lets_of : (a : ℕ) (kept : List (Option Answer)) (k : ℕ) (said : ToldCall) → said.actor ≡ a → lets_hear a kept k said ≡ answer_lets said.left (kept_at kept k)
lets_of a kept k said is = rw (eq-eqb said.actor a is) refl

may_hear : (end : ToldEnd) (told : Told) (c a : ℕ) (h : History) → Fits end told → AllLetHear a (kept_of c h) (calls_in end c) → MayHear told c a h
may_hear end told c a h fits all = record {
  answered = λ k call at to.
      let said = said_call end c k call fits at in
      let actor : said.0.actor ≡ a = ap (λ (s : Submission). s.actor) said.2 ∙ to in
      answer_some said.0.left (kept_at (told.kept c) k) (kept_at (kept_of c h) k) (left_said c k fits said.1)
      (sym (lets_of a (kept_of c h) k said.0 actor) ∙ all k said.0 said.1);
  heard = λ k call at to reply.
      let said = said_call end c k call fits at in
      let actor : said.0.actor ≡ a = ap (λ (s : Submission). s.actor) said.2 ∙ to in
      answer_own said.0.left (kept_at (told.kept c) k) (kept_at (kept_of c h) k) (left_said c k fits said.1)
      (sym (lets_of a (kept_of c h) k said.0 actor) ∙ all k said.0 said.1) reply;
}

all_let : (end : ToldEnd) (told : Told) (c a : ℕ) (h : History) → Fits end told → MayHear told c a h → AllLetHear a (kept_of c h) (calls_in end c)
all_let end told c a h fits hears k said at = go (said.actor == a) refl
  where
    told_at : slice_get (told.calls c) k ≡ Some (submission_of_call said)
    told_at = ap (λ l. slice_get l k) (sym (fits.calls c)) ∙ slice_get-map submission_of_call (calls_in end c) k ∙ ap (option_map submission_of_call) at

    go : (b : Bool) → (said.actor == a) ≡ b → lets_hear a (kept_of c h) k said ≡ true
    go false e = rw e refl
    go true e =
        let actor : said.actor ≡ a = eqb-true said.actor a e in
        lets_of a (kept_of c h) k said actor ∙ lets_answer said.left (kept_at (told.kept c) k) (kept_at (kept_of c h) k) (left_said c k fits at)
        (hears.answered k (submission_of_call said) told_at actor) (hears.heard k (submission_of_call said) told_at actor)

few_calls : (end : ToldEnd) (told : Told) (c : ℕ) → Fits end told → length (told.calls c) ≤ 65536 → length (calls_in end c) ≤ 65536
few_calls end told c fits few =
    let same : length (calls_in end c) ≡ length (told.calls c) = sym (length-map (calls_in end c) submission_of_call)
    ∙ ap (λ l. length l) (fits.calls c) in
    omega (arith, few, same)

-- one whom the actor's cast doesn't name is told nothing
pub not_named : (end : ToldEnd) (c a : ℕ) (h : History) {owner : OwnerView} → IsOwnerOf h c owner → is_some (copies_in a owner.handles) ≡ false
    → Hears end c a h false
not_named end c a h is unlisted = record {
  yes = λ e. cc;
  none = λ _ told fits few hears never may.
      let bad : true ≡ false = sym (names_copies c a h (tell_needs h a c may).1) ∙ ap (λ o. is_some o) (sym (is.copies a)) ∙ unlisted in cc;
}

pub knows : (end : ToldEnd) (c a : ℕ) (h : History) (owner : OwnerView) → IsOwnerOf h c owner → is_known_dead owner a ≡ true → Hears end c a h false
knows end c a h owner is known = record {
  yes = λ e. cc;
  none = λ _ told fits few hears never may. never (death_listed c a h.collected (sym (is.deaths a) ∙ known));
}

pub hears_by : (end : ToldEnd) (c a : ℕ) (h : History) {owner : OwnerView} (all : Bool) → IsOwnerOf h c owner → is_known_dead owner a ≡ false
    → (length (calls_in end c) ≤ 65536 → (all ≡ true → AllLetHear a owner.kept (calls_in end c)) × (AllLetHear a owner.kept (calls_in end c) → all ≡ true))
    → Hears end c a h all
hears_by end c a h {owner} all is known lets = record {
  yes = λ e told fits few. (
    may_hear end told c a h fits (subst (λ l. AllLetHear a l (calls_in end c)) is.kept ((lets (few_calls end told c fits few)).0 e)),
    λ has. let bad : true ≡ false = sym (known_death h c a is has) ∙ known in cc,
  );
  none = λ e told fits few hears never may.
      let bad : true ≡ false = sym ((lets (few_calls end told c fits few)).1
      (subst (λ l. AllLetHear a l (calls_in end c)) (sym is.kept) (all_let end told c a h fits hears))) ∙ e in
      cc;
}

-- ---- the walk

told_few : (casts : List ActorSpec) (bound : ℕ → Option (List Step)) (told : Told) (c : ℕ) → SomeEnd casts bound told → length (told.calls c) ≤ 65536
told_few casts bound told c s = subst (λ l. length l ≤ 65536) (s.1.leaves.calls c) ((world_lawful casts s.0).few c)

pub hears_now : (c a j : ℕ) (old mid new : Parts) {told : Did} → Does (event.Tell a c) old mid (did_so.Told j) → Does (event.Collect j) mid new told
    → HearsNow c a old new
hears_now c a j old mid new tells collects = record {
  mid = mid;
  place = j;
  tells = tells.does;
  collects = collects.does;
  last = λ casts h behind. told_place (tells.says casts h behind);
}

pub hear_moves : (end : ToldEnd) (c a : ℕ) {old new : Parts} → ((casts : List ActorSpec) (h : History) (before : List Event) →
    IsBehind casts h old.world before → Hears end c a h true) → HearsNow c a old new → Moves end (NoTell c a) old new true
hear_moves end c a {old} {new} may now = moves_yes end (NoTell c a) old new (record {
  stands = λ casts s. stands_event (λ d steps is. refl) now.collects (stands_event (λ d steps is. refl) now.tells s);
  walks = λ casts told e s w.
      let h = history casts old.events in let g = add_event h (event.Tell a c) in let so = now.tells.behind casts h s.behind in
      let then = now.collects.behind casts g so.1 in
      let yes = (may casts h old.events s.behind).yes refl told e.fits (told_few casts (bound_of end) told c e.some) in
      let eager = (heard casts (bound_of end) told e.some (done_in old.done) h w.eager c a yes.0 yes.1 so.0).1 in
      walking_to end new (ap done_in (sym (now.collects.done ∙ now.tells.done))) then.1.is
      (subst (λ i. IsEager casts (bound_of end) told (done_in old.done) (add_event g (event.Collect i))) (sym (now.last casts h s.behind)) eager)
      (kills_event (bound_of end) told g (event.Collect now.place) (kills_event (bound_of end) told h (event.Tell a c) w.asked));
})

pub hear_none : (end : ToldEnd) (c a : ℕ) (walk : Parts) → ((casts : List ActorSpec) (h : History) (before : List Event) → IsBehind casts h walk.world before →
    Hears end c a h false) → Moves end (NoTell c a) walk walk false
hear_none end c a walk none = moves_none end (NoTell c a) walk (λ casts told e s w.
    (none casts (history casts walk.events) walk.events s.behind).none refl told e.fits (told_few casts (bound_of end) told c e.some))

-- ---- a loop over calls

pub one_more : {X : Type 0} (p : ℕ → X → Bool) (xs : List X) (n : ℕ) (x : X) → x ≡ get_or xs n x → p n x ≡ true →
    ((k : ℕ) (y : X) → k < n → slice_get xs k ≡ Some y → p k y ≡ true) → (k : ℕ) (y : X) → k < n + 1 → slice_get xs k ≡ Some y → p k y ≡ true
one_more {X = X} p xs n x is holds before k y below at = go (cases_lt k n)
  where
    go : (k < n) ⊎ (n ≤ k) → p k y ≡ true
    go (inl lt) = before k y lt at
    go (inr ge) =
        let same : k ≡ n = omega (arith, below, ge) in
        let there : slice_get xs n ≡ Some y = ap (slice_get xs) (sym same) ∙ at in
        let one : y ≡ x = sym (get_or_from_slice_get xs n y x there) ∙ sym is in ap (λ m. p m y) same ∙ ap (p n) one ∙ holds
