-- An actor runs the call that it is told to run next, and takes its kill.
use Rattle.act_walks.proofs.Common.{◌≡◌, ℕ, Bool, true, false, List, [], length, Option, Some, None, refl, ap, sym, ◌∙◌, subst, slice_get, option_map, is_some}
use Rattle.act_walks.proofs.Common.{map-slice_get, Event, RunItem, Answer, ActorSpec, History, history, names, cast_of, kept_at, runs_of, is_ended, next_item}
use Rattle.act_walks.proofs.Common.{is_reply, refusal_of, add_event, run_needs, IsBehind, WorldView, Refines, after_post, shows_next, did, did_run, Did}
use Rattle.act_walks.proofs.Common.{option_map_or, length-map, slice_get-map, map, Told, IsNextRun, Left, Open, Reply, Death, ToldActor, ToldEnd, IsEager, Fits}
use Rattle.act_walks.proofs.Common.{FitsLeft, bound_of, left_of, actor_in, rans_in, call_of_run, runs_in, is_dead_in, call_of_item, Parts, done_in, Stands}
use Rattle.act_walks.proofs.Common.{IsEndOf, IsWalking, GoesOn, Moves, NoRuns, NoKill, Does, DoesPost, IsRefused, Tries, RunsNext}
use Rattle.act_plan_plays.proofs.Chosen.{next_slot}
use Rattle.act_rules.specs.declared.event.Event.TheVariants as event
use Rattle.act_rules.specs.declared.outcome.Did.TheVariants as did_so
use Rattle.act_walks.proofs.Eager.{sent, killed}
use Rattle.act_walks.proofs.EagerRuns.{ran_kept, ran_lost}
use Rattle.act_walks.proofs.Kills.{kills_event, kills_post}
use Rattle.act_walks.proofs.Comes.{HasCome, comes}
use Rattle.act_walks.proofs.Onward.{stands_event, stands_post, walking_to, moves_none, moves_yes}
use Rattle.act_walks.proofs.Calls.{moves_refused}

-- ---- what the world shows

shown : (casts : List ActorSpec) (h : History) (world : WorldView) (events : List Event) (a c : ℕ) → IsBehind casts h world events →
    names c (cast_of a h) ≡ true → is_ended a h ≡ false → is_some (next_item a c h) ≡ true → shows_next world a c ≡ true
shown casts h world events a c behind named live next =
    let refines : Refines h world = subst (λ g. Refines g world) (sym behind.is) behind.reached in
    next_slot h a c (slice_get world.slots a) (refines.actors a) named live next

-- what is told of a run
ran_what : (h : History) (a c place j : ℕ) → did_so.Ran place j ≡ did h (event.Run a c) → (is_some (next_item a c h) ≡ true) × (j ≡ length h.posts)
ran_what h a c place j e = go (next_item a c h) refl e
  where
    go : (o : Option RunItem) → next_item a c h ≡ o → did_so.Ran place j ≡ did_run a h o → (is_some (next_item a c h) ≡ true) × (j ≡ length h.posts)
    go None is e = cc
    go (Some item) is e = (ap (λ o. is_some o) is, cc)

-- ---- a run

reply_told : {left : Left} (answer : Option Answer) → FitsLeft left answer → left ≡ Reply → is_reply answer ≡ true
reply_told answer fits is = subst (λ l. FitsLeft l answer) is fits

no_reply : (left : Left) (answer : Option Answer) → FitsLeft left answer → (left ≡ Reply → ⊥) → is_reply answer ≡ false
no_reply Open answer fits none = ap is_reply fits
no_reply Reply answer fits none = absurd (none refl)
no_reply Death answer fits none = fits.1

-- the item's caller and future
names_of : (item : RunItem) (c k : ℕ) → call_of_item item ≡ (c, k) → (item.caller ≡ c) × (item.future ≡ k)
names_of item c k e = (ap (λ (p : ℕ × ℕ). p.0) e, ap (λ (p : ℕ × ℕ). p.1) e)

pub runs_lost : (end : ToldEnd) (a c k : ℕ) {place : ℕ} (j : ℕ) (old new : Parts) → Does (event.Run a c) old new (did_so.Ran place j) →
    (left_of end c k ≡ Reply → ⊥) → RunsNext end a c k old new
runs_lost end a c k {place} j old new does none = (
  (λ casts s. stands_event (λ d steps is. refl) does.does s),
  λ casts told e s w item next is.
      let h = history casts old.events in let so = does.does.behind casts h s.behind in let what = ran_what h a c place j (does.says casts h s.behind) in
      let by = names_of item c k is in
      let lost : is_reply (kept_at (told.kept item.caller) item.future) ≡ false =
      ap (λ d. is_reply (kept_at (told.kept d) item.future)) by.0 ∙ ap (λ f. is_reply (kept_at (told.kept c) f)) by.1
      ∙ no_reply (left_of end c k) (kept_at (told.kept c) k) (e.fits.left c k) none in
      let eager : IsEager casts (bound_of end) told (done_in old.done) (add_event h (event.Run a item.caller)) =
      ran_lost casts told e.some h w.eager a item next
      (subst (λ d. refusal_of h (event.Run a d) ≡ None) (sym by.0) so.0)
      (subst (λ d. is_some (next_item a d h) ≡ true) (sym by.0) what.0) lost in
      walking_to end new (ap done_in (sym does.does.done)) so.1.is
      (subst (λ d. IsEager casts (bound_of end) told (done_in old.done) (add_event h (event.Run a d))) by.0 eager)
      (kills_event (bound_of end) told h (event.Run a c) w.asked),
)

pub runs_kept : (end : ToldEnd) (a c k : ℕ) {place : ℕ} (j : ℕ) (old mid new : Parts) {kept : Did} → Does (event.Run a c) old mid (did_so.Ran place j) →
    left_of end c k ≡ Reply → Does (event.Collect j) mid new kept → RunsNext end a c k old new
runs_kept end a c k {place} j old mid new does left collects = (
  (λ casts s. stands_event (λ d steps is. refl) collects.does (stands_event (λ d steps is. refl) does.does s)),
  λ casts told e s w item next is.
      let h = history casts old.events in let so = does.does.behind casts h s.behind in let g = add_event h (event.Run a c) in
      let then = collects.does.behind casts g so.1 in let what = ran_what h a c place j (does.says casts h s.behind) in let by = names_of item c k is in
      let reply : is_reply (kept_at (told.kept item.caller) item.future) ≡ true =
      ap (λ d. is_reply (kept_at (told.kept d) item.future)) by.0 ∙ ap (λ f. is_reply (kept_at (told.kept c) f)) by.1
      ∙ reply_told (kept_at (told.kept c) k) (e.fits.left c k) left in
      let ran = ran_kept casts told e.some h w.eager a item next
      (subst (λ d. refusal_of h (event.Run a d) ≡ None) (sym by.0) so.0)
      (subst (λ d. is_some (next_item a d h) ≡ true) (sym by.0) what.0) reply in
      let eager : IsEager casts (bound_of end) told (done_in old.done) (add_event g (event.Collect (length h.posts))) =
      subst (λ d. IsEager casts (bound_of end) told (done_in old.done) (add_event (add_event h (event.Run a d)) (event.Collect (length h.posts)))) by.0
      ran.1 in
      walking_to end new (ap done_in (sym (collects.does.done ∙ does.does.done))) then.1.is
      (subst (λ i. IsEager casts (bound_of end) told (done_in old.done) (add_event g (event.Collect i))) (sym what.1) eager)
      (kills_event (bound_of end) told g (event.Collect j) (kills_event (bound_of end) told h (event.Run a c) w.asked)),
)

-- ---- what is told next

-- this is what the data says of the actor's next run
abbrev pub IsSaid : ToldEnd → ℕ → Parts → Option (ℕ × ℕ) → Type 0
IsSaid end a walk said = (casts : List ActorSpec) (h : History) (before : List Event) → IsBehind casts h walk.world before →
    said ≡ slice_get (runs_in end a) (length (runs_of a h))

said_of : (end : ToldEnd) (told : Told) (a n : ℕ) (item : RunItem) → Fits end told → slice_get (told.runs a) n ≡ Some item
    → slice_get (runs_in end a) n ≡ Some (call_of_item item)
said_of end told a n item fits at = ap (λ l. slice_get l n) (fits.runs a) ∙ slice_get-map call_of_item (told.runs a) n ∙ ap (option_map call_of_item) at

-- an item that is told next is the one that is said
next_said : {end : ToldEnd} {told : Told} {casts : List ActorSpec} (a : ℕ) {walk : Parts} (said : Option (ℕ × ℕ)) → IsEndOf end casts told →
    Stands end casts walk → IsSaid end a walk said → (item : RunItem) → IsNextRun told a (history casts walk.events) item → said ≡ Some (call_of_item item)
next_said {end} {told} {casts} a {walk} said e s is item next =
    is casts (history casts walk.events) walk.events s.behind ∙ said_of end told a (length (runs_of a (history casts walk.events))) item e.fits next

-- and what is said is such an item
item_said : {end : ToldEnd} {told : Told} {casts : List ActorSpec} (a c k : ℕ) (walk : Parts) → IsEndOf end casts told → Stands end casts walk →
    IsSaid end a walk (Some (c, k)) → (item : RunItem) × IsNextRun told a (history casts walk.events) item × (call_of_item item ≡ (c, k))
item_said {told} {casts} a c k walk e s is =
    let n = length (runs_of a (history casts walk.events)) in
    map-slice_get call_of_item (told.runs a) n (ap (λ l. slice_get l n) (sym (e.fits.runs a)) ∙ sym (is casts (history casts walk.events) walk.events s.behind))

pub runs_none : (end : ToldEnd) (a : ℕ) (walk : Parts) → IsSaid end a walk None → Moves end (NoRuns a) walk walk false
runs_none end a walk none = moves_none end (NoRuns a) walk (λ casts told e s w. (
  (λ item next may. let bad : None ≡ Some (call_of_item item) = next_said a None e s none item next in cc),
  λ item next is may. let bad : None ≡ Some (call_of_item item) = next_said a None e s none item next in cc,
))

pub runs_next : {end : ToldEnd} (a : ℕ) {c k : ℕ} (old : Parts) {new : Parts} → IsSaid end a old (Some (c, k)) → RunsNext end a c k old new →
    Moves end (NoRuns a) old new true
runs_next {end} a {c} {k} old {new} said runs = moves_yes end (NoRuns a) old new (record {
  stands = runs.0;
  walks = λ casts told e s w.
      let found = item_said a c k old e s said in runs.1 casts told e s w found.0 found.1 found.2;
})

-- ---- a letter

one_sent : (end : ToldEnd) (a c k : ℕ) (old new : Parts) → IsSaid end a old (Some (c, k)) → DoesPost (event.Send c k) old new → GoesOn end old new
one_sent end a c k old new said does = record {
  stands = λ casts s. stands_post end casts old new (λ d steps is. refl) does s;
  walks = λ casts told e s w.
      let h = history casts old.events in let so = does.behind casts h s.behind in let found = item_said a c k old e s said in
      let by = names_of found.0 c k found.2 in
      let eager = sent casts (bound_of end) told e.some (done_in old.done) h w.eager a found.0 found.1
      (subst (λ d. refusal_of h (event.Send d found.0.future) ≡ None) (sym by.0) (subst (λ f. refusal_of h (event.Send c f) ≡ None) (sym by.1) so.0)) in
      walking_to end new (ap done_in (sym does.done)) so.1.is
      (subst (λ f. IsEager casts (bound_of end) told (done_in old.done) (after_post (event.Send c f) h)) by.1
      (subst (λ d. IsEager casts (bound_of end) told (done_in old.done) (after_post (event.Send d found.0.future) h)) by.0 eager))
      (kills_post (bound_of end) told h (event.Send c k) w.asked);
}

-- where some events end as is told, the letter has come
has_come : (end : ToldEnd) (a c k : ℕ) (old new : Parts) → IsSaid end a old (Some (c, k)) → DoesPost (event.Send c k) old new →
    (casts : List ActorSpec) (told : Told) → IsEndOf end casts told → Stands end casts old → IsWalking end casts told old → shows_next new.world a c ≡ true
has_come end a c k old new said does casts told e s w =
    let h = history casts old.events in let so = does.behind casts h s.behind in let found = item_said a c k old e s said in
    let by = names_of found.0 c k found.2 in
    let has : HasCome a found.0.caller (after_post (event.Send found.0.caller found.0.future) h) =
    comes casts (bound_of end) told e.some (done_in old.done) h w.eager a found.0 found.1
    (subst (λ d. refusal_of h (event.Send d found.0.future) ≡ None) (sym by.0) (subst (λ f. refusal_of h (event.Send c f) ≡ None) (sym by.1) so.0))
    in
    let there : HasCome a c (after_post (event.Send c k) h) =
    subst (λ f. HasCome a c (after_post (event.Send c f) h)) by.1 (subst (λ d. HasCome a d (after_post (event.Send d found.0.future) h)) by.0 has)
    in
    shown casts (after_post (event.Send c k) h) new.world new.events a c so.1 there.named there.live there.next

pub sends_next : (end : ToldEnd) (a : ℕ) {c k : ℕ} (old new : Parts) (b : Bool) → IsSaid end a old (Some (c, k)) → DoesPost (event.Send c k) old new →
    b ≡ shows_next new.world a c → Moves end (NoRuns a) old new b
sends_next end a {c} {k} old new true said does is = moves_yes end (NoRuns a) old new (one_sent end a c k old new said does)
sends_next end a {c} {k} old new false said does is = record {
  goes = one_sent end a c k old new said does;
  still = λ none casts told e s w.
      let bad : true ≡ false = sym (has_come end a c k old new said does casts told e s w) ∙ sym is in cc;
}

pub send_waits : (end : ToldEnd) (a : ℕ) {c k : ℕ} (old new : Parts) → IsSaid end a old (Some (c, k)) → false ≡ shows_next old.world a c →
    IsRefused (event.Send c k) old new → Moves end (NoRuns a) old new false
send_waits end a {c} {k} old new said hidden not = moves_refused end (NoRuns a) not.same (λ casts told e s w.
    let h = history casts old.events in (
      (λ item next may. let both : Some (c, k) ≡ Some (call_of_item item) = next_said a (Some (c, k)) e s said item next in
          let by : call_of_item item ≡ (c, k) = cc in let one = names_of item c k by in not.refused casts h s.behind
          (subst (λ f. refusal_of h (event.Send c f) ≡ None) one.1 (subst (λ d. refusal_of h (event.Send d item.future) ≡ None) one.0 may))),
      λ item next is may.
          let both : Some (c, k) ≡ Some (call_of_item item) = next_said a (Some (c, k)) e s said item next in
          let by : call_of_item item ≡ (c, k) = cc in let one = names_of item c k by in let needed = run_needs h a item.caller may in
          let there = shown casts h old.world old.events a item.caller s.behind needed.1 needed.2 (ap (λ o. is_some o) is) in
          let bad : true ≡ false = sym there ∙ ap (shows_next old.world a) one.0 ∙ sym hidden in cc,
    ))

-- ---- a kill

abbrev IsRunCount : ℕ → ℕ → Parts → Type 0
IsRunCount n a walk = (casts : List ActorSpec) (h : History) (before : List Event) → IsBehind casts h walk.world before → n ≡ length (runs_of a h)

-- an actor that isn't told dead
pub not_dead : (end : ToldEnd) (a : ℕ) (walk : Parts) → is_dead_in end a ≡ false → Moves end (NoKill a) walk walk false
not_dead end a walk alive = moves_none end (NoKill a) walk (λ casts told e s w dead long may. let bad : true ≡ false = sym dead ∙ sym (e.fits.dead a)
    ∙ alive in cc)

runs_long : {end : ToldEnd} (told : Told) (a : ℕ) → Fits end told → length (runs_in end a) ≡ length (told.runs a)
runs_long told a fits = ap (λ l. length l) (fits.runs a) ∙ length-map (told.runs a) call_of_item

pub runs_yet : (end : ToldEnd) (a n : ℕ) (walk : Parts) → IsRunCount n a walk → (n ≡ length (runs_in end a) → ⊥) → Moves end (NoKill a) walk walk false
runs_yet end a n walk count more = moves_none end (NoKill a) walk (λ casts told e s w dead long may.
    more (count casts (history casts walk.events) walk.events s.behind ∙ long ∙ sym (runs_long told a e.fits)))

pub kill_moves : (end : ToldEnd) (a : ℕ) {n : ℕ} (old new : Parts) (moved : Bool) → is_dead_in end a ≡ true → IsRunCount n a old → n ≡ length (runs_in end a) →
    Tries (event.TakeKill a) old new moved → Moves end (NoKill a) old new moved
kill_moves end a old new true dead count long does = moves_yes end (NoKill a) old new (record {
  stands = λ casts s. stands_event (λ d steps is. refl) does s;
  walks = λ casts told e s w.
      let h = history casts old.events in let so = does.behind casts h s.behind in
      walking_to end new (ap done_in (sym does.done)) so.1.is
      (killed casts (bound_of end) told e.some (done_in old.done) h w.eager a (sym (e.fits.dead a) ∙ dead)
      (sym (count casts h old.events s.behind) ∙ long ∙ runs_long told a e.fits) so.0) (kills_event (bound_of end) told h (event.TakeKill a) w.asked);
})
kill_moves end a old new false dead count long not =
    moves_refused end (NoKill a) not.same (λ casts told e s w dead last may. not.refused casts (history casts old.events) s.behind may)

pub actor_dead : (end : ToldEnd) (a : ℕ) {o : Option ToldActor} → actor_in end a ≡ o
    → is_dead_in end a ≡ option_map_or (λ (actor : ToldActor). actor.is_dead) o false
actor_dead end a {o} there = ap (λ o. option_map_or (λ (actor : ToldActor). actor.is_dead) o false) there

pub actor_rans : (end : ToldEnd) (a : ℕ) {actor : ToldActor} → actor_in end a ≡ Some actor → rans_in end a ≡ actor.runs.items
actor_rans end a there = ap (λ o. option_map_or (λ (one : ToldActor). one.runs.items) o []) there

-- their callers and futures
pub actor_runs : (end : ToldEnd) (a : ℕ) {actor : ToldActor} → actor_in end a ≡ Some actor → runs_in end a ≡ map call_of_run actor.runs.items
actor_runs end a {actor} there = ap (map call_of_run) (actor_rans end a there)
