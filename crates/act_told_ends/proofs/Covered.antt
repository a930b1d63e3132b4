-- What it means that the walk did all that a play did so far, and what follows of calls, answers and deaths.
use Rattle.act_told_ends.proofs.Common.{◌≡◌, ℕ, ◌≤◌, true, List, length, take, Option, Some, None, refl, ap, sym, ◌∙◌, subst, cond, ◌+◌, ◌-◌, Contains, ◌==◌}
use Rattle.act_told_ends.proofs.Common.{◌||◌, filter, filter_map, find, slice_get, is_some, list_any, RunItem, Step, Submit, Answer, kept_at, has_terminated}
use Rattle.act_told_ends.proofs.Common.{ActorSpec, History, names, contains, cast_of, is_caller, count_pairs, calls_of, runs_of, kept_of, is_dead, IsPrefix}
use Rattle.act_told_ends.proofs.Common.{slice_get_front, limit_of-same, Extends, At, steps_of, next_step, IsPlay, slice_get_within, ReplyPost, DeathPost}
use Rattle.act_told_ends.proofs.Common.{IsWorld, world, either_of, or_right, done_steps, take-prefix, Follows, follows, submission_in, is_copy_of}
use Rattle.act_told_ends.proofs.Common.{is_release_of, IsPrefix-filter_map, death_answers, front_short, IsAlike, Told, IsWalk, DidFirst, submission_of, copies}
use Rattle.act_told_ends.proofs.Common.{releases, filter_map_alike, front_whole}
use Rattle.act_told_ends.proofs.Lists.{front_of_front}
use Rattle.act_told_ends.proofs.Bridge.{IsLate}
use Rattle.act_told_ends.proofs.Later.{IsLater}
use Rattle.act_told_ends.proofs.Posted.{RunsPosted, CameBy, Replied, Died, came_by}
use Rattle.std.proofs.lemmas.List.Elements.{filter_agree}

-- a walk, and a play that ends as is told
pub record IsSetting (casts : List ActorSpec) (bound : ℕ → Option (List Step)) (told : Told) (done : ℕ → ℕ) (plans : ℕ → List Step) (late : At)
    (g : History) : Type 0 where
  pub end : IsLate casts bound told plans late
  pub walk : IsWalk bound told done g
  pub world : IsWorld casts g
  pub posted : RunsPosted g

-- the walk did all that the play did so far
pub record IsCovered (bound : ℕ → Option (List Step)) (told : Told) (done : ℕ → ℕ) (p : At) (g : History) : Type 0 where
  pub steps : (c : ℕ) (steps : List Step) → bound c ≡ Some steps → steps_of c p ≤ done c
  pub calls : (c : ℕ) → bound c ≡ None → length (calls_of c p.history) ≤ length (calls_of c g)
  pub runs : (a : ℕ) → length (runs_of a p.history) ≤ length (runs_of a g)
  pub replies : (i c a place : ℕ) (item : RunItem) → slice_get p.history.collected i ≡ Some (ReplyPost c a place)
      → slice_get (told.runs a) place ≡ Some item → is_some (kept_at (kept_of c g) item.future) ≡ true
  pub deaths : (i c a : ℕ) → slice_get p.history.collected i ≡ Some (DeathPost c a) → Contains g.collected (DeathPost c a)
  pub killed : (a : ℕ) → contains a p.history.killed ≡ true → is_dead a g ≡ true
  pub asked : (a : ℕ) → contains a p.history.asked ≡ true → told.dead a ≡ true → (contains a g.asked || is_dead a g) ≡ true

-- ---- the steps of act_early and those here

pub same_submission : (step : Step) → submission_in step ≡ submission_of step
same_submission (Submit a method args) = refl
same_submission step = refl

pub same_copy : (a : ℕ) (step : Step) → is_copy_of a step ≡ copies a step
same_copy a (Submit b method args) = refl
same_copy a step = refl

pub same_release : (a : ℕ) (step : Step) → is_release_of a step ≡ releases a step
same_release a (Submit b method args) = refl
same_release a step = refl

-- ---- what stands in the play stands in what is told

pub runs_told : (casts : List ActorSpec) (bound : ℕ → Option (List Step)) (told : Told) (plans : ℕ → List Step) (late p : At) (a : ℕ)
    → IsLate casts bound told plans late → IsLater p.history late.history → IsPrefix (runs_of a p.history) (told.runs a)
runs_told casts bound told plans late p a l later = subst (λ items. IsPrefix (runs_of a p.history) items) (l.leaves.runs a) (later.early.runs a)

pub calls_told : (casts : List ActorSpec) (bound : ℕ → Option (List Step)) (told : Told) (plans : ℕ → List Step) (late p : At) (c : ℕ)
    → IsLate casts bound told plans late → IsLater p.history late.history → IsPrefix (calls_of c p.history) (told.calls c)
calls_told casts bound told plans late p c l later = subst (λ calls. IsPrefix (calls_of c p.history) calls) (l.leaves.calls c) (later.calls c)

pub kept_told : (casts : List ActorSpec) (bound : ℕ → Option (List Step)) (told : Told) (plans : ℕ → List Step) (late p : At) (c k : ℕ) (answer : Answer) →
    IsLate casts bound told plans late → IsLater p.history late.history → kept_at (kept_of c p.history) k ≡ Some answer → kept_at (told.kept c) k ≡ Some answer
kept_told casts bound told plans late p c k answer l later e = ap (λ kept. kept_at kept k) (sym (l.leaves.kept c)) ∙ later.early.kept c k answer e

-- ---- of one play, and a walk that did all that it did

pub record IsAt (casts : List ActorSpec) (bound : ℕ → Option (List Step)) (told : Told) (done : ℕ → ℕ) (plans : ℕ → List Step) (late : At) (g : History)
    (p : At) : Type 0 where
  pub setting : IsSetting casts bound told done plans late g
  pub play : IsPlay casts plans p
  pub later : IsLater p.history late.history
  pub covered : IsCovered bound told done p g

pub bound_calls : (casts : List ActorSpec) {bound : ℕ → Option (List Step)} (told : Told) (done : ℕ → ℕ) (plans : ℕ → List Step) (late : At) (g : History)
    (p : At) (c : ℕ) (steps : List Step) → IsSetting casts bound told done plans late g → IsPlay casts plans p → bound c ≡ Some steps
    → steps_of c p ≤ done c → IsPrefix (calls_of c p.history) (calls_of c g)
bound_calls casts told done plans late g p c steps s play is le =
    let f = follows casts plans p play c in let first = s.walk.steps c steps is in
    let own : done_steps plans c p ≡ take (steps_of c p) steps = ap (take (steps_of c p)) (s.end.own c steps is) in
    let mine : calls_of c p.history ≡ filter_map submission_of (take (steps_of c p) steps) =
    f.calls ∙ ap (filter_map submission_in) own ∙ filter_map_alike submission_in submission_of (take (steps_of c p) steps) same_submission in
    subst (λ l. IsPrefix l (calls_of c g)) (sym mine)
    (subst (λ l. IsPrefix (filter_map submission_of (take (steps_of c p) steps)) l) (sym first.calls)
    (IsPrefix-filter_map submission_of (take (steps_of c p) steps) (take (done c) steps) (take-prefix steps (steps_of c p) (done c) le)))

-- a caller's calls in the play are a prefix of those in the walk that did all that the play did
pub calls_covered : {casts : List ActorSpec} {bound : ℕ → Option (List Step)} {told : Told} {done : ℕ → ℕ} {plans : ℕ → List Step} {late : At} (g : History)
    (p : At) (c : ℕ) → IsAt casts bound told done plans late g p → IsPrefix (calls_of c p.history) (calls_of c g)
calls_covered {casts} {bound} {told} {done} {plans} {late} g p c at = go (bound c) refl
  where
    go : (o : Option (List Step)) → bound c ≡ o → IsPrefix (calls_of c p.history) (calls_of c g)
    go None e = front_of_front (calls_of c p.history) (calls_of c g) (told.calls c) (calls_told casts bound told plans late p c at.setting.end at.later)
        (at.setting.walk.calls c) (at.covered.calls c e)
    go (Some steps) e = bound_calls casts told done plans late g p c steps at.setting at.play e (at.covered.steps c steps e)

-- an actor's run list in the play is a prefix of that in the walk that did all that the play did
pub runs_covered : {casts : List ActorSpec} {bound : ℕ → Option (List Step)} {told : Told} {done : ℕ → ℕ} {plans : ℕ → List Step} {late : At} {g : History}
    {p : At} (a : ℕ) → IsAt casts bound told done plans late g p → IsPrefix (runs_of a p.history) (runs_of a g)
runs_covered {casts} {bound} {told} {plans} {late} {g} {p} a at = front_of_front (runs_of a p.history) (runs_of a g) (told.runs a)
    (runs_told casts bound told plans late p a at.setting.end at.later) (at.setting.walk.runs a) (at.covered.runs a)

-- an answer that the walk keeps where it is told is that one
pub told_answer : {bound : ℕ → Option (List Step)} (told : Told) (done : ℕ → ℕ) (g : History) (c k : ℕ) (answer : Answer) → IsWalk bound told done g
    → kept_at (told.kept c) k ≡ Some answer → is_some (kept_at (kept_of c g) k) ≡ true → kept_at (kept_of c g) k ≡ Some answer
told_answer told done g c k answer walk is some = go (kept_at (kept_of c g) k) refl some
  where
    go : (o : Option Answer) → kept_at (kept_of c g) k ≡ o → is_some o ≡ true → kept_at (kept_of c g) k ≡ Some answer
    go None e some = cc
    go (Some other) e some = e ∙ sym (walk.kept c k other e) ∙ is

-- what the play keeps the walk keeps
pub kept_covered : {casts : List ActorSpec} {bound : ℕ → Option (List Step)} {told : Told} {done : ℕ → ℕ} {plans : ℕ → List Step} {late : At} {g : History}
    (p : At) (c : ℕ) → IsAt casts bound told done plans late g p → Extends (kept_of c p.history) (kept_of c g)
kept_covered {casts} {bound} {told} {done} {plans} {late} {g} p c at k answer e =
    told_answer told done g c k answer at.setting.walk (kept_told casts bound told plans late p c k answer at.setting.end at.later e)
    (go (came_by c k (world casts plans p at.play).sound e))
  where
    go : CameBy p.history c k answer → is_some (kept_at (kept_of c g) k) ≡ true
    go (Replied i a place item has there caller future reply) =
        subst (λ j. is_some (kept_at (kept_of c g) j) ≡ true) future
        (at.covered.replies i c a place item has
        (slice_get_front (runs_of a p.history) (told.runs a) place (runs_told casts bound told plans late p a at.setting.end at.later) there))
    go (Died i call has there died) =
        let mine = slice_get_front (calls_of c p.history) (calls_of c g) k (calls_covered g p c at) there in
        let answers = death_answers g c k mine (at.covered.deaths i c call.actor has) in ap (λ o. is_some o) answers.1

-- what is dead there is dead in the walk
pub dead_covered : {casts : List ActorSpec} {bound : ℕ → Option (List Step)} {told : Told} {done : ℕ → ℕ} {plans : ℕ → List Step} {late : At} (g : History)
    (p : At) (a : ℕ) → IsAt casts bound told done plans late g p → is_dead a p.history ≡ true → is_dead a g ≡ true
dead_covered {casts} {bound} {told} {done} {plans} {late} g p a at dead =
    let last : told.runs a ≡ runs_of a p.history = sym (at.setting.end.leaves.runs a) ∙ at.later.early.last a dead in
    let same : runs_of a p.history ≡ runs_of a g =
    front_whole (runs_of a p.history) (runs_of a g) (runs_covered a at)
    (subst (λ items. length (runs_of a g) ≤ length items) last (front_short (runs_of a g) (told.runs a) (at.setting.walk.runs a))) in
    either_of (contains a p.history.killed) (has_terminated (runs_of a p.history)) (is_dead a g ≡ true) dead (at.covered.killed a)
    (λ ended. or_right (contains a g.killed) _ (ap has_terminated (sym same) ∙ ended))

-- ---- the same casts

-- an actor's cast is the same in two worlds of the same casts
pub cast_same : {casts : List ActorSpec} (a : ℕ) {h g : History} → IsWorld casts h → IsWorld casts g → cast_of a g ≡ cast_of a h
cast_same a w v = ap (λ l. find (λ (cast : ActorSpec). cast.actor == a) l) (v.casts ∙ sym w.casts)

pub caller_same : {casts : List ActorSpec} (c : ℕ) {h g : History} → IsWorld casts h → IsWorld casts g → is_caller c g ≡ is_caller c h
caller_same c w v = ap (λ l. list_any (λ (cast : ActorSpec). contains c cast.callers) l) (v.casts ∙ sym w.casts)

-- a bound caller that is as far, with a step left, has the same calls and handles
pub bound_alike : (casts : List ActorSpec) {bound : ℕ → Option (List Step)} {told : Told} (done : ℕ → ℕ) (plans : ℕ → List Step) {late : At} (g : History)
    (p : At) (c : ℕ) (steps : List Step) (step : Step) → IsSetting casts bound told done plans late g → IsPlay casts plans p → bound c ≡ Some steps
    → next_step plans c p ≡ Some step → steps_of c p ≡ done c → IsAlike c p.history g
bound_alike casts done plans g p c steps step s play is next level =
    let w : IsWorld casts p.history = world casts plans p play in let f : Follows plans c p = follows casts plans p play c in
    let first : DidFirst c (done c) steps g = s.walk.steps c steps is in
    let own : done_steps plans c p ≡ take (done c) steps = ap (take (steps_of c p)) (s.end.own c steps is) ∙ ap (λ n. take n steps) level in
    let copies_from : List ActorSpec → ℕ → ℕ → ℕ → Option ℕ =
    λ l a made gone. cond (names c (find (λ (cast : ActorSpec). cast.actor == a) l)) (Some ((1 + made) - gone)) None in
    let copied : (a : ℕ) → count_pairs c a g.copied ≡ count_pairs c a p.history.copied =
    λ a. first.copied a ∙ sym (f.copied a ∙ ap (λ l. length (filter (is_copy_of a) l)) own
    ∙ ap (λ l. length l) (filter_agree (is_copy_of a) (copies a) (same_copy a) (take (done c) steps))) in
    let there : slice_get steps (done c) ≡ Some step =
    subst (λ n. slice_get steps n ≡ Some step) level (subst (λ l. slice_get l (steps_of c p) ≡ Some step) (s.end.own c steps is) next) in
    let released : (a : ℕ) → count_pairs c a g.released ≡ count_pairs c a p.history.released =
    λ a. first.released a (slice_get_within steps (done c) step there)
    ∙ sym (f.released a step next ∙ ap (λ l. length (filter (is_release_of a) l)) own
    ∙ ap (λ l. length l) (filter_agree (is_release_of a) (releases a) (same_release a) (take (done c) steps))) in
    record {
      caller = caller_same c w s.world;
      calls = first.calls ∙ sym
          (f.calls ∙ ap (filter_map submission_in) own ∙ filter_map_alike submission_in submission_of (take (done c) steps) same_submission);
      copies = λ a. ap (λ l. copies_from l a (count_pairs c a g.copied) (count_pairs c a g.released)) (s.world.casts ∙ sym w.casts) ∙
          ap (λ n. copies_from p.history.casts a n (count_pairs c a g.released)) (copied a) ∙
          ap (λ n. copies_from p.history.casts a (count_pairs c a p.history.copied) n) (released a);
      limit = λ a. limit_of-same p.history g c a (s.world.casts ∙ sym w.casts);
    }
