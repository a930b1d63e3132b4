-- A caller's reply table, and what each event does to it.
use Rattle.act_rules.proofs.Common.{◌≡◌, ℕ, ◌+◌, ◌<◌, Bool, true, false, cond, List, [], ◌∷◌, ◌++◌, length, Some, None, refl, ap, ◌∙◌, arith, Option, ◌==◌}
use Rattle.act_rules.proofs.Common.{◌&&◌, ◌||◌, map, filter_map, slice_get, Err, list_any, enumerate_from, cons_option, eqb-true, eq-eqb, map-append}
use Rattle.act_rules.proofs.Common.{filter_map-append, slice_get_within, Arg, Method, ActorDied, Answer, Submission, Post, History, under, calls_of, kept_of}
use Rattle.act_rules.proofs.Common.{answer_of, answer_in, first_answer, map_alike, ReplyPost, DeathPost}
use Rattle.act_rules.proofs.Lists.{enumerate_from-append, All_weaker, filter_map-same}
use Rattle.act_rules.proofs.Ended.{under-push}
use Rattle.act_rules.proofs.Growth.{Grows}
use Rattle.act_rules.proofs.Posts.{IsSoundPost, PostsAreSound}
use Rattle.act_rules.proofs.Kept.{answer_in_stays}
use Rattle.act_rules.proofs.Order.{InOrder}
use Rattle.act_rules.proofs.Unique.{held_submission}

-- an answer where none stands
abbrev pub or_else : Option Answer → Option Answer → Option Answer
or_else (Some answer) later = Some answer
or_else None later = later

first : List Answer → Option Answer
first answers = slice_get answers 0

-- the first answer of more posts is the first of the earlier ones, or else of the later
first-append : (xs ys : List Answer) → slice_get (xs ++ ys) 0 ≡ or_else (slice_get xs 0) (slice_get ys 0)
first-append [] ys = refl
first-append (x ∷ xs) ys = refl

first_one : (o : Option Answer) → slice_get (cons_option o []) 0 ≡ o
first_one None = refl
first_one (Some answer) = refl

-- a post collected: each call's answer stays, or is what the post answers
pub first_answer-collected : (h : History) (c : ℕ) (post : Post) (call : ℕ × Submission) →
    first_answer (record h { collected = h.collected ++ post ∷ [] }) c call ≡ or_else (first_answer h c call) (answer_in h c call.0 call.1.actor post)
first_answer-collected h c post call =
    ap (λ l. slice_get l 0) (filter_map-append (answer_in h c call.0 call.1.actor) h.collected (post ∷ []))
    ∙ first-append (filter_map (answer_in h c call.0 call.1.actor) h.collected) (cons_option (answer_in h c call.0 call.1.actor post) [])
    ∙ ap (or_else (first_answer h c call)) (first_one (answer_in h c call.0 call.1.actor post))

-- a collected post fills each empty place of the table that it answers
pub kept_of-collected : (h : History) (c : ℕ) (post : Post) → kept_of c (record h { collected = h.collected ++ post ∷ [] }) ≡ map
    (λ (call : ℕ × Submission). or_else (first_answer h c call) (answer_in h c call.0 call.1.actor post)) (enumerate_from 0 (calls_of c h))
kept_of-collected h c post = map_alike (first_answer (record h { collected = h.collected ++ post ∷ [] }) c) (λ (call : ℕ × Submission). or_else
    (first_answer h c call) (answer_in h c call.0 call.1.actor post)) (enumerate_from 0 (calls_of c h)) (first_answer-collected h c post)

-- ---- a new future

-- whether the caller collected the death of the actor
abbrev pub is_death_of : ℕ → ℕ → Post → Bool
is_death_of c a (ReplyPost d b place) = false
is_death_of c a (DeathPost d b) = (d == c) && (b == a)

abbrev pub knows_dead : ℕ → ℕ → History → Bool
knows_dead c a h = list_any (is_death_of c a) h.collected

abbrev pub death_if : Bool → Option Answer
death_if known = cond known (Some (Err ActorDied)) None

-- no post that stands answers a future that isn't there yet
new_answer : (h : History) (c b : ℕ) → InOrder h → (post : Post) → IsSoundPost h post →
    answer_in h c (length (calls_of c h)) b post ≡ death_if (is_death_of c b post)
new_answer h c b order (DeathPost d a) sound = refl
new_answer h c b order (ReplyPost d a place) sound = rw (sound.1) (go (d == c) (sound.0.caller == c) (sound.0.future == length (calls_of c h)) refl refl)
  where
    go : (x y z : Bool) → (sound.0.caller == c) ≡ y → (sound.0.future == length (calls_of c h)) ≡ z → cond (x && (y && z)) (answer_of a place h) None ≡ None
    go false y z caller future = refl
    go true false z caller future = refl
    go true true false caller future = refl
    go true true true caller future =
        let call = held_submission h a (length (calls_of c h)) place order sound.1 (eqb-true sound.0.caller c caller)
        (eqb-true sound.0.future (length (calls_of c h)) future) in
        let within : length (calls_of c h) < length (calls_of c h) = slice_get_within (calls_of c h) (length (calls_of c h)) call.0 call.1 in
        absurd (omega arith)

deaths_first : (c b : ℕ) (posts : List Post) →
    slice_get (filter_map (λ post. death_if (is_death_of c b post)) posts) 0 ≡ death_if (list_any (is_death_of c b) posts)
deaths_first c b [] = refl
deaths_first c b (post ∷ posts) = go (is_death_of c b post) (deaths_first c b posts)
  where
    go : (x : Bool) → slice_get (filter_map (λ post. death_if (is_death_of c b post)) posts) 0 ≡ death_if (list_any (is_death_of c b) posts) →
        slice_get (cons_option (death_if x) (filter_map (λ post. death_if (is_death_of c b post)) posts)) 0 ≡ death_if (x || list_any (is_death_of c b) posts)
    go true rest = refl
    go false rest = rest

-- the table of a caller that submits: one place more, empty, or with the death of an actor that is known dead
pub kept_of-submitted : (h : History) (c a : ℕ) (method : Method) (args : List Arg) → InOrder h → PostsAreSound h → kept_of c
    (record h { submitted = h.submitted ++ (c, record { actor = a; method = method; args = args }) ∷ [] }) ≡ kept_of c h ++ death_if (knows_dead c a h) ∷ []
kept_of-submitted h c a method args order s =
    ap (λ l. map (first_answer h c) (enumerate_from 0 l)) calls
    ∙ ap (map (first_answer h c)) (enumerate_from-append 0 (calls_of c h) (call ∷ []))
    ∙ map-append (first_answer h c) (enumerate_from 0 (calls_of c h)) (enumerate_from (0 + length (calls_of c h)) (call ∷ []))
    ∙ ap (λ o. kept_of c h ++ o ∷ []) new
  where
    call : Submission
    call = record { actor = a; method = method; args = args }

    calls : under c (h.submitted ++ (c, call) ∷ []) ≡ calls_of c h ++ call ∷ []
    calls = under-push c c h.submitted call ∙ (let mine : (c == c) ≡ true = eq-eqb c c refl in ap (λ b. calls_of c h ++ cond b (call ∷ []) []) mine)

    zero_add : 0 + length (calls_of c h) ≡ length (calls_of c h)
    zero_add = omega arith

    new : first_answer h c (0 + length (calls_of c h), call) ≡ death_if (knows_dead c a h)
    new =
        ap (λ n. first_answer h c (n, call)) zero_add
        ∙ ap (λ l. slice_get l 0)
        (filter_map-same (answer_in h c (length (calls_of c h)) a) (λ post. death_if (is_death_of c a post)) h.collected (All_weaker (IsSoundPost h)
        (λ post. answer_in h c (length (calls_of c h)) a post ≡ death_if (is_death_of c a post)) h.collected (new_answer h c a order) s.collected))
        ∙ deaths_first c a h.collected

-- ---- a run leaves every table

-- an event that collects nothing leaves each first answer
pub first_answer-same : (h g : History) (c : ℕ) (call : ℕ × Submission) → Grows h g → PostsAreSound h → g.collected ≡ h.collected →
    first_answer g c call ≡ first_answer h c call
first_answer-same h g c call grows s same = rw same (ap (λ l. slice_get l 0)
    (filter_map-same (answer_in g c call.0 call.1.actor) (answer_in h c call.0 call.1.actor) h.collected (All_weaker (IsSoundPost h) (λ post. answer_in g c
    call.0 call.1.actor post ≡ answer_in h c call.0 call.1.actor post) h.collected (answer_in_stays h c call.0 call.1.actor grows) s.collected)))

-- where neither submissions nor collected posts change, no table does
pub kept_of-same : {h g : History} (c : ℕ) → Grows h g → PostsAreSound h → g.submitted ≡ h.submitted → g.collected ≡ h.collected → kept_of c g ≡ kept_of c h
kept_of-same {h} {g} c grows s submitted collected =
    ap (λ l. map (first_answer g c) (enumerate_from 0 (under c l))) submitted
    ∙ map_alike (first_answer g c) (first_answer h c) (enumerate_from 0 (calls_of c h)) (λ call. first_answer-same h g c call grows s collected)
