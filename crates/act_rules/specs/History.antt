-- What the accepted events of a world leave behind: plain lists that only grow, and what they mean.
use Rattle.std.specs.Prelude.{ℕ, ◌+◌, ◌-◌, ◌==◌, Bool, false, ◌||◌, ◌&&◌, if◌then◌else◌, List, [], length, map, filter, filter_map, find, slice_get, Option}
use Rattle.std.specs.Prelude.{Some, None, option_map, option_and_then, Err}
use Rattle.std.specs.List.{list_all, list_any, enumerate_from}
use Rattle.act_types.specs.declared.call.Fault.TheVariants.{ActorDied}
use Rattle.act_rules.specs.declared.history.RunItem.{RunItem}
use Rattle.act_rules.specs.declared.history.Letter.{Letter}
use Rattle.act_rules.specs.declared.history.Letter.TheVariants.{Call as CallLetter, Note as NoteLetter}
use Rattle.act_rules.specs.declared.history.Post.{Post}
use Rattle.act_rules.specs.declared.history.Post.TheVariants.{Reply as ReplyPost, Death as DeathPost}
use Rattle.act_types.specs.KindState.{KindState}
use Rattle.act_rules.specs.RunList.{Answer, answer_at, items_of, has_terminated}
use Rattle.act_rules.specs.declared.history.Submission.{Submission}
use Rattle.act_rules.specs.Submissions.{calls_to, settle}

-- an actor, the callers that may call it, the state in which its box is opened, and how many calls of each caller may
-- be pending there
pub record ActorSpec : Type 0 where
  pub actor : ℕ
  pub callers : List ℕ
  pub opening : KindState
  pub pending : Option ℕ

-- what the accepted events leave, each list in their order
pub record History : Type 0 where
  -- the actors, with which the world was opened
  pub casts : List ActorSpec
  -- every call, with its caller
  pub submitted : List (ℕ × Submission)
  -- the caller and the actor of each copy made and of each copy released
  pub copied : List (ℕ × ℕ)
  pub released : List (ℕ × ℕ)
  -- every letter sent, and every letter delivered
  pub mail : List Letter
  pub arrived : List Letter
  -- every call that ran, with its actor
  pub ran : List (ℕ × RunItem)
  -- everything told, and what callers collected
  pub posts : List Post
  pub collected : List Post
  -- the actors whose kill was asked, that took one, and that retired
  pub asked : List ℕ
  pub killed : List ℕ
  pub retired : List ℕ

-- a world as it is opened
abbrev pub opening : List ActorSpec → History
opening casts = record {
  casts = casts;
  submitted = [];
  copied = [];
  released = [];
  mail = [];
  arrived = [];
  ran = [];
  posts = [];
  collected = [];
  asked = [];
  killed = [];
  retired = [];
}

abbrev pub contains : ℕ → List ℕ → Bool
contains n ns = list_any (λ m. m == n) ns

-- the cast of an actor
abbrev pub cast_of : ℕ → History → Option ActorSpec
cast_of a h = find (λ cast. cast.actor == a) h.casts

-- the callers that a cast names
abbrev pub callers_in : Option ActorSpec → List ℕ
callers_in None = []
callers_in (Some cast) = cast.callers

-- whether the actor's cast names the caller
abbrev pub names : ℕ → Option ActorSpec → Bool
names c cast = contains c (callers_in cast)

-- the actors whose casts name the caller
abbrev pub actors_naming : ℕ → List ActorSpec → List ℕ
actors_naming c casts = map (λ cast. cast.actor) (filter (λ cast. contains c cast.callers) casts)

-- whether some cast names the caller
abbrev pub is_caller : ℕ → History → Bool
is_caller c h = list_any (λ cast. contains c cast.callers) h.casts

-- what stands under a number, in order
abbrev pub under : {A : Type 0} → ℕ → List (ℕ × A) → List A
under n pairs = map (λ pair. pair.1) (filter (λ pair. pair.0 == n) pairs)

-- a caller's submissions; place k is its future k
abbrev pub calls_of : ℕ → History → List Submission
calls_of c h = under c h.submitted

-- how often a caller and an actor stand in a list
abbrev pub count_pairs : ℕ → ℕ → List (ℕ × ℕ) → ℕ
count_pairs c a pairs = length (filter (λ pair. (pair.0 == c) && (pair.1 == a)) pairs)

-- the copies of the handle that the caller holds, where the actor's cast names it: the first, those made, without those
-- released
abbrev pub copies_of : ℕ → ℕ → History → Option ℕ
copies_of c a h = if names c (cast_of a h) then Some ((1 + count_pairs c a h.copied) - count_pairs c a h.released)
    else None

-- how many of the caller's calls to the actor may have no answer, where the actor's cast names it and sets a limit
abbrev pub limit_of : ℕ → ℕ → History → Option ℕ
limit_of c a h = if names c (cast_of a h) then option_and_then (λ cast. cast.pending) (cast_of a h) else None

-- the run list of an actor
abbrev pub runs_of : ℕ → History → List RunItem
runs_of a h = under a h.ran

-- how many calls of a caller the actor ran
abbrev pub ran_count : ℕ → ℕ → History → ℕ
ran_count c a h = length (items_of c (runs_of a h))

-- the state in which an actor's box was opened
abbrev pub opening_of : ℕ → History → Option KindState
opening_of a h = option_map (λ cast. cast.opening) (cast_of a h)

-- the answer of the actor's call at a place
abbrev pub answer_of : ℕ → ℕ → History → Option Answer
answer_of a place h = option_and_then (λ state. answer_at state (runs_of a h) place) (opening_of a h)

-- whether the item is the caller's call k
abbrev pub is_item_of : ℕ → ℕ → Option RunItem → Bool
is_item_of c k None = false
is_item_of c k (Some item) = (item.caller == c) && (item.future == k)

-- what a post answers to the caller's call k, which went to the actor b: a reply the answer at its place, a death the
-- fault
abbrev pub answer_in : History → ℕ → ℕ → ℕ → Post → Option Answer
answer_in h c k b (ReplyPost d a place) = if (d == c) && is_item_of c k (slice_get (runs_of a h) place)
    then answer_of a place h else None
answer_in h c k b (DeathPost d a) = if (d == c) && (a == b) then Some (Err ActorDied) else None

-- the first of the collected posts that answers the call
abbrev pub first_answer : History → ℕ → ℕ × Submission → Option Answer
first_answer h c call = slice_get (filter_map (answer_in h c call.0 call.1.actor) h.collected) 0

-- the answers that are kept for a caller's futures
abbrev pub kept_of : ℕ → History → List (Option Answer)
kept_of c h = map (first_answer h c) (enumerate_from 0 (calls_of c h))

-- an actor is dead once it took a kill, or ran a `terminate`
abbrev pub is_dead : ℕ → History → Bool
is_dead a h = contains a h.killed || has_terminated (runs_of a h)

abbrev pub is_retired : ℕ → History → Bool
is_retired a h = contains a h.retired

abbrev pub is_ended : ℕ → History → Bool
is_ended a h = is_dead a h || is_retired a h

-- whether two letters are one
abbrev pub is_letter : Letter → Letter → Bool
is_letter (CallLetter c a n) (CallLetter d b m) = (c == d) && (a == b) && (n == m)
is_letter (NoteLetter c a n) (NoteLetter d b m) = (c == d) && (a == b) && (n == m)
is_letter letter other = false

abbrev pub has_letter : Letter → List Letter → Bool
has_letter letter letters = list_any (is_letter letter) letters

-- the call that the actor runs next for a caller, where its letter has arrived
abbrev pub run_item : ℕ → ℕ → List (Option Answer) → ℕ × Submission → RunItem
run_item c number kept call = record {
  caller = c;
  number = number;
  future = call.0;
  method = call.1.method;
  args = map (settle kept) call.1.args;
}

abbrev pub next_item : ℕ → ℕ → History → Option RunItem
next_item a c h =
    let number = ran_count c a h in
    if has_letter (CallLetter c a number) h.arrived
    then option_map (run_item c number (kept_of c h)) (slice_get (calls_to a (calls_of c h)) number)
    else None

-- whether the caller's note has arrived and the actor ran as many of its calls as the note says
abbrev pub is_done : ℕ → ℕ → History → Bool
is_done c a h = has_letter (NoteLetter c a (ran_count c a h)) h.arrived

-- whether the actor ran every call of every caller that its cast names
abbrev pub is_drained : ℕ → History → Bool
is_drained a h = list_all (λ c. is_done c a h) (callers_in (cast_of a h))
