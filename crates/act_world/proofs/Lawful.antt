-- What every history keeps, beside the laws of the rules: what a world may rely on.
use Rattle.act_world.proofs.Common.{◌≡◌, ℕ, suc, ◌+◌, ◌<◌, Bool, true, false, cond, List, [], ◌∷◌, ◌++◌, length, Some, None, inl, inr, refl, ap, sym, ◌∙◌}
use Rattle.act_world.proofs.Common.{subst, arith, length-append, Option, ◌==◌, ◌||◌, slice_get, option_map, is_some, nat_lt, AllByRecursion, or-false, eqb-true}
use Rattle.act_world.proofs.Common.{leb_tells, append-nil, list_any-append, filter-append, RunItem, Submission, Letter, Post, Event, Release, Send, Deliver}
use Rattle.act_world.proofs.Common.{Run, Tell, NoActor, NoHandle, items_of, calls_to, needs, copies_held, handle_refusal, ActorSpec, History, opening, under}
use Rattle.act_world.proofs.Common.{cast_of, names, is_caller, calls_of, copies_of, runs_of, ran_count, has_letter, is_letter, is_dead, next_item, refusal_of}
use Rattle.act_world.proofs.Common.{add_event, and_also, after_run, call_letter, is_last, after_all, All_more, All_weaker, option_map-none, IsKept}
use Rattle.act_world.proofs.Common.{after_all_keeps, needs-none, under-push, run_needs, IsNext, next_item_is, Retires, retires_step, AllNamed, world_retires}
use Rattle.act_world.proofs.Common.{copies_named, IsSound, sound_step, world_sound, has_letter-at, named_call, CallLetter, NoteLetter, ReplyPost, DeathPost}
use Rattle.act_world.proofs.Common.{NoCaller, Handle, NotDead}
use Rattle.act_rules.proofs.Callers.{AreFew, few_step, named_among}

-- ---- what arrived was sent, and what ran had arrived

pub has_letter-more : (letter : Letter) (xs ys : List Letter) → has_letter letter xs ≡ true → has_letter letter (xs ++ ys) ≡ true
has_letter-more letter xs ys e = rw (list_any-append (is_letter letter) xs ys, e) refl

-- a letter is in a list with one more at its end where it was before or is that one
pub has_letter-last : (letter other : Letter) (xs : List Letter) → has_letter letter (xs ++ other ∷ []) ≡ (has_letter letter xs || is_letter letter other)
has_letter-last letter other xs = list_any-append (is_letter letter) xs (other ∷ []) ∙ ap (λ b. has_letter letter xs || b) (or-false (is_letter letter other))

-- each letter that arrived stands in the mail
abbrev pub WereSent : History → Type 0
WereSent h = AllByRecursion (λ letter. has_letter letter h.mail ≡ true) h.arrived

sent_more : (h : History) (o : Option Letter) → WereSent h → AllByRecursion (λ letter. has_letter letter (and_also h.mail o) ≡ true) h.arrived
sent_more h None sent = sent
sent_more h (Some letter) sent = All_weaker (λ x. has_letter x h.mail ≡ true) (λ x. has_letter x (h.mail ++ letter ∷ []) ≡ true) h.arrived
    (λ x e. has_letter-more x h.mail (letter ∷ []) e) sent

pub sent_step : IsKept WereSent
sent_step h (Release c a) sent accepted = sent_more h (if_last (is_last c a h)) sent
  where
    if_last : Bool → Option Letter
    if_last last = cond last (Some (NoteLetter c a (length (calls_to a (calls_of c h))))) None
sent_step h (Send c k) sent accepted = sent_more h (option_map (λ call. call_letter c k call h) (slice_get (calls_of c h) k)) sent
sent_step h (Deliver i) sent accepted = go (slice_get h.mail i) refl
  where
    go : (o : Option Letter) → slice_get h.mail i ≡ o → AllByRecursion (λ letter. has_letter letter h.mail ≡ true) (and_also h.arrived o)
    go None e = sent
    go (Some letter) e = All_more (λ x. has_letter x h.mail ≡ true) h.arrived letter sent (has_letter-at h.mail i e)
sent_step h (Run a c) sent accepted = go (next_item a c h)
  where
    go : (o : Option RunItem) → WereSent (after_run a c h o)
    go None = sent
    go (Some item) = sent
sent_step h other sent accepted = sent

-- the caller's calls that an actor ran had arrived
abbrev pub HadArrived : History → Type 0
HadArrived h = (a c n : ℕ) → n < ran_count c a h → has_letter (CallLetter c a n) h.arrived ≡ true

arrived_run : (h : History) (b d : ℕ) (item : RunItem) → IsNext b d h item → HadArrived h → (a c n : ℕ) →
    n < length (items_of c (under a (h.ran ++ (b, item) ∷ []))) → has_letter (CallLetter c a n) h.arrived ≡ true
arrived_run h b d item next came a c n below = go (b == a) refl (subst (λ items. n < length (items_of c items)) (under-push a b h.ran item) below)
  where
    caller : item.caller ≡ d
    caller = ap (λ (i : RunItem). i.caller) (sym next.is)

    inner : (same : Bool) → (item.caller == c) ≡ same → b ≡ a → n < length (items_of c (runs_of a h)) + length {A = RunItem} (cond same (item ∷ []) []) →
        has_letter (CallLetter c a n) h.arrived ≡ true
    inner true e same below = elim (leb_tells (suc n) (ran_count c a h)) [
      | inl less ↦ came a c n (let here = less.1 in omega arith)
      | inr more ↦ let least = more.1 in let last : n ≡ ran_count c a h = omega arith in let who : d ≡ c = sym caller ∙ eqb-true item.caller c e in
          rw last (subst (λ x. has_letter (CallLetter x a (ran_count x a h)) h.arrived ≡ true) who
          (subst (λ y. has_letter (CallLetter d y (ran_count d y h)) h.arrived ≡ true) same next.arrived))
    ]
    inner false e same below = came a c n (omega arith)

    go : (same : Bool) → (b == a) ≡ same → n < length (items_of c (runs_of a h ++ cond same (item ∷ []) [])) → has_letter (CallLetter c a n) h.arrived ≡ true
    go true e below = inner (item.caller == c) refl (eqb-true b a e) (subst (λ k. n < k) (ap (λ items. length items)
        (filter-append (λ (i : RunItem). i.caller == c) (runs_of a h) (item ∷ [])) ∙ length-append (items_of c (runs_of a h)) _) below)
    go false e below = came a c n (subst (λ items. n < length (items_of c items)) (append-nil (runs_of a h)) below)

pub came_step : IsKept HadArrived
came_step h (Deliver i) came accepted = go (slice_get h.mail i)
  where
    go : (o : Option Letter) → (a c n : ℕ) → n < ran_count c a h → has_letter (CallLetter c a n) (and_also h.arrived o) ≡ true
    go None a c n below = came a c n below
    go (Some letter) a c n below = has_letter-more (CallLetter c a n) h.arrived (letter ∷ []) (came a c n below)
came_step h (Run b d) came accepted = go (next_item b d h) refl
  where
    go : (o : Option RunItem) → next_item b d h ≡ o → HadArrived (after_run b d h o)
    go None e = came
    go (Some item) e = arrived_run h b d item (next_item_is b d h e) came
came_step h other came accepted = came

-- ---- letters and notices are of callers that their actor's cast names

-- the cast of a letter's actor names the letter's caller
abbrev pub IsNamedLetter : History → Letter → Type 0
IsNamedLetter h (CallLetter c a n) = names c (cast_of a h) ≡ true
IsNamedLetter h (NoteLetter c a n) = names c (cast_of a h) ≡ true

-- the cast of a post's actor names the post's caller
abbrev pub IsNamedPost : History → Post → Type 0
IsNamedPost h (ReplyPost c a place) = names c (cast_of a h) ≡ true
IsNamedPost h (DeathPost c a) = names c (cast_of a h) ≡ true

pub record AreNamed (h : History) : Type 0 where
  pub mail : AllByRecursion (IsNamedLetter h) h.mail
  pub posts : AllByRecursion (IsNamedPost h) h.posts

release_needs : (h : History) (c a : ℕ) → refusal_of h (Release c a) ≡ None → is_some (copies_of c a h) ≡ true
release_needs h c a e =
    let copies = copies_of c a h in
    let none = option_map-none Handle (handle_refusal copies) (needs-none (is_caller c h) NoCaller (option_map Handle (handle_refusal copies)) e).1 in
    (needs-none (is_some copies) NoActor (needs (nat_lt 0 (copies_held copies)) NoHandle None) none).0

tell_names : (h : History) (a c : ℕ) → refusal_of h (Tell a c) ≡ None → names c (cast_of a h) ≡ true
tell_names h a c e =
    let first = needs-none (is_caller c h) NoCaller (needs (names c (cast_of a h)) (Handle NoActor) (needs (is_dead a h) NotDead None)) e in
    (needs-none (names c (cast_of a h)) (Handle NoActor) (needs (is_dead a h) NotDead None) first.1).0

pub named_step : (h : History) (event : Event) → AllNamed h → AreNamed h → refusal_of h event ≡ None → AreNamed (add_event h event)
named_step h (Release c a) all named accepted = record { mail = go (is_last c a h); posts = named.posts }
  where
    go : (last : Bool) → AllByRecursion (IsNamedLetter h) (and_also h.mail (cond last (Some (NoteLetter c a (length (calls_to a (calls_of c h))))) None))
    go true =
        All_more (IsNamedLetter h) h.mail (NoteLetter c a (length (calls_to a (calls_of c h)))) named.mail (copies_named c a h (release_needs h c a accepted))
    go false = named.mail
named_step h (Send c k) all named accepted = record { mail = go (slice_get (calls_of c h) k) refl; posts = named.posts }
  where
    go : (o : Option Submission) → slice_get (calls_of c h) k ≡ o →
        AllByRecursion (IsNamedLetter h) (and_also h.mail (option_map (λ call. call_letter c k call h) o))
    go None e = named.mail
    go (Some call) e = All_more (IsNamedLetter h) h.mail (call_letter c k call h) named.mail (named_call h c k all e)
named_step h (Run a c) all named accepted = go (next_item a c h)
  where
    go : (o : Option RunItem) → AreNamed (after_run a c h o)
    go None = named
    go (Some item) =
        record { mail = named.mail; posts = All_more (IsNamedPost h) h.posts (ReplyPost c a (length (runs_of a h))) named.posts (run_needs h a c accepted).1 }
named_step h (Tell a c) all named accepted =
    record { mail = named.mail; posts = All_more (IsNamedPost h) h.posts (DeathPost c a) named.posts (tell_names h a c accepted) }
named_step h event all named accepted = record { mail = named.mail; posts = named.posts }

-- who is named by a cast is a caller
pub named_caller : (c a : ℕ) (h : History) → names c (cast_of a h) ≡ true → is_caller c h ≡ true
named_caller c a h e = named_among c a h.casts e

-- ---- all of them

pub record IsLawful (h : History) : Type 0 where
  pub sound : IsSound h
  pub retires : Retires h
  pub few : AreFew h
  pub sent : WereSent h
  pub came : HadArrived h
  pub named : AreNamed h

pub lawful_step : IsKept IsLawful
lawful_step h event lawful accepted = record {
  sound = sound_step h event lawful.sound accepted;
  retires = retires_step h event lawful.retires accepted;
  few = few_step h event lawful.few accepted;
  sent = sent_step h event lawful.sent accepted;
  came = came_step h event lawful.came accepted;
  named = named_step h event lawful.retires.named lawful.named accepted;
}

-- the history of a world is lawful after any events
pub world_lawful : (casts : List ActorSpec) (events : List Event) → IsLawful (after_all (opening casts) events)
world_lawful casts events = after_all_keeps IsLawful lawful_step (opening casts) events (record {
  sound = world_sound casts [];
  retires = world_retires casts [];
  few = λ c. omega arith;
  sent = tt;
  came = λ a c n below. absurd (omega arith);
  named = record { mail = tt; posts = tt };
})
