-- A run, and the choice that it adds.
use Rattle.act_early.proofs.Common.{◌≡◌, ℕ, Bool, true, false, cond, List, [], ◌∷◌, ◌++◌, length, Some, None, refl, ap, sym, ◌∙◌, subst, ◌==◌, map, slice_get}
use Rattle.act_early.proofs.Common.{map-append, RunItem, Submission, Step, kept_at, ActorSpec, History, under, runs_of, calls_of, kept_of, ran_count, next_item}
use Rattle.act_early.proofs.Common.{refusal_of, add_event, after_run, slice_get_front, Grows, added_grows, calls_grow, under-push, run_needs, calls_to-at}
use Rattle.act_early.proofs.Common.{IsNext, next_item_is, IsSound, At, with_event, IsPlay, Happens, is_reply, is_heard, choices_of, ReplyPost}
use Rattle.act_early.proofs.Common.{first_answer-same}
use Rattle.act_rules.specs.declared.event.Event.TheVariants as event
use Rattle.act_early.proofs.Worlds.{world}
use Rattle.act_early.proofs.Unanswered.{next_unanswered}
use Rattle.act_early.proofs.Choices.{map-same_at, kept_first, heard_quiet}

-- ---- one choice more

-- where old items are heard as before, and the new one as told
pub more_choices : (h g : History) (a b c : ℕ) (item : RunItem) (heard : Bool) → runs_of b g ≡ runs_of b h ++ cond (a == b) (item ∷ []) []
    → ((place : ℕ) (other : RunItem) → slice_get (runs_of b h) place ≡ Some other → is_heard g other ≡ is_heard h other)
    → item.caller ≡ c → is_heard g item ≡ heard → choices_of b g ≡ choices_of b h ++ cond (a == b) ((c, heard) ∷ []) []
more_choices h g a b c item heard runs old caller new =
    ap (map choice) runs ∙ map-append choice (runs_of b h) (cond (a == b) (item ∷ []) [])
    ∙ ap (λ l. l ++ map choice (cond (a == b) (item ∷ []) []))
    (map-same_at choice (λ (i : RunItem). (i.caller, is_heard h i)) (runs_of b h) (λ place other at. ap (λ x. (other.caller, x)) (old place other at)))
    ∙ ap (λ l. choices_of b h ++ l) (last (a == b))
  where
    choice : RunItem → ℕ × Bool
    choice i = (i.caller, is_heard g i)

    last : (x : Bool) → map choice (cond x (item ∷ []) []) ≡ cond x ((c, heard) ∷ []) []
    last true = ap (λ p. p ∷ []) (ap (λ d. (d, is_heard g item)) caller ∙ ap (λ x. (c, x)) new)
    last false = refl

-- ---- a run

-- a run, and what it leaves
pub record IsRun (a c : ℕ) (h g : History) (item : RunItem) : Type 0 where
  pub sound : IsSound h
  pub after : IsSound g
  pub next : IsNext a c h item
  pub grows : Grows h g
  pub ran : g.ran ≡ h.ran ++ (a, item) ∷ []
  pub posts : g.posts ≡ h.posts ++ ReplyPost c a (length (runs_of a h)) ∷ []
  pub collected : g.collected ≡ h.collected
  pub killed : g.killed ≡ h.killed
  pub retired : g.retired ≡ h.retired
  pub casts : g.casts ≡ h.casts
  -- the call that runs had no answer
  pub none : kept_at (kept_of c h) item.future ≡ None

pub item_caller : (a c : ℕ) (h : History) {item : RunItem} → IsNext a c h item → item.caller ≡ c
item_caller a c h next = ap (λ (i : RunItem). i.caller) (sym next.is)

item_future : (a c : ℕ) (h : History) {item : RunItem} (next : IsNext a c h item) → item.future ≡ next.call.0
item_future a c h next = ap (λ (i : RunItem). i.future) (sym next.is)

pub run_is : {specs : List ActorSpec} {plans : ℕ → List Step} (a c : ℕ) (p : At) {item : RunItem} → IsPlay specs plans p
    → refusal_of p.history (event.Run a c) ≡ None → next_item a c p.history ≡ Some item → IsRun a c p.history (add_event p.history (event.Run a c)) item
run_is {specs} {plans} a c p {item} play may e =
    let h = p.history in let sound : IsSound h = (world specs plans p play).sound in let next : IsNext a c h item = next_item_is a c h e in
    subst (λ o. IsRun a c h (after_run a c h o) item) (sym e) (record {
      sound = sound;
      after = subst (λ o. IsSound (after_run a c h o)) e (world specs plans (with_event (event.Run a c) p) (Happens p (event.Run a c) play refl may)).sound;
      next = next;
      grows = subst (λ o. Grows h (after_run a c h o)) e (added_grows h (event.Run a c));
      ran = refl;
      posts = refl;
      collected = refl;
      killed = refl;
      retired = refl;
      casts = refl;
      none = ap (kept_at (kept_of c h)) (item_future a c h next) ∙ next_unanswered h a c sound next.at (run_needs h a c may).2;
    })

-- the call of the item, before and after
pub run_call : (a c : ℕ) (h g : History) (item : RunItem) → IsRun a c h g item → (call : Submission) × (slice_get (calls_of c h) item.future ≡ Some call)
run_call a c h g item r = (
  r.next.call.1,
  ap (slice_get (calls_of c h)) (item_future a c h r.next) ∙ (calls_to-at a (calls_of c h) (ran_count c a h) r.next.at).at,
)

pub run_runs : (a b c : ℕ) (h g : History) (item : RunItem) → IsRun a c h g item → runs_of b g ≡ runs_of b h ++ cond (a == b) (item ∷ []) []
run_runs a b c h g item r = ap (λ l. under b l) r.ran ∙ under-push b a h.ran item

-- the new item isn't heard yet
pub unheard : (a c : ℕ) (h g : History) (item : RunItem) → IsRun a c h g item → kept_at (kept_of c g) item.future ≡ None
unheard a c h g item r =
    let call = run_call a c h g item r in
    let there = slice_get_front (calls_of c h) (calls_of c g) item.future (calls_grow c r.grows) call.1 in
    kept_first g c item.future there ∙ first_answer-same h g c (item.future, call.0) r.grows r.sound.posts r.collected
    ∙ sym (kept_first h c item.future call.1) ∙ r.none

-- a reply that is lost
pub lost_more : (a b c : ℕ) (h g : History) (item : RunItem) → IsRun a c h g item → choices_of b g ≡ choices_of b h ++ cond (a == b) ((c, false) ∷ []) []
lost_more a b c h g item r =
    more_choices h g a b c item false (run_runs a b c h g item r) (λ place other at. heard_quiet h b place r.grows r.sound r.collected at)
    (item_caller a c h r.next)
    (ap (λ d. is_reply (kept_at (kept_of d g) item.future)) (item_caller a c h r.next) ∙ ap is_reply (unheard a c h g item r))
