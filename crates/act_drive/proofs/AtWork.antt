-- A session at work.
use Rattle.act_drive.proofs.Common.{◌≡◌, ℕ, suc, ◌+◌, ◌<◌, List, [], ◌∷◌, ◌++◌, length, get_or, set, replicate, refl, sym, ◌∙◌, ap, subst, arith, inl, inr}
use Rattle.act_drive.proofs.Common.{if◌then◌else◌, is_some, true, kept_at, eqb_tells, leb_tells, get_or-set_other, get_or-replicate, get_or_past}
use Rattle.act_drive.proofs.Common.{length-replicate, get_or-set_at, Step, Kill, Await, CallerLines, Driver, IsCalling, Stays, Waits, FollowsSteps, Does}
use Rattle.act_drive.proofs.Common.{IsAtWork, Traces, TracesStep, OnlyWaits, kills_to, SessionView, IsLater, OnlyHears}
use Rattle.act_drive.proofs.Drivers.{stays_trans, waits_same}
use Rattle.act_drive.proofs.PlanSteps.{follows_waits, kills_more}
use Rattle.act_drive.proofs.Tracing.{traces_awaited}
use Rattle.act_drive.proofs.CodeSteps.{does_await}

all_same : (x n a : ℕ) → get_or (replicate n x) a x ≡ x
all_same x n a = elim (leb_tells (suc a) n) [
  | inl t ↦ get_or-replicate n a x x t.1
  | inr f ↦ let long : length (replicate n x) ≡ n = length-replicate n x in get_or_past (replicate n x) a x (omega (arith, f.1, long))
]

-- at first
pub work_begun : (actors : List ℕ) (began : Driver → Type 0) (lines : CallerLines) {driver : Driver} → IsCalling lines driver → began driver →
    FollowsSteps lines actors [] driver → IsAtWork actors began lines driver (replicate 9 0) []
work_begun actors began lines {driver} calling so follows = record {
  calling = calling;
  opened = driver;
  began_so = so;
  stays = (waits_same driver).stay;
  traced = λ start is. is;
  follows = follows;
  asked = all_same 0 9;
}

-- a step more
pub work_step : {actors : List ℕ} {began : Driver → Type 0} {lines : CallerLines} (old new : Driver) {step : Step} {kills : List ℕ} (more : List ℕ)
    (steps : List Step) → IsAtWork actors began lines old kills steps → IsCalling lines new → Stays old new → TracesStep lines step old new → Does lines step
    old new → ((a : ℕ) → get_or more a 0 ≡ get_or kills a 0 + kills_to a (step ∷ [])) → IsAtWork actors began lines new more (steps ++ step ∷ [])
work_step {actors} old new {step} more steps was calling stays traced does grown = record {
  calling = calling;
  opened = was.opened;
  began_so = was.began_so;
  stays = stays_trans was.stays stays;
  traced = λ start is. traced start steps (was.traced start is);
  follows = does actors steps was.follows;
  asked = λ a. grown a ∙ ap (λ n. n + kills_to a (step ∷ [])) (was.asked a) ∙ sym (kills_more a steps step);
}

-- the same of a step that is no kill
pub work_does : (actors : List ℕ) (began : Driver → Type 0) (lines : CallerLines) (old new : Driver) {step : Step} (kills : List ℕ) (steps : List Step) →
    ((a : ℕ) → kills_to a (step ∷ []) ≡ 0) → IsAtWork actors began lines old kills steps → IsCalling lines new → Stays old new → TracesStep lines step old new →
    Does lines step old new → IsAtWork actors began lines new kills (steps ++ step ∷ [])
work_does actors began lines old new {step} kills steps none was calling stays traced does =
    work_step old new kills steps was calling stays traced does (λ a. let none_to = none a in omega (arith, none_to))

kill_grown : (kills : List ℕ) (a : ℕ) → a < length kills → (b : ℕ) →
    get_or (set kills a (get_or kills a 0 + 1)) b 0 ≡ get_or kills b 0 + kills_to b (Kill a ∷ [])
kill_grown kills a below b = elim (eqb_tells a b) [
  | inl t ↦ get_or-set_at kills a b (get_or kills a 0 + 1) 0 (sym t.1) below ∙ ap (λ n. get_or kills n 0 + 1) t.1 ∙
      sym (ap (λ c. get_or kills b 0 + length (if c then Kill a ∷ [] else [])) t.0)
  | inr f ↦ let same = get_or-set_other kills a b (get_or kills a 0 + 1) 0 (λ e. f.1 (sym e)) in
      let none : kills_to b (Kill a ∷ []) ≡ 0 = ap (λ c. length (if c then Kill a ∷ [] else [])) f.0 in omega (arith, same, none)
]

-- a kill, at the place of the actor's number
pub work_kill : (actors : List ℕ) (began : Driver → Type 0) (lines : CallerLines) (old new : Driver) (a : ℕ) {n : ℕ} {kills : List ℕ} (steps : List Step) →
    n ≡ a → n < length kills → IsAtWork actors began lines old kills steps → IsCalling lines new → Stays old new → TracesStep lines (Kill a) old new →
    Does lines (Kill a) old new → IsAtWork actors began lines new (set kills n (get_or kills n 0 + 1)) (steps ++ Kill a ∷ [])
work_kill actors began lines old new a {n} {kills} steps is below was calling stays traced does =
    work_step old new _ steps was calling stays traced does
    (subst (λ m. (b : ℕ) → get_or (set kills n (get_or kills n 0 + 1)) b 0 ≡ get_or kills b 0 + kills_to b (Kill m ∷ [])) is (kill_grown kills n below))

-- a wait that did no step
pub work_waits : {actors : List ℕ} {began : Driver → Type 0} {lines : CallerLines} {old new : Driver} {kills : List ℕ} {steps : List Step} →
    IsAtWork actors began lines old kills steps → IsCalling lines new → Waits old new → Traces lines old new → IsAtWork actors began lines new kills steps
work_waits {actors} {lines} {old} {new} {steps} was calling waits traced = record {
  calling = calling;
  opened = was.opened;
  began_so = was.began_so;
  stays = stays_trans was.stays waits.stay;
  traced = λ start is. traced start steps (was.traced start is);
  follows = follows_waits waits was.follows;
  asked = was.asked;
}

-- a wait for an answer that is kept by then
pub work_awaits : (actors : List ℕ) (began : Driver → Type 0) (lines : CallerLines) (old new : Driver) (k : ℕ) (kills : List ℕ) (steps : List Step) →
    IsAtWork actors began lines old kills steps → OnlyWaits lines old new → k < length old.owner.calls → is_some (kept_at new.owner.kept k) ≡ true →
    IsAtWork actors began lines new kills (steps ++ Await k ∷ [])
work_awaits actors began lines old new k kills steps was waits below answered =
    work_does actors began lines old new kills steps (λ a. refl) was waits.calling waits.waits.stay (traces_awaited lines old new k waits.traced answered)
    (does_await lines old new k waits.waits below)

-- what is seen of a caller before its code's call
pub later_seen : {old seen new : SessionView} → old ≡ seen → IsLater old new → IsLater seen new
later_seen {new} is later = subst (λ s. IsLater s new) is later

-- a caller that only hears after one view only hears after an equal view
pub hears_seen : {old seen : SessionView} (new : SessionView) → old ≡ seen → OnlyHears old new → OnlyHears seen new
hears_seen new is hears = subst (λ s. OnlyHears s new) is hears
