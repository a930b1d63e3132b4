-- What the same lines tell of two histories.
use Rattle.std.specs.Prelude.{ℕ, ◌≡◌, ◌⊎◌, ◌++◌, ◌&&◌, Bool, true, List, map, Contains, is_some, IsTrue, codes, Option, Some, Err}
use Rattle.std.specs.List.{list_all}
use Rattle.act_types.specs.Texts.{space, actor_text}
use Rattle.act_types.specs.declared.call.Fault.TheVariants.{ActorDied}
use Rattle.act_rules.specs.declared.event.Event.{Event}
use Rattle.act_rules.specs.declared.event.Event.TheVariants.{Submit}
use Rattle.act_rules.specs.declared.script.Role.{Role}
use Rattle.act_rules.specs.RunList.{Answer}
use Rattle.act_rules.specs.Submissions.{kept_at}
use Rattle.act_rules.specs.History.{History, calls_of, runs_of, kept_of, is_dead, is_retired}
use Rattle.act_rules.specs.Laws.{history, is_actor_number, is_caller_number, is_sayable_method, is_sayable_arg}
use Rattle.act_rules.specs.Grammar.{lines_in}
use Rattle.act_rules.specs.Report.{future_text, summary}
use Rattle.act_rules.specs.Scripts.{actor_spec_of}
use Rattle.act_summaries.specs.Lines.{AreTold}

-- a role that a script can write
abbrev pub is_sayable_role : Role → Bool
is_sayable_role role = is_actor_number role.actor && list_all is_caller_number role.callers

-- an event that a script can write
abbrev pub is_sayable_event : Event → Bool
is_sayable_event (Submit c a method args) = is_sayable_method method && list_all is_sayable_arg args
is_sayable_event event = true

-- the line that leaves the answer of a caller's future open: `c1.0 a1 = *`
abbrev pub open_line : ℕ → ℕ → ℕ → List ℕ
open_line c k a = future_text c k ++ space ++ actor_text a ++ codes " = *"

-- the lines of the bytes leave open which answer the caller keeps for a future
abbrev pub IsLeftOpen : List ℕ → ℕ → ℕ → Type 0
IsLeftOpen bytes c k = (a : ℕ) × Contains (lines_in bytes) (open_line c k a)

-- what a caller keeps for a future, if anything
abbrev pub kept_for : ℕ → ℕ → History → Option Answer
kept_for c k h = kept_at (kept_of c h) k

-- the caller keeps for a future that its actor died
abbrev pub KeepsDeath : ℕ → ℕ → History → Type 0
KeepsDeath c k h = kept_for c k h ≡ Some (Err ActorDied)

-- the two histories end alike, but for the answers that the lines leave open
pub record EndAlike (bytes : List ℕ) (h g : History) : Type 0 where
  -- each actor ran the same calls, in the same order
  pub runs : (a : ℕ) → runs_of a h ≡ runs_of a g
  -- and is live, dead or retired alike
  pub dead : (a : ℕ) → is_dead a h ≡ is_dead a g
  pub retired : (a : ℕ) → is_retired a h ≡ is_retired a g
  -- each caller submitted as many calls, to the same actors
  pub calls : (c : ℕ) → map (λ call. call.actor) (calls_of c h) ≡ map (λ call. call.actor) (calls_of c g)
  -- it keeps an answer for the same futures
  pub kept : (c k : ℕ) → is_some (kept_for c k h) ≡ is_some (kept_for c k g)
  -- and the same answer, but where it is left open
  pub answers : (c k : ℕ) → (kept_for c k h ≡ kept_for c k g) ⊎ IsLeftOpen bytes c k
  -- there, too, but where one keeps that the actor died
  pub deaths : (c k : ℕ) → (kept_for c k h ≡ kept_for c k g) ⊎ (KeepsDeath c k h ⊎ KeepsDeath c k g)

-- where the same lines tell what these events leave and what the others leave, the two end alike
abbrev pub EndsAreAlike : List Role → List Event → List Event → Type 0
EndsAreAlike roles events others = (bytes : List ℕ) →
    let h = history (map actor_spec_of roles) events in
    let g = history (map actor_spec_of roles) others in
    AreTold bytes (summary h) → AreTold bytes (summary g) → EndAlike bytes h g

-- two histories of the same roles that the same lines tell end alike
abbrev pub AreReadOneWay : Type 0
AreReadOneWay = (roles : List Role) (events others : List Event) →
    IsTrue (list_all is_sayable_role roles) →
    IsTrue (list_all is_sayable_event events) → IsTrue (list_all is_sayable_event others) →
    EndsAreAlike roles events others

-- where they end alike, lines that tell one of them tell the other
abbrev pub AreToldAlike : Type 0
AreToldAlike = (roles : List Role) (events others : List Event) (bytes : List ℕ) →
    IsTrue (list_all is_sayable_role roles) →
    IsTrue (list_all is_sayable_event events) → IsTrue (list_all is_sayable_event others) →
    let h = history (map actor_spec_of roles) events in
    let g = history (map actor_spec_of roles) others in
    EndAlike bytes h g → AreTold bytes (summary g) → AreTold bytes (summary h)
