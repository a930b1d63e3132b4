-- How actors retire at the end of a walk, and what is told then.
use Rattle.std.specs.Prelude.{◌≡◌, ◌⊎◌, ℕ, true, false, List, length, slice_get, Option, Some, None, IsOk, All}
use Rattle.act_rules.specs.declared.event.Event.{Event}
use Rattle.act_rules.specs.declared.event.Event.TheVariants as event
use Rattle.act_rules.specs.declared.history.Letter.{Letter}
use Rattle.act_rules.specs.declared.history.Letter.TheVariants.{Note as NoteLetter}
use Rattle.act_rules.specs.declared.script.Step.{Step}
use Rattle.act_rules.specs.History.{ActorSpec, History, opening, calls_of, has_letter, is_retired}
use Rattle.act_rules.specs.Laws.{history}
use Rattle.act_rules.specs.Report.{summary}
use Rattle.act_rules.specs.Rules.{outcomes, refusal_of}
use Rattle.act_rules.specs.Submissions.{calls_to}
use Rattle.act_told_ends.specs.Told.{Told, Leaves, EndsAsTold}
use Rattle.act_told_ends.specs.Walks.{IsThrough}

-- the note of a caller that made all its calls
abbrev pub last_note : ℕ → ℕ → History → Letter
last_note c a h = NoteLetter c a (length (calls_to a (calls_of c h)))

-- an actor that is told retired, and isn't yet
abbrev pub IsToRetire : Told → ℕ → History → Type 0
IsToRetire told a h = (told.retired a ≡ true) × (is_retired a h ≡ false)

-- what is left to do for it: a caller lets its handle go, its note is delivered, or the actor retires
pub data MayRetire (told : Told) (h : History) : Type 0 where
  LetsGo : (c a : ℕ) → IsToRetire told a h → refusal_of h (event.Release c a) ≡ None → MayRetire told h
  Notes : (c a i : ℕ) → IsToRetire told a h → has_letter (last_note c a h) h.arrived ≡ false →
      slice_get h.mail i ≡ Some (last_note c a h) → refusal_of h (event.Deliver i) ≡ None → MayRetire told h
  Retires : (a : ℕ) → IsToRetire told a h → refusal_of h (event.Retire a) ≡ None → MayRetire told h

-- the same actors retired
abbrev pub RetiredAsTold : Told → History → Type 0
RetiredAsTold told h = (a : ℕ) → is_retired a h ≡ told.retired a

-- a walk that is through, and at which no other actor retired, is at the end that is told, or may go on to it
abbrev pub EachRetires : Type 0
EachRetires = (casts : List ActorSpec) (bound : ℕ → Option (List Step)) (told : Told) (done : ℕ → ℕ)
    (events walk : List Event) →
    EndsAsTold casts bound told events → All IsOk (outcomes (opening casts) walk) →
    IsThrough bound told done (history casts walk) →
    ((a : ℕ) → is_retired a (history casts walk) ≡ true → told.retired a ≡ true) →
    RetiredAsTold told (history casts walk) ⊎ MayRetire told (history casts walk)

-- what is left of the same actors is told in the same lines
abbrev pub ToldAlike : Type 0
ToldAlike = (told : Told) (one other : History) → one.casts ≡ other.casts →
    Leaves told one → RetiredAsTold told one → Leaves told other → RetiredAsTold told other →
    summary one ≡ summary other
