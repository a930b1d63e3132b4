-- What the lines of a script say, and what a whole script spells: its roles and its events or steps, or its first
-- fault.
use Rattle.std.specs.Prelude.{ℕ, ◌+◌, ◌==◌, Bool, true, false, not, ◌&&◌, ◌||◌, if◌then◌else◌, nat_lt, nat_le, List, [], ◌∷◌, ◌++◌, length, find, Option, Some}
use Rattle.std.specs.Prelude.{None, Result, Ok, Err, bytes_eq, codes}
use Rattle.std.specs.List.{list_all, list_any, slice_split}
use Rattle.act_types.specs.declared.limits.TheConstants.{MAX_LINE_BYTES, MAX_SCRIPT_BYTES}
use Rattle.act_types.specs.declared.call.Method.{Method}
use Rattle.act_types.specs.declared.call.Arg.{Arg}
use Rattle.act_rules.specs.declared.event.Event.{Event}
use Rattle.act_rules.specs.declared.event.Event.TheVariants as event
use Rattle.act_rules.specs.declared.script.Step.{Step}
use Rattle.act_rules.specs.declared.script.Step.TheVariants as step
use Rattle.act_rules.specs.declared.script.Mode.{Mode}
use Rattle.act_rules.specs.declared.script.Mode.TheVariants.{Play, Threads}
use Rattle.act_rules.specs.declared.script.KindName.{KindName}
use Rattle.act_rules.specs.declared.script.Role.{Role}
use Rattle.act_rules.specs.declared.script.Line.{Line}
use Rattle.act_rules.specs.declared.script.Line.TheVariants.{Role as RoleLine, Event as EventLine, Step as StepLine}
use Rattle.act_rules.specs.declared.script.Wrong.{Wrong}
use Rattle.act_rules.specs.declared.script.Wrong.TheVariants.{TooLong, BadLine, LateActor, TwiceActor, TwiceCaller}
use Rattle.act_rules.specs.Words.{Word, ◌>>=◌, or_bad_line, named_by, kind_text, all_kinds, method_at, number_at, limit_at, caller_at, actor_at, arg_at}

-- ---- the forms of line

-- what every word spells, or the first fault
abbrev pub each_at : {A : Type 0} → (Word → Result A Wrong) → List Word → Result (List A) Wrong
each_at word_at [] = Ok []
each_at word_at (word ∷ words) = word_at word >>= λ x. each_at word_at words >>= λ xs. Ok (x ∷ xs)

abbrev pub args_at : List Word → Result (List Arg) Wrong
args_at = each_at arg_at

abbrev pub callers_at : List Word → Result (List ℕ) Wrong
callers_at = each_at caller_at

-- what one word spells
abbrev pub one_at : {A B : Type 0} → (A → B) → (Word → Result A Wrong) → List Word → Result B Wrong
one_at f first (u ∷ []) = first u >>= λ x. Ok (f x)
one_at f first words = Err BadLine

-- what two words spell
abbrev pub two_at : {A B C : Type 0} → (A → B → C) → (Word → Result A Wrong) → (Word → Result B Wrong) → List Word →
    Result C Wrong
two_at f first second (u ∷ v ∷ []) = first u >>= λ x. second v >>= λ y. Ok (f x y)
two_at f first second words = Err BadLine

-- one or more callers
abbrev pub some_callers_at : List Word → Result (List ℕ) Wrong
some_callers_at [] = Err BadLine
some_callers_at (word ∷ words) = callers_at (word ∷ words)

-- a limit and one or more callers
abbrev pub limited_at : List Word → Result (Option ℕ × List ℕ) Wrong
limited_at [] = Err BadLine
limited_at (number ∷ words) = limit_at number >>= λ limit. some_callers_at words >>= λ callers. Ok (Some limit, callers)

-- `max`, a limit and one or more callers, or the callers alone
unfoldable pub naming_at : List Word → Result (Option ℕ × List ℕ) Wrong
naming_at [] = Err BadLine
naming_at (word ∷ words) = if bytes_eq word (codes "max") then limited_at words
    else (some_callers_at (word ∷ words) >>= λ callers. Ok (None, callers))

-- an actor, one of these kinds, a limit if there is one, and one or more callers
unfoldable pub role_at : List KindName → List Word → Result Role Wrong
role_at kinds (actor ∷ kind ∷ words) = do
  a ← actor_at actor
  k ← named_by kind_text kinds kind
  named ← naming_at words
  Ok (record { actor = a; callers = named.1; kind = k; pending = named.0 })
role_at kinds words = Err BadLine

-- a caller, an actor, a method and its arguments
unfoldable pub submit_at : {A : Type 0} → (ℕ → ℕ → Method → List Arg → A) → List Word → Result A Wrong
submit_at f (caller ∷ actor ∷ method ∷ args) = do
  c ← caller_at caller
  a ← actor_at actor
  m ← method_at method
  xs ← args_at args
  Ok (f c a m xs)
submit_at f words = Err BadLine

-- the first word of a line, and what the others say
abbrev pub Form : Type 0
Form = Word × (List Word → Result Line Wrong)

abbrev pub role_form : List KindName → Form
role_form kinds = (codes "actor", λ words. role_at kinds words >>= λ role. Ok (RoleLine role))

-- the forms of a script of events
unfoldable pub play_forms : List Form
play_forms =
    role_form all_kinds ∷
    (codes "submit", submit_at (λ c a m args. EventLine (event.Submit c a m args))) ∷
    (codes "copy", two_at (λ c a. EventLine (event.Copy c a)) caller_at actor_at) ∷
    (codes "release", two_at (λ c a. EventLine (event.Release c a)) caller_at actor_at) ∷
    (codes "kill", two_at (λ c a. EventLine (event.AskKill c a)) caller_at actor_at) ∷
    (codes "send", two_at (λ c k. EventLine (event.Send c k)) caller_at number_at) ∷
    (codes "deliver", one_at (λ i. EventLine (event.Deliver i)) number_at) ∷
    (codes "run", two_at (λ a c. EventLine (event.Run a c)) actor_at caller_at) ∷
    (codes "collect", one_at (λ j. EventLine (event.Collect j)) number_at) ∷
    (codes "take", one_at (λ a. EventLine (event.TakeKill a)) actor_at) ∷
    (codes "tell", two_at (λ a c. EventLine (event.Tell a c)) actor_at caller_at) ∷
    (codes "retire", one_at (λ a. EventLine (event.Retire a)) actor_at) ∷ []

-- the forms of a script for threads
unfoldable pub thread_forms : List Form
thread_forms =
    role_form all_kinds ∷
    (codes "submit", submit_at (λ c a m args. StepLine c (step.Submit a m args))) ∷
    (codes "copy", two_at (λ c a. StepLine c (step.Copy a)) caller_at actor_at) ∷
    (codes "release", two_at (λ c a. StepLine c (step.Release a)) caller_at actor_at) ∷
    (codes "kill", two_at (λ c a. StepLine c (step.Kill a)) caller_at actor_at) ∷
    (codes "await", two_at (λ c k. StepLine c (step.Await k)) caller_at number_at) ∷ []

abbrev pub forms_of : Mode → List Form
forms_of Play = play_forms
forms_of Threads = thread_forms

-- ---- lines

-- what the words of a line say, by the form that the first word names
unfoldable pub form_at : List Form → List Word → Result Line Wrong
form_at forms [] = Err BadLine
form_at forms (head ∷ words) = or_bad_line (find (λ form. bytes_eq head form.0) forms) >>= λ form. form.1 words

-- a byte that prints, or a space
abbrev pub is_plain_byte : ℕ → Bool
is_plain_byte b = nat_le 32 b && nat_le b 126

-- the line itself, where it is short and plain
abbrev pub plain_at : List ℕ → Result (List ℕ) Wrong
plain_at text = if nat_lt MAX_LINE_BYTES (length text) then Err BadLine
    else (if list_all is_plain_byte text then Ok text else Err BadLine)

-- an empty line, and a comment
abbrev pub is_skipped : List ℕ → Bool
is_skipped [] = true
is_skipped (b ∷ bs) = b == 35

-- the words of a line: what stands between its spaces
abbrev pub words_in : List ℕ → List Word
words_in text = slice_split (λ b. b == 32) text

-- what a line says, and nothing where it is skipped
unfoldable pub line_at : List Form → List ℕ → Result (Option Line) Wrong
line_at forms line = do
  text ← plain_at line
  if is_skipped text then Ok None else (form_at forms (words_in text) >>= λ said. Ok (Some said))

-- ---- scripts

-- what a script spells: its roles and its events; in threads the steps, each with its caller and its line
pub record Script : Type 0 where
  pub roles : List Role
  pub events : List Event
  pub steps : List (ℕ × Step × ℕ)

abbrev pub no_lines : Script
no_lines = record { roles = []; events = []; steps = [] }

-- whether a number stands twice
abbrev pub has_twice : List ℕ → Bool
has_twice [] = false
has_twice (n ∷ ns) = list_any (λ m. m == n) ns || has_twice ns

-- why a role is refused, after the lines before it
unfoldable pub role_fault : Script → Role → Option Wrong
role_fault script role =
    if not (length script.events == 0) || not (length script.steps == 0) then Some LateActor else
    (if list_any (λ other. other.actor == role.actor) script.roles then Some TwiceActor else
    (if has_twice role.callers then Some TwiceCaller else None))

abbrev pub unless : {A : Type 0} → Option Wrong → A → Result A Wrong
unless None x = Ok x
unless (Some wrong) x = Err wrong

-- the script with what line n says
abbrev pub add_line : Script → ℕ → Line → Result Script Wrong
add_line script n (RoleLine role) = unless (role_fault script role)
    (record script { roles = script.roles ++ role ∷ [] })
add_line script n (EventLine event) = Ok (record script { events = script.events ++ event ∷ [] })
add_line script n (StepLine c step) = Ok (record script { steps = script.steps ++ (c, step, n) ∷ [] })

abbrev pub added_unless_skipped : Script → ℕ → Option Line → Result Script Wrong
added_unless_skipped script n None = Ok script
added_unless_skipped script n (Some line) = add_line script n line

abbrev pub line_added : List Form → Script → ℕ → List ℕ → Result Script Wrong
line_added forms script n line = line_at forms line >>= added_unless_skipped script n

-- the fault of a line, with the line's number
abbrev pub in_line : {A : Type 0} → ℕ → Result A Wrong → Result A (ℕ × Wrong)
in_line n (Ok x) = Ok x
in_line n (Err wrong) = Err (n, wrong)

-- the script with the lines from number n on
abbrev pub spelled_from : List Form → ℕ → Script → List (List ℕ) → Result Script (ℕ × Wrong)
spelled_from forms n script [] = Ok script
spelled_from forms n script (line ∷ lines) = in_line n (line_added forms script n line) >>= λ next.
    spelled_from forms (n + 1) next lines

-- the lines of a script: what stands between its line ends; after the last one an empty line, which is skipped
abbrev pub lines_in : List ℕ → List (List ℕ)
lines_in bytes = slice_split (λ b. b == 10) bytes

-- what bytes spell in lines of these forms, or the first fault with its line
unfoldable pub spelled_by : List Form → List ℕ → Result Script (ℕ × Wrong)
spelled_by forms bytes = if nat_lt MAX_SCRIPT_BYTES (length bytes) then Err (0, TooLong)
    else spelled_from forms 1 no_lines (lines_in bytes)

-- what bytes spell in a mode
abbrev pub spelled : Mode → List ℕ → Result Script (ℕ × Wrong)
spelled mode bytes = spelled_by (forms_of mode) bytes
