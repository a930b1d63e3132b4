-- What the lines of what was left are taken for, one by one, and what of this fits a history.
use Rattle.std.specs.Prelude.{ℕ, ◌≡◌, ◌≢◌, ◌≤◌, ◌<◌, ◌+◌, ◌^◌, ◌++◌, ◌∷◌, [], Bool, true, false, not, List, map, filter, slice_get, codes, decimal, Option}
use Rattle.std.specs.Prelude.{Some, None, is_some, Err, All, IsTrue}
use Rattle.std.specs.List.{AllZip, flat_map, list_all}
use Rattle.act_types.specs.declared.limits.TheConstants.{MAX_ACTORS, MAX_CALLERS}
use Rattle.act_types.specs.Texts.{space, with_spaces, actor_text, method_text, settled_text}
use Rattle.act_types.specs.declared.call.Fault.TheVariants.{ActorDied}
use Rattle.act_types.specs.declared.call.Method.{Method}
use Rattle.act_types.specs.declared.call.Settled.{Settled}
use Rattle.act_types.specs.declared.call.Settled.TheVariants.{Good, Bad}
use Rattle.act_rules.specs.declared.event.Event.{Event}
use Rattle.act_rules.specs.declared.history.RunItem.{RunItem}
use Rattle.act_rules.specs.declared.script.Role.{Role}
use Rattle.act_rules.specs.Grammar.{is_skipped, lines_in}
use Rattle.act_rules.specs.History.{History, cast_of, calls_of, runs_of, is_dead, is_retired}
use Rattle.act_rules.specs.Laws.{history, is_sayable, is_sayable_method}
use Rattle.act_rules.specs.Report.{future_text, one_to, summary}
use Rattle.act_rules.specs.RunList.{Answer}
use Rattle.act_rules.specs.Scripts.{actor_spec_of}
use Rattle.act_summaries.specs.Lines.{AreTold}
use Rattle.act_summaries.specs.Summaries.{is_sayable_role, is_sayable_event, kept_for}

-- ---- stems: what a line is taken for

-- what is kept for a call: nothing yet, a reply, that its actor died, or one of these two
pub data Kept : Type 0 where
  Nothing : Kept
  Reply : Kept
  Death : Kept
  Any : Kept

-- a call by its actor, and what is kept for it
pub record Call : Type 0 where
  pub actor : ℕ
  pub kept : Kept

-- a call that ran, by its caller and its future, and with its method and arguments where these are known
pub record Ran : Type 0 where
  pub caller : ℕ
  pub future : ℕ
  pub words : Option (Method × List Settled)

-- whether an actor is dead or retired, and what it ran
pub record End : Type 0 where
  pub dead : Bool
  pub retired : Bool
  pub runs : List Ran

-- a line of a caller's future, of an actor's end, or of a place in its run list
pub data Stem : Type 0 where
  OfCall : (c k : ℕ) → Call → Stem
  OfEnd : (a : ℕ) → (dead retired : Bool) → Stem
  OfRun : (a place : ℕ) → Ran → Stem

-- the stems of a list's members, each made of its place and the member
abbrev pub placed : {X : Type 0} → (ℕ → X → Stem) → ℕ → List X → List Stem
placed stem_of place [] = []
placed stem_of place (x ∷ xs) = stem_of place x ∷ placed stem_of (place + 1) xs

-- those of an actor that is there
abbrev pub stems_of_actor : ℕ → Option End → List Stem
stems_of_actor a None = []
stems_of_actor a (Some end) = OfEnd a end.dead end.retired ∷ placed (OfRun a) 0 end.runs

-- the calls of each caller, and then each actor with its run list, by rising number
abbrev pub stems_of : (ℕ → List Call) → (ℕ → Option End) → List Stem
stems_of calls ends =
    flat_map (λ c. placed (OfCall c) 0 (calls c)) (one_to MAX_CALLERS)
    ++ flat_map (λ a. stems_of_actor a (ends a)) (one_to MAX_ACTORS)

-- ---- whether a line agrees

-- a line begins so
abbrev pub Begins : List ℕ → List ℕ → Type 0
Begins front line = (rest : List ℕ) × (line ≡ front ++ rest)

-- an answer stands behind these words: neither `*` nor `ActorDied`
pub record IsReply (front line : List ℕ) : Type 0 where
  pub what : List ℕ
  pub is : line ≡ front ++ codes " = " ++ what
  pub told : what ≢ codes "*"
  pub alive : what ≢ codes "ActorDied"

-- so much is kept, behind `c1.0 a1`
abbrev pub AgreesKept : Kept → List ℕ → List ℕ → Type 0
AgreesKept Nothing front line = line ≡ front ++ codes " ?"
AgreesKept Reply front line = IsReply front line
AgreesKept Death front line = line ≡ front ++ codes " = ActorDied"
AgreesKept Any front line = line ≡ front ++ codes " = *"

-- so the actor is, behind `a1`; none is dead and retired
abbrev pub AgreesEnd : Bool → Bool → List ℕ → List ℕ → Type 0
AgreesEnd true true front line = ⊥
AgreesEnd true false front line = line ≡ front ++ codes " dead"
AgreesEnd false true front line = Begins (front ++ codes " retired ") line
AgreesEnd false false front line = Begins (front ++ codes " live ") line

-- an argument that can be read back
abbrev pub IsReadable : Settled → Type 0
IsReadable (Good value) = is_sayable value ≡ true
IsReadable (Bad k) = k < 2 ^ 64

-- so the call ran, behind `a1.0 c1.0 `
abbrev pub AgreesRan : Option (Method × List Settled) → List ℕ → List ℕ → Type 0
AgreesRan None front line = Begins front line
AgreesRan (Some (method, args)) front line =
    (line ≡ front ++ method_text method ++ with_spaces (map settled_text args))
    × (is_sayable_method method ≡ true) × All IsReadable args

-- the line is one of the stem
abbrev pub Agrees : Stem → List ℕ → Type 0
Agrees (OfCall c k call) line =
    (call.actor < 2 ^ 64) × AgreesKept call.kept (future_text c k ++ space ++ actor_text call.actor) line
Agrees (OfEnd a dead retired) line = AgreesEnd dead retired (actor_text a) line
Agrees (OfRun a place ran) line = (ran.caller < 2 ^ 64) × (ran.future < 2 ^ 64)
    × AgreesRan ran.words (
    actor_text a ++ codes "." ++ decimal place ++ space ++ future_text ran.caller ran.future ++ space) line

-- the lines that are not skipped are of these stems, one by one
abbrev pub AreAgreed : List Stem → List ℕ → Type 0
AreAgreed stems bytes = AllZip Agrees stems (filter (λ line. not (is_skipped line)) (lines_in bytes))

-- ---- whether a history fits

-- so much is kept
abbrev pub IsKeptSo : Kept → Option Answer → Type 0
IsKeptSo Nothing answer = answer ≡ None
IsKeptSo Reply answer = (is_some answer ≡ true) × (answer ≢ Some (Err ActorDied))
IsKeptSo Death answer = answer ≡ Some (Err ActorDied)
IsKeptSo Any answer = is_some answer ≡ true

abbrev pub HasWords : Option (Method × List Settled) → RunItem → Type 0
HasWords None item = Unit {0}
HasWords (Some (method, args)) item = (item.method ≡ method) × (item.args ≡ args)

-- the item is this call
pub record IsRanSo (ran : Ran) (item : RunItem) : Type 0 where
  pub caller : item.caller ≡ ran.caller
  pub future : item.future ≡ ran.future
  pub words : HasWords ran.words item

-- the actor is there, is dead or retired as is said, and ran these calls
pub record IsEndSo (a : ℕ) (h : History) (end : End) : Type 0 where
  pub cast : is_some (cast_of a h) ≡ true
  pub dead : is_dead a h ≡ end.dead
  pub retired : is_retired a h ≡ end.retired
  pub runs : AllZip IsRanSo end.runs (runs_of a h)

-- the same of an actor that may not be there
abbrev pub IsActorSo : ℕ → History → Option End → Type 0
IsActorSo a h None = cast_of a h ≡ None
IsActorSo a h (Some end) = IsEndSo a h end

-- these calls and ends are those of the history
pub record FitHistory (calls : ℕ → List Call) (ends : ℕ → Option End) (h : History) : Type 0 where
  pub called : (c : ℕ) → 1 ≤ c → c ≤ MAX_CALLERS →
      map (λ call. call.actor) (calls_of c h) ≡ map (λ call. call.actor) (calls c)
  pub kept : (c k : ℕ) (call : Call) → 1 ≤ c → c ≤ MAX_CALLERS → slice_get (calls c) k ≡ Some call →
      IsKeptSo call.kept (kept_for c k h)
  pub ended : (a : ℕ) → 1 ≤ a → a ≤ MAX_ACTORS → IsActorSo a h (ends a)

-- where lines agree with calls and ends, these fit each history that the lines tell
abbrev pub AgreedLinesFit : Type 0
AgreedLinesFit = (calls : ℕ → List Call) (ends : ℕ → Option End) (bytes : List ℕ)
    (roles : List Role) (events : List Event) →
    IsTrue (list_all is_sayable_role roles) → IsTrue (list_all is_sayable_event events) →
    AreAgreed (stems_of calls ends) bytes →
    let h = history (map actor_spec_of roles) events in
    AreTold bytes (summary h) → FitHistory calls ends h
