-- What holds of each history of a script: its numbers are small, and what it says is sayable.
use Rattle.act_summaries.proofs.Common.{◌≡◌, ◌≢◌, ◌⊎◌, inl, inr, ℕ, ◌<◌, ◌≤◌, ◌^◌, ◌==◌, Bool, true, false, cond, List, [], ◌∷◌, length, map}
use Rattle.act_summaries.proofs.Common.{find, slice_get, Some, None, Option, is_some, option_map, option_and_then, Ok, Err, refl, sym, ap, subst, ◌∙◌, arith}
use Rattle.act_summaries.proofs.Common.{nat_le, eqb-true, and_parts, ltb-true, AllByRecursion, list_all, History, ActorSpec, names, cast_of, calls_of}
use Rattle.act_summaries.proofs.Common.{runs_of, kept_of, opening_of, ran_count, next_item, refusal_of, add_event, after, after_run, after_all, opening}
use Rattle.act_summaries.proofs.Common.{Answer, answer_at, answers_from, state_after, KindState, settle, settled_future, kept_at, is_sayable, is_sayable_arg}
use Rattle.act_summaries.proofs.Common.{is_sayable_method, is_number, is_actor_number, is_caller_number, actor_spec_of, Event, Submit, Run, RunItem, Submission}
use Rattle.act_summaries.proofs.Common.{Role, Arg, Fut, Plain, ActorDied, history, All_more, All_at, IsKept, after_all_keeps, after_keeps, next_item_is}
use Rattle.act_summaries.proofs.Common.{IsSound, sound_step, world_sound, answers_are, leb-true, is_sayable_role, is_sayable_event}
use Rattle.act_rules.specs.declared.script.KindName.{KindName}
use Rattle.act_rules.specs.declared.script.KindName.TheVariants as kind
use Rattle.act_rules.specs.Scripts.{opening_state}
use Rattle.act_rules.proofs.AsSubmitted.{calls_to-at}
use Rattle.act_rules.proofs.RanAll.{AllNamed, named_step, named_call}
use Rattle.act_summaries.proofs.Words.{IsGoodArg, IsGoodAnswer, IsGoodState}
use Rattle.act_summaries.proofs.Replies.{AreGoodItems, runs_good}
use Rattle.act_summaries.proofs.Ends.{EndOnce, ends_once}
use Rattle.act_rules.proofs.Callers.{AreFew, few_step}
use Rattle.act_rules.proofs.Growth.{added_grows}
use Rattle.act_rules.proofs.Sound.{under_all}
use Rattle.act_rules.proofs.Elements.{all_listed}

-- ---- lists

pub found : {A : Type 0} (P : A → Type 0) (p : A → Bool) (xs : List A) (x : A) → AllByRecursion P xs → find p xs ≡ Some x → P x × (p x ≡ true)
found P p [] x all e = absurd (cc)
found {A = A} P p (y ∷ xs) x all e = go (p y) refl e (found P p xs x all.1)
  where
    go : (b : Bool) → p y ≡ b → cond b (Some y) (find p xs) ≡ Some x → (find p xs ≡ Some x → P x × (p x ≡ true)) → P x × (p x ≡ true)
    go true is e rest = let same : y ≡ x = cc in (subst P same all.0, ap p (sym same) ∙ is)
    go false is e rest = rest e

-- ---- casts

-- a number that a caller of a script can have: from 1 to 16
abbrev pub IsCallerNumber : ℕ → Type 0
IsCallerNumber c = (1 ≤ c) × (c ≤ 16)

pub record IsGoodCast (cast : ActorSpec) : Type 0 where
  pub some : 1 ≤ cast.actor
  pub few : cast.actor ≤ 8
  pub callers : AllByRecursion IsCallerNumber cast.callers
  pub state : IsGoodState cast.opening

opens_good : (kind : KindName) → IsGoodState (opening_state kind)
opens_good kind.Table = (tt, omega arith)
opens_good kind.ListKind = (tt, omega arith)
opens_good name = refl

callers_good : (callers : List ℕ) → list_all is_caller_number callers ≡ true → AllByRecursion IsCallerNumber callers
callers_good [] e = tt
callers_good (c ∷ callers) e =
    let parts = and_parts (is_caller_number c) (list_all is_caller_number callers) e in
    let number = and_parts (nat_le 1 c) (nat_le c 16) parts.0 in ((leb-true 1 c number.0, leb-true c 16 number.1), callers_good callers parts.1)

casts_good : (roles : List Role) → list_all is_sayable_role roles ≡ true → AllByRecursion IsGoodCast (map actor_spec_of roles)
casts_good [] e = tt
casts_good (role ∷ roles) e =
    let parts = and_parts (is_sayable_role role) (list_all is_sayable_role roles) e in
    let both = and_parts (is_actor_number role.actor) (list_all is_caller_number role.callers) parts.0 in
    let number = and_parts (nat_le 1 role.actor) (nat_le role.actor 8) both.0 in (
      record {
        some = leb-true 1 role.actor number.0;
        few = leb-true role.actor 8 number.1;
        callers = callers_good role.callers both.1;
        state = opens_good role.kind;
      },
      casts_good roles parts.1,
    )

-- ---- what a history says

abbrev pub IsGoodCall : Submission → Type 0
IsGoodCall call = (is_sayable_method call.method ≡ true) × (list_all is_sayable_arg call.args ≡ true)

pub record IsGood (h : History) : Type 0 where
  pub casts : AllByRecursion IsGoodCast h.casts
  pub submitted : AllByRecursion (λ (call : ℕ × Submission). IsGoodCall call.1) h.submitted
  pub args : AllByRecursion (λ (run : ℕ × RunItem). AllByRecursion IsGoodArg run.1.args) h.ran

pub calls_good : (h : History) (c : ℕ) → IsGood h → AllByRecursion IsGoodCall (calls_of c h)
calls_good h c s = under_all IsGoodCall c h.submitted s.submitted

pub items_good : (h : History) (a : ℕ) → IsGood h → AreGoodItems (runs_of a h)
items_good h a s = under_all (λ (item : RunItem). AllByRecursion IsGoodArg item.args) a h.ran s.args

opening_good : (h : History) (a : ℕ) (state : KindState) → IsGood h → opening_of a h ≡ Some state → IsGoodState state
opening_good h a state s e = go (cast_of a h) refl e
  where
    go : (o : Option ActorSpec) → cast_of a h ≡ o → option_map (λ (cast : ActorSpec). cast.opening) o ≡ Some state → IsGoodState state
    go None is e = absurd (cc)
    go (Some cast) is e =
        let same : cast.opening ≡ state = cc in
        subst IsGoodState same (found IsGoodCast (λ (cast : ActorSpec). cast.actor == a) h.casts cast s.casts is).0.state

-- what an actor's run list answers is good, and so is the state that it leaves
pub opened_good : (h : History) (a : ℕ) (state : KindState) → IsGood h → opening_of a h ≡ Some state →
    IsGoodState (state_after state (runs_of a h)) × AllByRecursion IsGoodAnswer (answers_from state (runs_of a h))
opened_good h a state s e = runs_good state (runs_of a h) (opening_good h a state s e) (items_good h a s)

pub died_or_not : (answer : Answer) → (answer ≡ Err ActorDied) ⊎ (answer ≢ Err ActorDied)
died_or_not (Ok value) = inr (λ e. cc)
died_or_not (Err ActorDied) = inl refl
died_or_not (Err fault) = inr (λ e. cc)

pub kept_good : (h : History) (c k : ℕ) {answer : Answer} → IsGood h → IsSound h → kept_at (kept_of c h) k ≡ Some answer → IsGoodAnswer answer
kept_good h c k {answer} s sound e = elim (died_or_not answer) [
  | inl died ↦ subst IsGoodAnswer (sym died) refl
  | inr alive ↦
      let run = answers_are c k sound e alive in go run.actor run.place (opening_of run.actor h) refl run.answered
]
  where
    go : (a place : ℕ) (o : Option KindState) → opening_of a h ≡ o → option_and_then (λ state. answer_at state (runs_of a h) place) o ≡ Some answer →
        IsGoodAnswer answer
    go a place None is e = absurd (cc)
    go a place (Some state) is e = All_at IsGoodAnswer (answers_from state (runs_of a h)) place (opened_good h a state s is).1 e

settled_good : (h : History) (c : ℕ) (args : List Arg) → IsGood h → IsSound h → list_all is_sayable_arg args ≡ true →
    AllByRecursion IsGoodArg (map (settle (kept_of c h)) args)
settled_good h c [] s sound e = tt
settled_good h c (Plain v ∷ args) s sound e =
    let parts = and_parts (is_sayable v) (list_all is_sayable_arg args) e in (parts.0, settled_good h c args s sound parts.1)
settled_good h c (Fut j ∷ args) s sound e =
    let parts = and_parts (is_number j) (list_all is_sayable_arg args) e in
    (go (kept_at (kept_of c h) j) refl (ltb-true j (2 ^ 32) parts.0), settled_good h c args s sound parts.1)
  where
    go : (o : Option Answer) → kept_at (kept_of c h) j ≡ o → j < 2 ^ 32 → IsGoodArg (settled_future j o)
    go None is small = small
    go (Some (Ok v)) is small = kept_good h c j s sound is
    go (Some (Err fault)) is small = small

next_good : (h : History) (a c : ℕ) (item : RunItem) → IsGood h → IsSound h → next_item a c h ≡ Some item → AllByRecursion IsGoodArg item.args
next_good h a c item s sound e =
    let next = next_item_is a c h e in let call = calls_to-at a (calls_of c h) (ran_count c a h) next.at in
    let good = All_at IsGoodCall (calls_of c h) next.call.0 (calls_good h c s) call.at in
    subst (λ (i : RunItem). AllByRecursion IsGoodArg i.args) next.is (settled_good h c next.call.1.args s sound good.1)

good_step : (h : History) (event : Event) → is_sayable_event event ≡ true → IsGood h → IsSound h → refusal_of h event ≡ None → IsGood (add_event h event)
good_step h (Submit c a method args) sayable s sound accepted =
    let parts = and_parts (is_sayable_method method) (list_all is_sayable_arg args) sayable in
    let call : Submission = record { actor = a; method = method; args = args } in
    record {
      casts = s.casts;
      submitted = All_more (λ (call : ℕ × Submission). IsGoodCall call.1) h.submitted (c, call) s.submitted (parts.0, parts.1);
      args = s.args;
    }
good_step h (Run a c) sayable s sound accepted = go (next_item a c h) refl
  where
    go : (o : Option RunItem) → next_item a c h ≡ o → IsGood (after_run a c h o)
    go None e = s
    go (Some item) e = record {
      casts = s.casts;
      submitted = s.submitted;
      args = All_more (λ (run : ℕ × RunItem). AllByRecursion IsGoodArg run.1.args) h.ran (a, item) s.args (next_good h a c item s sound e);
    }
good_step h event sayable s sound accepted = record { casts = s.casts; submitted = s.submitted; args = s.args }

goes_good : (h : History) (events : List Event) → list_all is_sayable_event events ≡ true → IsGood h → IsSound h → IsGood (after_all h events)
goes_good h [] sayable s sound = s
goes_good h (event ∷ events) sayable s sound =
    let parts = and_parts (is_sayable_event event) (list_all is_sayable_event events) sayable in
    goes_good (after h event) events parts.1
    (after_keeps IsGood h event s (good_step h event parts.0 s sound))
    (after_keeps IsSound h event sound (sound_step h event sound))

-- ---- all of it

pub record Facts (casts : List ActorSpec) (h : History) : Type 0 where
  pub same : h.casts ≡ casts
  pub good : IsGood h
  pub sound : IsSound h
  pub named : AllNamed h
  pub few : (c : ℕ) → length (calls_of c h) ≤ 65536
  pub once : EndOnce h

same_step : (casts : List ActorSpec) → IsKept (λ (h : History). h.casts ≡ casts)
same_step casts h event s accepted = (added_grows h event).casts ∙ s

-- the facts hold of each history of roles and events that a script can write
pub facts : (roles : List Role) (events : List Event) → list_all is_sayable_role roles ≡ true → list_all is_sayable_event events ≡ true →
    Facts (map actor_spec_of roles) (history (map actor_spec_of roles) events)
facts roles events said sayable =
    let casts = map actor_spec_of roles in
    record {
      same = after_all_keeps (λ (h : History). h.casts ≡ casts) (same_step casts) (opening casts) events refl;
      good = goes_good (opening casts) events sayable (record { casts = casts_good roles said; submitted = tt; args = tt }) (world_sound casts []);
      sound = world_sound casts events;
      named = after_all_keeps AllNamed named_step (opening casts) events tt;
      few = after_all_keeps AreFew few_step (opening casts) events (λ c. omega arith);
      once = ends_once casts events;
    }

-- ---- calls and runs

-- the numbers of a caller and an actor whose cast names it
pub record AreNumbers (c a : ℕ) (h : History) : Type 0 where
  pub caller : IsCallerNumber c
  pub some : 1 ≤ a
  pub few : a ≤ 8
  pub cast : is_some (cast_of a h) ≡ true

-- in a good history an actor that has a cast has a number from 1 to 8
pub cast_good : (h : History) (a : ℕ) → IsGood h → is_some (cast_of a h) ≡ true → (1 ≤ a) × (a ≤ 8)
cast_good h a s e = go (cast_of a h) refl e
  where
    go : (o : Option ActorSpec) → cast_of a h ≡ o → is_some o ≡ true → (1 ≤ a) × (a ≤ 8)
    go None is e = absurd (cc)
    go (Some cast) is e =
        let it = found IsGoodCast (λ (cast : ActorSpec). cast.actor == a) h.casts cast s.casts is in
        let number : cast.actor ≡ a = eqb-true cast.actor a it.1 in (subst (λ n. 1 ≤ n) number it.0.some, subst (λ n. n ≤ 8) number it.0.few)

named_good : (h : History) (c a : ℕ) → IsGood h → names c (cast_of a h) ≡ true → AreNumbers c a h
named_good h c a s e = go (cast_of a h) refl e
  where
    go : (o : Option ActorSpec) → cast_of a h ≡ o → names c o ≡ true → AreNumbers c a h
    go None is e = absurd (let bad : false ≡ true = e in cc)
    go (Some cast) is e =
        let it = found IsGoodCast (λ (cast : ActorSpec). cast.actor == a) h.casts cast s.casts is in
        let there : is_some (cast_of a h) ≡ true = ap (λ o. is_some o) is in let number = cast_good h a s there in
        record { caller = all_listed IsCallerNumber cast.callers c it.0.callers e; some = number.0; few = number.1; cast = there }

-- a call that stands
pub call_numbers : (casts : List ActorSpec) (h : History) (c k : ℕ) (call : Submission) → Facts casts h → slice_get (calls_of c h) k ≡ Some call →
    AreNumbers c call.actor h
call_numbers casts h c k call f at = named_good h c call.actor f.good (named_call h c k f.named at)
