-- Each call ran as it was submitted, with its arguments as the kept answers settle them.
use Rattle.act_rules.proofs.Common.{◌≡◌, ℕ, zero, suc, ◌+◌, Bool, true, false, cond, List, [], ◌∷◌, Some, None, refl, ap, sym, ◌∙◌, subst, arith, Option, ◌==◌}
use Rattle.act_rules.proofs.Common.{filter, slice_get, option_map, AllByRecursion, list_all, enumerate_from, eqb-true, RunItem, Event, Run, Submission}
use Rattle.act_rules.proofs.Common.{calls_to, is_known, IsAsSubmitted, History, calls_of, kept_of, ran_count, next_item, add_event, after_run, CallLetter}
use Rattle.act_rules.proofs.Lists.{slice_get_front, slice_get-enumerate_from, All_more, All_weaker}
use Rattle.act_rules.proofs.Growth.{Grows, added_grows, after_run_grows, calls_grow}
use Rattle.act_rules.proofs.Posts.{PostsAreSound}
use Rattle.act_rules.proofs.Settling.{arguments_stay}
use Rattle.act_rules.proofs.Letters.{LettersAreSound, IsSoundLetter, kept_extends, has_letter-sound}
use Rattle.act_rules.proofs.Order.{IsNext, next_item_is}

-- ---- places in a filtered, numbered list

pub record IsPlaceOf {A : Type 0} (p : A → Bool) (xs : List A) (x : A) : Type 0 where
  pub place : ℕ
  pub at : slice_get xs place ≡ Some x
  pub passes : p x ≡ true

-- what stands in a filtered list stands in the list, and passes
pub filter-slice_get : {A : Type 0} (p : A → Bool) (xs : List A) (n : ℕ) {x : A} → slice_get (filter p xs) n ≡ Some x → IsPlaceOf p xs x
filter-slice_get p [] n e = cc
filter-slice_get {A = A} p (y ∷ xs) n {x} e = go (p y) refl n (λ m. filter-slice_get p xs m {x = x}) e
  where
    later : IsPlaceOf p xs x → IsPlaceOf p (y ∷ xs) x
    later r = record { place = suc r.place; at = r.at; passes = r.passes }

    go : (b : Bool) → p y ≡ b → (n : ℕ) → ((m : ℕ) → slice_get (filter p xs) m ≡ Some x → IsPlaceOf p xs x) →
        slice_get (cond b (y ∷ filter p xs) (filter p xs)) n ≡ Some x → IsPlaceOf p (y ∷ xs) x
    go true passes zero rest e = let same : y ≡ x = cc in record { place = zero; at = e; passes = ap p (sym same) ∙ passes }
    go true passes (suc m) rest e = later (rest m e)
    go false passes n rest e = later (rest n e)

-- whether a numbered call is to this actor
abbrev pub goes_to : ℕ → ℕ × Submission → Bool
goes_to a call = call.1.actor == a

pub record IsCallTo (a : ℕ) (calls : List Submission) (call : ℕ × Submission) : Type 0 where
  pub at : slice_get calls call.0 ≡ Some call.1
  pub actor : call.1.actor ≡ a

-- a call to an actor stands at its future, and is to that actor
pub calls_to-at : (a : ℕ) (calls : List Submission) (n : ℕ) {call : ℕ × Submission} → slice_get (calls_to a calls) n ≡ Some call → IsCallTo a calls call
calls_to-at a calls n {call} e =
    let place = filter-slice_get (goes_to a) (enumerate_from 0 calls) n e in
    go place.place (slice_get calls place.place) refl (sym (slice_get-enumerate_from 0 calls place.place) ∙ place.at) (eqb-true call.1.actor a place.passes)
  where
    go : (k : ℕ) (o : Option Submission) → slice_get calls k ≡ o → option_map (λ x. (0 + k, x)) o ≡ Some call → call.1.actor ≡ a → IsCallTo a calls call
    go k None at e to = cc
    go k (Some x) at e to =
        let pair : (0 + k, x) ≡ call = cc in let zero_add : 0 + k ≡ k = omega arith in
        let first : call.0 ≡ k = sym (ap (λ (p : ℕ × Submission). p.0) pair) ∙ zero_add in
        let second : x ≡ call.1 = ap (λ (p : ℕ × Submission). p.1) pair in record { at = rw (first, ← second) at; actor = to }

-- ---- each item

abbrev pub IsSubmitted : History → ℕ × RunItem → Type 0
IsSubmitted h run = IsAsSubmitted (λ c. calls_of c h) (λ c. kept_of c h) run.1

abbrev pub AreSubmitted : History → Type 0
AreSubmitted h = AllByRecursion (IsSubmitted h) h.ran

submitted_grows : (h g : History) → Grows h g → PostsAreSound h → (run : ℕ × RunItem) → IsSubmitted h run → IsSubmitted g run
submitted_grows h g grows s run r =
    let c = run.1.caller in
    let both = arguments_stay (kept_of c h) (kept_of c g) (kept_extends c grows s) r.call.args r.known in
    record {
      call = r.call;
      at = slice_get_front (calls_of c h) (calls_of c g) run.1.future (calls_grow c grows) r.at;
      method = r.method;
      known = both.0;
      args = r.args ∙ sym both.1;
    }

-- the next item is as it was submitted
next_submitted : (a c : ℕ) (h : History) (item : RunItem) → LettersAreSound h → IsNext a c h item → IsSubmitted h (a, item)
next_submitted a c h item l next = subst (λ i. IsSubmitted h (a, i)) next.is (record {
  call = next.call.1;
  at = (calls_to-at a (calls_of c h) (ran_count c a h) next.at).at;
  method = refl;
  known = known;
  args = refl;
})
  where
    letter : IsSoundLetter h (CallLetter c a (ran_count c a h))
    letter = has_letter-sound (IsSoundLetter h) (CallLetter c a (ran_count c a h)) h.arrived l.arrived next.arrived

    same : letter.0 ≡ next.call
    same = let e : Some letter.0 ≡ Some next.call = sym letter.1 ∙ next.at in cc

    known : list_all (is_known (kept_of c h)) next.call.1.args ≡ true
    known = subst (λ (call : ℕ × Submission). list_all (is_known (kept_of c h)) call.1.args ≡ true) same letter.2

submitted_stay : (h g : History) → Grows h g → PostsAreSound h → AreSubmitted h → AllByRecursion (IsSubmitted g) h.ran
submitted_stay h g grows s r = All_weaker (IsSubmitted h) (IsSubmitted g) h.ran (submitted_grows h g grows s) r

pub submitted_step : (h : History) (event : Event) → PostsAreSound h → LettersAreSound h → AreSubmitted h → AreSubmitted (add_event h event)
submitted_step h (Run a c) s l r = go (next_item a c h) refl
  where
    go : (o : Option RunItem) → next_item a c h ≡ o → AreSubmitted (after_run a c h o)
    go None e = r
    go (Some item) e =
        let grows = after_run_grows a c h (Some item) in
        All_more (IsSubmitted (after_run a c h (Some item))) h.ran (a, item) (submitted_stay h _ grows s r)
        (submitted_grows h _ grows s (a, item) (next_submitted a c h item l (next_item_is a c h e)))
submitted_step h event s l r = submitted_stay h _ (added_grows h event) s r
