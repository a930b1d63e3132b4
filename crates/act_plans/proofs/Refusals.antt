-- What a draft knows of a step, and the first step of a plan that is refused.
use Rattle.act_plans.proofs.Common.{◌≡◌, ℕ, ◌+◌, ◌-◌, ◌≤◌, ◌<◌, Bool, true, false, not, if◌then◌else◌, nat_lt, nat_le, List, [], ◌∷◌, length, map, drop, get_or}
use Rattle.act_plans.proofs.Common.{Option, Some, None, is_some, Result, Ok, Err, refl, sym, ◌∙◌, ap, arith, length-append, OnOk, is_ok, is_err, list_all, fold}
use Rattle.act_plans.proofs.Common.{le-leb, drop_more, Method, Arg, HandleRefusal, Step, Submit, Copy, Release, Progress, nothing_done, holds, do_step}
use Rattle.act_plans.proofs.Common.{is_refused, first_bad, first_bad_from, copies_held, copy_refusal, handle_refusal, submit_refusal, is_earlier, needs-none}
use Rattle.act_plans.proofs.Common.{Handle, is_of, change_handle, new_handle, copies_in, given_of_all, with_copy, with_number, without_copy, number_refusal}
use Rattle.act_plans.proofs.Common.{or_else, copy_answer, number_answer, release_answer, copies-opened, given_of_all-opened, copies-with_number, release_copies}
use Rattle.act_plans.proofs.Common.{copy_copies, PlanChecker, IsAfter, ChecksStep}

-- ---- what was not refused

-- what an answer by its refusal says
accepted_is : {X : Type 0} (refusal : Option HandleRefusal) (value : X) → is_ok (or_else refusal value) ≡ not (is_some refusal)
accepted_is None value = refl
accepted_is (Some refusal) value = refl

ok_changes : {X : Type 0} {P : Type 0} (answer : Result X HandleRefusal) → OnOk answer P → is_ok answer ≡ true → P
ok_changes (Ok value) changes ok = changes
ok_changes (Err refusal) changes ok = absurd (cc ok)

not_err : {X : Type 0} (answer : Result X HandleRefusal) → is_err answer ≡ false → is_ok answer ≡ true
not_err (Ok value) is = refl
not_err (Err refusal) is = absurd (cc is)

none_of : {X : Type 0} (o : Option X) → true ≡ not (is_some o) → o ≡ None
none_of None is = refl
none_of (Some x) is = absurd (cc is)

submit_fine : (copies : Option ℕ) (count : ℕ) {given : ℕ} (args : List Arg) → nat_le (length args) 4 ≡ true → list_all (is_earlier count) args ≡ true →
    given ≡ count → is_some copies ≡ true → nat_lt 0 (copies_held copies) ≡ true → nat_lt given 65536 ≡ true → submit_refusal copies count args ≡ None
submit_fine copies count args few earlier same one two three =
    let below : nat_lt count 65536 ≡ true = ap (λ n. nat_lt n 65536) (sym same) ∙ three in rw (one, two, few, earlier, below) refl

-- ---- numbers given

chosen_given : (b : Bool) (one other : Handle) → one.given ≡ other.given → (if b then one else other).given ≡ other.given
chosen_given true one other same = same
chosen_given false one other same = refl

given_from : (a : ℕ) (change : Handle → Handle) → ((handle : Handle) → (change handle).given ≡ handle.given) → (n : ℕ) (handles : List Handle)
    → fold (λ sum (handle : Handle). sum + handle.given) n (change_handle a change handles) ≡ fold (λ sum (handle : Handle). sum + handle.given) n handles
given_from a change same n [] = refl
given_from a change same n (handle ∷ handles) =
    ap (λ given. fold (λ sum (handle : Handle). sum + handle.given) (n + given) (change_handle a change handles))
    (chosen_given (is_of a handle) (change handle) handle (same handle))
    ∙ given_from a change same (n + handle.given) handles

-- ---- a submission

pub submit_on : (a : ℕ) (method : Method) (args : List Arg) (old new : PlanChecker) {answer : Result ℕ HandleRefusal} → length args ≤ 4 → list_all
    (is_earlier old.count) args ≡ true → answer ≡ number_answer a old.handles → is_err answer ≡ false → OnOk answer (new.handles ≡ with_number a old.handles) →
    OnOk answer (given_of_all new.handles ≡ given_of_all old.handles + 1) → new.count ≡ old.count + 1 → ChecksStep true (Submit a method args) old new
submit_on a method args old new {answer} few earlier is ok changes counts count =
    let accepted = not_err answer ok in
    let fine : number_refusal old.handles a ≡ None = none_of _ (sym accepted ∙ ap is_ok is ∙ accepted_is (number_refusal old.handles a) _) in
    let handles = ok_changes answer changes accepted in let given = ok_changes answer counts accepted in let one = needs-none _ _ _ fine in
    let two = needs-none _ _ _ one.1 in let three = needs-none _ _ _ two.1 in
    record {
      told = λ actors p is.
          let none : submit_refusal (copies_in a old.handles) old.count args ≡ None =
          submit_fine (copies_in a old.handles) old.count args (le-leb (length args) 4 few) earlier (is.given ∙ sym is.count) one.0 two.0 three.0 in
          let same : submit_refusal (holds a actors p) (length p.submitted) args ≡ None = ap (λ copies. submit_refusal copies (length p.submitted) args)
          (sym (is.copies a)) ∙ ap (λ n. submit_refusal (copies_in a old.handles) n args) (sym is.count) ∙ none in
          sym (ap (λ refusal. not (is_some refusal)) same);
      after = λ actors p is accepted.
          let more = length-append p.submitted (record { actor = a; method = method; args = args } ∷ []) in record {
            count = omega (arith, more, count, is.count);
            given = omega (arith, more, given, is.given);
            copies = λ b. ap (copies_in b) handles ∙ copies-with_number a b old.handles ∙ is.copies b;
          };
    }

-- ---- a copy and a release

pub copy_on : (a : ℕ) (old new : PlanChecker) {answer : Result ℕ HandleRefusal} → answer ≡ copy_answer a old.handles →
    OnOk answer (new.handles ≡ with_copy a old.handles) → new.count ≡ old.count → ChecksStep (is_ok answer) (Copy a) old new
copy_on a old new {answer} is changes count =
    let says : is_ok answer ≡ not (is_some (copy_refusal (copies_in a old.handles))) =
    ap is_ok is ∙ accepted_is (copy_refusal (copies_in a old.handles)) (copies_held (copies_in a old.handles) + 1) in
    record {
      told = λ actors p after. says ∙ ap (λ copies. not (is_some (copy_refusal copies))) (after.copies a);
      after = λ actors p after accepted.
          let handles = ok_changes answer changes accepted in
          let fine : copy_refusal (holds a actors p) ≡ None =
          none_of _ (sym accepted ∙ says ∙ ap (λ copies. not (is_some (copy_refusal copies))) (after.copies a)) in record {
            count = count ∙ after.count;
            given = ap given_of_all handles ∙ given_from a (λ (handle : Handle). record handle { copies = handle.copies + 1 }) (λ _. refl) 0 old.handles ∙
                after.given;
            copies = λ b. ap (copies_in b) handles ∙ copy_copies old.handles a b actors p after.copies fine;
          };
    }

pub release_on : (a : ℕ) (old new : PlanChecker) {answer : Result (Option ℕ) HandleRefusal} → answer ≡ release_answer a old.handles →
    OnOk answer (new.handles ≡ without_copy a old.handles) → new.count ≡ old.count → ChecksStep (is_ok answer) (Release a) old new
release_on a old new {answer} is changes count = record {
  told = λ actors p after. ap is_ok is ∙ accepted_is (handle_refusal (copies_in a old.handles)) _ ∙
      ap (λ copies. not (is_some (handle_refusal copies))) (after.copies a);
  after = λ actors p after accepted.
      let handles = ok_changes answer changes accepted in record {
        count = count ∙ after.count;
        given =
            ap given_of_all handles ∙ given_from a (λ (handle : Handle). record handle { copies = handle.copies - 1 }) (λ _. refl) 0 old.handles ∙ after.given;
        copies = λ b. ap (copies_in b) handles ∙ release_copies old.handles a b actors p after.copies;
      };
}

-- ---- the first step that is refused

-- what is known after the first steps of a plan: they were accepted, and the first refused one stands among the rest
abbrev pub HasPassed : List ℕ → List Step → ℕ → PlanChecker → Type 0
HasPassed actors plan place plan_checker =
    (p : Progress) × IsAfter actors p plan_checker × (first_bad actors plan ≡ first_bad_from place actors p (drop place plan))

pub begins : (actors : List ℕ) (plan : List Step) (plan_checker : PlanChecker) → plan_checker.handles ≡ map new_handle actors → plan_checker.count ≡ 0 →
    HasPassed actors plan 0 plan_checker
begins actors plan plan_checker handles count = (
  nothing_done,
  record { count = count; given = ap given_of_all handles ∙ given_of_all-opened actors; copies = λ a. ap (copies_in a) handles ∙ copies-opened a actors },
  refl,
)

at_step : (actors : List ℕ) (plan : List Step) (place : ℕ) (step : Step) (p : Progress) → place < length plan → step ≡ get_or plan place step →
    first_bad_from place actors p (drop place plan) ≡ first_bad_from place actors p (step ∷ drop (place + 1) plan)
at_step actors plan place step p below is = ap (first_bad_from place actors p) (drop_more plan place step below ∙ ap (λ s. s ∷ drop (place + 1) plan) (sym is))

accepted_as : (b : Bool) {accepted : Bool} → accepted ≡ not b → accepted ≡ true → b ≡ false
accepted_as true told is = absurd (cc (told, is))
accepted_as false told is = refl

pub passes : (actors : List ℕ) (plan : List Step) (place : ℕ) (step : Step) (accepted : Bool) (old new : PlanChecker) → place < length plan →
    step ≡ get_or plan place step → HasPassed actors plan place old → ChecksStep accepted step old new → accepted ≡ true → HasPassed actors plan (place + 1) new
passes actors plan place step accepted old new below is passed on ok =
    let p = passed.0 in
    let same : is_refused actors p step ≡ false = accepted_as _ (on.told actors p passed.1) ok in (
      do_step p step,
      on.after actors p passed.1 ok,
      passed.2 ∙ at_step actors plan place step p below is ∙
          ap (λ b. if b then Some place else first_bad_from (place + 1) actors (do_step p step) (drop (place + 1) plan)) same,
    )
