-- What stands once all has happened: the calls, the run lists and the answers that are told.
use Rattle.act_order_plays.proofs.Common.{◌≡◌, ◌≢◌, ℕ, ◌<◌, ◌⊎◌, inl, inr, false, List, [], ◌∷◌, length, map, filter, Option, Some, None, slice_get, refl, sym}
use Rattle.act_order_plays.proofs.Common.{ap, subst, ◌∙◌, option_map, Contains, eqb-true, length-map, slice_get-map, RunItem, Submission, Answer, items_of}
use Rattle.act_order_plays.proofs.Common.{has_terminated, calls_to, History, calls_of, runs_of, ran_count, under, calls_to-at, map-slice_get, Retired}
use Rattle.act_order_plays.proofs.Common.{Happening, Submitted, Ran, Answered, Outcome, Run, Told, call_of, actor_of, calls_run, IsInOrderBy, kept_for}
use Rattle.act_order_plays.proofs.Common.{IsKeptFor, submission_key, call_key, item_key, run_key, casts_of, calls_by, runs_by, future_of}
use Rattle.act_order_plays.proofs.Common.{stands_in, IsIn, in_from_contains}
use Rattle.act_orders.specs.declared.told.Outcome.TheVariants as out
use Rattle.act_order_plays.proofs.Lists.{filter_has, front_has_all, below_has}
use Rattle.act_order_plays.proofs.Fronts.{is_by, subs_of, rans_of, subs_of_has, rans_of_has, calls_differ, runs_differ, is_run_of, call_at}
use Rattle.act_order_plays.proofs.Causes.{Good}
use Rattle.act_order_plays.proofs.Answering.{Suits, IsTaken, item_keys, none_terminated}
use Rattle.act_order_plays.proofs.Stands.{sub_of, Shape, Stands, runs_are, calls_are}
use Rattle.act_order_plays.proofs.Numbering.{futures_to, futures_ran, futures_differ, ran_front, ran_has, sub_call}
use Rattle.act_order_plays.proofs.Casts.{role_actor}
use Rattle.act_order_plays.proofs.Keeping.{kept_gives}
use Rattle.act_order_plays.proofs.Same.{SameLists, kept_same}
use Rattle.act_order_plays.proofs.Sending.{answer_kept}

-- what is left, but for how actors end
pub record Left (told : Told) (h : History) : Type 0 where
  pub casts : h.casts ≡ casts_of told
  pub copied : h.copied ≡ []
  pub calls : (c : ℕ) → map submission_key (calls_of c h) ≡ map (call_key told) (calls_by told c)
  pub runs : (a : ℕ) → map item_key (runs_of a h) ≡ map (run_key told) (runs_by told a)
  pub answers : (n : ℕ) → n < length told.calls → IsKeptFor (call_of told n).outcome (kept_for told n h)
  -- no actor ended itself, and one that retires ran all calls to it
  pub lasting : (a : ℕ) → has_terminated (runs_of a h) ≡ false
  pub ran_all : (c a : ℕ) → (actor_of told a).end ≡ Retired → ran_count c a h ≡ length (calls_to a (calls_of c h))

-- what is left in one history is left in another with the same casts, calls, runs, collected posts and copies made
pub left_stays : {told : Told} (h g : History) → SameLists h g → g.copied ≡ h.copied → Left told h → Left told g
left_stays {told} h g same copied left = record {
  casts = same.casts ∙ left.casts;
  copied = copied ∙ left.copied;
  calls = λ c. subst (λ all. map submission_key (under c all) ≡ map (call_key told) (calls_by told c)) (sym same.submitted) (left.calls c);
  runs = λ a. subst (λ all. map item_key (under a all) ≡ map (run_key told) (runs_by told a)) (sym same.ran) (left.runs a);
  answers = λ n lt. subst (λ kept. IsKeptFor (call_of told n).outcome kept)
      (sym (kept_same h g (call_of told n).caller (future_of told n) same)) (left.answers n lt);
  lasting = λ a. subst (λ all. has_terminated (under a all) ≡ false) (sym same.ran) (left.lasting a);
  ran_all = λ c a retired. subst (λ all. length (items_of c (under a all)) ≡ length (calls_to a (calls_of c g))) (sym same.ran)
      (subst (λ all. ran_count c a h ≡ length (calls_to a (under c all))) (sym same.submitted) (left.ran_all c a retired));
}

sub_keys : (told : Told) (ns : List ℕ) → map submission_key (map (sub_of told) ns) ≡ map (call_key told) ns
sub_keys told [] = refl
sub_keys told (n ∷ ns) = ap (λ l. call_key told n ∷ l) (sub_keys told ns)

open_or_not : (o : Outcome) → (o ≡ out.Open) ⊎ (o ≢ out.Open)
open_or_not out.Open = inl refl
open_or_not o = inr (λ e. cc)

suits_kept : (o : Outcome) (kept : Option Answer) → o ≢ out.Open → Suits o kept → IsKeptFor o kept
suits_kept out.Open kept differs suits = absurd (differs refl)
suits_kept o kept differs suits = suits

module _ (told : Told) (order : List Happening) (by : IsInOrderBy told order) (good : Good told order) where
  all_subs : (c : ℕ) → subs_of told order c ≡ calls_by told c
  all_subs c = front_has_all (subs_of told order c) (calls_by told c) (calls_differ told c) (good.calls c) (λ y has.
      let is = below_has (is_by told c) (length told.calls) has.place has.at in
      subs_of_has told order y (in_from_contains order (Submitted y) (by.causes.all (Submitted y) is.less)) (eqb-true (call_of told y).caller c is.passes))

  all_rans : (a : ℕ) → rans_of told order a ≡ runs_by told a
  all_rans a = front_has_all (rans_of told order a) (runs_by told a) (runs_differ told a by.runs) (good.runs a) (λ y has.
      let one = map-slice_get (λ (run : Run). run.call) (filter (is_run_of a) told.runs) has.place has.at in
      let run = filter_has (is_run_of a) told.runs (record { place = has.place; at = one.1 }) in
      let there : Contains (calls_run told) y =
      stands_in (calls_run told) run.0.place
      (slice_get-map (λ (r : Run). r.call) told.runs run.0.place ∙ ap (option_map (λ (r : Run). r.call)) run.0.at ∙ ap (λ k. Some k) one.2) in
      let here : (call_of told y).actor ≡ a =
      ap (λ k. (call_of told k).actor) (sym one.2) ∙ (by.runs run.0.place one.0 run.0.at).here ∙ eqb-true one.0.actor a run.1 in
      rans_of_has told order y a (in_from_contains order (Ran y) (by.causes.all (Ran y) there)) here)

  -- for an open call nothing but a death is kept
  no_value : (h : History) → Stands told order h → (n : ℕ) → n < length told.calls → (call_of told n).outcome ≡ out.Open → (kept : Option Answer) →
      kept_for told n h ≡ kept → IsKeptFor out.Open kept
  no_value h stands n lt is None e = inl refl
  no_value h stands n lt is (Some answer) e =
      let submitted = in_from_contains order (Submitted n) (by.causes.all (Submitted n) lt) in
      let actor = role_actor told (call_of told n).caller (call_of told n).actor (by.ends n lt).role in
      elim (kept_gives h n good stands.shape submitted actor e) [
        | inl r ↦ absurd (subst IsTaken is r.1)
        | inr d ↦ inr (ap (λ given. Some given) d.1)
      ]

  answers_kept : (h : History) → Stands told order h → (n : ℕ) → n < length told.calls → IsKeptFor (call_of told n).outcome (kept_for told n h)
  answers_kept h stands n lt = elim (open_or_not (call_of told n).outcome) [
    | inl e ↦ subst (λ o. IsKeptFor o (kept_for told n h)) (sym e) (no_value h stands n lt e (kept_for told n h) refl)
    | inr differs ↦ suits_kept (call_of told n).outcome (kept_for told n h) differs
        (answer_kept h n good stands.keeps (in_from_contains order (Answered n) (by.causes.all (Answered n) (lt, differs))))
  ]

  all_ran : (h : History) → Shape told order h → (c a : ℕ) → (actor_of told a).end ≡ Retired → ran_count c a h ≡ length (calls_to a (calls_of c h))
  all_ran h shape c a retired =
      let same : futures_ran c a h ≡ futures_to a (calls_of c h) =
      front_has_all (futures_ran c a h) (futures_to a (calls_of c h)) (futures_differ a (calls_of c h)) (ran_front h c a shape) (λ y has. let one =
      map-slice_get (λ (call : ℕ × Submission). call.0) (calls_to a (calls_of c h)) has.place has.at in let is = calls_to-at a (calls_of c h) has.place one.1 in
      let m = sub_call told order h c one.0.0 good shape is.at in let low = below_has (is_by told c) (length told.calls) one.0.0 m.1 in
      let caller : (call_of told m.0).caller ≡ c = eqb-true (call_of told m.0).caller c low.passes in let actor : (call_of told m.0).actor ≡ a =
      ap (λ (s : Submission). s.actor) m.2 ∙ is.actor in let ran = (by.ends m.0 low.less).retired (ap (λ b. (actor_of told b).end) actor ∙ retired) in
      let there = ran_has told order h m.0 shape (in_from_contains order (Ran m.0) (by.causes.all (Ran m.0) ran)) in let future : future_of told m.0 ≡ one.0.0 =
      calls_differ told c (future_of told m.0) one.0.0 m.0 (subst (λ d. slice_get (calls_by told d) (future_of told m.0) ≡ Some m.0) caller
      (call_at told m.0 low.less)) m.1 in subst (λ q. IsIn (futures_ran c a h) q) (future ∙ one.2) (subst (λ b. IsIn (futures_ran c b h) (future_of told m.0))
      actor (subst (λ d. IsIn (futures_ran d (call_of told m.0).actor h) (future_of told m.0)) caller there))) in
      sym (length-map (items_of c (runs_of a h)) (λ (i : RunItem). i.future)) ∙ ap (λ l. length l) same
      ∙ length-map (calls_to a (calls_of c h)) (λ (call : ℕ × Submission). call.0)

  pub left : (h : History) → Stands told order h → Left told h
  left h stands = record {
    casts = stands.shape.casts;
    copied = stands.shape.copied;
    calls = λ c. ap (λ l. map submission_key l) (calls_are told order h c stands.shape) ∙ sub_keys told (subs_of told order c)
        ∙ ap (map (call_key told)) (all_subs c);
    runs = λ a. item_keys told (runs_of a h) (rans_of told order a) (runs_are a stands.shape) ∙ ap (map (run_key told)) (all_rans a);
    answers = answers_kept h stands;
    lasting = λ a. none_terminated told (runs_of a h) (rans_of told order a) (runs_are a stands.shape);
    ran_all = all_ran h stands.shape;
  }
