-- A submission.
use Rattle.act_order_plays.proofs.Common.{◌≡◌, ℕ, zero, suc, ◌<◌, ◌≤◌, Bool, true, List, [], ◌∷◌, ◌++◌, length, map, Option, Some, None, slice_get, refl, sym}
use Rattle.act_order_plays.proofs.Common.{ap, subst, ◌∙◌, arith, list_all, and_from, lt-ltb, le-leb, append-nil, map-append, length-map, slice_get_within, Arg}
use Rattle.act_order_plays.proofs.Common.{Fut, Submit, is_earlier, submit_refusal, History, cast_of, names, calls_of, copies_of, limit_of, refusal_of}
use Rattle.act_order_plays.proofs.Common.{add_event, submission_refusal, added_grows, sound_step, Happening, Submitted, Told, call_of, actor_of, args_of}
use Rattle.act_order_plays.proofs.Common.{future_of, calls_by, IsIn, contains_from_in}
use Rattle.act_order_plays.proofs.Premises.{Premises}
use Rattle.act_order_plays.proofs.Lists.{front_ends}
use Rattle.act_order_plays.proofs.Fronts.{submits, rans, subs_of, has_subs_of, subs_of_has, call_at, call_before, calls_differ}
use Rattle.act_order_plays.proofs.Causes.{IsNext, Good, earlier_submitted, submits_more, rans_more}
use Rattle.act_order_plays.proofs.Casts.{cast_of_is, names_is, is_caller_is}
use Rattle.act_order_plays.proofs.Answering.{method_of}
use Rattle.act_order_plays.proofs.Stands.{Leads, leads_now, leads_by, sub_of, pair_of, Agree, Shape, Stands, keeps_stays, calls_are}
use Rattle.act_order_plays.proofs.Keeping.{sub_at}
use Rattle.act_order_plays.proofs.More.{death_more, rights_more, keeps_more}

-- a caller that a cast names holds one copy, where none was made or released
pub one_copy : (h : History) (c a : ℕ) → names c (cast_of a h) ≡ true → h.copied ≡ [] → h.released ≡ [] → copies_of c a h ≡ Some 1
one_copy h c a named copied released = rw (named, copied, released) refl

pub list_all_map : {A B : Type 0} (p : B → Bool) (f : A → B) (xs : List A) → ((x : A) → IsIn xs x → p (f x) ≡ true) → list_all p (map f xs) ≡ true
list_all_map p f [] all = refl
list_all_map p f (x ∷ xs) all = and_from (p (f x)) (list_all p (map f xs)) (all x (record { place = zero; at = refl }))
    (list_all_map p f xs (λ y has. all y (record { place = suc has.place; at = has.at })))

accept : (copies : Option ℕ) (count : ℕ) (args : List Arg) → copies ≡ Some 1 → length args ≤ 4 → list_all (is_earlier count) args ≡ true → count < 65536 →
    submit_refusal copies count args ≡ None
accept copies count args copy few earlier room = rw (copy, lt-ltb count 65536 room, le-leb (length args) 4 few, earlier) refl

-- as many calls of the caller were submitted as its next call's future says
pub count_is : (told : Told) {before : List Happening} (n : ℕ) → Premises told → Good told before → IsNext told before (Submitted n) →
    length (subs_of told before (call_of told n).caller) ≡ future_of told n
count_is told {before} n fits good next =
    let c = (call_of told n).caller in
    front_ends (subs_of told before c) (calls_by told c) (future_of told n) n (calls_differ told c) (good.calls c) (call_at told n next.happened)
    (λ has. next.fresh (has_subs_of told before n c has)) (λ j y less at. let low = call_before told n j y next.happened less at in
    subs_of_has told before y (earlier_submitted before y n fits good.closed next.happened low.0 low.1 next.causes) low.1)

pub calls_count : (told : Told) {before : List Happening} (n : ℕ) (h : History) → Premises told → Good told before → IsNext told before (Submitted n) →
    Shape told before h → length (calls_of (call_of told n).caller h) ≡ future_of told n
calls_count told {before} n h fits good next shape =
    let c = (call_of told n).caller in
    ap (λ l. length l) (calls_are told before h c shape) ∙ length-map (subs_of told before c) (sub_of told)
    ∙ count_is told n fits good next

module _ (told : Told) (fits : Premises told) (before : List Happening) (n : ℕ) (good : Good told before) (next : IsNext told before (Submitted n))
    (role : IsIn (actor_of told (call_of told n).actor).callers (call_of told n).caller) (actor : (call_of told n).actor < length told.actors) where
  abbrev c : ℕ
  c = (call_of told n).caller

  abbrev a : ℕ
  a = (call_of told n).actor

  earlier : (m : ℕ) → IsIn (call_of told n).takes m → is_earlier (future_of told n) (Fut (future_of told m)) ≡ true
  earlier m has =
      let low = fits.earlier n m next.happened (contains_from_in has) in
      let there = earlier_submitted before m n fits good.closed next.happened low.0 low.1 next.causes in
      let at : slice_get (subs_of told before c) (future_of told m) ≡ Some m =
      subst (λ d. slice_get (subs_of told before d) (future_of told m) ≡ Some m) low.1 (sub_at told m good there) in
      let short = slice_get_within (subs_of told before c) (future_of told m) m at in
      let count = count_is told n fits good next in lt-ltb (future_of told m) (future_of told n) (omega arith)

  accepted : (h : History) → Shape told before h → refusal_of h (Submit c a (method_of (call_of told n).outcome) (args_of told n)) ≡ None
  accepted h shape =
      let named = names_is told h c a shape.casts actor role in let caller = is_caller_is told h shape.casts actor role in
      let count = calls_count told n h fits good next shape in
      let few : length (args_of told n) ≤ 4 =
      (let most = fits.few_takes n next.happened in let long = length-map (call_of told n).takes (λ m. Fut (future_of told m)) in omega arith) in
      let room = fits.few_calls n next.happened in
      let free : submit_refusal (copies_of c a h) (length (calls_of c h)) (args_of told n) ≡ None =
      accept (copies_of c a h) (length (calls_of c h)) (args_of told n) (one_copy h c a named shape.copied shape.released) few
      (subst (λ k. list_all (is_earlier k) (args_of told n) ≡ true) (sym count)
      (list_all_map (is_earlier (future_of told n)) (λ m. Fut (future_of told m)) (call_of told n).takes earlier)) (omega arith) in
      let unlimited : limit_of c a h ≡ None = rw (named, cast_of_is told h shape.casts actor) refl in
      let both : submission_refusal c a (args_of told n) h ≡ None = rw (free, unlimited) refl in rw (caller, both) refl

  pub submitted : (h : History) → Stands told before h → Leads (Stands told (before ++ Submitted n ∷ [])) h
  submitted h stands =
      let event = Submit c a (method_of (call_of told n).outcome) (args_of told n) in
      let fine = accepted h stands.shape in
      leads_by (Stands told (before ++ Submitted n ∷ [])) h event fine (leads_now (Stands told (before ++ Submitted n ∷ [])) (add_event h event) (record {
        shape = record {
          casts = stands.shape.casts;
          copied = stands.shape.copied;
          released = stands.shape.released;
          retired = stands.shape.retired;
          submitted = ap (λ pairs. pairs ++ pair_of told n ∷ []) stands.shape.submitted
              ∙ sym (map-append (pair_of told) (submits before) (n ∷ [])) ∙ ap (map (pair_of told)) (sym (submits_more before (Submitted n)));
          ran = subst (λ ns. Agree told h.ran ns) (sym (rans_more before (Submitted n) ∙ append-nil (rans before))) stands.shape.ran;
          collected = rights_more told before (Submitted n) h.collected stands.shape.collected;
          killed = λ b is. death_more (Submitted n) b (stands.shape.killed b is);
          sound = sound_step h event stands.shape.sound fine;
        };
        keeps = keeps_more (Submitted n) (keeps_stays (added_grows h event) stands.shape.sound.posts stands.keeps) (λ m e. absurd (cc)) (λ m e. absurd (cc));
      }))
