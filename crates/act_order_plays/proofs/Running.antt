-- A run: the call is sent, brought to its actor and run, and its answer is collected where it is taken.
use Rattle.act_order_plays.proofs.Common.{◌≡◌, ℕ, ◌<◌, ◌==◌, ◌&&◌, ◌⊎◌, inl, inr, true, false, cond, List, [], ◌∷◌, ◌++◌, length, map, Some, None, slice_get}
use Rattle.act_order_plays.proofs.Common.{refl, sym, ap, subst, ◌∙◌, option_map, eq-eqb, and_from, append-nil, Letter, RunItem, Submission, calls_to, number_of}
use Rattle.act_order_plays.proofs.Common.{History, cast_of, names, is_caller, calls_of, runs_of, kept_of, ran_count, is_letter, has_letter, is_ended, run_item}
use Rattle.act_order_plays.proofs.Common.{next_item, refusal_of, add_event, and_also, after_run, call_letter, slice_get_last, added_grows, after_run_grows}
use Rattle.act_order_plays.proofs.Common.{calls_to-number, IsSound, sound_step, Happening, Outcome, Died, Open, Told, call_of, length-map, actor_of, RunsInTurn}
use Rattle.act_order_plays.proofs.Common.{kept_for, future_of, item_key, run_key, Send, Deliver, RunNext, Collect, CallLetter, ReplyPost, Submitted, Ran}
use Rattle.act_order_plays.proofs.Common.{collect_unrefused, IsIn, any_in}
use Rattle.act_order_plays.proofs.Premises.{Premises}
use Rattle.act_order_plays.proofs.Lists.{has_last, has_pushed, has_more}
use Rattle.act_order_plays.proofs.Fronts.{submits, rans, is_to, rans_of}
use Rattle.act_order_plays.proofs.Causes.{IsNext, Good, good_more, submits_more, rans_more, rans_of_more}
use Rattle.act_order_plays.proofs.Casts.{names_is, is_caller_is}
use Rattle.act_order_plays.proofs.Answering.{Suits, IsTaken, IsItem, AreItems, item_keys}
use Rattle.act_order_plays.proofs.Stands.{Leads, leads_now, leads_by, sub_of, pair_of, Agree, agree_push, IsDeath, Shape, Keeps, Stands, shape_stays}
use Rattle.act_order_plays.proofs.Stands.{keeps_stays, runs_are}
use Rattle.act_order_plays.proofs.Keeping.{call_stands, kept_gives}
use Rattle.act_order_plays.proofs.More.{death_more, rights_more, keeps_more}
use Rattle.act_order_plays.proofs.Numbering.{number_is}
use Rattle.act_order_plays.proofs.Collecting.{shape_collect, collect_answers, reply_answers}
use Rattle.act_order_plays.proofs.Sending.{no_death, alive, sendable, args_good}

-- ---- the parts of a run

-- a letter that was brought has arrived
letter_has : (c a n : ℕ) (letters : List Letter) → has_letter (CallLetter c a n) (letters ++ CallLetter c a n ∷ []) ≡ true
letter_has c a n letters = any_in (is_letter (CallLetter c a n)) (has_last letters (CallLetter c a n))
    (and_from ((c == c) && (a == a)) (n == n) (and_from (c == c) (a == a) (eq-eqb c c refl) (eq-eqb a a refl)) (eq-eqb n n refl))

item_is_next : (h : History) (c a : ℕ) {number : ℕ} {call : ℕ × Submission} → ran_count c a h ≡ number → has_letter (CallLetter c a number) h.arrived ≡ true →
    slice_get (calls_to a (calls_of c h)) number ≡ Some call → next_item a c h ≡ Some (run_item c number (kept_of c h) call)
item_is_next h c a count has at = rw (count, has, at) refl

run_fine : (h : History) (c a : ℕ) → is_caller c h ≡ true → names c (cast_of a h) ≡ true → is_ended a h ≡ false → refusal_of h (RunNext a c) ≡ None
run_fine h c a caller named lives = rw (caller, named, lives) refl

deliver_fine : (h : History) (c a n i : ℕ) → slice_get h.mail i ≡ Some (CallLetter c a n) → is_ended a h ≡ false → refusal_of h (Deliver i) ≡ None
deliver_fine h c a n i at lives = rw (at, lives) refl

items_long : (told : Told) (items : List RunItem) (ns : List ℕ) → AreItems told items ns → length items ≡ length ns
items_long told items ns are = sym (length-map items item_key) ∙ ap (λ l. length l) (item_keys told items ns are) ∙ length-map ns (run_key told)

-- whether an answer is taken
taken_or_not : (o : Outcome) → (IsTaken o) ⊎ (IsTaken o → ⊥)
taken_or_not Died = inr (λ t. t)
taken_or_not Open = inr (λ t. t)
taken_or_not o = inl tt

module _ (told : Told) (fits : Premises told) (turn : RunsInTurn told) (before : List Happening) (n : ℕ) (good : Good told before)
    (next : IsNext told before (Ran n)) (role : IsIn (actor_of told (call_of told n).actor).callers (call_of told n).caller)
    (actor : (call_of told n).actor < length told.actors) where
  abbrev c : ℕ
  c = (call_of told n).caller

  abbrev a : ℕ
  a = (call_of told n).actor

  abbrev k : ℕ
  k = future_of told n

  abbrev later : List Happening
  later = before ++ Ran n ∷ []

  was_submitted : IsIn before (Submitted n)
  was_submitted = next.causes (Submitted n) refl

  good_later : Good told later
  good_later = good_more fits turn good next

  -- ---- once it ran

  -- the run list has it last
  place_is : (items : List RunItem) → AreItems told items (rans_of told before a) → slice_get (rans_of told later a) (length items) ≡ Some n
  place_is items are =
      let passes : is_to told a n ≡ true = eq-eqb a a refl in
      let more : rans_of told later a ≡ rans_of told before a ++ n ∷ [] =
      rans_of_more told before (Ran n) a ∙ ap (λ b. rans_of told before a ++ cond b (n ∷ []) []) passes in
      let long = items_long told items (rans_of told before a) are in rw (more, long) (slice_get_last (rans_of told before a) n)

  not_death : IsDeath told later a → ⊥
  not_death death = elim (has_pushed before (Ran n) death.has) [
    | inl old ↦ no_death told fits turn before n good next role actor (record { call = death.call; has = old; died = death.died; actor = death.actor })
    | inr e ↦ absurd (cc)
  ]

  -- its answer is collected, where it is taken
  collected : (h : History) (j place : ℕ) → Shape told later h → Keeps told before h → IsTaken (call_of told n).outcome →
      slice_get h.posts j ≡ Some (ReplyPost c a place) → slice_get (rans_of told later a) place ≡ Some n → Stands told later (add_event h (Collect j))
  collected h j place shape keeps taken at there =
      let g = add_event h (Collect j) in let post = ReplyPost c a place in
      let after : Shape told later g = shape_collect told later h j post shape at (n, there, taken) in
      let has : IsIn later (Submitted n) = has_more before (Ran n ∷ []) was_submitted in
      let reply = reply_answers told later g n place after actor there in
      let first = collect_answers told later h j n post good_later after has at reply.1 in
      let mine : Suits (call_of told n).outcome (kept_for told n g) = elim (kept_gives g n good_later after has actor first.1) [
        | inl r ↦ subst (λ o. Suits (call_of told n).outcome o) (sym first.1) r.2
        | inr d ↦ absurd (not_death d.0)
      ] in
      record {
        shape = after;
        keeps = keeps_more (Ran n) (keeps_stays (added_grows h (Collect j)) shape.sound.posts keeps)
            (λ m e t. let same : n ≡ m = cc in subst (λ i. Suits (call_of told i).outcome (kept_for told i g)) same mine) (λ m e. absurd (cc));
      }

  left_open : (h : History) → Shape told later h → Keeps told before h → (IsTaken (call_of told n).outcome → ⊥) → Stands told later h
  left_open h shape keeps open_call = record {
    shape = shape;
    keeps = keeps_more (Ran n) keeps
        (λ m e t. let same : n ≡ m = cc in absurd (open_call (subst (λ i. IsTaken (call_of told i).outcome) (sym same) t))) (λ m e. absurd (cc));
  }

  -- ---- the run itself

  module _ (h : History) (stands : Stands told before h) where
    abbrev number : ℕ
    number = number_of a k (calls_of c h)

    abbrev letter : Letter
    letter = CallLetter c a number

    abbrev h1 : History
    h1 = add_event h (Send c k)

    shape1 : Shape told before h1
    shape1 = shape_stays h (record
        { casts = refl; copied = refl; released = refl; retired = refl; submitted = refl; ran = refl; collected = refl; killed = refl })
        (sound_step h (Send c k) stands.shape.sound (sendable told fits turn before n good next role actor h stands)) stands.shape

    keeps1 : Keeps told before h1
    keeps1 = keeps_stays (added_grows h (Send c k)) stands.shape.sound.posts stands.keeps

    mail1 : h1.mail ≡ h.mail ++ letter ∷ []
    mail1 = ap (λ o. and_also h.mail (option_map (λ call. call_letter c k call h) o)) (call_stands h n good stands.shape was_submitted)

    at1 : slice_get h1.mail (length h.mail) ≡ Some letter
    at1 = ap (λ letters. slice_get letters (length h.mail)) mail1 ∙ slice_get_last h.mail letter

    fine1 : refusal_of h1 (Deliver (length h.mail)) ≡ None
    fine1 = deliver_fine h1 c a number (length h.mail) at1 (alive told fits turn before n good next role actor h1 shape1)

    abbrev h2 : History
    h2 = add_event h1 (Deliver (length h.mail))

    shape2 : Shape told before h2
    shape2 = shape_stays h1 (record
        { casts = refl; copied = refl; released = refl; retired = refl; submitted = refl; ran = refl; collected = refl; killed = refl })
        (sound_step h1 (Deliver (length h.mail)) shape1.sound fine1) shape1

    keeps2 : Keeps told before h2
    keeps2 = keeps_stays (added_grows h1 (Deliver (length h.mail))) shape1.sound.posts keeps1

    arrived2 : has_letter letter h2.arrived ≡ true
    arrived2 = ap (λ o. has_letter letter (and_also h.arrived o)) at1 ∙ letter_has c a number h.arrived

    abbrev item : RunItem
    item = run_item c number (kept_of c h2) (k, sub_of told n)

    next2 : next_item a c h2 ≡ Some item
    next2 = item_is_next h2 c a (number_is told fits turn before n good next h2 shape2 was_submitted) arrived2
        (calls_to-number a (calls_of c h2) k (call_stands h2 n good shape2 was_submitted) (eq-eqb a a refl))

    fine2 : refusal_of h2 (RunNext a c) ≡ None
    fine2 = run_fine h2 c a (is_caller_is told h2 shape2.casts actor role) (names_is told h2 c a shape2.casts actor role)
        (alive told fits turn before n good next role actor h2 shape2)

    abbrev h3 : History
    h3 = after_run a c h2 (Some item)

    same3 : add_event h2 (RunNext a c) ≡ h3
    same3 = ap (λ o. after_run a c h2 o) next2

    item3 : IsItem told n item
    item3 = record { caller = refl; future = refl; method = refl; good = λ answered. args_good told fits turn before n good next role actor h2 keeps2 answered }

    shape3 : Shape told later h3
    shape3 = record {
      casts = shape2.casts;
      copied = shape2.copied;
      released = shape2.released;
      retired = shape2.retired;
      submitted = shape2.submitted ∙ ap (map (pair_of told)) (sym (submits_more before (Ran n) ∙ append-nil (submits before)));
      ran = subst (λ ns. Agree told h3.ran ns) (sym (rans_more before (Ran n))) (agree_push h2.ran (rans before) (a, item) n shape2.ran refl item3);
      collected = rights_more told before (Ran n) h2.collected shape2.collected;
      killed = λ b is. death_more (Ran n) b (shape2.killed b is);
      sound = subst IsSound same3 (sound_step h2 (RunNext a c) shape2.sound fine2);
    }

    keeps3 : Keeps told before h3
    keeps3 = keeps_stays (after_run_grows a c h2 (Some item)) shape2.sound.posts keeps2

    abbrev place3 : ℕ
    place3 = length (runs_of a h2)

    posted3 : slice_get h3.posts (length h2.posts) ≡ Some (ReplyPost c a place3)
    posted3 = slice_get_last h2.posts (ReplyPost c a place3)

    lead3 : Leads (Stands told later) h3
    lead3 = elim (taken_or_not (call_of told n).outcome) [
      | inl taken ↦ leads_by (Stands told later) h3 (Collect (length h2.posts)) (collect_unrefused h3 (length h2.posts) posted3)
          (leads_now (Stands told later) (add_event h3 (Collect (length h2.posts)))
          (collected h3 (length h2.posts) place3 shape3 keeps3 taken posted3 (place_is (runs_of a h2) (runs_are a shape2))))
      | inr open_call ↦ leads_now (Stands told later) h3 (left_open h3 shape3 keeps3 open_call)
    ]

    pub ran : Leads (Stands told later) h
    ran =
        leads_by (Stands told later) h (Send c k) (sendable told fits turn before n good next role actor h stands)
        (leads_by (Stands told later) h1 (Deliver (length h.mail)) fine1
        (leads_by (Stands told later) h2 (RunNext a c) fine2 (subst (Leads (Stands told later)) (sym same3) lead3)))
