-- What has happened so far in a play, and all that happens.
use Rattle.act_order_plays.proofs.Common.{◌≡◌, ◌≢◌, ℕ, ◌==◌, ◌&&◌, inl, inr, Bool, true, false, List, [], ◌∷◌, ◌++◌, length, map, nat_lt, Some, None, refl, sym}
use Rattle.act_order_plays.proofs.Common.{ap, subst, ◌∙◌, arith, append_assoc, Option, is_some, list_any, ltb-true, lt-ltb}
use Rattle.act_order_plays.proofs.Common.{Event, RunItem, Answer, ActorSpec, History, contains, calls_of, runs_of, after, after_all}
use Rattle.act_order_plays.proofs.Common.{history, runs_grow, after_keeps, IsSound, sound_step, map-slice_get, Happening, Submitted, Ran, Answered, Outcome}
use Rattle.act_order_plays.proofs.Common.{Told, call_of, calls_run, Happened, IsWhole, kept_for, future_of, history_more, IsIn}
use Rattle.act_order_plays.proofs.Common.{contains_from_in, contains_is, in_behind, in_from_contains, is_contained, any_front}
use Rattle.act_orders.specs.declared.told.Outcome.TheVariants as out
use Rattle.act_order_plays.proofs.Lists.{below, below_at, below_has, below_differ, Once, has_more}
use Rattle.act_order_plays.proofs.Fronts.{run_at}
use Rattle.act_order_plays.proofs.Left.{run_call}
use Rattle.act_order_plays.proofs.Along.{Within, within_all, kept_along, calls_along}
use Rattle.act_order_plays.proofs.Orders.{once_map, once_append, has_either, last_of, Lasts, Before}
use Rattle.act_rules.proofs.Elements.{in_map}

-- ---- what has happened

-- the calls and runs of the one history, and the answers of the other
abbrev pub Seen : Type 0
Seen = History × History

-- whether the item is the caller's call k
abbrev pub is_item : ℕ → ℕ → RunItem → Bool
is_item c k item = (item.caller == c) && (item.future == k)

-- whether a call was submitted: its caller has more calls than come before it
abbrev pub has_call : Told → History → ℕ → Bool
has_call told h n = nat_lt (future_of told n) (length (calls_of (call_of told n).caller h))

-- whether a call ran: its actor's run list has an item with its caller and its future
abbrev pub has_run : Told → History → ℕ → Bool
has_run told h n = list_any (is_item (call_of told n).caller (future_of told n)) (runs_of (call_of told n).actor h)

-- whether the caller of a call keeps an answer for it
abbrev pub has_answer : Told → History → ℕ → Bool
has_answer told h n = is_some (kept_for told n h)

-- whether a happening came so far: a call or a run by the one history, an answer by the other
abbrev pub has_in : Told → Seen → Happening → Bool
has_in told seen (Submitted n) = has_call told seen.0 n
has_in told seen (Ran n) = has_run told seen.0 n
has_in told seen (Answered n) = has_answer told seen.1 n

-- at each event first the calls and the runs, and then the answers
abbrev pub states : History → List Event → List Seen
states h [] = []
states h (event ∷ events) = (after h event, h) ∷ ((after h event, after h event) ∷ states (after h event) events)

-- ---- all that happens

abbrev pub is_told : Outcome → Bool
is_told out.Open = false
is_told outcome = true

told_is : (outcome : Outcome) → is_told outcome ≡ true → outcome ≢ out.Open
told_is out.Open is = absurd (cc)
told_is outcome is = λ e. cc

is_told_of : (outcome : Outcome) → outcome ≢ out.Open → is_told outcome ≡ true
is_told_of out.Open differs = absurd (differs refl)
is_told_of outcome differs = refl

abbrev any_call : ℕ → Bool
any_call n = true

abbrev submitted_all : Told → List Happening
submitted_all told = map (λ n. Submitted n) (below any_call (length told.calls))

abbrev ran_all : Told → List Happening
ran_all told = map (λ n. Ran n) (below (λ n. contains n (calls_run told)) (length told.calls))

abbrev answered_all : Told → List Happening
answered_all told = map (λ n. Answered n) (below (λ n. is_told (call_of told n).outcome) (length told.calls))

abbrev pub every : Told → List Happening
every told = submitted_all told ++ (ran_all told ++ answered_all told)

pub every_once : (told : Told) → Once (every told)
every_once told =
    once_append (submitted_all told) (ran_all told ++ answered_all told)
    (once_map (λ n. Submitted n) _ (λ x y e. cc) (below_differ any_call (length told.calls)))
    (once_append (ran_all told) (answered_all told) (once_map (λ n. Ran n) _ (λ x y e. cc) (below_differ (λ n. contains n (calls_run told))
    (length told.calls))) (once_map (λ n. Answered n) _ (λ x y e. cc) (below_differ (λ n. is_told (call_of told n).outcome) (length told.calls)))
    (λ x one two.
    let first = map-slice_get (λ n. Ran n) _ one.place one.at in let second = map-slice_get (λ n. Answered n) _ two.place two.at in
    let bad : Ran first.0 ≡ Answered second.0 = first.2 ∙ sym second.2 in cc))
    (λ x one two.
    let first = map-slice_get (λ n. Submitted n) _ one.place one.at in
    elim (has_either (ran_all told) (answered_all told) x two) [
      | inl h ↦
          let second = map-slice_get (λ n. Ran n) _ h.place h.at in let bad : Submitted first.0 ≡ Ran second.0 = first.2 ∙ sym second.2 in cc
      | inr h ↦
          let second = map-slice_get (λ n. Answered n) _ h.place h.at in
          let bad : Submitted first.0 ≡ Answered second.0 = first.2 ∙ sym second.2 in cc
    ])

pub every_has : (told : Told) (x : Happening) → IsWhole told → Happened told x → IsIn (every told) x
every_has told (Submitted n) whole lt =
    has_more (submitted_all told) (ran_all told ++ answered_all told)
    (in_map (λ n. Submitted n) (record { place = _; at = below_at any_call (length told.calls) n lt refl }))
every_has told (Ran n) whole ran =
    let run = run_at told n ran in
    in_behind (submitted_all told) (ran_all told ++ answered_all told) (has_more (ran_all told) (answered_all told)
    (in_map (λ n. Ran n) (record {
      place = _;
      at = below_at (λ n. contains n (calls_run told)) (length told.calls) n (run_call told n run.0 run.1 whole run.2)
          (is_contained n (calls_run told) (in_from_contains (calls_run told) n ran));
    })))
every_has told (Answered n) whole answered =
    in_behind (submitted_all told) (ran_all told ++ answered_all told) (in_behind (ran_all told) (answered_all told)
    (in_map (λ n. Answered n) (record {
      place = _;
      at = below_at (λ n. is_told (call_of told n).outcome) (length told.calls) n answered.0 (is_told_of (call_of told n).outcome answered.1);
    })))

pub every_happened : (told : Told) (x : Happening) → IsIn (every told) x → Happened told x
every_happened told x has = elim (has_either (submitted_all told) (ran_all told ++ answered_all told) x has) [
  | inl h ↦
      let one = map-slice_get (λ n. Submitted n) _ h.place h.at in subst (Happened told) one.2 (below_has any_call (length told.calls) h.place one.1).less
  | inr rest ↦ elim (has_either (ran_all told) (answered_all told) x rest) [
    | inl h ↦
        let one = map-slice_get (λ n. Ran n) _ h.place h.at in
        let is = below_has (λ n. contains n (calls_run told)) (length told.calls) h.place one.1 in
        subst (Happened told) one.2 (contains_from_in (contains_is one.0 (calls_run told) is.passes))
    | inr h ↦
        let one = map-slice_get (λ n. Answered n) _ h.place h.at in
        let is = below_has (λ n. is_told (call_of told n).outcome) (length told.calls) h.place one.1 in
        subst (Happened told) one.2 (is.less, told_is (call_of told one.0).outcome is.passes)
  ]
]

-- ---- what has happened stays so

pub call_lasts : (told : Told) (h g : History) (n : ℕ) → Within h g → has_call told h n ≡ true → has_call told g n ≡ true
call_lasts told h g n way has =
    let c = (call_of told n).caller in let less = ltb-true (future_of told n) (length (calls_of c h)) has in let long = calls_along c way.grows in
    lt-ltb (future_of told n) (length (calls_of c g)) (omega arith)

pub run_lasts : (told : Told) (h g : History) (n : ℕ) → Within h g → has_run told h n ≡ true → has_run told g n ≡ true
run_lasts told h g n way has = let a = (call_of told n).actor in any_front _ (runs_of a h) (runs_of a g) (runs_grow a way.grows) has

pub answer_lasts : (told : Told) {h : History} (g : History) (n : ℕ) → Within h g → has_answer told h n ≡ true → has_answer told g n ≡ true
answer_lasts told {h} g n way has = go (kept_for told n h) refl has
  where
    go : (o : Option Answer) → kept_for told n h ≡ o → is_some o ≡ true → has_answer told g n ≡ true
    go None e is = absurd (cc)
    go (Some answer) e is = ap (λ o. is_some o) (kept_along h g (call_of told n).caller (future_of told n) way e)

acts_last : (told : Told) (h g k : History) (x : Happening) → Within h g → has_in told (h, k) x ≡ true → has_in told (g, k) x ≡ true
acts_last told h g k (Submitted n) way has = call_lasts told h g n way has
acts_last told h g k (Ran n) way has = run_lasts told h g n way has
acts_last told h g k (Answered n) way has = has

answers_last : (told : Told) (h g k : History) (x : Happening) → Within h g → has_in told (k, h) x ≡ true → has_in told (k, g) x ≡ true
answers_last told h g k (Answered n) way has = answer_lasts told g n way has
answers_last told h g k x way has = has

pub all_lasts : (told : Told) (h : History) (events : List Event) → IsSound h → Lasts (has_in told) (every told) (h, h) (states h events)
all_lasts told h [] sound = tt
all_lasts told h (event ∷ events) sound =
    let g = after h event in let way : Within h g = within_all (event ∷ []) sound in
    let rest = all_lasts told g events (after_keeps IsSound h event sound (sound_step h event sound)) in
    ((λ x has. acts_last told h g h x way has), ((λ x has. answers_last told h g g x way has), rest))

pub last_is : (told : Told) (h : History) (events : List Event) →
    last_of (has_in told) (every told) (h, h) (states h events) ≡ (after_all h events, after_all h events)
last_is told h [] = refl
last_is told h (event ∷ events) = last_is told (after h event) events

-- ---- what comes before at each event

pub record IsCaused (told : Told) (y x : Happening) (h g : History) : Type 0 where
  pub acts : has_in told (h, h) x ≡ false → has_in told (g, h) x ≡ true → has_in told (h, h) y ≡ true
  pub answers : has_in told (g, h) x ≡ false → has_in told (g, g) x ≡ true → has_in told (g, h) y ≡ true

abbrev pub IsCausedAt : Told → Happening → Happening → List ActorSpec → List Event → Type 0
IsCausedAt told y x casts events = (first : List Event) (event : Event) (later : List Event) → first ++ event ∷ later ≡ events →
    IsCaused told y x (history casts first) (after (history casts first) event)

pub all_before : (told : Told) (y x : Happening) (casts : List ActorSpec) (first events : List Event) → IsCausedAt told y x casts (first ++ events) →
    Before (has_in told) (every told) y x (history casts first, history casts first) (states (history casts first) events)
all_before told y x casts first [] caused = tt
all_before told y x casts first (event ∷ events) caused =
    let one = caused first event events refl in
    let more : IsCausedAt told y x casts ((first ++ event ∷ []) ++ events) =
    subst (IsCausedAt told y x casts) (sym (append_assoc first (event ∷ []) events)) caused in
    let rest = all_before told y x casts (first ++ event ∷ []) events more in
    (one.acts, (one.answers, subst (λ g. Before (has_in told) (every told) y x (g, g) (states g events)) (history_more casts first event) rest))
