-- What the play does next and the walk didn't do yet may be done in the walk.
use Rattle.act_told_ends.proofs.Common.{◌≡◌, ℕ, zero, suc, ◌+◌, ◌-◌, ◌<◌, ◌≤◌, Bool, true, false, cond, List, [], ◌∷◌, ◌++◌, length, take, Option, Some, None}
use Rattle.act_told_ends.proofs.Common.{inl, inr, ◌⊎◌, refl, ap, sym, ◌∙◌, subst, arith, ◌||◌, not, map, slice_get, option_map, is_some, list_all, list_any}
use Rattle.act_told_ends.proofs.Common.{cases_lt, nat_lt, nat_tests, slice_get_within, Arg, Method, Settled, Letter, RunItem, Submission, Step, Submit, Kill}
use Rattle.act_told_ends.proofs.Common.{NoCaller, Sending, SubmitRefusal, has_terminated, calls_to, kept_at, is_known, settle, needs, send_refusal}
use Rattle.act_told_ends.proofs.Common.{submit_refusal, limit_refusal, handle_refusal, ActorSpec, History, contains, names, cast_of, is_caller, count_pairs}
use Rattle.act_told_ends.proofs.Common.{calls_of, copies_of, limit_of, runs_of, kept_of, is_dead, is_retired, is_ended, has_letter, ran_count, next_item}
use Rattle.act_told_ends.proofs.Common.{items_of, refusal_of, add_event, unanswered, letter_actor, was_sent, deliver_refusal, under-push, eq-eqb}
use Rattle.act_told_ends.proofs.Common.{slice_get_front, slice_get_last, calls_to_grow, option_map-none, option_or-none, option_or-none_second, needs-none}
use Rattle.act_told_ends.proofs.Common.{run_needs, copies_named, arguments_stay, calls_to-at, limit_of-same, IsPrefix, At, steps_of, next_step, MayTake}
use Rattle.act_told_ends.proofs.Common.{is_kill_of, option_or, nat_le, is_earlier, copies_held, CallLetter, SubmitRefused, Handle, NoSuchActor, NoCopy}
use Rattle.act_told_ends.proofs.Common.{TooManyArgs, BadFuture, TooManyCalls, IsWorld, world, take_needs, or_right, either_of, not_so, IsReady, ready}
use Rattle.act_told_ends.proofs.Common.{front_short, next_unanswered, IsAlike, may_take, Told, IsWalk, MayGoOn, Calls, Asks, Steps, Sends, Delivers, Runs}
use Rattle.act_told_ends.proofs.Common.{TakesKill, letter_of, letter_place, front_whole}
use Rattle.act_rules.specs.declared.event.Event.TheVariants as event
use Rattle.act_rules.proofs.Ended.{not_terminated}
use Rattle.act_rules.proofs.Retired.{submit_needs}
use Rattle.act_told_ends.proofs.Lists.{fronts_same}
use Rattle.act_told_ends.proofs.Later.{IsLater}
use Rattle.act_told_ends.proofs.Covered.{IsAt, calls_told, calls_covered, runs_covered, kept_covered, cast_same, caller_same, bound_alike}

-- a walk, and the play that it is held against
pub record Case : Type 0 where
  pub casts : List ActorSpec
  pub bound : ℕ → Option (List Step)
  pub told : Told
  pub done : ℕ → ℕ
  pub plans : ℕ → List Step
  pub late : At
  pub g : History

-- the play is there, on its way to the end that is told, and the walk did all that it did so far
abbrev pub Here : Case → At → Type 0
Here x p = IsAt x.casts x.bound x.told x.done x.plans x.late x.g p

-- the walk may go on
abbrev pub Goal : Case → Type 0
Goal x = MayGoOn x.bound x.told x.done x.g

-- ---- who lives in the walk

pub none_retired : (x : Case) (a : ℕ) → IsWalk x.bound x.told x.done x.g → is_retired a x.g ≡ false
none_retired x a walk = ap (contains a) walk.live

lives : (x : Case) (a : ℕ) → IsWalk x.bound x.told x.done x.g → is_dead a x.g ≡ false → is_ended a x.g ≡ false
lives x a walk dead = ap (λ b. b || is_retired a x.g) dead ∙ none_retired x a walk

-- an actor that is told to run more isn't dead
runs_more : (x : Case) (p : At) (b : ℕ) (item : RunItem) → IsWalk x.bound x.told x.done x.g → runs_of b x.g ≡ runs_of b p.history
    → slice_get (x.told.runs b) (length (runs_of b x.g)) ≡ Some item → is_ended b p.history ≡ false → is_ended b x.g ≡ false
runs_more x p b item walk same there live = lives x b walk (ap (λ y. y || has_terminated (runs_of b x.g)) (not_killed (contains b x.g.killed) refl)
    ∙ ap has_terminated same ∙ not_terminated b p.history live)
  where
    not_killed : (y : Bool) → contains b x.g.killed ≡ y → contains b x.g.killed ≡ false
    not_killed false e = e
    not_killed true e =
        let within : length (runs_of b x.g) < length (runs_of b x.g) =
        slice_get_within (runs_of b x.g) (length (runs_of b x.g)) item
        (ap (λ items. slice_get items (length (runs_of b x.g))) (walk.last b e) ∙ there) in
        absurd (omega (arith, within))

-- ---- a run

pub may_deliver : (letter : Letter) (g : History) → is_ended (letter_actor letter) g ≡ false → deliver_refusal (Some letter) g ≡ None
may_deliver letter g live = rw live refl

pub run_goes : (x : Case) (p : At) (b c : ℕ) (item : RunItem) → Here x p → refusal_of p.history (event.Run b c) ≡ None → next_item b c p.history ≡ Some item →
    slice_get (x.told.runs b) (length (runs_of b p.history)) ≡ Some item → runs_of b x.g ≡ runs_of b p.history → Goal x
run_goes x p b c item at may e told same = letters (has_letter (letter_of b item) g.arrived) (has_letter (letter_of b item) g.mail) refl refl
  where
    h : History
    h = p.history

    g : History
    g = x.g

    n : ℕ
    n = ran_count c b h

    w : IsWorld x.casts h
    w = world x.casts x.plans p at.play

    is : IsReady b c h item
    is = ready b c h item w.sound e

    call : ℕ × Submission
    call = is.next.call

    needed : (is_caller c h ≡ true) × (names c (cast_of b h) ≡ true) × (is_ended b h ≡ false)
    needed = run_needs h b c may

    there : slice_get (x.told.runs b) (length (runs_of b g)) ≡ Some item
    there = ap (λ items. slice_get (x.told.runs b) (length items)) same ∙ told

    live : is_ended b g ≡ false
    live = runs_more x p b item at.setting.walk same there needed.2

    caller : item.caller ≡ c
    caller = ap (λ (i : RunItem). i.caller) (sym is.next.is)

    future : item.future ≡ call.0
    future = ap (λ (i : RunItem). i.future) (sym is.next.is)

    letter : letter_of b item ≡ CallLetter c b n
    letter = ap (λ d. CallLetter d b item.number) caller ∙ ap (CallLetter c b) (ap (λ (i : RunItem). i.number) (sym is.next.is))

    count : ran_count c b g ≡ n
    count = ap (λ items. length (items_of c items)) same

    stands : slice_get (calls_to b (calls_of c g)) n ≡ Some call
    stands = slice_get_front (calls_to b (calls_of c h)) (calls_to b (calls_of c g)) n
        (calls_to_grow b (calls_of c h) (calls_of c g) (calls_covered x.g p c at)) is.next.at

    mine : slice_get (calls_of c g) call.0 ≡ Some call.1
    mine = (calls_to-at b (calls_of c g) n stands).at

    settled : (list_all (is_known (kept_of c g)) call.1.args ≡ true) × (map (settle (kept_of c g)) call.1.args ≡ map (settle (kept_of c h)) call.1.args)
    settled = arguments_stay (kept_of c h) (kept_of c g) (kept_covered p c at) call.1.args is.known

    unanswered_yet : kept_at (kept_of c g) call.0 ≡ None
    unanswered_yet = next_unanswered g b c at.setting.world.sound (ap (λ m. slice_get (calls_to b (calls_of c g)) m) count ∙ stands) live

    known_caller : is_caller c g ≡ true
    known_caller = caller_same c w at.setting.world ∙ needed.0

    named : names c (cast_of b g) ≡ true
    named = ap (λ o. names c o) (cast_same b w at.setting.world) ∙ needed.1

    with_args : List Settled → RunItem
    with_args args = record { caller = c; number = n; future = call.0; method = call.1.method; args = args }

    runs_next : has_letter (letter_of b item) g.arrived ≡ true → next_item b c g ≡ Some item
    runs_next indeed =
        let arrived : has_letter (CallLetter c b n) g.arrived ≡ true = subst (λ l. has_letter l g.arrived ≡ true) letter indeed in
        rw (count, arrived, stands) (ap (λ i. Some i) (ap with_args settled.1) ∙ ap (λ i. Some i) is.next.is)

    may_run : refusal_of g (event.Run b c) ≡ None
    may_run = rw (known_caller, named, live) refl

    allowed : {b : Bool} (sent : Bool) {o : Option Submission} → b ≡ true → o ≡ Some call.1
        → needs b NoCaller (option_map Sending (send_refusal (kept_of c g) call.0 sent o)) ≡ None
    allowed sent {o} caller at =
        let known = settled.0 in
        let free : (sent || not (is_some (kept_at (kept_of c g) call.0))) ≡ true =
        or_right sent _ (ap (λ o. not (is_some o)) unanswered_yet) in
        rw (caller, at, known, free) refl

    may_send : refusal_of g (event.Send c call.0) ≡ None
    may_send = allowed (was_sent c call.0 (slice_get (calls_of c g) call.0) g) known_caller mine

    letters : (y z : Bool) → has_letter (letter_of b item) g.arrived ≡ y → has_letter (letter_of b item) g.mail ≡ z → Goal x
    letters true z indeed mailed = Runs b item there (subst (λ d. next_item b d g ≡ Some item) (sym caller) (runs_next indeed))
        (subst (λ d. refusal_of g (event.Run b d) ≡ None) (sym caller) may_run)
    letters false true never mailed =
        let place = letter_place (letter_of b item) g.mail mailed in
        Delivers b place.0 item there never place.1 (ap (λ o. deliver_refusal o g) place.1 ∙ may_deliver (letter_of b item) g live)
    letters false false never unsent = Sends b item there unsent
        (subst (λ d. refusal_of g (event.Send d item.future) ≡ None) (sym caller) (subst (λ k. refusal_of g (event.Send c k) ≡ None) (sym future) may_send))

-- ---- a kill

pub kill_goes : (x : Case) (p : At) (a : ℕ) → Here x p → refusal_of p.history (event.TakeKill a) ≡ None → x.told.dead a ≡ true
    → x.told.runs a ≡ runs_of a p.history → is_dead a x.g ≡ false → Goal x
kill_goes x p a at may dead last alive =
    let w = world x.casts x.plans p at.play in let needed = take_needs p.history a may in
    let cast : is_some (cast_of a x.g) ≡ true =
    ap (λ o. is_some o) (cast_same a w at.setting.world) ∙ needed.0 in
    let live = lives x a at.setting.walk alive in
    let asked = either_of (contains a x.g.asked) (is_dead a x.g) (contains a x.g.asked ≡ true) (at.covered.asked a needed.2 dead) (λ e. e)
    (λ gone. absurd (not_so gone alive)) in
    let short = front_short (runs_of a p.history) (runs_of a x.g) (runs_covered a at) in
    TakesKill a dead
    (front_whole (runs_of a x.g) (x.told.runs a) (at.setting.walk.runs a) (subst (λ items. length items ≤ length (runs_of a x.g)) (sym last) short))
    (rw (cast, live, asked) refl)

-- ---- a caller that isn't bound

-- a caller that its cast names holds some copies, or none
pub has_copies : (c a : ℕ) (h : History) → names c (cast_of a h) ≡ true → (n : ℕ) × (copies_of c a h ≡ Some n)
has_copies c a h named = ((1 + count_pairs c a h.copied) - count_pairs c a h.released, rw named refl)

with_copy : (b : Bool) (o : Option ℕ) (n count : ℕ) (args : List Arg) (limit : Option SubmitRefusal)
    → needs b NoCaller (option_map SubmitRefused (option_or (submit_refusal o count args) limit)) ≡ None
    → needs b NoCaller (option_map SubmitRefused (option_or (submit_refusal (Some (suc n)) count args) limit)) ≡ None
with_copy b o n count args limit e =
    let rest : Option SubmitRefusal =
    needs (nat_le (length args) 4) TooManyArgs (needs (list_all (is_earlier count) args) BadFuture (needs (nat_lt count 65536) TooManyCalls None)) in
    let copied : submit_refusal o count args ≡ None → submit_refusal (Some (suc n)) count args ≡ None =
    λ e. let first = needs-none (is_some o) NoSuchActor (needs (nat_lt 0 (copies_held o)) NoCopy rest) e in
    let second = needs-none (nat_lt 0 (copies_held o)) NoCopy rest first.1 in
    let some : nat_lt 0 (suc n) ≡ true = grind (arith, nat_tests) in
    rw some second.1 in
    let known = needs-none b NoCaller (option_map SubmitRefused (option_or (submit_refusal o count args) limit)) e in
    let none = option_map-none SubmitRefused (option_or (submit_refusal o count args) limit) known.1 in
    let own = option_or-none (submit_refusal o count args) limit none in
    let limited = option_or-none_second (submit_refusal o count args) limit none in
    let one = known.0 in let two = copied own in rw (one, two, limited) refl

-- the walk with the handles of the play
abbrev held_as : History → History → History
held_as h g = record g { copied = h.copied; released = h.released }

may_submit : (x : Case) (p : At) (c a n : ℕ) (method : Method) (args : List Arg) → Here x p → refusal_of p.history (event.Submit c a method args) ≡ None
    → calls_of c x.g ≡ calls_of c p.history → copies_of c a x.g ≡ Some (suc n) → refusal_of x.g (event.Submit c a method args) ≡ None
may_submit x p c a n method args at may same holds =
    let h = p.history in let g = x.g in let w : IsWorld x.casts h = world x.casts x.plans p at.play in
    let casts : g.casts ≡ h.casts = at.setting.world.casts ∙ sym w.casts in
    let alike : IsAlike c h (held_as h g) =
    record {
      caller = caller_same c w at.setting.world;
      calls = same;
      copies = λ b. ap (λ o. cond (names c o) (Some ((1 + count_pairs c b h.copied) - count_pairs c b h.released)) None) (cast_same b w at.setting.world);
      limit = λ b. limit_of-same h g c b casts;
    } in
    ap (λ o. needs (is_caller c g) NoCaller (option_map SubmitRefused (option_or (submit_refusal o (length (calls_of c g)) args)
    (limit_refusal (limit_of c a g) (unanswered c a g))))) holds
    ∙ with_copy (is_caller c g) (copies_of c a (held_as h g)) n (length (calls_of c g)) args (limit_refusal (limit_of c a g) (unanswered c a g))
    (may_take c (Submit a method args) h (held_as h g) alike (kept_covered p c at) may)

pub submits : (x : Case) (p : At) (c a : ℕ) (method : Method) (args : List Arg) → Here x p → x.bound c ≡ None
    → refusal_of p.history (event.Submit c a method args) ≡ None → IsLater (add_event p.history (event.Submit c a method args)) x.late.history
    → (length (calls_of c p.history) + 1 ≤ length (calls_of c x.g)) ⊎ Goal x
submits x p c a method args at free may later = go (cases_lt (length (calls_of c p.history)) (length (calls_of c x.g)))
  where
    h : History
    h = p.history

    g : History
    g = x.g

    call : Submission
    call = record { actor = a; method = method; args = args }

    w : IsWorld x.casts h
    w = world x.casts x.plans p at.play

    after : calls_of c (add_event h (event.Submit c a method args)) ≡ calls_of c h ++ call ∷ []
    after = under-push c c h.submitted call ∙ ap (λ b. calls_of c h ++ cond b (call ∷ []) []) (eq-eqb c c refl)

    there : slice_get (x.told.calls c) (length (calls_of c h)) ≡ Some call
    there = slice_get_front (calls_of c (add_event h (event.Submit c a method args))) (x.told.calls c) (length (calls_of c h))
        (subst (λ calls. IsPrefix (calls_of c (add_event h (event.Submit c a method args))) calls) (at.setting.end.leaves.calls c) (later.calls c))
        (ap (λ calls. slice_get calls (length (calls_of c h))) after ∙ slice_get_last (calls_of c h) call)

    named : names c (cast_of a g) ≡ true
    named = ap (λ o. names c o) (cast_same a w at.setting.world) ∙ copies_named c a h (submit_needs h c a method args may).0

    copies : length (calls_of c g) ≤ length (calls_of c h) → (n : ℕ) × (copies_of c a g ≡ Some n) → Goal x
    copies short (zero, holds) =
        let all = at.setting.walk.holds c a free holds in let le = at.covered.calls c free in
        let within = slice_get_within (x.told.calls c) (length (calls_of c h)) call there in
        let same : length (calls_of c g) ≡ length (x.told.calls c) = ap (λ calls. length calls) all in absurd (omega (arith, le, within, same, short))
    copies short (suc n, holds) =
        let le = at.covered.calls c free in
        let same = fronts_same (calls_of c g) (calls_of c h) (x.told.calls c) (at.setting.walk.calls c)
        (calls_told x.casts x.bound x.told x.plans x.late p c at.setting.end at.later) (omega (arith, le, short)) in
        Calls c call free (ap (λ calls. slice_get (x.told.calls c) (length calls)) same ∙ there)
        (may_submit x p c a n method args at may same holds)

    go : (length (calls_of c h) < length (calls_of c g)) ⊎ (length (calls_of c g) ≤ length (calls_of c h))
        → (length (calls_of c h) + 1 ≤ length (calls_of c g)) ⊎ Goal x
    go (inl lt) = inl (omega (arith, lt))
    go (inr short) = inr (copies short (has_copies c a g named))

-- whoever may ask for a kill has a copy of the handle
pub ask_copies : (h : History) (c a : ℕ) → refusal_of h (event.AskKill c a) ≡ None → is_some (copies_of c a h) ≡ true
ask_copies h c a may = some (copies_of c a h) (needs-none (is_caller c h) NoCaller (option_map Handle (handle_refusal (copies_of c a h))) may).1
  where
    some : (o : Option ℕ) → option_map Handle (handle_refusal o) ≡ None → is_some o ≡ true
    some None e = cc
    some (Some n) e = refl

pub asks : (x : Case) (p : At) (c a : ℕ) → Here x p → x.bound c ≡ None → refusal_of p.history (event.AskKill c a) ≡ None → x.told.dead a ≡ true
    → ((contains a x.g.asked || is_dead a x.g) ≡ true) ⊎ Goal x
asks x p c a at free may dead = go (contains a x.g.asked) refl
  where
    w : IsWorld x.casts p.history
    w = world x.casts x.plans p at.play

    needed : (is_caller c p.history ≡ true) × (option_map Handle (handle_refusal (copies_of c a p.history)) ≡ None)
    needed = needs-none (is_caller c p.history) NoCaller (option_map Handle (handle_refusal (copies_of c a p.history))) may

    known : is_caller c x.g ≡ true
    known = caller_same c w at.setting.world ∙ needed.0

    named : names c (cast_of a x.g) ≡ true
    named = ap (λ o. names c o) (cast_same a w at.setting.world) ∙ copies_named c a p.history (ask_copies p.history c a may)

    copies : contains a x.g.asked ≡ false → (n : ℕ) × (copies_of c a x.g ≡ Some n) → Goal x
    copies never (zero, holds) = let bad : true ≡ false = sym (at.setting.walk.asks c a free holds dead) ∙ never in cc
    copies never (suc n, holds) =
        let some : nat_lt 0 (suc n) ≡ true = grind (arith, nat_tests) in
        let free_copy : handle_refusal (copies_of c a x.g) ≡ None = ap handle_refusal holds ∙ rw some refl in
        Asks c a free dead never (rw (known, free_copy) refl)

    go : (y : Bool) → contains a x.g.asked ≡ y → ((contains a x.g.asked || is_dead a x.g) ≡ true) ⊎ Goal x
    go true e = inl (ap (λ b. b || is_dead a x.g) e)
    go false e = inr (copies e (has_copies c a x.g named))

-- ---- a caller that is bound

pub steps_on : (x : Case) (p : At) (c : ℕ) (steps : List Step) (step : Step) → Here x p → x.bound c ≡ Some steps → next_step x.plans c p ≡ Some step
    → MayTake c step p.history → (steps_of c p + 1 ≤ x.done c) ⊎ Goal x
steps_on x p c steps step at is next may = go (cases_lt (steps_of c p) (x.done c))
  where
    go : (steps_of c p < x.done c) ⊎ (x.done c ≤ steps_of c p) → (steps_of c p + 1 ≤ x.done c) ⊎ Goal x
    go (inl lt) = inl (omega (arith, lt))
    go (inr ge) =
        let le = at.covered.steps c steps is in let level : steps_of c p ≡ x.done c = omega (arith, le, ge) in
        let there : slice_get steps (x.done c) ≡ Some step = subst (λ n. slice_get steps n ≡ Some step) level
        (subst (λ l. slice_get l (steps_of c p) ≡ Some step) (at.setting.end.own c steps is) next) in
        inr (Steps c steps step is there
        (may_take c step p.history x.g (bound_alike x.casts x.done x.plans x.g p c steps step at.setting at.play is next level) (kept_covered p c at) may))

-- the kill of a step that is done was asked, or its actor is dead
pub kill_asked : (steps : List Step) (n m a : ℕ) → slice_get steps n ≡ Some (Kill a) → n < m → list_any (is_kill_of a) (take m steps) ≡ true
kill_asked [] n m a e lt = cc
kill_asked (step ∷ steps) n zero a e lt = absurd (omega (arith, lt))
kill_asked (step ∷ steps) zero (suc m) a e lt =
    let same : step ≡ Kill a = cc in
    let indeed : is_kill_of a step ≡ true = ap (is_kill_of a) same ∙ eq-eqb a a refl in rw indeed refl
kill_asked (step ∷ steps) (suc n) (suc m) a e lt = or_right (is_kill_of a step) _ (kill_asked steps n m a e (omega (arith, lt)))
