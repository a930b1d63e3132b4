-- Calls and runs that are told one after another.
use Rattle.act_told.proofs.Common.{◌≡◌, ℕ, suc, ◌+◌, ◌<◌, ◌==◌, if◌then◌else◌, List, [], ◌∷◌, ◌++◌, length, map, take, drop, get_or, slice_get, Option, Some}
use Rattle.act_told.proofs.Common.{None, option_map, append_assoc, add-one, drop-cons, refl, ap, sym, ◌∙◌, arith, length-append, drop-map, map-append}
use Rattle.act_told.proofs.Common.{filter_map-append, take-suc, Arg, slice_get_within, get_or_from_slice_get, Submission, OwnerView, call_at, numbered_call}
use Rattle.act_told.proofs.Common.{submission_of, future_of_arg, futures_of_args, EndView, end_log, Call, Run, call_told, calls_from, calls_told, takes_told}
use Rattle.act_told.proofs.Common.{start_of, run_told, runs_told, actor_told, told_by, starts_from, start_in, run_by, runs_by, map_alike}
use Rattle.act_owner.specs.declared.owner.Call.{Call as OwnCall}
use Rattle.act_orders.specs.declared.told.Actor.{Actor as ActorTold}

-- a list that goes on with what stands at a place
pub goes_on : {A : Type 0} (old now new : List A) (here rest whole : List A) → new ≡ now ++ here → now ++ (here ++ rest) ≡ whole → new ++ rest ≡ whole
goes_on old now new here rest whole h so_far = ap (λ t. t ++ rest) h ∙ append_assoc now here rest ∙ so_far

-- ---- arguments

-- the answers among one argument more
pub takes_more : (start : ℕ) (args : List Arg) {i : ℕ} {arg : Arg} {now new : List ℕ} → i < length args → arg ≡ get_or args i arg →
    now ≡ takes_told start (take i args) → new ≡ now ++ takes_told start (arg ∷ []) → new ≡ takes_told start (take (i + 1) args)
takes_more start args {i} {arg} lt is so_far h =
    let here : take (i + 1) args ≡ take i args ++ arg ∷ [] =
    ap (λ j. take j args) (add-one i) ∙ take-suc args i arg lt ∙ ap (λ x. take i args ++ x ∷ []) (sym is) in
    h ∙ ap (λ t. t ++ takes_told start (arg ∷ [])) so_far
    ∙ sym (ap (takes_told start) here ∙ ap (map (λ j. start + j)) (filter_map-append future_of_arg (take i args) (arg ∷ []))
    ∙ map-append (λ j. start + j) (futures_of_args (take i args)) (futures_of_args (arg ∷ [])))

-- ---- the calls of a caller

submitted : (calls : List Submission) (k : ℕ) (call : OwnCall) (found : Option Submission) →
    option_map (numbered_call calls k) found ≡ Some call → found ≡ Some (submission_of call)
submitted calls k call None e = absurd (cc)
submitted calls k call (Some sub) e = let same : numbered_call calls k sub ≡ call = cc in ap (λ x. Some (submission_of x)) same

-- a call that is found is the one that was submitted there
pub found_call : (calls : List Submission) (k : ℕ) (call : OwnCall) → call_at calls k ≡ Some call → slice_get calls k ≡ Some (submission_of call)
found_call calls k call e = submitted calls k call (slice_get calls k) e

-- the items from a place on
pub from_here : {A : Type 0} (xs : List A) (k : ℕ) {x : A} → slice_get xs k ≡ Some x → drop k xs ≡ x ∷ drop (k + 1) xs
from_here xs k {x} at =
    drop-cons xs k x (slice_get_within xs k x at)
    ∙ ap (λ y. y ∷ drop (suc k) xs) (get_or_from_slice_get xs k x x at)
    ∙ ap (λ j. x ∷ drop j xs) (sym (add-one k))

pub from_place : {A : Type 0} (xs : List A) (k : ℕ) {x : A} → k < length xs → x ≡ get_or xs k x → drop k xs ≡ x ∷ drop (k + 1) xs
from_place xs k {x} lt is =
    drop-cons xs k x lt
    ∙ ap (λ y. y ∷ drop (suc k) xs) (sym is)
    ∙ ap (λ j. x ∷ drop j xs) (sym (add-one k))

pub length_calls : (ends : List EndView) (owner : OwnerView) (start k : ℕ) (calls : List Submission) →
    length (calls_from ends owner start k calls) ≡ length calls
length_calls ends owner start k [] = refl
length_calls ends owner start k (call ∷ calls) = ap (λ n. suc n) (length_calls ends owner start (k + 1) calls)

-- one call more
pub call_more : (ends : List EndView) (owner : OwnerView) (start k : ℕ) (call : OwnCall) (now : List Call) {new : List Call} (whole : List Call) →
    call_at owner.calls k ≡ Some call → new ≡ now ++ call_told ends owner start k (submission_of call) ∷ [] →
    now ++ calls_from ends owner start k (drop k owner.calls) ≡ whole → new ++ calls_from ends owner start (k + 1) (drop (k + 1) owner.calls) ≡ whole
call_more ends owner start k call now whole at h so_far =
    ap (λ t. t ++ calls_from ends owner start (k + 1) (drop (k + 1) owner.calls)) h
    ∙ append_assoc now (call_told ends owner start k (submission_of call) ∷ []) (calls_from ends owner start (k + 1) (drop (k + 1) owner.calls))
    ∙ ap (λ t. now ++ calls_from ends owner start k t)
    (sym (from_here owner.calls k (found_call owner.calls k call at)))
    ∙ so_far

-- ---- the calls of all callers

-- one caller more
pub caller_more : (ends : List EndView) (owners : List OwnerView) {i : ℕ} (owner : OwnerView) (now : List Call) {new : List Call} (whole : List Call) →
    i < length owners → owner ≡ get_or owners i owner → new ≡ now ++ calls_from ends owner (length now) 0 owner.calls →
    now ++ calls_told ends (length now) (drop i owners) ≡ whole → new ++ calls_told ends (length new) (drop (i + 1) owners) ≡ whole
caller_more ends owners {i} owner now {new} whole lt is h so_far =
    let here = calls_from ends owner (length now) 0 owner.calls in
    let size : length new ≡ length now + length owner.calls =
    ap length h ∙ length-append now here ∙ ap (λ n. length now + n) (length_calls ends owner (length now) 0 owner.calls) in
    ap (λ n. new ++ calls_told ends n (drop (i + 1) owners)) size
    ∙ ap (λ t. t ++ calls_told ends (length now + length owner.calls) (drop (i + 1) owners)) h
    ∙ append_assoc now here (calls_told ends (length now + length owner.calls) (drop (i + 1) owners))
    ∙ ap (λ t. now ++ calls_told ends (length now) t) (sym (from_place owners i lt is))
    ∙ so_far

-- and one start
pub start_more : (ends : List EndView) (owners : List OwnerView) {i : ℕ} (owner : OwnerView) (now : List Call) {new : List Call} (starts : List (ℕ × ℕ))
    {more : List (ℕ × ℕ)} (whole : List (ℕ × ℕ)) → i < length owners → owner ≡ get_or owners i owner →
    new ≡ now ++ calls_from ends owner (length now) 0 owner.calls → more ≡ starts ++ (owner.id, length now) ∷ [] →
    starts ++ starts_from (length now) (drop i owners) ≡ whole → more ++ starts_from (length new) (drop (i + 1) owners) ≡ whole
start_more ends owners {i} owner now {new} starts {more} whole lt is h g so_far =
    let here = calls_from ends owner (length now) 0 owner.calls in
    let size : length new ≡ length now + length owner.calls =
    ap length h ∙ length-append now here ∙ ap (λ n. length now + n) (length_calls ends owner (length now) 0 owner.calls) in
    ap (λ n. more ++ starts_from n (drop (i + 1) owners)) size
    ∙ ap (λ t. t ++ starts_from (length now + length owner.calls) (drop (i + 1) owners)) g
    ∙ append_assoc starts ((owner.id, length now) ∷ []) (starts_from (length now + length owner.calls) (drop (i + 1) owners))
    ∙ ap (λ t. starts ++ starts_from (length now) t) (sym (from_place owners i lt is))
    ∙ so_far

-- ---- run lists

-- the run list of one actor more
pub log_more : (starts : List (ℕ × ℕ)) (all : ℕ) (ends : List EndView) (a : ℕ) {end : EndView} (now : List Run) {new : List Run} (whole : List Run) →
    drop a ends ≡ end ∷ drop (a + 1) ends → new ≡ now ++ map (run_by starts all a) (end_log end) →
    now ++ runs_by starts all a (drop a ends) ≡ whole → new ++ runs_by starts all (a + 1) (drop (a + 1) ends) ≡ whole
log_more starts all ends a {end} now whole here h so_far =
    ap (λ t. t ++ runs_by starts all (a + 1) (drop (a + 1) ends)) h
    ∙ append_assoc now (map (run_by starts all a) (end_log end)) (runs_by starts all (a + 1) (drop (a + 1) ends))
    ∙ ap (λ t. now ++ runs_by starts all a t) (sym here)
    ∙ so_far

-- the same among what a list is mapped to
pub mapped_here : {X : Type 0} (f : X → EndView) (xs : List X) {i : ℕ} {x : X} → i < length xs → x ≡ get_or xs i x →
    drop i (map f xs) ≡ f x ∷ drop (i + 1) (map f xs)
mapped_here f xs {i} {x} lt is = drop-map f i xs ∙ ap (map f) (from_place xs i lt is) ∙ ap (λ t. f x ∷ t) (sym (drop-map f (i + 1) xs))

-- ---- the table of starts

-- how many calls these callers have
abbrev pub calls_among : List OwnerView → ℕ
calls_among [] = 0
calls_among (owner ∷ owners) = length owner.calls + calls_among owners

pub length_all : (ends : List EndView) (before : ℕ) (owners : List OwnerView) → length (calls_told ends before owners) ≡ calls_among owners
length_all ends before [] = refl
length_all ends before (owner ∷ owners) =
    length-append (calls_from ends owner before 0 owner.calls) (calls_told ends (before + length owner.calls) owners)
    ∙ ap (λ n. n + length (calls_told ends (before + length owner.calls) owners)) (length_calls ends owner before 0 owner.calls)
    ∙ ap (λ n. length owner.calls + n) (length_all ends (before + length owner.calls) owners)

-- it has what it was made of
pub starts_tell : (owners : List OwnerView) (before all c : ℕ) → all ≡ before + calls_among owners →
    start_in (starts_from before owners) all c ≡ start_of before c owners
starts_tell [] before all c e = omega (arith, e)
starts_tell (owner ∷ owners) before all c e =
    ap (λ n. if owner.id == c then before else n) (starts_tell owners (before + length owner.calls) all c (omega (arith, e)))

-- run lists by the table are those that are told
pub runs_tell : (owners : List OwnerView) (all a : ℕ) (ends : List EndView) → all ≡ calls_among owners →
    runs_by (starts_from 0 owners) all a ends ≡ runs_told owners a ends
runs_tell owners all a [] e = refl
runs_tell owners all a (end ∷ ends) e =
    let starts = starts_from 0 owners in
    ap (λ t. t ++ runs_by starts all (a + 1) ends)
    (map_alike (run_by starts all a) (run_told owners a) (end_log end) (λ item. ap (λ n. record { actor = a; call = n + item.future })
    (starts_tell owners 0 all item.caller (omega (arith, e)))))
    ∙ ap (λ t. map (run_told owners a) (end_log end) ++ t) (runs_tell owners all (a + 1) ends e)

-- ---- all of it

pub told_is : (owners : List OwnerView) (ends : List EndView) {calls : List Call} {starts : List (ℕ × ℕ)} {all : ℕ} {runs : List Run} {actors : List ActorTold}
    {waits : List ℕ} → calls ≡ calls_told ends 0 owners → starts ≡ starts_from 0 owners → all ≡ length calls → runs ≡ runs_by starts all 0 ends →
    actors ≡ map (actor_told owners) ends → waits ≡ [] → record { calls = calls; runs = runs; actors = actors; waits = waits } ≡ told_by owners ends
told_is owners ends {all} {runs} calls_are starts_are all_is runs_are actors_are waits_are =
    let count : all ≡ calls_among owners = all_is ∙ ap length calls_are ∙ length_all ends 0 owners in
    let told_runs : runs ≡ runs_told owners 0 ends =
    runs_are ∙ ap (λ t. runs_by t all 0 ends) starts_are ∙ runs_tell owners all 0 ends count in
    rw (calls_are, told_runs, actors_are, waits_are) refl
