-- The lines of a summary, and whose they are.
use Rattle.act_summaries.proofs.Common.{◌≡◌, ◌≢◌, ℕ, ◌+◌, ◌<◌, ◌≤◌, Bool, true, false, cond, List, [], ◌∷◌, ◌++◌, codes, decimal, refl, sym, ap, ◌∙◌, arith}
use Rattle.act_summaries.proofs.Common.{append_assoc, map, filter, Option, Some, None, bytes_eq, inl, inr, AllByRecursion, AllZip, flat_map, append-nil}
use Rattle.act_summaries.proofs.Common.{filter-append, flat_map-append, decimal_injective, space, with_spaces, caller_text, actor_text, method_text}
use Rattle.act_summaries.proofs.Common.{settled_text, answer_text, RunItem, Submission, Answer, kept_at, History, calls_of, runs_of, kept_of, line}
use Rattle.act_summaries.proofs.Common.{numbered_lines, one_to, future_text, kept_text, future_line, future_lines, item_line, actor_lines, stage_of, summary}
use Rattle.act_summaries.proofs.Bytes.{differ, tails, apart, spaced, spaced_is, Lacks, IsWord, word_lacks, decimal_word, decimal_lacks, Each-append, before}
use Rattle.act_summaries.proofs.Bytes.{before_cut, before_all, before_same}
use Rattle.act_summaries.proofs.Marks.{TellsBoth}
use Rattle.act_summaries.proofs.Owned.{belongs, others, one_of}
use Rattle.act_summaries.proofs.Reading.{IsToldTwice}

-- ---- texts

-- the texts of a list's members, each made of its place and the member
abbrev pub numbered : {X : Type 0} → (ℕ → X → List ℕ) → ℕ → List X → List (List ℕ)
numbered text_of place [] = []
numbered text_of place (x ∷ xs) = text_of place x ∷ numbered text_of (place + 1) xs

numbered_is : {X : Type 0} (line_of : ℕ → X → List ℕ) (text_of : ℕ → X → List ℕ) (place : ℕ) (xs : List X) →
    ((k : ℕ) (x : X) → line_of k x ≡ line (text_of k x)) → numbered_lines line_of place xs ≡ flat_map line (numbered text_of place xs)
numbered_is line_of text_of place [] same = refl
numbered_is line_of text_of place (x ∷ xs) same = (λ i. same place x i ++ numbered_is line_of text_of (place + 1) xs same i)

-- ---- names

-- a caller's future: `c1.0`
abbrev pub future_name : ℕ → ℕ → List ℕ
future_name c k = caller_text c ++ 46 ∷ decimal k

-- the place of an item: `a1.0`
abbrev pub place_text : ℕ → ℕ → List ℕ
place_text a place = actor_text a ++ 46 ∷ decimal place

-- a future is named as reports name it
pub name_is : (c k : ℕ) → future_text c k ≡ future_name c k
name_is c k = append_assoc (caller_text c) (codes ".") (decimal k)

pub place_is : (a place : ℕ) → actor_text a ++ codes "." ++ decimal place ≡ place_text a place
place_is a place = append_assoc (actor_text a) (codes ".") (decimal place)

-- what a caller keeps, behind the space in front of it
abbrev pub kept_word : Option Answer → List ℕ
kept_word None = 63 ∷ []
kept_word (Some answer) = 61 ∷ 32 ∷ answer_text answer

pub kept_is : (o : Option Answer) → kept_text o ≡ 32 ∷ kept_word o
kept_is None = refl
kept_is (Some answer) = refl

-- the line of a caller's future, without its end: its name, its actor, and what is kept
abbrev pub future_as : ℕ → List (Option Answer) → ℕ → Submission → List ℕ
future_as c kept k call = future_name c k ++ 32 ∷ (actor_text call.actor ++ 32 ∷ kept_word (kept_at kept k))

-- the line of an item of a run list, without its end: its place, its future, its method and its arguments
abbrev pub item_as : ℕ → ℕ → RunItem → List ℕ
item_as a place item = place_text a place ++ 32 ∷ (future_name item.caller item.future ++ 32 ∷ (method_text item.method ++ spaced (map settled_text item.args)))

-- the lines of an actor, without their ends: how it stands, and its run list; none where it has no stage
abbrev pub actor_as : ℕ → List RunItem → Option (List ℕ) → List (List ℕ)
actor_as a items None = []
actor_as a items (Some stage) = (actor_text a ++ 32 ∷ stage) ∷ numbered (item_as a) 0 items

-- the lines of a caller's futures
abbrev pub futures : History → ℕ → List (List ℕ)
futures h c = numbered (future_as c (kept_of c h)) 0 (calls_of c h)

-- the lines of an actor
abbrev pub actors : History → ℕ → List (List ℕ)
actors h a = actor_as a (runs_of a h) (stage_of a h)

-- the lines of a summary, without their ends: of the futures of each caller, and then of each actor
abbrev pub lines_of : History → List (List ℕ)
lines_of h = flat_map (futures h) (one_to 16) ++ flat_map (actors h) (one_to 8)

future_line_is : (c : ℕ) (kept : List (Option Answer)) (k : ℕ) (call : Submission) → future_line c kept k call ≡ line (future_as c kept k call)
future_line_is c kept k call =
    ap line
    (append_assoc (future_text c k ++ space) (actor_text call.actor) (kept_text (kept_at kept k)) ∙ append_assoc (future_text c k) space
    (actor_text call.actor ++ kept_text (kept_at kept k)) ∙ (λ i. name_is c k i ++ 32 ∷ (actor_text call.actor ++ kept_is (kept_at kept k) i)))

item_line_is : (a place : ℕ) (item : RunItem) → item_line a place item ≡ line (item_as a place item)
item_line_is a place item =
    let at : List ℕ = actor_text a ++ codes "." ++ decimal place in let call : List ℕ = future_text item.caller item.future in
    let word : List ℕ = method_text item.method in let args : List ℕ = with_spaces (map settled_text item.args) in
    ap line
    (append_assoc (at ++ space ++ call ++ space) word args ∙ append_assoc (at ++ space ++ call) space (word ++ args) ∙
    append_assoc (at ++ space) call (32 ∷ (word ++ args)) ∙ append_assoc at space (call ++ 32 ∷ (word ++ args)) ∙
    (λ i. place_is a place i ++ 32 ∷ (name_is item.caller item.future i ++ 32 ∷ (word ++ spaced_is (map settled_text item.args) i))))

actor_is : (a : ℕ) (items : List RunItem) (stage : Option (List ℕ)) → actor_lines a items stage ≡ flat_map line (actor_as a items stage)
actor_is a items None = refl
actor_is a items (Some stage) = (λ i. line (append_assoc (actor_text a) space stage i) ++ numbered_is (item_line a) (item_as a) 0 items (item_line_is a) i)

each_is : (f : ℕ → List ℕ) (g : ℕ → List (List ℕ)) → ((n : ℕ) → f n ≡ flat_map line (g n)) → (ns : List ℕ) → flat_map f ns ≡ flat_map line (flat_map g ns)
each_is f g same [] = refl
each_is f g same (n ∷ ns) = (λ i. same n i ++ each_is f g same ns i) ∙ sym (flat_map-append line (g n) (flat_map g ns))

-- a summary is the lines of its history, each with its end
pub summary_is : (h : History) → summary h ≡ flat_map line (lines_of h)
summary_is h =
    (λ i. each_is (λ c. future_lines c (calls_of c h) (kept_of c h)) (futures h)
    (λ c. numbered_is (future_line c (kept_of c h)) (future_as c (kept_of c h)) 0 (calls_of c h) (future_line_is c (kept_of c h))) (one_to 16) i ++ each_is
    (λ a. actor_lines a (runs_of a h) (stage_of a h)) (actors h) (λ a. actor_is a (runs_of a h) (stage_of a h)) (one_to 8) i)
    ∙ sym (flat_map-append line (flat_map (futures h) (one_to 16)) (flat_map (actors h) (one_to 8)))

pub caller_word : (c : ℕ) → IsWord (caller_text c)
caller_word c = (omega arith, decimal_word c)

-- an actor's name is a word
pub actor_word : (a : ℕ) → IsWord (actor_text a)
actor_word a = (omega arith, decimal_word a)

-- a caller's name has no dot
pub caller_dots : (c : ℕ) → Lacks 46 (caller_text c)
caller_dots c = (differ 99 46 refl, decimal_lacks c 46 (omega arith))

pub actor_dots : (a : ℕ) → Lacks 46 (actor_text a)
actor_dots a = (differ 97 46 refl, decimal_lacks a 46 (omega arith))

-- a future's name is a word
pub future_word : (c k : ℕ) → IsWord (future_name c k)
future_word c k = Each-append (λ x. 32 < x) (caller_text c) (46 ∷ decimal k) (caller_word c) (omega arith, decimal_word k)

-- the name of an item's place is a word
pub place_word : (a place : ℕ) → IsWord (place_text a place)
place_word a place = Each-append (λ x. 32 < x) (actor_text a) (46 ∷ decimal place) (actor_word a) (omega arith, decimal_word place)

-- ---- whose a line is

-- the caller or the actor that a line's first word names
abbrev pub owner : List ℕ → List ℕ
owner text = before 46 (before 32 text)

future_owner : (c : ℕ) (kept : List (Option Answer)) (k : ℕ) (call : Submission) → owner (future_as c kept k call) ≡ caller_text c
future_owner c kept k call =
    ap (before 46) (before_cut 32 (future_name c k) (actor_text call.actor ++ 32 ∷ kept_word (kept_at kept k))
    (word_lacks 32 (future_name c k) (omega arith) (future_word c k)))
    ∙ before_cut 46 (caller_text c) (decimal k) (caller_dots c)

item_owner : (a place : ℕ) (item : RunItem) → owner (item_as a place item) ≡ actor_text a
item_owner a place item =
    ap (before 46) (before_cut 32 (place_text a place) (future_name item.caller item.future ++ 32 ∷
    (method_text item.method ++ spaced (map settled_text item.args))) (word_lacks 32 (place_text a place) (omega arith) (place_word a place)))
    ∙ before_cut 46 (actor_text a) (decimal place) (actor_dots a)

stage_owner : (a : ℕ) (stage : List ℕ) → owner (actor_text a ++ 32 ∷ stage) ≡ actor_text a
stage_owner a stage =
    ap (before 46) (before_cut 32 (actor_text a) stage (word_lacks 32 (actor_text a) (omega arith) (actor_word a)))
    ∙ before_all 46 (actor_text a) (actor_dots a)

-- each of these lines is of this name
abbrev pub AreOf : List ℕ → List (List ℕ) → Type 0
AreOf name texts = AllByRecursion (λ text. owner text ≡ name) texts

numbered_of : {X : Type 0} (name : List ℕ) (text_of : ℕ → X → List ℕ) (place : ℕ) (xs : List X) → ((k : ℕ) (x : X) → owner (text_of k x) ≡ name) →
    AreOf name (numbered text_of place xs)
numbered_of name text_of place [] own = tt
numbered_of name text_of place (x ∷ xs) own = (own place x, numbered_of name text_of (place + 1) xs own)

futures_of : (h : History) (c : ℕ) → AreOf (caller_text c) (futures h c)
futures_of h c = numbered_of (caller_text c) (future_as c (kept_of c h)) 0 (calls_of c h) (future_owner c (kept_of c h))

actors_of : (h : History) (a : ℕ) → AreOf (actor_text a) (actors h a)
actors_of h a = go (stage_of a h)
  where
    go : (o : Option (List ℕ)) → AreOf (actor_text a) (actor_as a (runs_of a h) o)
    go None = tt
    go (Some stage) = (stage_owner a stage, numbered_of (actor_text a) (item_as a) 0 (runs_of a h) (item_owner a))

-- ---- the lines of one name

-- whether a line is of the caller or the actor of this name
abbrev pub is_of : List ℕ → List ℕ → Bool
is_of name text = belongs owner name text

pub callers_differ : (m n : ℕ) → m ≤ 16 → n ≤ 16 → caller_text m ≡ caller_text n → m ≡ n
callers_differ m n p q e = let digits : decimal m ≡ decimal n = tails e in decimal_injective m n (omega (arith, p)) (omega (arith, q)) digits

pub actors_differ : (m n : ℕ) → m ≤ 16 → n ≤ 16 → actor_text m ≡ actor_text n → m ≡ n
actors_differ m n p q e = let digits : decimal m ≡ decimal n = tails e in decimal_injective m n (omega (arith, p)) (omega (arith, q)) digits

pub kinds_differ : (c a : ℕ) → caller_text c ≢ actor_text a
kinds_differ c a e = apart 99 97 (decimal c) (decimal a) refl e

-- the lines of a caller are those of its futures
pub of_caller : (h : History) (c : ℕ) → 1 ≤ c → c ≤ 16 → filter (is_of (caller_text c)) (lines_of h) ≡ futures h c
of_caller h c some few =
    filter-append (is_of (caller_text c)) (flat_map (futures h) (one_to 16)) (flat_map (actors h) (one_to 8))
    ∙ (λ i. one_of owner caller_text (futures h) (futures_of h) callers_differ c 16 some few (omega arith) i
    ++ others owner actor_text (actors h) (actors_of h) (caller_text c) 8 (λ k below e. kinds_differ c k (sym e)) i)
    ∙ append-nil (futures h c)

-- those of an actor say how it stands, and what it ran
pub of_actor : (h : History) (a : ℕ) → 1 ≤ a → a ≤ 8 → filter (is_of (actor_text a)) (lines_of h) ≡ actors h a
of_actor h a some few =
    filter-append (is_of (actor_text a)) (flat_map (futures h) (one_to 16)) (flat_map (actors h) (one_to 8))
    ∙ (λ i. others owner caller_text (futures h) (futures_of h) (actor_text a) 16 (λ k below. kinds_differ k a) i
    ++ one_of owner actor_text (actors h) (actors_of h) actors_differ a 8 some few (omega arith) i)

-- ---- both

-- both texts that a line tells are of one name
pub owner_same : (text x y : List ℕ) → TellsBoth text x y → owner x ≡ owner y
owner_same text x y (inl same) = ap owner (same.0 ∙ sym same.1)
owner_same text x y (inr opened) = ap owner opened.left_is ∙ ap (before 46) (before_same 32 opened.front _ _) ∙ sym (ap owner opened.right_is)

pub filtered : (lines : List (List ℕ)) (name : List ℕ) (xs ys : List (List ℕ)) → AllZip (IsToldTwice lines) xs ys →
    AllZip (IsToldTwice lines) (filter (is_of name) xs) (filter (is_of name) ys)
filtered lines name [] [] all = tt
filtered lines name (x ∷ xs) (y ∷ ys) all =
    go (is_of name x) (is_of name y) (ap (λ o. bytes_eq o name) (owner_same all.0.text x y all.0.tells)) (filtered lines name xs ys all.1)
  where
    go : (a b : Bool) → a ≡ b → AllZip (IsToldTwice lines) (filter (is_of name) xs) (filter (is_of name) ys) →
        AllZip (IsToldTwice lines) (cond a (x ∷ filter (is_of name) xs) (filter (is_of name) xs)) (cond b (y ∷ filter (is_of name) ys) (filter (is_of name) ys))
    go true true e rest = (all.0, rest)
    go false false e rest = rest
    go more other e rest = cc
filtered lines name xs ys all = absurd all
