-- The first endpoint whose caller's next call came.
use Rattle.act_serve.proofs.Common.{◌≡◌, ℕ, ◌+◌, ◌<◌, ◌≤◌, List, [], ◌∷◌, ◌++◌, length, Option, Some, None, Result, Ok, Err, IfOk, is_some, Bool, true, false}
use Rattle.act_serve.proofs.Common.{cond, nat_lt, refl, sym, ◌∙◌, ap, subst, get_or, find, position, arith, length-append, All, position_or_len, lt-ltb, le-ltb}
use Rattle.act_serve.proofs.Common.{get_or_default, All-cons, position-Some, position_or_len_is, Reply, Answered, RunItem, slice_get_last, find-None, KindState}
use Rattle.act_serve.proofs.Common.{LiveView, next_call, Letter, TakerView, RepliesView, ReplyExecView, NamesPlace, Endpoint, Received, Nothing, HasReplied}
use Rattle.act_serve.proofs.Common.{HasCome, has_next, HasGone}
use Rattle.act_serve.proofs.Logs.{Tells, same, other, tells}
use Rattle.act_serve.proofs.Serving.{caller_here}

-- none of the first n items passes
abbrev pub NoneOf : {X : Type 0} → (X → Bool) → List X → ℕ → Type 0
NoneOf {X} p xs n = (k : ℕ) (d : X) → k < n → p (get_or xs k d) ≡ false

pub none_more : {X : Type 0} (p : X → Bool) (xs : List X) (n : ℕ) → NoneOf p xs n → ((d : X) → p (get_or xs n d) ≡ false) → NoneOf p xs (n + 1)
none_more {X} p xs n before here k d lt = go (tells k n)
  where
    go : Tells k n → p (get_or xs k d) ≡ false
    go (same b e) = ap (λ i. p (get_or xs i d)) e ∙ here d
    go (other b ne) = before k d (omega (arith, lt, ne))

-- the place of an item that passes is found where none before it does
pub position_here : {X : Type 0} (p : X → Bool) (xs : List X) {i : ℕ} (d : X) → i < length xs → p (get_or xs i d) ≡ true → NoneOf p xs i →
    Some i ≡ position p xs
position_here p xs {i} d lt passes before =
    let at : position_or_len p xs ≡ i = position_or_len_is p xs i d (omega (arith, lt)) (λ k below. before k d below) (λ _. passes) in
    sym (ap (λ n. cond (nat_lt n (length xs)) (Some n) None) at ∙ ap (λ b. cond b (Some i) None) (lt-ltb i (length xs) lt))

-- no place is found in a list of which no item passes
pub position_nowhere : {X : Type 0} (p : X → Bool) (xs : List X) {n : ℕ} → length xs ≤ n → NoneOf p xs n → None ≡ position p xs
position_nowhere p [] le none = refl
position_nowhere p (x ∷ xs) {n} le none =
    let long : ℕ = length (x ∷ xs) in
    let at : position_or_len p (x ∷ xs) ≡ long =
    position_or_len_is p (x ∷ xs) long x (omega arith) (λ k lt. none k x (omega (arith, lt, le))) (λ lt. absurd (omega (arith, lt))) in
    sym (ap (λ n. cond (nat_lt n long) (Some n) None) at ∙ ap (λ b. cond b (Some long) None) (le-ltb long long (omega arith)))

-- whether the call of an endpoint's caller came, where the caller is known
pub next_is : {S : Type 0} (lines : List RepliesView) (actor : LiveView S) (endpoints : List (Endpoint ReplyExecView)) {k : ℕ} (d : Endpoint ReplyExecView)
    {endpoint : Endpoint ReplyExecView} {line : RepliesView} {caller : ℕ} {told : Bool} (b : Bool) → k < length endpoints →
    endpoint ≡ get_or endpoints k endpoint → endpoint.place < length lines → line ≡ get_or lines endpoint.place line → caller ≡ line.caller →
    told ≡ is_some (next_call actor.log actor.inbox caller) → told ≡ b → has_next lines actor (get_or endpoints k d) ≡ b
next_is lines actor endpoints {k} d {endpoint} {line} b lt here below is named came so =
    ap (has_next lines actor) (get_or_default endpoints k d endpoint lt ∙ sym here)
    ∙ ap (λ c. is_some (next_call actor.log actor.inbox c)) (sym (named ∙ caller_here lines below is))
    ∙ sym came
    ∙ so

not_first : {X : Type 0} (b : Bool) (x : X) (rest : Option X) → cond b (Some x) rest ≡ None → (b ≡ false) × (rest ≡ None)
not_first true x rest e = absurd (cc)
not_first false x rest e = (refl, e)

none_found : {X : Type 0} (p : X → Bool) (xs : List X) → find p xs ≡ None → All (λ x. p x ≡ false) xs
none_found p [] e = λ k d lt. absurd (omega (arith, lt))
none_found p (x ∷ xs) e = let later = not_first (p x) x (find p xs) e in All-cons (λ y. p y ≡ false) x xs later.0 (none_found p xs later.1)

-- no endpoint has a next call
pub nowhere : {X : Type 0} (p : X → Bool) (xs ys : List X) (found : Option ℕ) → found ≡ position p xs → xs ≡ ys → found ≡ None → All (λ x. p x ≡ false) ys
nowhere p xs ys found is alike none = subst (λ l. All (λ x. p x ≡ false) l) alike (none_found p xs (find-None p xs (sym is ∙ none)))

-- the endpoint that was found has one
pub somewhere : {X : Type 0} (p : X → Bool) {xs ys : List X} {found : Option ℕ} (i : ℕ) (d : X) → found ≡ position p xs → xs ≡ ys → found ≡ Some i →
    p (get_or ys i d) ≡ true
somewhere p {xs} i d is alike some = subst (λ l. p (get_or l i d) ≡ true) alike (position-Some p xs i d (sym is ∙ some)).1

-- the reply names the place where its call ran
pub replied_place : {S : Type 0} {read : S → KindState} {caller : ℕ} {reply : Reply} {before after : LiveView S} (log : List RunItem) →
    HasReplied read caller reply before after → log ≡ after.log → NamesPlace log (Answered reply)
replied_place {reply} {before} log ran shown =
    subst (λ l. NamesPlace l (Answered reply)) (sym (shown ∙ ran.log))
    (subst (λ r. NamesPlace (before.log ++ ran.item ∷ []) (Answered r)) (sym ran.reply_is) (ran.item, slice_get_last before.log ran.item, refl, refl))

-- no letter came, and no call ran
pub idle_turn : {S : Type 0} (lines : List RepliesView) {endpoints given : List (Endpoint ReplyExecView)} {old new : TakerView Letter (Unit {0})}
    (before : LiveView S) {between : LiveView S} (after : LiveView S) → new ≡ old → HasCome Nothing old.taken new.taken endpoints given before between →
    HasGone false lines given between after → (new ≡ old) × HasGone false lines endpoints before after
idle_turn {S} lines {given} before after letters none still = (
  letters,
  (
    still.0 ∙ none.2,
    subst (λ l. All (λ endpoint. has_next lines before endpoint ≡ false) l) none.1
        (subst (λ s. All (λ endpoint. has_next lines s endpoint ≡ false) given) none.2 still.1),
  ),
)

-- where one more letter was taken, something came
pub came_some : {E S : Type 0} (result : Result Received E) (letters : List Letter) (letter : Letter) (endpoints given : List (Endpoint ReplyExecView))
    (old new : LiveView S) (P : Type 0) → IfOk result (λ came. HasCome came letters (letters ++ letter ∷ []) endpoints given old new) →
    IfOk result (λ came. came ≡ Nothing → P)
came_some (Ok Nothing) letters letter endpoints given old new P h = λ _. let long : length (letters ++ letter ∷ []) ≡ length letters = ap length h.0 in
    absurd (omega (arith, long, length-append letters (letter ∷ [])))
came_some (Err e) letters letter endpoints given old new P h = tt
came_some (Ok came) letters letter endpoints given old new P h = λ e. absurd (cc)
