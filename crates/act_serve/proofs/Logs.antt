-- What an actor holds and what it ran, as letters come and calls run.
use Rattle.act_serve.proofs.Common.{◌≡◌, ◌≢◌, ℕ, suc, ◌+◌, Bool, true, false, cond, List, [], ◌∷◌, ◌++◌, Option, Some, None, Result, Ok, Err, IfOk, OnErr, inl}
use Rattle.act_serve.proofs.Common.{inr, length, length-append, append-nil, refl, ap, sym, ◌∙◌, subst, arith, ◌==◌, ◌&&◌, nat_lt, map, zip, filter_map}
use Rattle.act_serve.proofs.Common.{Contains, is_some, option_or, enumerate_from, range_with_len, cons_option, eq-eqb, ne_eqb, eqb_tells, map-append, All-push}
use Rattle.act_serve.proofs.Common.{Contains-append_left, Contains-push, and-false, KindState, Packet, ReleaseNote, Notice, Answered, RunItem, Arrival, New}
use Rattle.act_serve.proofs.Common.{Repeat, Stranger, Answer, after_item, state_after, answers_from, items_of, contains, eq_turned, range_push, items_of-push}
use Rattle.act_serve.proofs.Common.{LiveView, live_view, item_of, packet_of_item, arrival_at, note_arrival_at, HasRunCall, Letter, Call, Note, IsLogOf, note_in}
use Rattle.act_serve.proofs.Common.{first_note, reply_notice, replies_to, IsFed}
use Rattle.act_inbox.specs.Inbox.{InboxView, is_packet_of, is_listed, handed_of, was_handed, waiting_packet, waiting_after, next_of, note_of, note_after}
use Rattle.act_inbox.specs.Inbox.{note_arrival, has_come as came_before}
use Rattle.act_lists.proofs.Options.{or_nothing}

-- two numbers are one, or they are not
pub data Tells (x y : ℕ) : Type 0 where
  same : (x == y) ≡ true → x ≡ y → Tells x y
  other : (x == y) ≡ false → x ≢ y → Tells x y

-- of any two numbers it can be told whether they are one
pub tells : (x y : ℕ) → Tells x y
tells x y = elim (eqb_tells x y) [
  | inl t ↦ same t.0 t.1
  | inr f ↦ other f.0 f.1
]

-- ---- the items of a caller, by number

abbrev AreNumbered : List RunItem → Type 0
AreNumbered items = map (λ (item : RunItem). item.number) items ≡ range_with_len 0 (length items)

numbered_push : (items : List RunItem) (item : RunItem) → item.number ≡ length items → AreNumbered items → AreNumbered (items ++ item ∷ [])
numbered_push items item at are =
    let long : length (items ++ item ∷ []) ≡ suc (length items) = omega (arith, length-append items (item ∷ [])) in
    let zero_more : length items ≡ 0 + length items = omega arith in
    map-append (λ (i : RunItem). i.number) items (item ∷ [])
    ∙ ap (λ l. l ++ item.number ∷ []) are
    ∙ ap (λ m. range_with_len 0 (length items) ++ m ∷ []) (at ∙ zero_more)
    ∙ sym (range_push 0 (length items))
    ∙ ap (range_with_len 0) (sym long)

numbered_more : (c : ℕ) (log : List RunItem) (item : RunItem) → item.number ≡ length (items_of item.caller log) → AreNumbered (items_of c log) →
    AreNumbered (items_of c (log ++ item ∷ []))
numbered_more c log item at are = go (tells item.caller c)
  where
    go : Tells item.caller c → AreNumbered (items_of c (log ++ item ∷ []))
    go (same b e) =
        let now : items_of c (log ++ item ∷ []) ≡ items_of c log ++ item ∷ [] =
        items_of-push c log item ∙ ap (λ x. items_of c log ++ cond x (item ∷ []) []) b in
        subst AreNumbered (sym now) (numbered_push (items_of c log) item (at ∙ ap (λ d. length (items_of d log)) e) are)
    go (other b e) =
        let now : items_of c (log ++ item ∷ []) ≡ items_of c log =
        items_of-push c log item ∙ ap (λ x. items_of c log ++ cond x (item ∷ []) []) b ∙ append-nil (items_of c log) in
        subst AreNumbered (sym now) are

count_more : (c caller : ℕ) {n : ℕ} (log : List RunItem) (item : RunItem) → item.caller ≡ caller → n ≡ length (items_of c log) →
    cond (c == caller) (n + 1) n ≡ length (items_of c (log ++ item ∷ []))
count_more c caller {n} log item mine at =
    ap (λ b. cond b (n + 1) n) (eq_turned c caller ∙ ap (λ d. d == c) (sym mine))
    ∙ by (item.caller == c)
    ∙ sym (length-append (items_of c log) (cond (item.caller == c) (item ∷ []) []))
    ∙ ap (λ l. length l) (sym (items_of-push c log item))
  where
    by : (b : Bool) → cond b (n + 1) n ≡ length (items_of c log) + length {A = RunItem} (cond b (item ∷ []) [])
    by true = omega (arith, at)
    by false = omega (arith, at)

-- ---- replies

-- the reply of an item at a place, if it is the caller's
abbrev pub last_reply : ℕ → ℕ → RunItem → ℕ → Answer → List Notice
last_reply a c item place answer =
    cond (item.caller == c) (Answered (record { actor = a; caller = item.caller; future = item.future; place = place; answer = answer }) ∷ []) []

abbrev pub replies_from : ℕ → ℕ → ℕ → KindState → List RunItem → List Notice
replies_from a c n state log = filter_map (reply_notice a c) (zip (enumerate_from n log) (answers_from state log))

cons_option-append : {X : Type 0} (o : Option X) (xs ys : List X) → cons_option o (xs ++ ys) ≡ cons_option o xs ++ ys
cons_option-append None xs ys = refl
cons_option-append (Some x) xs ys = refl

replies_from-push : (a c n : ℕ) (state : KindState) (log : List RunItem) (item : RunItem) → replies_from a c n state
    (log ++ item ∷ []) ≡ replies_from a c n state log ++ last_reply a c item (n + length log) (after_item (state_after state log) item).1
replies_from-push a c n state [] item = let e : n + 0 ≡ n = omega arith in rw e (by (item.caller == c))
  where
    by : (b : Bool) → cons_option
        (cond b (Some (Answered (record { actor = a; caller = item.caller; future = item.future; place = n; answer = (after_item state item).1 }))) None) [] ≡
        cond b (Answered (record { actor = a; caller = item.caller; future = item.future; place = n; answer = (after_item state item).1 }) ∷ []) []
    by true = refl
    by false = refl
replies_from-push a c n state (x ∷ log) item =
    let e : (n + 1) + length log ≡ n + suc (length log) = omega arith in let next : KindState = (after_item state x).0 in
    let here : Option Notice = reply_notice a c ((n, x), (after_item state x).1) in
    ap (cons_option here) (replies_from-push a c (n + 1) next log item ∙
    ap (λ m. replies_from a c (n + 1) next log ++ last_reply a c item m (after_item (state_after next log) item).1) e)
    ∙ cons_option-append here (replies_from a c (n + 1) next log) (last_reply a c item (n + suc (length log)) (after_item (state_after next log) item).1)

pub replies_more : (opening : KindState) (a c : ℕ) (log : List RunItem) (item : RunItem)
    → replies_to opening a (log ++ item ∷ []) c ≡ replies_to opening a log c ++ last_reply a c item (length log) (after_item (state_after opening log) item).1
replies_more opening a c log item =
    let e : 0 + length log ≡ length log = omega arith in
    replies_from-push a c 0 opening log item ∙ ap (λ m. replies_to opening a log c ++ last_reply a c item m (after_item (state_after opening log) item).1) e

-- ---- letters

option_or-assoc : {X : Type 0} (o p q : Option X) → option_or o (option_or p q) ≡ option_or (option_or o p) q
option_or-assoc None p q = refl
option_or-assoc (Some x) p q = refl

first_note_more : (a c : ℕ) (letters : List Letter) (letter : Letter) →
    first_note a c (letters ++ letter ∷ []) ≡ option_or (first_note a c letters) (note_in a c letter)
first_note_more a c [] letter = or_nothing (note_in a c letter)
first_note_more a c (x ∷ letters) letter =
    ap (option_or (note_in a c x)) (first_note_more a c letters letter) ∙ option_or-assoc (note_in a c x) (first_note a c letters) (note_in a c letter)

more_letters : {a : ℕ} {callers : List ℕ} {letters : List Letter} (letter : Letter) {log : List RunItem} → IsLogOf a callers letters log →
    IsLogOf a callers (letters ++ letter ∷ []) log
more_letters {letters} letter h = record {
  taken = λ k d lt. Contains-append_left letters (letter ∷ []) _ (h.taken k d lt);
  listed = h.listed;
  numbered = h.numbered;
}

-- what waits came before, or is this packet
arrived_waits : (id : ℕ) (packet : Packet) (inbox : InboxView) (arrival : Arrival) (c n : ℕ) (p : Packet) (P : Packet → Type 0) → arrival ≡ arrival_at id inbox
    packet → waiting_after arrival packet inbox c n ≡ Some p → (waiting_packet inbox c n ≡ Some p → P p) → (packet.actor ≡ id → P packet) → P p
arrived_waits id packet inbox New c n p P is e old new = go (is_packet_of c n packet) refl
  where
    actor : Tells packet.actor id → packet.actor ≡ id
    actor (same b f) = f
    actor (other b f) =
        let no : New ≡ Stranger = is ∙ ap (λ x. cond x (cond (is_listed inbox packet.caller && nat_lt packet.number 65536)
        (cond (came_before inbox packet.caller packet.number) Repeat New) Stranger) Stranger) b in
        cc

    go : (b : Bool) → is_packet_of c n packet ≡ b → P p
    go true f = let whole : packet ≡ p = cc in subst P whole (new (actor (tells packet.actor id)))
    go false f = old (ap (λ b. cond b (Some packet) (waiting_packet inbox c n)) (sym f) ∙ e)
arrived_waits id packet inbox arrival c n p P is e old new = old e

-- an actor fed by letters is fed by one more call, too, whether that arrived or memory was refused for it
pub fed_arrive : {S : Type 0} {callers : List ℕ} {letters : List Letter} (packet : Packet) {before : LiveView S} (inbox : InboxView) (result : Result Arrival
    Packet) → inbox.lanes ≡ before.inbox.lanes → ((c : ℕ) → note_of inbox c ≡ note_of before.inbox c) → IfOk result (λ arrival. arrival ≡
    arrival_at before.id before.inbox packet) → IfOk result (λ arrival. (c n : ℕ) → waiting_packet inbox c n ≡ waiting_after arrival packet before.inbox c n) →
    OnErr result (inbox ≡ before.inbox) → IsFed callers letters before → IsFed callers (letters ++ Call packet ∷ []) (record before { inbox = inbox })
fed_arrive {callers} {letters} packet {before} inbox result lanes notes is waits err h = record {
  listed = λ c. (λ i. is_listed (record { lanes = lanes i; held = inbox.held; notes = inbox.notes }) c) ∙ h.listed c;
  handed = λ c. (λ i. handed_of (record { lanes = lanes i; held = inbox.held; notes = inbox.notes }) c) ∙ h.handed c;
  waits = λ c n p e. by result is waits err c n p e;
  notes = λ c l. notes c ∙ h.notes c l ∙ sym (first_note_more before.id c letters (Call packet) ∙ or_nothing (first_note before.id c letters));
  log = more_letters (Call packet) h.log;
}
  where
    old : (c n : ℕ) (p : Packet) → waiting_packet before.inbox c n ≡ Some p → Contains (letters ++ Call packet ∷ []) (Call p) × (p.actor ≡ before.id)
    old c n p e = (Contains-append_left letters (Call packet ∷ []) (Call p) (h.waits c n p e).0, (h.waits c n p e).1)

    by : (r : Result Arrival Packet) → IfOk r (λ arrival. arrival ≡ arrival_at before.id before.inbox packet) →
        IfOk r (λ arrival. (c n : ℕ) → waiting_packet inbox c n ≡ waiting_after arrival packet before.inbox c n) → OnErr r (inbox ≡ before.inbox) →
        (c n : ℕ) (p : Packet) → waiting_packet inbox c n ≡ Some p → Contains (letters ++ Call packet ∷ []) (Call p) × (p.actor ≡ before.id)
    by (Ok arrival) is waits err c n p e =
        arrived_waits before.id packet before.inbox arrival c n p (λ q. Contains (letters ++ Call packet ∷ []) (Call q) × (q.actor ≡ before.id)) is
        (sym (waits c n) ∙ e) (old c n p) (λ f. (Contains-push letters (Call packet), f))
    by (Err back) is waits err c n p e = old c n p (ap (λ x. waiting_packet x c n) (sym err) ∙ e)

noted : (note : ReleaseNote) (inbox : InboxView) (id c : ℕ) (arrival : Arrival) → arrival ≡ note_arrival_at id inbox note → is_listed inbox c ≡ true
    → note_after arrival note inbox c ≡ option_or (note_of inbox c) (note_in id c (Note note))
noted note inbox id c arrival is listed = go (tells note.actor id) (tells note.caller c)
  where
    unless : note.caller ≢ c → (a : Arrival) → note_after a note inbox c ≡ note_of inbox c
    unless f New = ap (λ b. cond b (Some note.after) (note_of inbox c)) (ne_eqb c note.caller (λ e. f (sym e)))
    unless f a = refl

    within : (o : Option ℕ) → cond (is_some o) o (Some note.after) ≡ option_or o (Some note.after)
    within None = refl
    within (Some v) = refl

    chosen : (b : Bool) → {a : Arrival} → a ≡ cond b Repeat New → c ≡ note.caller → note_after a note inbox c ≡ cond b (note_of inbox c) (Some note.after)
    chosen true e f = ap (λ x. note_after x note inbox c) e
    chosen false e f = ap (λ x. note_after x note inbox c) e ∙ ap (λ b. cond b (Some note.after) (note_of inbox c)) (eq-eqb c note.caller f)

    go : Tells note.actor id → Tells note.caller c →
        note_after arrival note inbox c ≡ option_or (note_of inbox c) (cond ((note.caller == c) && (note.actor == id)) (Some note.after) None)
    go (other b f) any =
        let stranger : arrival ≡ Stranger = is ∙ ap (λ x. cond x (note_arrival inbox note) Stranger) b in
        let none : ((note.caller == c) && (note.actor == id)) ≡ false = ap (λ x. (note.caller == c) && x) b ∙ and-false (note.caller == c) in
        ap (λ x. note_after x note inbox c) stranger
        ∙ sym (or_nothing (note_of inbox c))
        ∙ ap (λ x. option_or (note_of inbox c) (cond x (Some note.after) None)) (sym none)
    go (same b f) (other d g) =
        unless g arrival
        ∙ sym (or_nothing (note_of inbox c))
        ∙ ap (λ x. option_or (note_of inbox c) (cond (x && (note.actor == id)) (Some note.after) None)) (sym d)
    go (same b f) (same d g) =
        let there : is_listed inbox note.caller ≡ true = ap (is_listed inbox) g ∙ listed in
        let it : arrival ≡ cond (is_some (note_of inbox c)) Repeat New =
        is ∙ ap (λ x. cond x (note_arrival inbox note) Stranger) b ∙ ap (λ x. cond x (cond (is_some (note_of inbox note.caller)) Repeat New) Stranger) there ∙
        ap (λ m. cond (is_some (note_of inbox m)) Repeat New) g in
        chosen (is_some (note_of inbox c)) it (sym g)
        ∙ within (note_of inbox c)
        ∙ (λ i. option_or (note_of inbox c) (cond (sym d i && sym b i) (Some note.after) None))

pub fed_note : {S : Type 0} (callers : List ℕ) (letters : List Letter) (note : ReleaseNote) (before : LiveView S) (inbox : InboxView) {arrival : Arrival} →
    arrival ≡ note_arrival_at before.id before.inbox note → inbox.lanes ≡ before.inbox.lanes → inbox.held ≡ before.inbox.held → ((c : ℕ) → note_of inbox c ≡
    note_after arrival note before.inbox c) → IsFed callers letters before → IsFed callers (letters ++ Note note ∷ []) (record before { inbox = inbox })
fed_note callers letters note before inbox {arrival} is lanes held notes h = record {
  listed = λ c. (λ i. is_listed (record { lanes = lanes i; held = inbox.held; notes = inbox.notes }) c) ∙ h.listed c;
  handed = λ c. (λ i. handed_of (record { lanes = lanes i; held = inbox.held; notes = inbox.notes }) c) ∙ h.handed c;
  waits = λ c n p e.
      let old = h.waits c n p ((λ i. waiting_packet (record { lanes = sym lanes i; held = sym held i; notes = inbox.notes }) c n) ∙ e) in
      (Contains-append_left letters (Note note ∷ []) (Call p) old.0, old.1);
  notes = λ c l. notes c ∙ noted note before.inbox before.id c arrival is (h.listed c ∙ l) ∙
      ap (λ o. option_or o (note_in before.id c (Note note))) (h.notes c l) ∙ sym (first_note_more before.id c letters (Note note));
  log = more_letters (Note note) h.log;
}

-- ---- a call runs

-- an actor fed by letters still is once it ran a caller's next call
pub fed_run : {S : Type 0} (read : S → KindState) {caller : ℕ} {packet : Packet} (before after : LiveView S) → next_of before.inbox caller ≡ Some packet
    → HasRunCall caller packet (live_view read before) (live_view read after)
    → (callers : List ℕ) (letters : List Letter) → IsFed callers letters before → IsFed callers letters after
fed_run read {caller} {packet} before after next ran callers letters h = record {
  listed = λ c. ran.taken.listed c ∙ h.listed c;
  handed = λ c. ran.taken.handed c ∙ count_more c caller before.log (item_of packet) ran.taken.of_caller (h.handed c) ∙
      ap (λ l. length (items_of c l)) (sym ran.log);
  waits = λ c n p e. by (was_handed after.inbox c n) c n p (sym (ran.taken.waits c n) ∙ e);
  notes = λ c l. ran.taken.notes c ∙ h.notes c l ∙ ap (λ a. first_note a c letters) (sym ran.id);
  log = subst (λ a. IsLogOf a callers letters after.log) (sym ran.id) (subst (λ l. IsLogOf before.id callers letters l) (sym ran.log) more);
}
  where
    by : (b : Bool) (c n : ℕ) (p : Packet) → cond b None (waiting_packet before.inbox c n) ≡ Some p → Contains letters (Call p) × (p.actor ≡ after.id)
    by true c n p e = cc
    by false c n p e = ((h.waits c n p e).0, (h.waits c n p e).1 ∙ sym ran.id)

    came : (b : Bool) → is_listed before.inbox caller ≡ b →
        (is_listed before.inbox caller ≡ true) × (waiting_packet before.inbox caller (handed_of before.inbox caller) ≡ Some packet)
    came true e = (e, ap (λ b. cond b (waiting_packet before.inbox caller (handed_of before.inbox caller)) None) (sym e) ∙ next)
    came false e = let no : None ≡ Some packet = ap (λ b. cond b (waiting_packet before.inbox caller (handed_of before.inbox caller)) None) (sym e) ∙ next in cc

    more : IsLogOf before.id callers letters (before.log ++ item_of packet ∷ [])
    more =
        let here = came (is_listed before.inbox caller) refl in
        let old = h.waits caller (handed_of before.inbox caller) packet here.1 in record {
          taken = All-push (λ item. Contains letters (Call (packet_of_item before.id item))) before.log (item_of packet) h.log.taken
              (subst (λ a. Contains letters (Call (packet_of_item a (item_of packet)))) old.1 old.0);
          listed = All-push (λ (item : RunItem). contains item.caller callers ≡ true) before.log (item_of packet) h.log.listed
              (ap (λ c. contains c callers) ran.taken.of_caller ∙ sym (h.listed caller) ∙ here.0);
          numbered = λ c. numbered_more c before.log (item_of packet)
              (ran.taken.numbered ∙ h.handed caller ∙ ap (λ d. length (items_of d before.log)) (sym ran.taken.of_caller)) (h.log.numbered c);
        }
