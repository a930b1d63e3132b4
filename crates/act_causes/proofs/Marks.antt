-- What every history keeps of replies and notes: each call that ran was replied to, and each last release sent its note.
use Rattle.act_causes.proofs.Common.{◌≡◌, ℕ, zero, suc, ◌+◌, ◌-◌, ◌<◌, Bool, true, false, cond, List, [], ◌∷◌, ◌++◌, length, Some, None, inl, inr, refl, ap}
use Rattle.act_causes.proofs.Common.{sym, ◌∙◌, subst, arith, Option, ◌==◌, ◌&&◌, slice_get, option_map, is_some, nat_lt, eqb-true, eq-eqb, ltb-true, and_parts}
use Rattle.act_causes.proofs.Common.{eqb_tells, Event, Submit, Copy, Release, Send, Deliver, Run, Collect, AskKill, TakeKill, Tell, Retire, Post}
use Rattle.act_causes.proofs.Common.{RunItem, NoActor, NoHandle, TooManyCopies, NoCaller, Handle, IsPrefix, needs, copies_held, copy_refusal}
use Rattle.act_causes.proofs.Common.{handle_refusal, ActorSpec, History, opening, is_caller, cast_of, names, count_pairs, copies_of, runs_of}
use Rattle.act_causes.proofs.Common.{has_letter, next_item, refusal_of, add_event, after_run, is_last, and_also, slice_get_front, option_map-none, added_grows}
use Rattle.act_causes.proofs.Common.{IsKept, needs-none, next_item_caller, times-push, gone_step, has_last, ran_on, runs_here, runs_other, slice_get_pushed}
use Rattle.act_causes.proofs.Common.{has_front, NoteLetter, ReplyPost}
use Rattle.act_world.proofs.Releasing.{note_letter}

-- ---- each call that ran was replied to

-- the post stands among those of the history
abbrev pub HasPost : History → Post → Type 0
HasPost h post = (j : ℕ) × (slice_get h.posts j ≡ Some post)

abbrev pub AreReplied : History → Type 0
AreReplied h = (a place : ℕ) (item : RunItem) → slice_get (runs_of a h) place ≡ Some item → HasPost h (ReplyPost item.caller a place)

pub post_stays : (h g : History) {post : Post} → IsPrefix h.posts g.posts → HasPost h post → HasPost g post
post_stays h g {post} front has = (has.0, slice_get_front h.posts g.posts has.0 front has.1)

pub last_post : (posts : List Post) (post : Post) → (j : ℕ) × (slice_get (posts ++ post ∷ []) j ≡ Some post)
last_post [] post = (zero, refl)
last_post (x ∷ posts) post = let rest = last_post posts post in (suc rest.0, rest.1)

replied_stays : (h : History) (event : Event) → (add_event h event).ran ≡ h.ran → AreReplied h → AreReplied (add_event h event)
replied_stays h event ran replied a place item e =
    let was : slice_get (runs_of a h) place ≡ Some item = rw ran at e in post_stays h (add_event h event) (added_grows h event).posts (replied a place item was)

replied_run : (h : History) (b d : ℕ) (item : RunItem) → item.caller ≡ d → AreReplied h → AreReplied (ran_on h b d item)
replied_run h b d item mine replied a place x e = elim (eqb_tells b a) [
  | inl t ↦
      elim (slice_get_pushed (runs_of b h) item place (sym (ap (λ items. slice_get items place) (runs_here h b d item)) ∙
      subst (λ n. slice_get (runs_of n (ran_on h b d item)) place ≡ Some x) (sym t.1) e)) [
        | inl was ↦ front (replied a place x (subst (λ n. slice_get (runs_of n h) place ≡ Some x) t.1 was))
        | inr last ↦
            let post : ReplyPost d b (length (runs_of b h)) ≡ ReplyPost x.caller a place =
            ap (λ c. ReplyPost c b (length (runs_of b h))) (sym mine ∙ ap (λ (i : RunItem). i.caller) last.1)
            ∙ ap (λ n. ReplyPost x.caller b n) (sym last.0)
            ∙ ap (λ n. ReplyPost x.caller n place) t.1 in
            subst (HasPost (ran_on h b d item)) post (last_post h.posts (ReplyPost d b (length (runs_of b h))))
      ]
  | inr f ↦ front (replied a place x (sym (ap (λ items. slice_get items place) (runs_other h b a d item f.1)) ∙ e))
]
  where
    front : HasPost h (ReplyPost x.caller a place) → HasPost (ran_on h b d item) (ReplyPost x.caller a place)
    front has = post_stays h (ran_on h b d item) (ReplyPost d b (length (runs_of b h)) ∷ [], refl) has

pub replied_step : IsKept AreReplied
replied_step h (Submit c a method args) replied accepted = replied_stays h (Submit c a method args) refl replied
replied_step h (Copy c a) replied accepted = replied_stays h (Copy c a) refl replied
replied_step h (Release c a) replied accepted = replied_stays h (Release c a) refl replied
replied_step h (Send c k) replied accepted = replied_stays h (Send c k) refl replied
replied_step h (Deliver i) replied accepted = replied_stays h (Deliver i) refl replied
replied_step h (Run a c) replied accepted = go (next_item a c h) refl
  where
    go : (o : Option RunItem) → next_item a c h ≡ o → AreReplied (after_run a c h o)
    go None e = replied
    go (Some item) e = replied_run h a c item (next_item_caller a c h e) replied
replied_step h (Collect j) replied accepted = replied_stays h (Collect j) refl replied
replied_step h (AskKill c a) replied accepted = replied_stays h (AskKill c a) refl replied
replied_step h (TakeKill a) replied accepted = replied_stays h (TakeKill a) refl replied
replied_step h (Tell a c) replied accepted = replied_stays h (Tell a c) refl replied
replied_step h (Retire a) replied accepted = replied_stays h (Retire a) refl replied

-- ---- each last release sent its note

abbrev pub AreNoted : History → Type 0
AreNoted h = (c a : ℕ) → copies_of c a h ≡ Some 0 → has_letter (note_letter h c a) h.mail ≡ true

-- a note that was sent stays, and counts the calls still
noted_on : (h : History) (event : Event) → refusal_of h event ≡ None → AreNoted h → (c a : ℕ) → copies_of c a h ≡ Some 0 →
    has_letter (note_letter (add_event h event) c a) (add_event h event).mail ≡ true
noted_on h event accepted noted c a none =
    let stays = gone_step c a h event (ap copies_held none) accepted in
    subst (λ calls. has_letter (NoteLetter c a (length calls)) (add_event h event).mail ≡ true) (sym stays.calls)
    (has_front (note_letter h c a) h.mail (add_event h event).mail (added_grows h event).mail (noted c a none))

-- who may copy or release holds a copy
copier_holds : (h : History) (c a : ℕ) → refusal_of h (Copy c a) ≡ None → 0 < copies_held (copies_of c a h)
copier_holds h c a e =
    let copies = copies_of c a h in
    let none = option_map-none Handle (copy_refusal copies) (needs-none (is_caller c h) NoCaller (option_map Handle (copy_refusal copies)) e).1 in
    let second = needs (nat_lt (copies_held copies) 65535) TooManyCopies None in
    let first = needs-none (is_some copies) NoActor (needs (nat_lt 0 (copies_held copies)) NoHandle second) none in
    ltb-true 0 (copies_held copies) (needs-none (nat_lt 0 (copies_held copies)) NoHandle second first.1).0

releaser_holds : (h : History) (c a : ℕ) → refusal_of h (Release c a) ≡ None → 0 < copies_held (copies_of c a h)
releaser_holds h c a e =
    let copies = copies_of c a h in
    let none = option_map-none Handle (handle_refusal copies) (needs-none (is_caller c h) NoCaller (option_map Handle (handle_refusal copies)) e).1 in
    let first = needs-none (is_some copies) NoActor (needs (nat_lt 0 (copies_held copies)) NoHandle None) none in
    ltb-true 0 (copies_held copies) (needs-none (nat_lt 0 (copies_held copies)) NoHandle None first.1).0

-- copies by their numbers made and released
abbrev held_by : Bool → ℕ → ℕ → Option ℕ
held_by named made gone = cond named (Some ((1 + made) - gone)) None

one_made : (named : Bool) (made gone : ℕ) → 0 < copies_held (held_by named made gone) → held_by named (made + 1) gone ≡ Some 0 → ⊥
one_made true made gone held e = let some : 0 < (1 + made) - gone = held in let none : (1 + (made + 1)) - gone ≡ 0 = cc in omega arith
one_made false made gone held e = cc

last_gone : (named : Bool) (made gone : ℕ) → 0 < copies_held (held_by named made gone) → held_by named made (gone + 1) ≡ Some 0 →
    copies_held (held_by named made gone) ≡ 1
last_gone true made gone held e = let some : 0 < (1 + made) - gone = held in let none : (1 + made) - (gone + 1) ≡ 0 = cc in let one : (1 + made) - gone ≡ 1 =
    omega arith in one
last_gone false made gone held e = cc

noted_copy : (h : History) (d b : ℕ) → refusal_of h (Copy d b) ≡ None → AreNoted h → AreNoted (add_event h (Copy d b))
noted_copy h d b accepted noted c a none = go ((d == c) && (b == a)) refl
  where
    go : (same : Bool) → ((d == c) && (b == a)) ≡ same → has_letter (note_letter (add_event h (Copy d b)) c a) h.mail ≡ true
    go true e =
        let parts = and_parts (d == c) (b == a) e in
        let held : 0 < copies_held (copies_of c a h) = subst (λ x. 0 < copies_held (copies_of x a h)) (eqb-true d c parts.0)
        (subst (λ y. 0 < copies_held (copies_of d y h)) (eqb-true b a parts.1) (copier_holds h d b accepted)) in
        let more : count_pairs c a (h.copied ++ (d, b) ∷ []) ≡ count_pairs c a h.copied + 1 =
        times-push c a d b h.copied ∙ ap (λ same. count_pairs c a h.copied + cond same 1 0) e in
        absurd (one_made (names c (cast_of a h)) (count_pairs c a h.copied) (count_pairs c a h.released) held
        (sym (ap (λ n. held_by (names c (cast_of a h)) n (count_pairs c a h.released)) more) ∙ none))
    go false e =
        let plus : count_pairs c a h.copied + 0 ≡ count_pairs c a h.copied = omega arith in
        let same : count_pairs c a (h.copied ++ (d, b) ∷ []) ≡ count_pairs c a h.copied =
        times-push c a d b h.copied ∙ ap (λ same. count_pairs c a h.copied + cond same 1 0) e ∙ plus in
        noted_on h (Copy d b) accepted noted c a (sym (ap (λ n. held_by (names c (cast_of a h)) n (count_pairs c a h.released)) same) ∙ none)

-- the note that a last release sends is there
note_sent : (h : History) (c a : ℕ) → is_last c a h ≡ true → has_letter (note_letter h c a) (add_event h (Release c a)).mail ≡ true
note_sent h c a last =
    ap (λ b. has_letter (note_letter h c a) (and_also h.mail (cond b (Some (note_letter h c a)) None))) last
    ∙ has_last (note_letter h c a) h.mail

noted_release : (h : History) (d b : ℕ) → refusal_of h (Release d b) ≡ None → AreNoted h → AreNoted (add_event h (Release d b))
noted_release h d b accepted noted c a none = go ((d == c) && (b == a)) refl
  where
    go : (same : Bool) → ((d == c) && (b == a)) ≡ same → has_letter (note_letter h c a) (add_event h (Release d b)).mail ≡ true
    go true e =
        let parts = and_parts (d == c) (b == a) e in let caller : d ≡ c = eqb-true d c parts.0 in let actor : b ≡ a = eqb-true b a parts.1 in
        let held : 0 < copies_held (copies_of c a h) =
        subst (λ x. 0 < copies_held (copies_of x a h)) caller (subst (λ y. 0 < copies_held (copies_of d y h)) actor (releaser_holds h d b accepted)) in
        let more : count_pairs c a (h.released ++ (d, b) ∷ []) ≡ count_pairs c a h.released + 1 =
        times-push c a d b h.released ∙ ap (λ same. count_pairs c a h.released + cond same 1 0) e in
        let one : copies_held (copies_of c a h) ≡ 1 =
        last_gone (names c (cast_of a h)) (count_pairs c a h.copied) (count_pairs c a h.released) held
        (sym (ap (λ n. held_by (names c (cast_of a h)) (count_pairs c a h.copied) n) more) ∙ none) in
        subst (λ x. has_letter (note_letter h c a) (add_event h (Release x b)).mail ≡ true) (sym caller)
        (subst (λ y. has_letter (note_letter h c a) (add_event h (Release c y)).mail ≡ true) (sym actor)
        (note_sent h c a (eq-eqb (copies_held (copies_of c a h)) 1 one)))
    go false e =
        let plus : count_pairs c a h.released + 0 ≡ count_pairs c a h.released = omega arith in
        let same : count_pairs c a (h.released ++ (d, b) ∷ []) ≡ count_pairs c a h.released =
        times-push c a d b h.released ∙ ap (λ same. count_pairs c a h.released + cond same 1 0) e ∙ plus in
        noted_on h (Release d b) accepted noted c a (sym (ap (λ n. held_by (names c (cast_of a h)) (count_pairs c a h.copied) n) same) ∙ none)

pub noted_step : IsKept AreNoted
noted_step h (Submit d b method args) noted accepted c a none = noted_on h (Submit d b method args) accepted noted c a none
noted_step h (Copy d b) noted accepted c a none = noted_copy h d b accepted noted c a none
noted_step h (Release d b) noted accepted c a none = noted_release h d b accepted noted c a none
noted_step h (Send d k) noted accepted c a none = noted_on h (Send d k) accepted noted c a none
noted_step h (Deliver i) noted accepted c a none = noted_on h (Deliver i) accepted noted c a none
noted_step h (Run b d) noted accepted c a none = go (next_item b d h) none
  where
    go : (o : Option RunItem) → copies_of c a (after_run b d h o) ≡ Some 0 → has_letter (note_letter (after_run b d h o) c a) (after_run b d h o).mail ≡ true
    go None e = noted c a e
    go (Some item) e = noted c a e
noted_step h (Collect j) noted accepted c a none = noted_on h (Collect j) accepted noted c a none
noted_step h (AskKill d b) noted accepted c a none = noted_on h (AskKill d b) accepted noted c a none
noted_step h (TakeKill b) noted accepted c a none = noted_on h (TakeKill b) accepted noted c a none
noted_step h (Tell b d) noted accepted c a none = noted_on h (Tell b d) accepted noted c a none
noted_step h (Retire b) noted accepted c a none = noted_on h (Retire b) accepted noted c a none

-- ---- at the opening

pub replied_opening : (casts : List ActorSpec) → AreReplied (opening casts)
replied_opening casts a place item e = cc

pub noted_opening : (casts : List ActorSpec) → AreNoted (opening casts)
noted_opening casts c a none = go (names c (cast_of a (opening casts))) none
  where
    go : (named : Bool) → cond {A = Option ℕ} named (Some 1) None ≡ Some 0 → has_letter (NoteLetter c a 0) [] ≡ true
    go true e = let bad : ◌≡◌ {A = ℕ} 1 0 = cc in absurd (omega arith)
    go false e = cc
