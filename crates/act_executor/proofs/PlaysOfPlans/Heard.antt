-- What a caller collects of an actor in the play is what its thread took of the actor's line.
use Rattle.act_executor.proofs.Common.{◌≡◌, ℕ, ◌==◌, Bool, true, false, cond, List, [], ◌∷◌, ◌++◌, Some, None, refl, ap, sym, ◌∙◌, subst, append_assoc, ◌&&◌}
use Rattle.act_executor.proofs.Common.{map, filter, filter_map, AllByRecursion, cons_option, eqb-true, map-append, recursion_from_All, KindState, Notice}
use Rattle.act_executor.proofs.Common.{Answered, Death, Post, RunItem, IsPrefix, contains, IsPrefix-map, front_trans, whole_front, Noticed, notice_actor}
use Rattle.act_executor.proofs.Common.{items_from, Site, Action, Caller, Actor, actions_of, notice_of, replies_are_due, post_of, is_between, ReplyPost}
use Rattle.act_executor.proofs.Common.{DeathPost, EndView, RetiredEnd, replies_to, deaths, places_of, place_of, IsReplyOf}
use Rattle.act_executor.proofs.Lists.Kept.{gives_none}

-- a notice to this caller, as the rules name it
abbrev pub post_from : ℕ → Notice → Post
post_from c (Answered reply) = ReplyPost c reply.actor reply.place
post_from c (Death a) = DeathPost c a

-- ---- a caller's part of what is collected

module _ (c a : ℕ) where
  -- of these steps, what was collected of the actor, as the rules name it
  abbrev heard_in : List Action → List Post
  heard_in steps = map (post_from c) (items_from notice_actor a (filter_map notice_of steps))

  one_heard : (d : ℕ) (notice : Notice) {posts : List Post} (steps : List Action) → posts ≡ heard_in steps → (b : Bool) → (d == c) ≡ b → (x : Bool) →
      (notice_actor notice == a) ≡ x → cond (b && x) (post_from d notice ∷ posts) posts ≡ heard_in (cons_option (cond b (Some (Noticed notice)) None) steps)
  one_heard d notice steps rest false is x same = rest
  one_heard d notice {posts} steps rest true is true same =
      let heard = items_from notice_actor a (filter_map notice_of steps) in
      ap (λ n. post_from n notice ∷ posts) (eqb-true d c is) ∙ ap (λ l. post_from c notice ∷ l) rest
      ∙ sym (ap (λ b. map (post_from c) (cond b (notice ∷ heard) heard)) same)
  one_heard d notice steps rest true is false same =
      let heard = items_from notice_actor a (filter_map notice_of steps) in rest ∙ sym (ap (λ b. map (post_from c) (cond b (notice ∷ heard) heard)) same)

  -- the deeds collect of the actor, for the caller, what the caller's own steps do
  pub collected_part : (deeds : List (Site × Action)) → filter (is_between c a) (filter_map post_of deeds) ≡ heard_in (actions_of (Caller c) deeds)
  collected_part [] = refl
  collected_part ((Caller d, Noticed (Answered reply)) ∷ deeds) =
      one_heard d (Answered reply) (actions_of (Caller c) deeds) (collected_part deeds) (d == c) refl
      (reply.actor == a) refl
  collected_part ((Caller d, Noticed (Death b)) ∷ deeds) =
      one_heard d (Death b) (actions_of (Caller c) deeds) (collected_part deeds) (d == c) refl (b == a) refl
  collected_part ((Caller d, step) ∷ deeds) =
      collected_part deeds ∙ ap (λ l. map (post_from c) (items_from notice_actor a l))
      (sym (gives_none notice_of (d == c) step (actions_of (Caller c) deeds) refl))
  collected_part ((Actor b, step) ∷ deeds) = collected_part deeds

-- ---- of one actor alone

pub of_listed : (a : ℕ) (actors : List ℕ) → contains a actors ≡ true → (notices : List Notice) →
    items_from notice_actor a (filter (λ notice. contains (notice_actor notice) actors) notices) ≡ items_from notice_actor a notices
of_listed a actors listed [] = refl
of_listed a actors listed (notice ∷ notices) =
    go (contains (notice_actor notice) actors) refl (notice_actor notice == a) refl (of_listed a actors listed notices)
  where
    go : (b : Bool) → contains (notice_actor notice) actors ≡ b → (x : Bool) → (notice_actor notice == a) ≡ x →
        items_from notice_actor a (filter (λ notice. contains (notice_actor notice) actors) notices) ≡ items_from notice_actor a notices →
        items_from notice_actor a (cond b (notice ∷ filter (λ notice. contains (notice_actor notice) actors) notices)
        (filter (λ notice. contains (notice_actor notice) actors) notices)) ≡ items_from notice_actor a (notice ∷ notices)
    go true is x same rest = ap (λ l. cond (notice_actor notice == a) (notice ∷ l) l) rest
    go false is true same rest = let bad : true ≡ false = sym listed ∙ ap (λ n. contains n actors) (sym (eqb-true (notice_actor notice) a same)) ∙ is in cc
    go false is false same rest = rest ∙ sym (ap (λ b. cond b (notice ∷ items_from notice_actor a notices) (items_from notice_actor a notices)) same)

pub of_stranger : (a : ℕ) (actors : List ℕ) → contains a actors ≡ false → (notices : List Notice) →
    items_from notice_actor a (filter (λ notice. contains (notice_actor notice) actors) notices) ≡ []
of_stranger a actors none [] = refl
of_stranger a actors none (notice ∷ notices) =
    go (contains (notice_actor notice) actors) refl (notice_actor notice == a) refl (of_stranger a actors none notices)
  where
    go : (b : Bool) → contains (notice_actor notice) actors ≡ b → (x : Bool) → (notice_actor notice == a) ≡ x →
        items_from notice_actor a (filter (λ notice. contains (notice_actor notice) actors) notices) ≡ [] → items_from notice_actor a (cond b
        (notice ∷ filter (λ notice. contains (notice_actor notice) actors) notices) (filter (λ notice. contains (notice_actor notice) actors) notices)) ≡ []
    go true is true same rest = let bad : true ≡ false = sym is ∙ ap (λ n. contains n actors) (eqb-true (notice_actor notice) a same) ∙ none in cc
    go true is false same rest = ap (λ b. cond b (notice ∷ items_from notice_actor a (filter (λ notice. contains (notice_actor notice) actors) notices))
        (items_from notice_actor a (filter (λ notice. contains (notice_actor notice) actors) notices))) same ∙ rest
    go false is x same rest = rest

-- ---- what the actor gave

as_posts : (opening : KindState) (a c : ℕ) (log : List RunItem) (notices : List Notice) (places : List ℕ) → map place_of notices ≡ map
    (λ place. Some place) places → AllByRecursion (IsReplyOf opening a c log) notices → map (post_from c) notices ≡ map (λ place. ReplyPost c a place) places
as_posts opening a c log [] [] e all = refl
as_posts opening a c log [] (place ∷ places) e all = cc
as_posts opening a c log (notice ∷ notices) [] e all = cc
as_posts opening a c log (Death b ∷ notices) (place ∷ places) e all = absurd all.0
as_posts opening a c log (Answered reply ∷ notices) (place ∷ places) e all =
    let head : Some reply.place ≡ Some place = cc in let at : reply.place ≡ place = cc in
    let tail : map place_of notices ≡ map (λ place. Some place) places = cc in
    ap (λ n. ReplyPost c n reply.place ∷ map (post_from c) notices) all.0.names.0
    ∙ ap (λ n. ReplyPost c a n ∷ map (post_from c) notices) at
    ∙ ap (λ l. ReplyPost c a place ∷ l) (as_posts opening a c log notices places tail all.1)

end_posts : (a c : ℕ) (end : EndView) → IsPrefix (map (post_from c) (deaths a end)) (DeathPost c a ∷ [])
end_posts a c (RetiredEnd retired) = (DeathPost c a ∷ [], refl)
end_posts a c end = whole_front (DeathPost c a ∷ [])

-- a prefix behind the same list
pub front_after : {A : Type 0} (xs ys zs : List A) → IsPrefix ys zs → IsPrefix (xs ++ ys) (xs ++ zs)
front_after {A = A} xs ys zs front = (front.0, append_assoc xs ys front.0 ∙ ap (λ l. xs ++ l) front.1)

pub given_posts : (opening : KindState) (a c : ℕ) (log : List RunItem) (end : EndView) (notices : List Notice) → IsPrefix notices (replies_to opening a log
    c ++ deaths a end) → IsPrefix (map (post_from c) notices) (map (λ place. ReplyPost c a place) (places_of c log) ++ DeathPost c a ∷ [])
given_posts opening a c log end notices front =
    let due = replies_are_due opening a c log in
    let replies : map (post_from c) (replies_to opening a log c) ≡ map (λ place. ReplyPost c a place) (places_of c log) =
    as_posts opening a c log (replies_to opening a log c) (places_of c log) due.places
    (recursion_from_All (IsReplyOf opening a c log) (replies_to opening a log c) due.answers) in
    let whole : map (post_from c) (replies_to opening a log c ++ deaths a end) ≡ map (λ place. ReplyPost c a place) (places_of c log) ++ map (post_from c)
    (deaths a end) =
    map-append (post_from c) (replies_to opening a log c) (deaths a end) ∙ ap (λ l. l ++ map (post_from c) (deaths a end)) replies in
    front_trans (map (post_from c) notices) (map (λ place. ReplyPost c a place) (places_of c log) ++ map (post_from c) (deaths a end)) _
    (subst (IsPrefix (map (post_from c) notices)) whole (IsPrefix-map (post_from c) notices (replies_to opening a log c ++ deaths a end) front))
    (front_after (map (λ place. ReplyPost c a place) (places_of c log)) (map (post_from c) (deaths a end)) (DeathPost c a ∷ []) (end_posts a c end))
