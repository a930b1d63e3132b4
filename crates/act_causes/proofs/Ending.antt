-- An actor that takes a kill, tells its death, or retires.
use Rattle.act_causes.proofs.Common.{◌≡◌, ℕ, true, false, List, ◌∷◌, ◌++◌, length, Option, Some, None, Ok, refl, ap, sym, ◌∙◌, Contains, slice_get, slice_set}
use Rattle.act_causes.proofs.Common.{eqb-true, Death, ReleaseNote, TakeKill, Tell, Retire, items_of, ActorSpec, History, cast_of, names, has_letter, add_event}
use Rattle.act_causes.proofs.Common.{handed_of, note_of, RetiredView, cast_at, NetworkView, SlotView, Ended, is_dead_slot, dead_slot, is_note_of, IsStage}
use Rattle.act_causes.proofs.Common.{still_lives, kill_follows, retire_follows, Site, Action, Actor, Caller, actions_of, KillAsked, contains, ActorMayDo}
use Rattle.act_causes.proofs.Common.{DeathTold, KillTaken, NoteTaken, Retirement, has_died_in, KillNote, has_ended_in, log_of, is_some, [], NoteLetter}
use Rattle.act_causes.proofs.Common.{DeathPost, Dead, Told, DidRetire, some_cast}
use Rattle.act_world.proofs.Telling.{tell_follows, dead_is as dead_seen_is}
use Rattle.act_causes.proofs.Made.{owner_same, dead_is, by_actor, actors_stay, actors_killed, actors_retired}
use Rattle.act_causes.proofs.Marks.{last_post}
use Rattle.act_causes.proofs.Keeping.{Keeps, GoesOn, go_on, cast_is}
use Rattle.act_causes.proofs.Standing.{Lives, lives, inboxes_set, naming_free}
use Rattle.act_causes.proofs.Sites.{deed_of}

note_is : (n : ℕ) (o : Option ℕ) → is_note_of n o ≡ true → o ≡ Some n
note_is n None e = cc
note_is n (Some m) e = ap (λ x. Some x) (eqb-true m n e)

module _ (casts : List ActorSpec) (deeds : List (Site × Action)) (h : History) (a : ℕ) (keeps : Keeps casts deeds h) where
  abbrev network : NetworkView
  network = keeps.world.network

  abbrev slots : List SlotView
  slots = keeps.world.slots

  pub took_kill : (asker : ℕ) (note : KillNote) → has_ended_in (actions_of (Actor a) deeds) ≡ false → (c : ℕ) → Contains deeds (Caller c, KillAsked a) →
      GoesOn casts deeds h (Actor a, KillTaken asker note)
  took_kill asker note on c by =
      let asked = keeps.left (Caller c, KillAsked a) by in
      let here = lives casts deeds h a keeps (some_cast c (cast_at a casts) asked.0) on in
      go_on casts deeds h (Actor a, KillTaken asker note) (TakeKill a) Dead
      (record { network = network; slots = slice_set slots a (dead_slot here.live) }) keeps refl tt
      (kill_follows h network slots a true (dead_slot here.live) (Ok Dead) keeps.lawful keeps.reached.refines
      (sym (keeps.reached.refines.asked a ∙ asked.1)) here.at refl)
      (λ d other. keeps.reached.owners d other ∙ ap (λ o. Some o) (sym (owner_same casts d deeds (Actor a, KillTaken asker note) refl)))
      (inboxes_set slots a (dead_slot here.live) here.at tt keeps.reached.inboxes) keeps.reached.room
      (actors_killed deeds a asker note h keeps.actors) tt

  pub told_death : (c : ℕ) → has_died_in (actions_of (Actor a) deeds) ≡ true → names c (cast_at a casts) ≡ true → GoesOn casts deeds h (Actor a, DeathTold c)
  told_death c dead named = go (slice_get slots a) refl (keeps.reached.refines.actors a)
    where
      named_here : names c (cast_of a h) ≡ true
      named_here = ap (names c) (cast_is casts h a keeps.casts_are) ∙ named

      go : (o : Option SlotView) → slice_get keeps.world.slots a ≡ o → IsStage h a o → GoesOn casts deeds h (Actor a, DeathTold c)
      go None at none = let bad : false ≡ true = sym (ap (names c) none) ∙ named_here in cc
      go (Some slot) at stage =
          let seen : is_dead_slot slot ≡ true = dead_seen_is h c a slot stage named_here ∙ dead_is a keeps.actors ∙ dead in
          go_on casts deeds h (Actor a, DeathTold c) (Tell a c) (Told (length network.replies))
          (record { network = record network { replies = network.replies ++ record { caller = c; notice = Death a } ∷ [] }; slots = slots }) keeps refl tt
          (tell_follows network slots a c (length network.replies) slot (network.replies ++ record { caller = c; notice = Death a } ∷ []) keeps.lawful
          keeps.reached.refines at (naming_free casts deeds h a keeps c named) seen refl refl)
          (λ d other. keeps.reached.owners d other ∙ ap (λ o. Some o) (sym (owner_same casts d deeds (Actor a, DeathTold c) refl)))
          keeps.reached.inboxes keeps.reached.room
          (actors_stay (add_event h (Tell a c)) (by_actor a (DeathTold c) refl refl refl) refl refl refl keeps.actors)
          (last_post h.posts (DeathPost c a))

  pub retired : (cast : ActorSpec) → cast_at a casts ≡ Some cast → ActorMayDo a cast.callers (actions_of (Actor a) deeds) Retirement →
      GoesOn casts deeds h (Actor a, Retirement)
  retired cast at may =
      let here = lives casts deeds h a keeps (ap (λ o. is_some o) at) may.0 in
      let ended : RetiredView = record { id = here.live.id; log = here.live.log; state = here.live.state } in
      go_on casts deeds h (Actor a, Retirement) (Retire a) DidRetire (record { network = network; slots = slice_set slots a (Ended ended) }) keeps refl tt
      (retire_follows h a (Ended ended) (Ok DidRetire) keeps.lawful keeps.reached.refines here.at
      (record { lives = still_lives h a here.is; drained = λ c listed. all_ran here c (sym (here.is.listed c) ∙ listed) }, refl))
      (λ d other. keeps.reached.owners d other ∙ ap (λ o. Some o) (sym (owner_same casts d deeds (Actor a, Retirement) refl)))
      (inboxes_set slots a (Ended ended) here.at tt keeps.reached.inboxes) keeps.reached.room
      (actors_retired deeds a h keeps.actors) tt
    where
      all_ran : (here : Lives h keeps.world.slots a) (c : ℕ) → names c (cast_of a h) ≡ true → note_of here.live.inbox c ≡ Some (handed_of here.live.inbox c)
      all_ran here c named =
          let count = length (items_of c (log_of (actions_of (Actor a) deeds))) in
          let note : ReleaseNote = record { caller = c; actor = a; after = count } in
          let listed : contains c cast.callers ≡ true = sym (ap (names c) (cast_is casts h a keeps.casts_are ∙ at)) ∙ named in
          let came : has_letter (NoteLetter c a count) h.arrived ≡ true =
          keeps.left (Actor a, NoteTaken note) (deed_of (Actor a) deeds (NoteTaken note) (may.1 c listed)) in
          let told : is_note_of count (note_of here.live.inbox c) ≡ true = here.is.notes c count named ∙ came in
          let ran : handed_of here.live.inbox c ≡ count = here.is.handed c named ∙ ap (λ items. length (items_of c items)) (keeps.actors.runs a) in
          note_is count (note_of here.live.inbox c) told ∙ ap (λ x. Some x) (sym ran)
