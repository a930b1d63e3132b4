-- What runs next, as the actor and as the history tells.
use Rattle.act_world.proofs.Common.{◌≡◌, ℕ, Bool, true, false, cond, Some, None, refl, ap, ◌∙◌, arith, Option, slice_get, option_map, le-ltb, Packet}
use Rattle.act_world.proofs.Common.{Submission, calls_to, History, cast_of, names, calls_of, ran_count, kept_of, has_letter, run_item, next_item, handed_of}
use Rattle.act_world.proofs.Common.{waiting_packet, next_of, ActorView, item_of, next_call, packet_as, packet_by_number, IsLive, CallLetter}
use Rattle.act_world.proofs.Frames.{still_lives}

-- the packet of the caller's next call, if its letter came
abbrev next_packet : History → ℕ → ℕ → Option Packet
next_packet h a c = cond (has_letter (CallLetter c a (ran_count c a h)) h.arrived) (packet_by_number h c a (ran_count c a h)) None

-- a running actor's next call of a caller that its cast names is the one that the history tells
pub next_is : (h : History) (a c : ℕ) {live : ActorView} → IsLive h a live → names c (cast_of a h) ≡ true → next_call live.log live.inbox c ≡ next_packet h a c
next_is h a c {live} is named =
    ap (λ b. cond b None (next_of live.inbox c)) (still_lives h a is)
    ∙ ap (λ b. cond b (waiting_packet live.inbox c (handed_of live.inbox c)) None) (is.listed c ∙ named)
    ∙ ap (waiting_packet live.inbox c) (is.handed c named)
    ∙ is.waits c (ran_count c a h) named
    ∙ ap (λ b. cond b None (next_packet h a c)) (le-ltb (ran_count c a h) (ran_count c a h) (omega arith))

-- the item that an actor runs next of a caller, by the history, is that of the packet of the caller's next call
pub item_is : (h : History) (a c : ℕ) → next_item a c h ≡ option_map item_of (next_packet h a c)
item_is h a c = go (has_letter (CallLetter c a (ran_count c a h)) h.arrived) (slice_get (calls_to a (calls_of c h)) (ran_count c a h))
  where
    go : (came : Bool) (call : Option (ℕ × Submission)) → cond came (option_map (run_item c (ran_count c a h) (kept_of c h)) call) None ≡ option_map item_of
        (cond came (option_map (packet_as h c a (ran_count c a h)) call) None)
    go true None = refl
    go true (Some call) = refl
    go false call = refl
