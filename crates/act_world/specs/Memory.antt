-- Which events take memory, where nothing refuses them.
use Rattle.std.specs.Prelude.{◌≡◌, ℕ, Bool, true, false, not, List, slice_get, Option, Some, is_some, is_none, IfSome}
use Rattle.std.specs.Option.{option_map_or}
use Rattle.act_rules.specs.declared.event.Event.{Event}
use Rattle.act_rules.specs.declared.event.Event.TheVariants.{Submit, Release, Send, Deliver, Run, Collect, Tell}
use Rattle.act_rules.specs.declared.history.Letter.{Letter}
use Rattle.act_rules.specs.declared.history.Letter.TheVariants.{Call as CallLetter}
use Rattle.act_rules.specs.declared.history.Post.{Post}
use Rattle.act_rules.specs.declared.history.Post.TheVariants.{Reply as ReplyPost}
use Rattle.act_rules.specs.Laws.{history}
use Rattle.act_rules.specs.Submissions.{kept_at}
use Rattle.act_rules.specs.History.{ActorSpec, History, runs_of, kept_of, has_letter, next_item}
use Rattle.act_rules.specs.Rules.{is_last}
use Rattle.act_world.specs.View.{WorldView}
use Rattle.act_world.specs.IsReachedBy.{IsReachedBy}

-- whether a letter is a call that hasn't arrived
abbrev pub is_new_call : Option Letter → History → Bool
is_new_call (Some (CallLetter c a n)) h = not (has_letter (CallLetter c a n) h.arrived)
is_new_call letter h = false

-- whether a post is the reply to a call that has no answer yet
abbrev pub is_first_reply : Option Post → History → Bool
is_first_reply (Some (ReplyPost c a place)) h = option_map_or (λ item. is_none (kept_at (kept_of c h) item.future))
    (slice_get (runs_of a h) place) false
is_first_reply post h = false

-- whether an event takes memory: for a call, a letter, a packet that is held, an item of a run list, a notice, or an
-- answer that is kept
abbrev pub takes_memory : Event → History → Bool
takes_memory (Submit c a method args) h = true
takes_memory (Release c a) h = is_last c a h
takes_memory (Send c k) h = true
takes_memory (Deliver i) h = is_new_call (slice_get h.mail i) h
takes_memory (Run a c) h = is_some (next_item a c h)
takes_memory (Collect j) h = is_first_reply (slice_get h.posts j) h
takes_memory (Tell a c) h = true
takes_memory event h = false

-- whatever events the world stood after: this one takes memory
abbrev pub TakesMemory : Event → WorldView → Type 0
TakesMemory event world = (casts : List ActorSpec) (before : List Event) → IsReachedBy casts before world →
    takes_memory event (history casts before) ≡ true

-- the event at this place takes memory
abbrev pub TakesMemoryAt : ℕ → List Event → WorldView → Type 0
TakesMemoryAt i events world = IfSome (slice_get events i) (λ event. TakesMemory event world)
