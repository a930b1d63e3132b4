use Rattle.act_code_ends.proofs.Common.{ℕ, ◌≤◌, map, actor_spec, world_view, IsLeft}
use Rattle.act_code_ends.proofs.certified.all_left.Given as goal

-- the codes of the callers so far left them so
abbrev pub invariant-loop-before : goal.invariant-loop-before
invariant-loop-before g l = (c : ℕ) → 1 ≤ c → c ≤ l.before → IsLeft (g.M.Codes.makes l.codes) g.C.Code.tells (map (actor_spec g.K.Actor.state) l.casts) c
    (world_view g.K.Actor.state l.world)
