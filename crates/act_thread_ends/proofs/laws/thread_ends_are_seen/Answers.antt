use Rattle.act_thread_ends.proofs.Ends.{seen_end}
use Rattle.act_thread_ends.proofs.laws.thread_ends_are_seen.Goals as goal

pub returns : goal.returns
returns _ casts plans may_lose seen owners ends of search joined played = seen_end casts plans may_lose seen ends of search joined played
