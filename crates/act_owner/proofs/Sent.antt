-- That a caller may go to another thread: found in two steps, since one search over all its parts is too long.
use denote.Param.Send.{IsSend, sendable}
use Rattle.std.proofs.Crossing.{crosses}
use Rattle.act_resolver.specs.contracts.resolver.Resolver as resolver
use Rattle.act_owner.specs.contracts.owner.Owner as owner

resolver_sent : IsSend resolver.the_row
resolver_sent = search (crosses, sendable) depth 60 fits 20000

-- whatever a caller holds may go to another thread, and so may the caller
pub owner_sent : IsSend owner.the_row
owner_sent = search (resolver_sent, crosses, sendable) depth 60 fits 20000

resolver_part : IsSend (resolver.the_field).row
resolver_part = search (crosses, sendable) depth 60 fits 20000

-- the same of a caller that is a part of something else
pub owner_part : IsSend (owner.the_field).row
owner_part = search (resolver_part, crosses, sendable) depth 60 fits 20000
