use Rattle.std.proofs.Common.{◌≡◌, map, take}
use Rattle.act_mailbox.specs.Notices.{new_exec}
use Rattle.act_mailbox.proofs.replies.deal_all.Given as goal

abbrev pub invariant-loop-actor : goal.invariant-loop-actor
invariant-loop-actor l = record {
  collector : l.collector ≡ record l.initial.collector { putters = take l.actor-index l.actors };
  executors : l.executors.items ≡ map (new_exec l.line) (take l.actor-index l.actors);
}
