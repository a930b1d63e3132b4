use Rattle.act_owner.proofs.Common.{refl, opened_under, after_actions}
use Rattle.act_owner.proofs.Life.{places_all, packet_stays_all, after_all-append}
use Rattle.act_owner.proofs.laws.one_packet_for_good.Goals as goal

pub returns-clause-known : goal.returns-clause-known
returns-clause-known _ limits id actors actions later k known =
    rw after_all-append
    (packet_stays_all (after_actions (opened_under limits id actors) actions) later k (places_all (opened_under limits id actors) actions refl) known).0

pub returns-clause-packet : goal.returns-clause-packet
returns-clause-packet _ limits id actors actions later k known =
    rw after_all-append
    (packet_stays_all (after_actions (opened_under limits id actors) actions) later k (places_all (opened_under limits id actors) actions refl) known).1
