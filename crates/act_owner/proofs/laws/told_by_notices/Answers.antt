use Rattle.act_owner.proofs.Common.{refl, [], opened_under, after_actions}
use Rattle.act_owner.proofs.Life.{after_all-append}
use Rattle.act_owner.proofs.Told.{sent_stays_all, hears_all, hears_opened}
use Rattle.act_owner.proofs.laws.told_by_notices.Goals as goal

pub returns-clause-sent : goal.returns-clause-sent
returns-clause-sent _ limits id actors actions later k sent =
    rw after_all-append (sent_stays_all (after_actions (opened_under limits id actors) actions) later k sent)

pub returns-clause-heard : goal.returns-clause-heard
returns-clause-heard _ limits id actors actions = hears_all (opened_under limits id actors) [] actions refl (hears_opened limits id actors)
