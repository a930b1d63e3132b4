-- Two plays of one history end alike.
use Rattle.act_decisions.proofs.Common.{read_one_way, Play}
use Rattle.act_decisions.specs.OneWay.{PlaysAreReadOneWay}
use Rattle.act_summaries.proofs.Spelled.{spelled_good}

pub read_plays : PlaysAreReadOneWay
read_plays script rest one other short small play another =
    let mine = spelled_good Play one (play.written short) in let theirs = spelled_good Play other (another.written small) in
    read_one_way script.roles play.events another.events mine.roles mine.events theirs.events rest play.ends.shown another.ends.shown
