use Rattle.act_ends.proofs.Common.{◌++◌, ap, ◌∙◌, history, world_view, world_summary}
use Rattle.act_ends.proofs.Rest.{rest_none_yet, rest_shown}
use Rattle.act_ends.proofs.lines.lines_at_rest.Goals as goal

pub returns : goal.returns
returns g c casts events reached =
    let rests = c.in_ok-retire_all.ensures casts (history casts events) (rest_none_yet casts events (world_view g.K.Actor.state c.args.world.now) reached) in
    c.in_ok-play_report.ensures.ok
    ∙ ap (λ front. front ++ world_summary (world_view g.K.Actor.state c.retire_all.new.world)) c.new-lines.ensures.bytes
    ∙ rest_shown casts rests
