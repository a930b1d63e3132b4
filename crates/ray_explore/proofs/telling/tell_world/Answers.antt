use Rattle.ray_explore.proofs.Common.{string_bytes, true, history, told_at_rest}
use Rattle.std.proofs.lemmas.Map.Text.{btree_set_updates_text}
use Rattle.ray_explore.proofs.Known.{known_now, known_still, told_new, told_before}
use Rattle.ray_explore.proofs.telling.tell_world.Goals as goal

pub returns-then-branch-clause-seen : goal.returns-then-branch-clause-seen
returns-then-branch-clause-seen g c casts events reached =
    known_now (string_bytes c.in_ok-lines.lines) (told_at_rest (history casts events)) c.args.ends.now c.tell_end.new.ends
    (btree_set_updates_text (string_bytes c.in_ok-lines.lines) c.args.ends.now c.tell_end.new.ends true c.in_ok-tell_end.ensures.ends)
    (c.in_ok-lines.ensures casts events reached)

pub returns-then-branch-clause-earlier : goal.returns-then-branch-clause-earlier
returns-then-branch-clause-earlier g c lines was =
    known_still (string_bytes c.in_ok-lines.lines) lines c.args.ends.now c.tell_end.new.ends
    (btree_set_updates_text (string_bytes c.in_ok-lines.lines) c.args.ends.now c.tell_end.new.ends true c.in_ok-tell_end.ensures.ends) was

pub returns-then-branch-clause-keeps : goal.returns-then-branch-clause-keeps
returns-then-branch-clause-keeps g c first some =
    told_new c.args.script.now (string_bytes c.in_ok-lines.lines) c.in_ok-tell_end.field-0 c.args.ends.now c.tell_end.new.ends _ _
    (btree_set_updates_text (string_bytes c.in_ok-lines.lines) c.args.ends.now c.tell_end.new.ends true c.in_ok-tell_end.ensures.ends)
    c.if-branch.true c.in_ok-tell_end.ensures.told first some

pub returns-else-branch-clause-earlier : goal.returns-else-branch-clause-earlier
returns-else-branch-clause-earlier g c lines was =
    known_still (string_bytes c.in_ok-lines.lines) lines c.args.ends.now c.tell_end.new.ends
    (btree_set_updates_text (string_bytes c.in_ok-lines.lines) c.args.ends.now c.tell_end.new.ends true c.in_ok-tell_end.ensures.ends) was

pub returns-else-branch-clause-keeps : goal.returns-else-branch-clause-keeps
returns-else-branch-clause-keeps g c first some =
    told_before c.args.script.now (string_bytes c.in_ok-lines.lines) c.in_ok-tell_end.field-0 c.args.ends.now c.tell_end.new.ends _ _
    (btree_set_updates_text (string_bytes c.in_ok-lines.lines) c.args.ends.now c.tell_end.new.ends true c.in_ok-tell_end.ensures.ends)
    c.if-branch.false (c.in_ok-tell_end.ensures.known c.if-branch.false) c.in_ok-tell_end.ensures.told first some
