use Rattle.act_explore.proofs.Common.{◌≡◌, true, cond, map, bytes_eq, string_bytes, ap, ◌∙◌, subst, All, contains_text, map_push, btree_set_updates_text, Vec}
use Rattle.act_explore.proofs.Common.{Choice, key_of, HasNumber, left_of}
use Rattle.act_explore.proofs.Putting.{put_new}
use Rattle.act_explore.proofs.search.Search.put.Goals as goal

pub returns-in_ok-push : goal.returns-in_ok-push
returns-in_ok-push c =
    let old = left_of c.args.self.now in
    let new = left_of (record { waiting = c.push.new.self; known = c.insert.new.self }) in
    let path = c.args.path.items in
    let bytes : string_bytes c.in_ok-key.key ≡ key_of path = c.in_ok-key.ensures ∙ ap key_of c.as_slice-2.ensures.value in
    let numbers : All HasNumber path = subst (All HasNumber) c.as_slice.ensures.value c.know_numbers.ensures in
    let updates = btree_set_updates_text (string_bytes c.in_ok-key.key) c.args.self.now.known c.insert.new.self true c.in_ok-insert.ensures.updates in
    put_new path old new numbers
    (ap (λ l. map (λ (p : Vec Choice). p.items) l) c.in_ok-push.ensures.items
    ∙ map_push (λ (p : Vec Choice). p.items) c.args.self.now.waiting.items c.args.path)
    (λ key. updates key ∙ ap (λ l. cond (bytes_eq l key) true (contains_text c.args.self.now.known key)) bytes)
