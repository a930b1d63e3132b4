use Rattle.act_world.proofs.Common.{◌≡◌, length, Some, refl, sym, ◌∙◌, ap, arith, position, common_steps, NetworkView, is_owner}
use Rattle.act_world.proofs.Changes.{grown_none, grown_letter}
use Rattle.act_world.proofs.Lawful.{world_lawful}
use Rattle.act_world.proofs.Releasing.{release_follows, last_follows, release_refused_follows, release_unrefused, last_takes}
use Rattle.act_world.proofs.OneCaller.{no_caller, put_back}
use Rattle.act_world.proofs.Stepping.{refused_there, wanting_there, done_there}
use Rattle.act_world.proofs.network.Network.release.Goals.{then-holds-eq1+in_ok-reserve, else-holds-eq1}
use Rattle.act_world.proofs.network.Network.release.Goals as goal

pub returns-in_default : goal.returns-in_default
returns-in_default c = no_caller _ _ _ _ (λ h. refl) c.self.view_is c.deref.ensures.value c.in_default.ensures

pub returns-in_err-reserve : goal.returns-in_err-reserve
returns-in_err-reserve c =
    let at = sym (rw c.deref.ensures.value at c.in-Some.ensures) in let last = sym c.holds.ensures ∙ c.if-holds-eq1.true in
    rw (c.in_err-reserve.ensures.items, ← c.self.view_is) (wanting_there _ _ _ _ _ c.from_residual.ensures.1 refl
    (λ slots casts before refines. release_unrefused _ slots c.args.c c.args.a refines at c.index.ensures last)
    (λ slots casts before refines. last_takes _ slots c.args.c c.args.a refines at c.index.ensures last))

pub returns-in-Err : goal.returns-in-Err
returns-in-Err c =
    let old : NetworkView = record {
      owners = c.if-holds-eq1.self-inside.owners.items;
      mail = c.if-holds-eq1.self-inside.mail.items;
      replies = c.if-holds-eq1.self-inside.replies.items;
      asked = c.if-holds-eq1.self-inside.asked;
    } in
    let same : old ≡ c.args.self.now = elim c.if-holds-eq1.branch [
      | then-holds-eq1+in_ok-reserve w ↦ rw (w.self-inside-is, w.reserve.ensures.items) c.self.view_is
      | else-holds-eq1 w ↦ rw w.self-inside-is c.self.view_is
    ] in
    let at : position (is_owner c.args.c) old.owners ≡ Some c.in-Some.place =
    ap (λ (network : NetworkView). position (is_owner c.args.c) network.owners) (same ∙ sym c.self.view_is) ∙
    sym (rw c.deref.ensures.value at c.in-Some.ensures) in
    rw (← same) (refused_there _ old _ _ (put_back old c.in-Some.place c.index_mut.ensures.value c.in-Err.ensures.err) refl
    (λ slots casts before refines. release_refused_follows old slots c.args.c c.args.a refines at c.index_mut.ensures.value c.in-Err.ensures.value))

pub returns-in_default-note : goal.returns-in_default-note
returns-in_default-note c =
    let old : NetworkView = record {
      owners = c.if-holds-eq1.self-inside.owners.items;
      mail = c.if-holds-eq1.self-inside.mail.items;
      replies = c.if-holds-eq1.self-inside.replies.items;
      asked = c.if-holds-eq1.self-inside.asked;
    } in
    let same : old ≡ c.args.self.now = elim c.if-holds-eq1.branch [
      | then-holds-eq1+in_ok-reserve w ↦ rw (w.self-inside-is, w.reserve.ensures.items) c.self.view_is
      | else-holds-eq1 w ↦ rw w.self-inside-is c.self.view_is
    ] in
    let at : position (is_owner c.args.c) old.owners ≡ Some c.in-Some.place =
    ap (λ (network : NetworkView). position (is_owner c.args.c) network.owners) (same ∙ sym c.self.view_is) ∙
    sym (rw c.deref.ensures.value at c.in-Some.ensures) in
    rw (← same) (done_there _ old _ _ (λ slots casts before refines. release_follows old slots c.args.c c.args.a c.holds-in_default-note.result
    c.release.new.self (world_lawful casts before) refines at c.index_mut.ensures.value
    (rw c.in_default-note.is at c.in-Ok.ensures.value) c.in-Ok.ensures.ok c.index-in_default-note.ensures c.holds-in_default-note.ensures) (grown_none old))

pub returns : goal.returns
returns c =
    let old : NetworkView = record {
      owners = c.if-holds-eq1.self-inside.owners.items;
      mail = c.if-holds-eq1.self-inside.mail.items;
      replies = c.if-holds-eq1.self-inside.replies.items;
      asked = c.if-holds-eq1.self-inside.asked;
    } in
    let same : old ≡ c.args.self.now = elim c.if-holds-eq1.branch [
      | then-holds-eq1+in_ok-reserve w ↦ rw (w.self-inside-is, w.reserve.ensures.items) c.self.view_is
      | else-holds-eq1 w ↦ rw w.self-inside-is c.self.view_is
    ] in
    let at : position (is_owner c.args.c) old.owners ≡ Some c.in-Some.place =
    ap (λ (network : NetworkView). position (is_owner c.args.c) network.owners) (same ∙ sym c.self.view_is) ∙
    sym (rw c.deref.ensures.value at c.in-Some.ensures) in
    let count : c.len-i.result ≡ length old.mail = grind (arith, common_steps) in
    rw (← same) (done_there _ old _ _ (λ slots casts before refines. last_follows old c.push_reserved.new.self.items slots c.args.c c.args.a c.len-i.result
    c.in-Some-note.note c.release.new.self (world_lawful casts before) refines at c.index_mut.ensures.value (rw c.in-Some-note.is at c.in-Ok.ensures.value)
    c.in-Ok.ensures.ok c.push_reserved.ensures.items count) (grown_letter _ _ _ _ c.push_reserved.ensures.items))
