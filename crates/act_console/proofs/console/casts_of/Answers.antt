use Rattle.act_console.proofs.Common.{rules, ◌≡◌, ◌≤◌, ◌++◌, [], length, map, ap, sym, ◌∙◌, arith, into_iter_items, nil_from_length, actor_spec_of, actor_spec}
use Rattle.act_console.proofs.Stocked.{fewer, one_of, one_made, all_made, found_cast}
use Rattle.act_console.proofs.console.casts_of.Goals as goal

pub loop-role-init : goal.loop-role-init
loop-role-init g c =
    let items : into_iter_items c.into_iter-role-iterator.result ≡ c.args.roles =
    c.into_iter-role-iterator.ensures.into_iter_gives.0 ∙ c.into_vec-role-items.ensures in
    let count : length (into_iter_items c.into_iter-role-iterator.result) ≡ length c.args.roles = ap length items in
    let few : length c.args.roles ≤ 8 = c.requires.few in (
      search rules,
      ap (λ casts. map (actor_spec g.K.Actor.state) casts ++ map actor_spec_of (into_iter_items c.into_iter-role-iterator.result)) c.new-casts.ensures.items
          ∙ ap (λ roles. map actor_spec_of roles) items,
      fewer g.K.Actor.state 8 (length (into_iter_items c.into_iter-role-iterator.result)) c.args.stock (omega arith) c.requires.ready,
    )

pub unwrap-cast-requires : goal.unwrap-cast-requires
unwrap-cast-requires g c =
    let rest = into_iter_items c.next.new.self in c.cast_for.ensures.found (length rest) (one_of rest c.in-Some.ensures.steps.0 c.loop-role.invariant.2)

pub loop-role-preserved : goal.loop-role-preserved
loop-role-preserved g c =
    let state = g.K.Actor.state in let old = into_iter_items c.loop-role.role-iterator in let rest = into_iter_items c.next.new.self in
    let step = c.in-Some.ensures.steps.0 in let has = one_of rest step c.loop-role.invariant.2 in
    let same = found_cast (λ cast. actor_spec state cast ≡ actor_spec_of c.in-Some.role) c.unwrap-cast.ensures
    (c.cast_for.ensures.cast (length old) c.loop-role.invariant.2) in (
      search rules,
      ap (λ casts. map (actor_spec state) casts ++ map actor_spec_of rest) c.in_ok-push.ensures.items
          ∙ one_made state c.loop-role.casts.items c.unwrap-cast.result old rest step same c.loop-role.invariant.1,
      c.cast_for.ensures.left (length rest) has,
    )

pub returns : goal.returns
returns g c =
    let left = into_iter_items c.loop-role.role-iterator in
    let none : left ≡ [] = nil_from_length left (sym c.loop-role.invariant.0 ∙ c.in-None.ensures.steps.0) in
    all_made g.K.Actor.state c.loop-role.casts.items left none c.loop-role.invariant.1
