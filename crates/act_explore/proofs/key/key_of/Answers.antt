use Rattle.act_explore.proofs.Common.{arith, ◌≡◌, ◌+◌, ◌++◌, [], ◌∷◌, flat_map, ap, sym, ◌∙◌, append-nil, one_to, flat_map-append, one_more, part_of}
use Rattle.act_explore.specs.Paths.{key_of}
use Rattle.act_explore.proofs.key.key_of.Goals as goal

pub loop-before-preserved : goal.loop-before-preserved
loop-before-preserved c =
    let before = c.loop-before.before in let path = c.args.path.now in
    let number : c.unwrap-actor.result ≡ before + 1 = rw c.unwrap-actor.ensures at c.new.ensures.value in
    c.in_ok-push_part.ensures ∙ ap (λ l. l ++ part_of path c.unwrap-actor.result) c.loop-before.invariant
    ∙ ap (λ n. flat_map (part_of path) (one_to before) ++ part_of path n) number
    ∙ ap (λ l. flat_map (part_of path) (one_to before) ++ l) (sym (append-nil (part_of path (before + 1))))
    ∙ sym (ap (flat_map (part_of path)) (one_more before) ∙ flat_map-append (part_of path) (one_to before) ((before + 1) ∷ []))

pub returns : goal.returns
unfolding key_of
returns c = let last : c.loop-before.before ≡ 8 = omega arith in c.loop-before.invariant ∙ ap (λ n. flat_map (part_of c.args.path.now) (one_to n)) last
