use Rattle.act_explore.proofs.Common.{◌≡◌, List, [], ◌∷◌, ◌++◌, map, sym, ap, ◌∙◌, subst, refl, length, arith, eqb-true, map_push, Vec, Choice, Left, left_of}
use Rattle.act_explore.proofs.Common.{HasSearched}
use Rattle.act_explore.proofs.Looking.{opened}
use Rattle.act_explore.proofs.Closing.{searched_all}
use Rattle.act_explore.proofs.search.search_all.Goals as goal

-- what waited before the last path was taken
popped : (old new : Left) (paths : List (Vec Choice)) (rest : List (Vec Choice)) (path : Vec Choice) (taken : List Choice) → old.waiting ≡ map
    (λ p. p.items) paths → new.waiting ≡ map (λ p. p.items) rest → paths ≡ rest ++ path ∷ [] → taken ≡ path.items → old.waiting ≡ new.waiting ++ taken ∷ []
popped old new paths rest path taken was is split same =
    was ∙ ap (λ l. map (λ p. p.items) l) split ∙ map_push (λ (p : Vec Choice). p.items) rest path
    ∙ ap (λ l. l ++ path.items ∷ []) (sym is) ∙ ap (λ l. new.waiting ++ l ∷ []) (sym same)

nothing : (paths : List (Vec Choice)) → length paths ≡ 0 → map (λ p. p.items) paths ≡ []
nothing [] none = refl
nothing (path ∷ paths) none = absurd (omega (arith, none))

pub loop-init : goal.loop-init
loop-init g c = record {
  searched = λ plans hold. (
    [],
    opened (g.O.Opening.casts c.args.opening.now) plans (g.V.Visit.passed c.args.visit.now (g.O.Opening.casts c.args.opening.now))
        (left_of c.in_ok-search.search) c.in_ok-search.ensures,
  );
  keeps = λ first plans hold keeps. keeps;
}

pub returns-in_default-clause-whole : goal.returns-in_default-clause-whole
returns-in_default-clause-whole g c = λ is plans hold.
    let before = c.loop.invariant.searched plans hold in
    let casts = g.O.Opening.casts c.args.opening.now in (
      before.0,
      searched_all casts plans (g.V.Visit.passed c.loop.visit casts) (left_of c.loop.search) before.0 before.1
          (nothing c.loop.search.waiting.items (sym c.loop.search.waiting.ok.0 ∙ c.in_default.ensures.cases.0)),
    )

pub returns-in-Stopped-clause-keeps : goal.returns-in-Stopped-clause-keeps
returns-in-Stopped-clause-keeps g c = λ first plans hold keeps. c.in_ok-follow.ensures.keeps first plans hold (c.loop.invariant.keeps first plans hold keeps)

pub returns-in-Stopped-clause-stopped : goal.returns-in-Stopped-clause-stopped
returns-in-Stopped-clause-stopped g c = λ is. c.follow.ensures.stopped (cc (c.in_ok-follow.was, c.in-Stopped.is))

pub returns-in-Stuck-clause-keeps : goal.returns-in-Stuck-clause-keeps
returns-in-Stuck-clause-keeps g c = λ first plans hold keeps. c.in_ok-follow.ensures.keeps first plans hold (c.loop.invariant.keeps first plans hold keeps)

pub loop-preserved : goal.loop-preserved
loop-preserved g c = record {
  searched = λ plans hold.
      let casts = g.O.Opening.casts c.args.opening.now in let before = c.loop.invariant.searched plans hold in
      let mid = left_of (record { waiting = c.pop.new.self; known = c.loop.search.known }) in
      let waited : (left_of c.loop.search).waiting ≡ mid.waiting ++ c.as_slice.result.now ∷ [] =
      popped (left_of c.loop.search) mid c.loop.search.waiting.items c.pop.new.self.items c.in-Some.path c.as_slice.result.now refl refl c.in-Some.ensures.items
      c.as_slice.ensures.value in
      c.follow.ensures.on (cc (c.in_ok-follow.was, c.in-On.is)) plans before.0 hold
      (subst (λ l. HasSearched casts plans (g.V.Visit.passed c.loop.visit casts) (record { waiting = l; known = mid.known }) before.0) waited before.1);
  keeps = λ first plans hold keeps. c.in_ok-follow.ensures.keeps first plans hold (c.loop.invariant.keeps first plans hold keeps);
}

pub returns-then-is_empty-clause-whole : goal.returns-then-is_empty-clause-whole
returns-then-is_empty-clause-whole g c = λ is plans hold.
    let before = c.loop.invariant.searched plans hold in
    let casts = g.O.Opening.casts c.args.opening.now in (
      before.0,
      searched_all casts plans (g.V.Visit.passed c.loop.visit casts) (left_of c.loop.search) before.0 before.1 (nothing c.loop.search.waiting.items
          (sym c.loop.search.waiting.ok.0 ∙ eqb-true c.loop.search.waiting.len 0 (sym c.is_empty.ensures ∙ c.if-is_empty.true))),
    )
