use Rattle.std.proofs.Common.{◌≡◌, refl, arith}
use Rattle.reach.proofs.High.{explore-start, explore-skip}
use Rattle.search.proofs.Laws.{above, reached, fewer, onward, more, shrinks, marks-long}
use Rattle.search.proofs.+explore.Goals as goal

pub deps_of-deps-requires : goal.deps_of-deps-requires
deps_of-deps-requires t c = let h = c.requires in record { names = h.names; long = h.long }

pub loop-q-init : goal.loop-q-init
loop-q-init t c = (explore-start _ _ _ _ _ _ c.requires.few, omega arith)

pub bounds-m-q : goal.bounds-m-q
bounds-m-q t c = marks-long _ _ _ _ _ _ c.requires _ _ c.loop-q.invariant.0 c.loop-q-test.true

pub bounds-deps-q : goal.bounds-deps-q
bounds-deps-q t c = omega (arith, c.loop-q-test.true, c.requires.names.copies)

pub bounds-m-q-then-from-deps : goal.bounds-m-q-then-from-deps
bounds-m-q-then-from-deps t c = marks-long _ _ _ _ _ _ c.requires _ _ c.loop-q.invariant.0 c.loop-q-test.true

pub overflow_add-x : goal.overflow_add-x
overflow_add-x t c = omega (arith, c.loop-q.invariant.0.few c.loop-q.q c.loop-q-test.true, c.requires.names.numbers)

pub bounds-m-q-then-from-deps-2 : goal.bounds-m-q-then-from-deps-2
bounds-m-q-then-from-deps-2 t c = marks-long _ _ _ _ _ _ c.requires _ _ c.loop-q.invariant.0 c.loop-q-test.true

pub explore-requires : goal.explore-requires
explore-requires t c =
    let e = c.args in
    let d = above e.s e.t.now e.p e.k c.loop-q.q c.loop-q.m c.deps_of-deps.ensures c.from.ensures c.if-from-deps.true in
    let f = fewer _ _ _ _ _ _ c.requires _ _ c.loop-q.invariant.0 c.loop-q-test.true _ refl d in
    (omega arith, onward _ _ _ _ _ _ c.requires _ _ c.loop-q.invariant.0 c.loop-q-test.true _ refl d _ c.from-then-from-deps.ensures)

pub loop-q-smaller-then-from-deps : goal.loop-q-smaller-then-from-deps
loop-q-smaller-then-from-deps t c =
    let e = c.args in
    let d = above e.s e.t.now e.p e.k c.loop-q.q c.loop-q.m c.deps_of-deps.ensures c.from.ensures c.if-from-deps.true in
    let f = shrinks _ _ _ _ _ _ c.requires _ _ c.loop-q.invariant.0 c.loop-q-test.true _ refl d _ _ c.explore.ensures in
    omega arith

pub loop-q-preserved-then-from-deps : goal.loop-q-preserved-then-from-deps
loop-q-preserved-then-from-deps t c =
    let e = c.args in
    let d = above e.s e.t.now e.p e.k c.loop-q.q c.loop-q.m c.deps_of-deps.ensures c.from.ensures c.if-from-deps.true in
    (more _ _ _ _ _ _ c.requires _ _ c.loop-q.invariant.0 c.loop-q-test.true _ refl d _ _ c.from-then-from-deps.ensures c.explore.ensures, c.loop-q.invariant.1)

pub loop-q-preserved : goal.loop-q-preserved
loop-q-preserved t c =
    let e = c.args in
    (explore-skip _ _ _ _ _ _ _ _ _ c.loop-q.invariant.0 refl (reached e.s e.t.now e.p e.k c.loop-q.q c.loop-q.m c.deps_of-deps.ensures c.from.ensures c.if-from-deps.false), omega arith)

pub returns : goal.returns
returns t c =
    let z : c.loop-q.q ≡ c.args.n = omega arith in
    rw z at c.loop-q.invariant.0
