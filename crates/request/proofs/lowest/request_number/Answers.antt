use mathlib.Core.Path.{◌≡◌, sym, ◌∙◌}
use Prim.Native.Nat.{◌+◌}
use native.Mathlib.Omega.{arith}
use Rattle.request.proofs.Blank.{few, start, has, tested, here, next, full}
use Rattle.request.proofs.lowest.request_number.Goals as goal

pub overflow_add-j-end : goal.overflow_add-j-end
overflow_add-j-end c = let g = few _ _ _ _ c.requires in omega arith

pub loop-j-init : goal.loop-j-init
loop-j-init c = start _ _ _ _ c.requires

pub is_untouched-requires : goal.is_untouched-requires
is_untouched-requires c = has _ _ _ _ _ c.loop-j.invariant (omega arith)

pub returns-then-is_untouched : goal.returns-then-is_untouched
returns-then-is_untouched c =
    let f = c.loop-j.invariant in
    (here _ _ _ _ _ f (omega arith) (tested _ _ _ _ _ f (omega arith) c.is_untouched.ensures ∙ c.if-is_untouched.true), f.least)

pub loop-j-preserved : goal.loop-j-preserved
loop-j-preserved c =
    let f = c.loop-j.invariant in
    next _ _ _ _ _ f (omega arith) (tested _ _ _ _ _ f (omega arith) c.is_untouched.ensures ∙ c.if-is_untouched.false)

pub returns : goal.returns
returns c =
    let f = c.loop-j.invariant in
    let e : c.loop-j.j ≡ c.args.s + 1 = omega (arith, few _ _ _ _ c.requires, f.most) in
    (sym e ∙ full _ _ _ _ _ f (omega (arith, e)), omega arith)
