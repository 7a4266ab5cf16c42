use Prim.Native.Nat.{ℕ, ◌<◌}
use mathlib.Core.Path.{sym}
use mathlib.Core.List.{List}
use native.Mathlib.Omega.{arith}
use Rattle.next.specs.Slots.{Lists, Ahead}
use Rattle.next.proofs.Held.{known_more, known-ahead}
use Rattle.next.proofs.ask.Goals as goal

-- the place of one ahead is a place of the lists
ahead_small : (n s : ℕ) (h st : List ℕ) (p k y : ℕ) → Lists n s h st → Ahead n s h p k y → y < 448
ahead_small n s h st p k y g a = omega (arith, a.place, a.inst.owner, a.inst.first, a.inst.last, g.copies, g.numbers)

pub overflow_add-know : goal.overflow_add-know
overflow_add-know c =
    let l = ahead_small _ _ _ _ _ _ _ c.requires.asking.going.lists (c.holder-held.ensures.some _ c.in-Some.is).0 in
    omega arith

pub overflow_cast-know : goal.overflow_cast-know
overflow_cast-know c =
    let l = ahead_small _ _ _ _ _ _ _ c.requires.asking.going.lists (c.holder-held.ensures.some _ c.in-Some.is).0 in
    omega arith

pub returns-in-Some : goal.returns-in-Some
returns-in-Some c =
    let f = c in
    let g = f.requires.asking in
    let w = f.holder-held.ensures.some _ c.in-Some.is in
    let u = known-ahead _ _ _ _ _ _ g.going _ _ g.inst _ w.0 w.1 in
    record { says = sym w.2; kept = known_more _ _ _ _ _ _ g.going _ _ _ _ g.inst c.slot_of-x.ensures.0 u }

pub free-requires : goal.free-requires
free-requires c =
    let f = c in
    record { asking = f.requires.asking; ready = f.holder-held.ensures.none c.in_default.is }

pub returns : goal.returns
returns c =
    let f = c in
    record { says = sym (f.holder-held.ensures.none c.in_default.is); kept = c.free.ensures }
