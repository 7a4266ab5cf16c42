use mathlib.Core.Path.{sym, ◌∙◌}
use Rattle.next.proofs.Held.{known_at, known_small, ready-not, ready-is, known-held}
use Rattle.next.proofs.ready_in.Goals as goal

pub returns-then-is_held : goal.returns-then-is_held
returns-then-is_held c =
    let w = c in
    let f = w in
    let g = f.requires in
    let u = known_at _ _ _ _ _ _ g.going _ _ g.inst f.slot_of-x.ensures.0 w.from-seen.ensures in
    let d = sym c.is_held.ensures ∙ c.if-is_held.true in
    let e = sym (known-held _ _ _ _ _ _ g.going _ _ g.inst _ u d) in
    record { says = ready-is _ _ _ _ _ _ _ f.slot_of-x.ensures.0 w.if-st-x-ne1.false e; kept = g.going }

pub ask-requires : goal.ask-requires
ask-requires c =
    let w = c in
    let f = w in
    let g = f.requires in
    let u = known_at _ _ _ _ _ _ g.going _ _ g.inst f.slot_of-x.ensures.0 w.from-seen.ensures in
    record { asking = g; below = rw c.place_in.ensures u.below }

pub returns-then-st-x-ne1 : goal.returns-then-st-x-ne1
returns-then-st-x-ne1 c =
    let f = c in
    record { says = ready-not _ _ _ _ _ _ _ f.slot_of-x.ensures.0 c.if-st-x-ne1.true; kept = f.requires.going }

pub returns-then-seen-eq1 : goal.returns-then-seen-eq1
returns-then-seen-eq1 c =
    let w = c in
    let f = w in
    let g = f.requires in
    let u = known_at _ _ _ _ _ _ g.going _ _ g.inst f.slot_of-x.ensures.0 w.from-seen.ensures in
    record { says = ready-is _ _ _ _ _ _ _ f.slot_of-x.ensures.0 w.if-st-x-ne1.false (sym (u.ready c.if-seen-eq1.true)); kept = g.going }

pub is_held-requires : goal.is_held-requires
is_held-requires c =
    let w = c in
    let f = w in
    let g = f.requires in
    let u = known_at _ _ _ _ _ _ g.going _ _ g.inst f.slot_of-x.ensures.0 w.from-seen.ensures in
    (g.going.lists.states, known_small _ _ _ _ _ _ g.going _ _ g.inst _ u)

pub returns : goal.returns
returns c =
    let a = c in
    let w = a in
    let f = w in
    record { says = ready-is _ _ _ _ _ _ _ f.slot_of-x.ensures.0 w.if-st-x-ne1.false a.ask.ensures.says; kept = a.ask.ensures.kept }
