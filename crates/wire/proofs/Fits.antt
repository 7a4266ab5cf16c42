-- A message that was read fits its fields. Assumes nothing.
use mathlib.Core.Path.{◌≡◌, ◌∙◌}
use mathlib.Core.Bool.{Bool, true, false, cond}
use mathlib.Core.List.{List}
use Prim.Native.Nat.{ℕ, ◌^◌, ◌<◌}
use native.Mathlib.Omega.{arith}
use Rattle.numbers.specs.Num.{num_at, Bytes}
use Rattle.numbers.proofs.Laws.{num_at-small}
use Rattle.codec.specs.Parts.{sent_at, deps_at}
use Rattle.codec.proofs.Laws.{sent_at-fits, deps_at-fits}
use Rattle.paper.specs.Command.{noop}
use Rattle.paper.specs.Deps.{no_deps}
use Rattle.paper.specs.Fits.{CommandFits, DepsFit, CarriedFits, MessageFits}
use Rattle.paper.specs.Message.{row_of, parts_of, carried_in, kept}
use Rattle.paper.proofs.Bodies.{carried-is, kept-kept}
use Rattle.paper.proofs.Deps.{none-fits}
use Rattle.paper.specs.declared.Parts.{Parts}
use Rattle.wire.specs.Wire.{command_start, deps_start, carried_at, body_at, beside_at, kind_at, message_at}
use Rattle.wire.proofs.Laws.{Framed}

-- what is read of a body, and of the dependencies beside it, fits, whatever parts are there
read_fits : (t : Bool) (x w : ℕ) → x < w → 0 < w → cond t x 0 < w
read_fits true x w h z = h
read_fits false x w h z = z

carried_at-fits : (p : Parts) (b : List ℕ) → Bytes b → CarriedFits (carried_at p b)
unfolding carried_at kept
carried_at-fits p b h =
    let n : (w i : ℕ) → num_at w b i < 256 ^ w = λ w i. num_at-small w b i h in
    record {
      voted = read_fits p.told _ _ (n 4 _) (omega arith);
      status = read_fits p.told _ _ (omega (arith, n 1 14)) (omega arith);
      command = command p.command;
      joined = read_fits p.joined _ _ (n 4 _) (omega arith);
    }
  where
    command : (t : Bool) → CommandFits (cond t (sent_at p.second b (command_start p 10)) noop)
    command true = sent_at-fits p.second b _ h
    command false = record { key = omega arith; second = omega arith; edit = omega arith }

body-fits : (k : ℕ) (b : List ℕ) → Bytes b → (row_of k).known ≡ true → CarriedFits (carried_in (body_at k b))
unfolding carried_at
body-fits k b h known =
    let e = carried-is k (carried_at (parts_of k) b) known ∙ kept-kept (parts_of k) _ in
    rw e (carried_at-fits (parts_of k) b h)

beside-fits : (p : Parts) (b : List ℕ) → Bytes b → DepsFit (beside_at p b)
unfolding beside_at
beside-fits p b h = go p.deps
  where
    go : (t : Bool) → DepsFit (cond t (deps_at b (deps_start p 10)) no_deps)
    go true = deps_at-fits b _ h
    go false = none-fits

-- a message that was read fits its fields
pub message_at-fits : (b : List ℕ) → Bytes b → Framed b → MessageFits (message_at b)
unfolding message_at
message_at-fits b h f =
    let n : (w i : ℕ) → num_at w b i < 256 ^ w = λ w i. num_at-small w b i h in
    record {
      from = omega (arith, n 1 1);
      to = omega (arith, n 1 2);
      owner = omega (arith, n 1 3);
      number = n 2 4;
      ballot = n 4 6;
      body = body-fits (kind_at b) b h f.known;
      deps = beside-fits (parts_of (kind_at b)) b h;
    }
