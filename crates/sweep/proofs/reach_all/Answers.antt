use mathlib.Core.Path.{refl}
use Rattle.seen.specs.Records.{records_in}
use Rattle.sweep.proofs.Sweeps.{found-kept}
use Rattle.sweep.proofs.Charts.{rows-blank}
use Rattle.sweep.proofs.reach_all.Goals as goal

pub sweep-requires : goal.sweep-requires
sweep-requires c = rows-blank _ _ _ _ _ c.requires

pub reach_each-requires : goal.reach_each-requires
reach_each-requires c =
    let v = c.sweep-2.ensures in
    let w = c.sweep.ensures.raised in
    let e = c in
    record {
      sized = e.requires.sized;
      found = record { rows = v.raised.rows; holds = found-kept e.args.n e.args.s (records_in e.args.s e.args.t.now) _ _ (w.holds refl) v.raised.kept };
      long = v.long;
    }
