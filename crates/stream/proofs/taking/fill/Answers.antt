use mathlib.Core.Path.{sym}
use lib.Seq.{length-take-le}
use native.Mathlib.Omega.{arith}
use Rattle.stream.proofs.Laws.{end_fits, filled-is, put-ok}
use Rattle.stream.proofs.taking.fill.Goals as goal

pub overflow_add-result : goal.overflow_add-result
overflow_add-result c = let f = end_fits _ _ _ c.requires c.room_for-count.ensures in omega arith

pub returns : goal.returns
returns c = let b = filled-is _ _ _ c.room_for-count.ensures c.shift.ensures c.put_bytes.ensures in record { taken = b.0; buffer = b.1 }

pub slice_bounds-put_bytes-end : goal.slice_bounds-put_bytes-end
slice_bounds-put_bytes-end c = sym (length-take-le _ _ (put-ok _ _ _ c.requires c.room_for-count.ensures c.shift.auto.buf).1)

pub put_bytes-requires : goal.put_bytes-requires
put_bytes-requires c = let z = put-ok _ _ _ c.requires c.room_for-count.ensures c.shift.auto.buf in rw (length-take-le _ _ z.1) z.0
