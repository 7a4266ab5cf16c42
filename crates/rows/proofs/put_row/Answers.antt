use Rattle.rows.specs.Rows.{put_row}
use Rattle.rows.proofs.put_row.Goals as goal

pub returns : goal.returns
unfolding put_row
returns c = c.write_deps.ensures
