-- A table's bytes as the records that the rules speak of. Assumes nothing.
use Rattle.std.specs.Prelude.{ℕ, List}
use Rattle.rules.specs.Seen.{Records}
use Rattle.table.specs.Table.{record_in}

abbrev pub records_in : ℕ → List ℕ → Records
records_in s t o j = record_in s t o j
