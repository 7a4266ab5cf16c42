-- A record without its replies: what all clauses but the last speak of. Assumes nothing.
use Rattle.std.specs.Prelude.{ℕ, []}
use Rattle.paper.specs.declared.Vote.{Vote}
use Rattle.paper.specs.declared.Record.{Record}

abbrev pub front : ℕ → Vote → ℕ → ℕ → ℕ → Record
front joined v mark phase set = record { joined = joined; vote = v; mark = mark; phase = phase; set = set; replies = [] }
