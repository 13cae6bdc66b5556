-- The numbers of the table store.
use Rattle.std.specs.Prelude.{ℕ}

-- its vertices are below this
abbrev pub vertex_range : ℕ
vertex_range = 4096

-- it uses no more records
abbrev pub most_records : ℕ
most_records = 20000
