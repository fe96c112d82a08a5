-- Counting the entries for a node.
use Rattle.std.specs.Prelude.{ℕ, ◌==◌, filter, length}
use Rattle.pv_model.specs.Machine.{Entries}

-- the number of entries for node n
abbrev pub count_in : ℕ → Entries → ℕ
count_in n es = length (filter (λ e. e.1 == n) es)
