-- Limits that several crates keep to. `src/limits` has the same numbers.
use Rattle.std.specs.Prelude.{ℕ}

-- how many bytes a condition may have, and a text or name in it or in its code
abbrev pub most_text_bytes : ℕ
most_text_bytes = 4096

-- how many items a list literal may have
abbrev pub most_literal_items : ℕ
most_literal_items = 16

-- how many operations code may have, how many texts, and how many names
abbrev pub most_code_entries : ℕ
most_code_entries = 4096

-- how many calls with a predicate may be nested, and so how many loops may be around an operation
abbrev pub most_loops : ℕ
most_loops = 4

-- how many operands a run of code may have at a time
abbrev pub most_operands : ℕ
most_operands = 64

-- how many metrics a template may have, how many runs a bundle, and how many workers may judge it
abbrev pub most_metrics : ℕ
most_metrics = 64

abbrev pub most_runs : ℕ
most_runs = 64

abbrev pub most_workers : ℕ
most_workers = 16
