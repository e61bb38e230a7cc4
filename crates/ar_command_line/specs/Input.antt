-- Reading a whole input, up to a limit.
use Rattle.std.specs.Prelude.{ℕ, ◌≤◌, ◌+◌, List, length, Option}
use Rattle.std.specs.Io.KnownBytes.{Consumes, IsAtEnd}
use Rattle.ar_json.specs.Document.{most_bytes}

-- the bytes were read from the front of those known, and all of them unless they are too many
pub record ReadsUpToLimit (before after : Option (List ℕ)) (bytes : List ℕ) : Type 0 where
  pub front : Consumes before after bytes
  pub whole : length bytes ≤ most_bytes → IsAtEnd after

-- how often an input is read at most: each read gives a byte or more, but for one at the end
abbrev pub most_reads : ℕ
most_reads = most_bytes + 2
