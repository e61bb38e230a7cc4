-- The numbers of each run, as the core in memory has them.
use Rattle.std.specs.Prelude.{◌≡◌, ◌<◌, ℕ, List, [], length, map, get_or, Vec}
use Rattle.std.specs.declared.alloc.Global.{Global}
use Rattle.ar_bundle.specs.Bundle.{Bundle}
use Rattle.ar_board.specs.Core.{own_from}
use Rattle.ar_bundle.specs.declared.bundle.EventPart.{EventPart}

abbrev pub items_of_each : List (Vec ℕ Global) → List (List ℕ)
items_of_each lists = map (λ list. list.items) lists

-- a list for each run of the bundle, of the numbers that the run has among these entries
pub record AreOwn (bundle : Bundle) (entries : List EventPart) (lists : List (List ℕ)) : Type 0 where
  pub as_many : length lists ≡ length bundle.runs
  pub own : (run : ℕ) → run < length bundle.runs → get_or lists run [] ≡ own_from run 0 entries
