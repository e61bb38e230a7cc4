-- Explanations with further lines.
use Rattle.std.specs.Prelude.{ℕ, ◌+◌, nat_lt, min, Bool, if◌then◌else◌, List, [], ◌∷◌, ◌++◌, drop, length}
use Rattle.ar_explain.specs.Lines.{Explanation, Line, most_left_out, most_at_each_end}

-- a line of a body, on these items
abbrev pub on_items : List ℕ → Line → Line
on_items items line = record line { items = items ++ line.items }

-- one more of the last lines: where there is no room it takes the place of the first of those, which is counted
unfoldable pub with_last : Explanation → Line → Explanation
with_last e line =
    if nat_lt (length e.last) most_at_each_end then record e { last = e.last ++ line ∷ [] }
    else record {
      lines = e.lines;
      left_out = min (e.left_out + 1) most_left_out;
      last = drop 1 e.last ++ line ∷ [];
    }

-- one more line: it is one of the first where there is room
unfoldable pub with_line : Explanation → Line → Explanation
with_line e line =
    if nat_lt (length e.lines) most_at_each_end then record e { lines = e.lines ++ line ∷ [] } else with_last e line

-- further lines, of a body on these items; nothing where `silent` says that they aren't said
abbrev pub with_lines : (silent : Bool) → List ℕ → Explanation → List Line → Explanation
with_lines silent items e [] = e
with_lines silent items e (line ∷ lines) =
    with_lines silent items (if silent then e else with_line e (on_items items line)) lines
