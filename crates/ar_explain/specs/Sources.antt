-- From which entry of a trace each line comes.
use Rattle.std.specs.Prelude.{⊤, ℕ, ◌+◌, ◌==◌, ◌≡◌, ◌⊎◌, Bool, true, false, List, [], ◌∷◌, ◌++◌, filter, flat_map, length, map, Option, Some, Result, Ok, Err}
use Rattle.ar_value.specs.Answer.{◌>>=◌}
use Rattle.ar_value.specs.Operators.{Failure, boolean}
use Rattle.ar_value.specs.Value.{Value}
use Rattle.ar_value.specs.declared.operator.Predicate.{Predicate}
use Rattle.ar_tree.specs.Meaning.{mean}
use Rattle.ar_tree.specs.Typed.{Typed}
use Rattle.ar_tree.specs.Typed as typed
use Rattle.ar_explain.specs.Operands.{apart_on}
use Rattle.ar_explain.specs.Lines.{Line, Outcome, body_lines, earlier_lines, failed, is_item, lines_on_item, outcome_of, passed, passed_line, shown_of, unneeded, unneeded_line, valued, with_own}
use Rattle.ar_explain.specs.Operands.{failed_on}
use Rattle.ar_explain.specs.Parts.{here_at, is_evaluated_on, part_at, same_path}
use Rattle.ar_explain.specs.Trace.{TraceEntry, trace, with_root}

-- a line says what an entry has: where a failure arises, on which operands, and how operands are apart
pub record Says (result : Value) (entry : TraceEntry) (line : Line) : Type 0 where
  pub of_part : line.part ≡ entry.part
  pub on_items : line.items ≡ entry.items
  pub of_meaning : line.said
      ≡ outcome_of entry.meaning (failed_on result entry.here entry.part) (apart_on result entry.here entry.part)

-- a line says on which item an entry's part is evaluated
pub record ShowsItem (entry : TraceEntry) (line : Line) : Type 0 where
  pub of_part : line.part ≡ entry.part
  pub on_items : line.items ≡ entry.items
  pub value : Value
  pub is_here : entry.here ≡ Some value
  pub of_value : line.said ≡ is_item (shown_of value)

-- one of these entries has what a line says
abbrev pub OneHas : (TraceEntry → Line → Type 0) → List TraceEntry → Line → Type 0
OneHas Has [] line = ⊥
OneHas Has (entry ∷ entries) line = Has entry line ⊎ OneHas Has entries line

-- whether a value or a failure is said
abbrev pub says_meaning : Outcome → Bool
says_meaning (valued text apart) = true
says_meaning (failed failure on) = true
says_meaning unneeded = false
says_meaning (is_item text) = false
says_meaning (passed items held) = false

-- whether an item is shown
abbrev pub says_item : Outcome → Bool
says_item (valued text apart) = false
says_item (failed failure on) = false
says_item unneeded = false
says_item (is_item text) = true
says_item (passed items held) = false

-- where a value or a failure is said, it is that of an entry, and so is an item that is shown
pub record IsFrom (result : Value) (entries : List TraceEntry) (line : Line) : Type 0 where
  pub of_meaning : says_meaning line.said ≡ true → OneHas (Says result) entries line
  pub of_item : says_item line.said ≡ true → OneHas ShowsItem entries line

-- ---- the items that are shown

-- a line shows the item to which its numbers lead, and its part is the body that a predicate evaluates on it
pub record IsOfBody (result : Value) (here : Option Value) (tree : Typed) (line : Line) : Type 0 where
  -- the path to the predicate
  pub around : List ℕ
  pub predicate : Predicate
  pub many : Typed
  pub of_predicate : part_at around tree ≡ Some (typed.predicate predicate many line.part)
  pub value : Value
  pub of_item : here_at result here tree (around ++ 1 ∷ []) line.items ≡ Ok (Some value)
  pub of_value : line.said ≡ is_item (shown_of value)

abbrev pub IsOfBodyIfItem : Value → Option Value → Typed → Line → Type 0
IsOfBodyIfItem result here tree line = says_item line.said ≡ true → IsOfBody result here tree line

-- ---- the order of lines

-- these lines say, in their order, what some of these entries have
abbrev pub SayInOrder : Value → List TraceEntry → List Line → Type 0
SayInOrder result [] [] = ⊤
SayInOrder result [] (line ∷ lines) = ⊥
SayInOrder result (entry ∷ entries) [] = ⊤
SayInOrder result (entry ∷ entries) (line ∷ lines) =
    Says result entry line × SayInOrder result entries lines ⊎ SayInOrder result entries (line ∷ lines)

-- the lines that say values and failures
abbrev pub lines_of_meanings : List Line → List Line
lines_of_meanings lines = filter (λ (line : Line). says_meaning line.said) lines

-- ---- parts that aren't needed

-- a part that isn't evaluated on some items, though the part around it is
pub record IsLeftOut (tree : Typed) (entries : List TraceEntry) (items : List ℕ) (part : Typed) : Type 0 where
  -- the path to the part around it, and which of the children of that it is
  pub around : List ℕ
  pub number : ℕ
  pub is_part : part_at (around ++ number ∷ []) tree ≡ Some part
  pub around_is_evaluated : is_evaluated_on around items entries ≡ true
  pub isnt_evaluated : is_evaluated_on (around ++ number ∷ []) items entries ≡ false

-- whether it is said that a part isn't needed
abbrev pub says_unneeded : Outcome → Bool
says_unneeded (valued text apart) = false
says_unneeded (failed failure on) = false
says_unneeded unneeded = true
says_unneeded (is_item text) = false
says_unneeded (passed items held) = false

abbrev pub IsLeftOutIfUnneeded : Typed → List TraceEntry → Line → Type 0
IsLeftOutIfUnneeded tree entries line =
    says_unneeded line.said ≡ true → IsLeftOut tree entries line.items line.part

-- one of these lines says of a part that it isn't needed
abbrev pub SayUnneeded : (part : Typed) → List Line → Type 0
SayUnneeded part [] = ⊥
SayUnneeded part (line ∷ lines) = line ≡ unneeded_line part ⊎ SayUnneeded part lines

-- whether the child with a number is a body, which is evaluated on items
abbrev pub is_body : Typed → (number : ℕ) → Bool
is_body (typed.predicate predicate many body) number = number == 1
is_body tree number = false

-- ---- the item that a predicate looks at last

-- the entry of a predicate's body on an item
abbrev pub body_entry : Value → Typed → ℕ → Value → TraceEntry
body_entry result body number value = record {
  path = 1 ∷ [];
  items = number ∷ [];
  part = body;
  here = Some value;
  meaning = mean result (Some value) body;
}

-- The body's entry on the last item comes right before the predicate's own, and so do the lines on that item.
pub record LooksLastAt (result : Value) (here : Option Value) (predicate : Predicate) (many body : Typed) (number : ℕ)
    (value : Value) : Type 0 where
  pub earlier : List TraceEntry
  pub has_entry : trace result here (typed.predicate predicate many body)
      ≡ with_root result here (typed.predicate predicate many body)
      (earlier ++ body_entry result body number value ∷ [])
  pub before : List Line
  pub has_lines : earlier_lines result here (typed.predicate predicate many body)
      ≡ before ++ lines_on_item number (body_lines result body value)

-- ---- the items that a predicate looks at

-- one that is shown, or some one after another that aren't
pub data Stretch : Type 0 where
  shown : Value → Stretch
  skipped : List Value → Stretch

abbrev pub stretch_values : Stretch → List Value
stretch_values (shown value) = value ∷ []
stretch_values (skipped values) = values

-- the lines of a stretch, whose first item has a number: of one that is shown those of the body on it; of others how
-- many they are, and of how many of them the body holds
abbrev pub stretch_lines : (body : Typed) → (holds : Value → Bool) → (lines : Value → List Line) → ℕ → Stretch
    → List Line
stretch_lines body holds lines number (shown value) = lines_on_item number (lines value)
stretch_lines body holds lines number (skipped values) =
    passed_line body (length values) (length (filter holds values)) ∷ []

abbrev pub lines_of_stretches : (body : Typed) → (holds : Value → Bool) → (lines : Value → List Line) → ℕ
    → List Stretch → List Line
lines_of_stretches body holds lines number [] = []
lines_of_stretches body holds lines number (stretch ∷ stretches) =
    stretch_lines body holds lines number stretch
    ++ lines_of_stretches body holds lines (number + length (stretch_values stretch)) stretches

abbrev pub is_held : Result Bool Failure → Bool
is_held (Ok holds) = holds
is_held (Err failure) = false

-- the items on which a predicate's body is evaluated, in order
abbrev pub items_of_body : List TraceEntry → List (Option Value)
items_of_body entries =
    map (λ (entry : TraceEntry). entry.here) (filter (λ (entry : TraceEntry). same_path entry.path (1 ∷ [])) entries)

-- The lines of a predicate's items, after those of its list, are those of stretches, and in these is each item on which
-- the trace has the body, once.
pub record SaysAllItems (result : Value) (here : Option Value) (predicate : Predicate) (many body : Typed)
    : Type 0 where
  pub stretches : List Stretch
  pub are_all : map Some (flat_map stretch_values stretches)
      ≡ items_of_body (trace result here (typed.predicate predicate many body))
  pub have_lines : earlier_lines result here (typed.predicate predicate many body)
      ≡ with_own result here many (earlier_lines result here many)
      ++ lines_of_stretches body (λ value. is_held (mean result (Some value) body >>= boolean))
      (body_lines result body) 0 stretches
