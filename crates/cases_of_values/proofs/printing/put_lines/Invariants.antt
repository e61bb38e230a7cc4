use Rattle.std.proofs.Common.{◌≡◌, ◌++◌, drop, length, string_bytes, true}
use Rattle.std.specs.Str.{chars}
use Rattle.cases_of_values.specs.Printing.{in_one_line}
use Rattle.cases_of_values.proofs.Lines.{left}
use Rattle.cases_of_values.proofs.printing.put_lines.Given as goal

-- what is written comes before what is left to write
abbrev pub invariant-loop-character : goal.invariant-loop-character
invariant-loop-character l = l.out.is_whole ≡ true → (l.initial.out.is_whole ≡ true) × (string_bytes l.out.text ++ left l.ended (drop (length l.yielded) (chars l.lines)) ≡ string_bytes l.initial.out.text ++ in_one_line (chars l.lines))
