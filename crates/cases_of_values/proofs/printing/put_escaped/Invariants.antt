use Rattle.std.proofs.Common.{◌≡◌, ◌++◌, flat_map, string_bytes, true}
use Rattle.cases_of_values.specs.Printing.{escaped}
use Rattle.cases_of_values.proofs.printing.put_escaped.Given as goal

abbrev pub invariant-loop-character : goal.invariant-loop-character
invariant-loop-character l = l.out.is_whole ≡ true → (l.initial.out.is_whole ≡ true) × (string_bytes l.out.text ≡ string_bytes l.initial.out.text ++ flat_map escaped l.yielded)
