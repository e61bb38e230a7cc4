use Rattle.std.proofs.Common.{◌≡◌, ◌++◌, drop, string_bytes, true}
use Rattle.ar_value.proofs.FieldLists.{Of}
use Rattle.cases_of_values.specs.Printing.{field_shapes_text}
use Rattle.cases_of_values.proofs.printing.+put_shape.Given as goal

-- the fields so far come before those that are left
abbrev pub invariant-put_field_shapes-loop-position : goal.invariant-put_field_shapes-loop-position
invariant-put_field_shapes-loop-position l =
    l.out.is_whole ≡ true → (l.initial.out.is_whole ≡ true)
    × (string_bytes l.out.text ++ field_shapes_text l.first (Of (drop l.position l.names) (drop l.position l.shapes)) ≡ string_bytes l.initial.out.text ++ field_shapes_text true (Of l.names l.shapes))
