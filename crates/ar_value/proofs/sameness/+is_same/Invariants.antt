use Rattle.std.proofs.Common.{◌≡◌, drop}
use Rattle.ar_value.proofs.Same.{SameFields}
use Rattle.ar_value.proofs.sameness.+is_same.Given as goal

-- what is left decides
abbrev pub invariant-are_fields_same-loop-index : goal.invariant-are_fields_same-loop-index
invariant-are_fields_same-loop-index l =
    SameFields l.names l.shapes l.of l.others ≡ SameFields (drop l.index l.names) (drop l.index l.shapes) (drop l.index l.of) (drop l.index l.others)
