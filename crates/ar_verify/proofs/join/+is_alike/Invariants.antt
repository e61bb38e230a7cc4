use Rattle.std.proofs.Common.{◌≡◌, drop}
use Rattle.ar_verify.proofs.OneForm.{AlikeFields}
use Rattle.ar_verify.proofs.join.+is_alike.Given as goal

-- what is left decides
abbrev pub invariant-are_fields_alike-loop-index : goal.invariant-are_fields_alike-loop-index
invariant-are_fields_alike-loop-index l =
    AlikeFields l.names l.shapes l.of l.others ≡ AlikeFields (drop l.index l.names) (drop l.index l.shapes) (drop l.index l.of) (drop l.index l.others)
