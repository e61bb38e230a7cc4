use Rattle.std.proofs.Common.{◌≡◌, drop}
use Rattle.ar_safety.specs.Indices.{all_pass, names_well}
use Rattle.ar_verify.proofs.indices.all_name_well.Given as goal

-- what the pass finds among the operations that are left is what it finds at all
abbrev pub invariant-loop-index : goal.invariant-loop-index
invariant-loop-index l = all_pass (names_well l.ops) l.index (drop l.index l.ops) ≡ all_pass (names_well l.ops) 0 l.ops
