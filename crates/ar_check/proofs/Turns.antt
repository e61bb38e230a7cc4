-- Trees that are converted next to others.
use Rattle.std.proofs.Common.{◌≡◌, refl}
use Rattle.ar_value.specs.Kind.{Kind, nil, shaped}
use Rattle.ar_tree.specs.Typed.{Typed}
use Rattle.ar_check.specs.Operand.{converted}
use Rattle.ar_check.specs.Private.Inside.{converted_where, turns}

pub converted_is : (other kind : Kind) (tree : Typed) → converted other kind tree ≡ converted_where (turns other kind) tree
converted_is nil nil tree = refl
converted_is nil (shaped shape) tree = refl
converted_is (shaped other) nil tree = refl
converted_is (shaped other) (shaped shape) tree = refl
