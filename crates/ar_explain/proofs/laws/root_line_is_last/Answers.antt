use Rattle.std.proofs.Common.{refl}
use Rattle.ar_explain.specs.Lines.{earlier_lines}
use Rattle.ar_explain.proofs.laws.root_line_is_last.Goals as goal

pub returns : goal.returns
returns c = λ result here tree. (earlier_lines result here tree, refl)
