use Rattle.ar_syntax.proofs.Memory.{memory_is_no_refusal}
use Rattle.ar_syntax.proofs.laws.memory_is_no_refusal.Goals as goal

pub returns : goal.returns
returns c = memory_is_no_refusal
