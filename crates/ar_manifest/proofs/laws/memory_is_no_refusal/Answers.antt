use Rattle.ar_manifest.proofs.Memory.{bound_not_memory, template_not_memory}
use Rattle.ar_manifest.proofs.laws.memory_is_no_refusal.Goals as goal

pub returns : goal.returns
returns c = record { read = template_not_memory; bound = bound_not_memory }
