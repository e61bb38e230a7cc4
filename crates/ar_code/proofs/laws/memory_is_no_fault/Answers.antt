use Rattle.std.proofs.Common.{rules}
use Rattle.ar_code.proofs.Readings.{decoded_not_memory}
use Rattle.ar_code.proofs.laws.memory_is_no_fault.Goals as goal

pub returns : goal.returns
returns c = search (rules, decoded_not_memory)
