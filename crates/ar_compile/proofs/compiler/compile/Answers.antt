use Rattle.std.proofs.Common.{rules}
use Rattle.ar_compile.proofs.Accepted.{compiled_accepted}
use Rattle.ar_compile.proofs.Conditions.{compiled_means}
use Rattle.ar_compile.proofs.Drafts.{whole_is}
use Rattle.ar_compile.proofs.Lawful.{compiled_is_code, compiled_length}
use Rattle.ar_compile.proofs.compiler.compile.Goals as goal

pub returns : goal.returns
returns c = search (rules, compiled_accepted, compiled_means, whole_is, compiled_is_code, compiled_length)
