use Rattle.std.proofs.Common.{rules}
use Rattle.ar_compile.proofs.Drafts.{whole_is}
use Rattle.ar_compile.proofs.Lawful.{compiled_is_code}
use Rattle.ar_compile.proofs.compiler.code_of.Goals as goal

pub into_code-requires : goal.into_code-requires
into_code-requires c = search (rules, whole_is, compiled_is_code)

pub returns : goal.returns
returns c = search (rules, whole_is, compiled_is_code)
