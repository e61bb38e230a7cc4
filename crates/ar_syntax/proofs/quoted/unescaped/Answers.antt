use Rattle.ar_syntax.proofs.Escapes.{unescaped_utf8}
use Rattle.ar_syntax.proofs.quoted.unescaped.Goals as goal

pub unreachable-requires : goal.unreachable-requires
unreachable-requires c = let is_ok = c.in-Err.ensures.succeeds (unescaped_utf8 c.args.before c.as_bytes.result.now c.in_ok-bytes.bytes.items c.as_bytes.ensures.utf8 c.in_ok-bytes.ensures) in cc
