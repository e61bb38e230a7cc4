use Rattle.std.proofs.Common.{sym}
use Rattle.ar_manifest.proofs.LimitTexts.{limit_text_parses}
use Rattle.ar_manifest.proofs.limit.limit_of_text.Goals as goal

pub unreachable-requires : goal.unreachable-requires
unreachable-requires c = limit_text_parses c.args.text.now c.in-Err.field-0 c.in-Err.ensures.value.0 (sym c.if-not-is_limit_text.ensures)
