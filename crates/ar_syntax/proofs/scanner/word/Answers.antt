use Rattle.std.proofs.Common.{rules}
use Rattle.ar_syntax.proofs.Fronts.{front_parts}
use Rattle.ar_syntax.proofs.Boundaries.{word_boundary}
use Rattle.ar_syntax.proofs.scanner.word.Goals as goal

pub range-requires-clause-end_boundary : goal.range-requires-clause-end_boundary
range-requires-clause-end_boundary c = word_boundary c.args.text.now c.as_bytes.result.now c.word_len-len.result c.utf8.text c.as_bytes.ensures.value c.word_len-len.ensures.len

pub returns : goal.returns
returns c = search (rules, front_parts)
