use Rattle.std.proofs.lemmas.Str.{IsCharBoundary-after_ascii}
use Rattle.ar_syntax.proofs.Boundaries.{quote-small}
use Rattle.ar_syntax.proofs.quoted.text_token.Goals as goal

pub range_from-inside-requires : goal.range_from-inside-requires
range_from-inside-requires c = λ _. IsCharBoundary-after_ascii c.args.text.now 0 c.utf8.text c.requires.some_byte (quote-small _ c.requires.begins)
