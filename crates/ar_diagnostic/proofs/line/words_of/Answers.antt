use Rattle.std.proofs.Common.{codes, string_bytes, ◌∙◌, ap, map}
use Rattle.std.specs.List.{filter_map}
use Rattle.ar_diagnostic.specs.Diagnostic.{parts, words_of}
use Rattle.ar_diagnostic.proofs.Parts.{joined}
use Rattle.ar_diagnostic.proofs.line.words_of.Goals as goal

pub returns : goal.returns
unfolding words_of
returns c = joined string_bytes (codes "; ") string_bytes c.deref.result.now (filter_map (λ part. part) (parts c.args.it.now)) c.join.result (ap (map string_bytes) c.deref.ensures.value ∙ c.in_ok-parts_of.ensures) c.join.ensures.ok
