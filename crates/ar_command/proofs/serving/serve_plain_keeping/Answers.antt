use Rattle.std.proofs.Common.{refl}
use Rattle.ar_command.proofs.Documents.{served_keeping, was_read}
use Rattle.ar_command.proofs.serving.serve_plain_keeping.Goals as goal

pub returns-clause-served : goal.returns-clause-served
returns-clause-served g c =
    served_keeping c.args.command g.S.Source.taken g.S.Source.remaining g.S.Source.reads g.S.Source.has_failed c.args.reader.now c.read_input.new.source g.W.Sink.contents g.W.Sink.calls g.W.Sink.has_failed c.args.writer.now c.serve_plain_input-result.new.writer _ c.in_ok-input.ensures.taken c.in_ok-input.ensures.ok c.read_input.ensures.counts
    (λ failed. was_read _ _ (c.in_ok-input.ensures.reported failed)) _ c.deref.ensures.value c.args.kept.now _ refl c.serve_plain_input-result.result c.serve_plain_input-result.ensures.served c.serve_plain_input-result.ensures.warns
