use Rattle.std.proofs.Common.{codes, string_bytes}
use Rattle.ar_facts.specs.Report.{figure_text, errors_text}
use Rattle.ar_facts.proofs.Lines.{four, on_ok}
use Rattle.ar_facts.proofs.text.put_counts.Goals as goal

pub returns : goal.returns
returns c =
    on_ok c.put_errors.result
    (four (string_bytes c.args.out.now) (string_bytes c.put_counted.new.out) (string_bytes c.put_counted-2.new.out) (string_bytes c.put_counted-3.new.out) (string_bytes c.put_errors.new.out)
    (figure_text (codes "successful") c.args.counts.successful) (figure_text (codes "failed") c.args.counts.failed) (figure_text (codes "inconclusive") c.args.counts.inconclusive) (errors_text c.args.counts)
    c.in_ok-put_counted.ensures c.in_ok-put_counted-2.ensures c.in_ok-put_counted-3.ensures)
    c.put_errors.ensures
