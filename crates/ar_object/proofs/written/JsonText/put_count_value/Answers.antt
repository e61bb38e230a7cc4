use Rattle.ar_object.proofs.Texts.{count_reads_back}
use Rattle.ar_object.proofs.written.JsonText.put_count_value.Goals as goal

pub returns : goal.returns
returns c = record { tokens_are = c.put_number.ensures; read_back = (count_reads_back c.args.count c.ranges.count.fits, tt) }
