use Rattle.std.proofs.Common.{length}
use Rattle.ar_code.proofs.reader.+sum_of.Given as goal

abbrev pub decreases-sum_of : goal.decreases-sum_of
decreases-sum_of l = length l.text.now
