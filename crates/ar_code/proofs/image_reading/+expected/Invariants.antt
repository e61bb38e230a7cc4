use Rattle.std.proofs.Common.{length}
use Rattle.ar_code.proofs.image_reading.+expected.Given as goal

abbrev pub decreases-expected : goal.decreases-expected
decreases-expected l = length l.wanted.now
