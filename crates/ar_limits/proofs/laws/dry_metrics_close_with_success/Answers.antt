use Rattle.ar_limits.proofs.DryLemmas.{all_dry_succeeds, dry_marks_close_with_success}
use Rattle.ar_limits.proofs.laws.dry_metrics_close_with_success.Goals as goal

pub returns-clause-marks : goal.returns-clause-marks
returns-clause-marks c = dry_marks_close_with_success

pub returns-clause-all : goal.returns-clause-all
returns-clause-all c = all_dry_succeeds
