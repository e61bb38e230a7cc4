-- How large the counts of a metric are. No public contract speaks of this.
use Rattle.std.specs.Prelude.{ℕ, ◌≤◌}
use Rattle.ar_limits.specs.declared.counts.Counts.{Counts}

-- none of the counts is above the bound
pub record AreAtMost (bound : ℕ) (counts : Counts) : Type 0 where
  pub successful : counts.successful ≤ bound
  pub failed : counts.failed ≤ bound
  pub inconclusive : counts.inconclusive ≤ bound
  pub error : counts.error ≤ bound
  pub succession : counts.succession ≤ bound
