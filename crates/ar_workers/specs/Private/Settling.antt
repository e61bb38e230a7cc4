-- What workers settled at their desks.
use Rattle.std.specs.Prelude.{◌≡◌, ℕ, List}
use Rattle.ar_bundle.specs.Lawful.{times_in}
use Rattle.ar_queue.specs.Numbers.{once_below}

-- each number of the bundle is there exactly once, and no other
abbrev pub AreEachOnce : (events : ℕ) → (numbers : List ℕ) → Type 0
AreEachOnce events numbers = (number : ℕ) → times_in number numbers ≡ once_below number events
