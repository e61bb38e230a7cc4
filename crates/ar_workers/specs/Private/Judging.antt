-- What workers of an ordered run keep, and the table of it.
use Rattle.std.specs.Prelude.{◌≡◌, ◌<◌, ℕ, List, map, Option, Some, slice_get}
use Rattle.ar_bundle.specs.Bundle.{Bundle, finding_at}
use Rattle.ar_bundle.specs.Lawful.{times_in}
use Rattle.ar_bundle.specs.declared.finding.Finding.{Finding}
use Rattle.ar_workers.specs.declared.judging.Judged.{Judged}

-- each has the finding of its number
abbrev pub AreJudged : Bundle → List Judged → Type 0
AreJudged bundle judged = map (λ one. finding_at bundle one.number) judged ≡ map (λ one. Some one.finding) judged

abbrev pub numbers_judged : List Judged → List ℕ
numbers_judged judged = map (λ one. one.number) judged

-- the table has the finding of a number
abbrev pub IsKnown : Bundle → List (Option Finding) → (number : ℕ) → Type 0
IsKnown bundle table number =
    (finding : Finding) × (slice_get table number ≡ Some (Some finding)) × (finding_at bundle number ≡ Some finding)

-- that of each of these numbers
abbrev pub AreKnown : Bundle → (numbers : List ℕ) → List (Option Finding) → Type 0
AreKnown bundle numbers table = (number : ℕ) → 0 < times_in number numbers → IsKnown bundle table number
