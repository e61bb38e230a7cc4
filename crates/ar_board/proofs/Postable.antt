-- Each number of a run can move to its history: it has a finding, and is something to its run.
use Rattle.std.proofs.Common.{◌≡◌, ◌<◌, ℕ, List, [], length, get_or, Option, Some, None, refl, sym}
use Rattle.std.specs.Prelude.{slice_get}
use Rattle.std.proofs.lemmas.Option.{get_or_from_slice_get}
use Rattle.ar_bundle.specs.Sound.{CanHappen, IsBundle, FitsBundle}
use Rattle.ar_bundle.specs.Bundle.{Bundle, event_of, events_of, finding_at, found_of, happened, run_at}
use Rattle.ar_bundle.specs.Lawful.{numbers_of}
use Rattle.ar_board.specs.Posting.{added, entry_with, posted}
use Rattle.ar_bundle.specs.declared.bundle.What.{What}
use Rattle.ar_bundle.specs.declared.bundle.What.TheVariants.{Measure, Stop}
use Rattle.ar_bundle.specs.declared.finding.Finding.{Finding}
use Rattle.ar_bundle.specs.declared.finding.Finding.TheVariants as finding
use Rattle.ar_bundle.specs.declared.history.Entry.{Entry}
use Rattle.ar_limits.specs.declared.event.Event.{Event}
use Rattle.ar_bundle.proofs.Bundles.{entry_at, judge_inside, of_each}
use Rattle.ar_bundle.proofs.Room.{number_inside}
use Rattle.ar_board.proofs.CoreSteps.{run_inside}

found_by : (bundle : Bundle) (run : ℕ) (what : What) (found : Option Finding) → IsBundle bundle → run < length bundle.runs → CanHappen bundle.metrics what → found_of bundle run what ≡ found → (said : Finding) × (found_of bundle run what ≡ Some said)
found_by bundle run what (Some said) is below can same = (said, same)
found_by bundle run Stop None is below can same = (finding.Stop, refl)
found_by bundle run (Measure metric sample) None is below can same =
    let part = entry_at bundle.runs run below in
    let reads = judge_inside bundle run part.0 metric _ is below (sym (get_or_from_slice_get bundle.runs run part.0 part.0 part.1)) can in
    let judge = entry_at part.0.judges metric reads.inside in
    let none = rw (part.1, judge.1) at same in
    absurd cc

found_some : (bundle : Bundle) (run : ℕ) (what : What) → IsBundle bundle → run < length bundle.runs → CanHappen bundle.metrics what → (said : Finding) × (found_of bundle run what ≡ Some said)
found_some bundle run what is below can = found_by bundle run what (found_of bundle run what) is below can refl

-- a number of a run, posted, is at the end of the run's history
pub posted_some : (bundle : Bundle) (histories : List (List Entry)) (number run : ℕ) → IsBundle bundle → run_at bundle number ≡ Some run → (entry : Entry) × (posted bundle histories number ≡ Some (added histories run entry)) × (entry.number ≡ number)
posted_some bundle histories number run is own =
    let at = entry_at bundle.entries number (number_inside bundle number run own) in
    let entered = of_each (FitsBundle bundle.metrics (length bundle.runs)) bundle.entries number at.0 is.entries at.1 in
    let said = found_some bundle at.0.run at.0.what is entered.run entered.what in
    let event : Event = event_of at.0.what said.0 in
    let finds : finding_at bundle number ≡ Some said.0 = rw (at.1, said.1) refl in
    let happens : happened bundle number ≡ Some event = rw (at.1, said.1) refl in
    let part = entry_at bundle.runs run (run_inside bundle number run (slice_get bundle.entries number) refl is own) in
    (entry_with number said.0 part.0.limits (events_of bundle (numbers_of (get_or histories run []))) event, rw (own, finds, happens, part.1) refl, refl)
