-- What is at a number of a bundle.
use Rattle.ar_judge.specs.Condition.{Condition}
use Rattle.std.proofs.Common.{◌≡◌, ◌<◌, ℕ, zero, suc, List, [], ◌∷◌, length, Option, Some, None, refl, sym, subst, arith, true}
use Rattle.std.specs.Prelude.{IfSome, slice_get, slice_index_or}
use Rattle.std.specs.List.{AllByRecursion}
use Rattle.std.proofs.lemmas.Option.{slice_get_read, slice_get_within}
use Rattle.ar_value.specs.Fits.{fits}
use Rattle.ar_value.specs.Shape.{Shape}
use Rattle.ar_value.specs.Value.{Value}
use Rattle.ar_value.specs.View.{shape_view}
use Rattle.ar_judge.specs.Judging.{FitsEach, Suits, TakesNoMemory}
use Rattle.ar_judge.specs.Verdict.{Judge, Sample, measured, misfit, provider, sample_view}
use Rattle.ar_judge.specs.declared.sample.Sample.{Sample as Declared}
use Rattle.ar_bundle.specs.Sound.{CanHappen, IsBundle, FitsBundle, IsOfShape, IsRun, JudgesEach, JudgesShape, SampleSuits, SuitsMetric}
use Rattle.ar_bundle.specs.Bundle.{Bundle, judge_at, run_at}
use Rattle.ar_bundle.specs.declared.bundle.EventPart.{EventPart}
use Rattle.ar_bundle.specs.declared.bundle.MetricPart.{MetricPart}
use Rattle.ar_bundle.specs.declared.bundle.RunPart.{RunPart}
use Rattle.ar_bundle.specs.declared.bundle.What.TheVariants.{Measure}

-- what holds of all holds of each
pub of_each : {A : Type 0} (P : A → Type 0) (xs : List A) (place : ℕ) (x : A) → AllByRecursion P xs → slice_get xs place ≡ Some x → P x
of_each P [] place x all there = absurd cc
of_each P (first ∷ rest) zero x all there = let same : first ≡ x = cc in subst P same all.0
of_each P (first ∷ rest) (suc place) x all there = of_each P rest place x all.1 there

-- a value of a shape fits each condition that is for it
fits_each : (shape : Shape) (value : Value) (condition : Option Condition) → IsOfShape shape condition → fits value shape ≡ true → FitsEach value condition
fits_each shape value None is fit = tt
fits_each shape value (Some condition) is fit = subst (λ shape. fits value shape ≡ true) (sym is) fit

-- a sample that suits a shape suits a judge of it
pub sample_suits : (shape : Shape) (judge : Judge) (sample : Sample) → JudgesShape shape judge → SampleSuits shape sample → Suits judge sample
sample_suits shape judge provider is suits = tt
sample_suits shape judge (misfit fault) is suits = suits
sample_suits shape judge (measured value) is suits = (fits_each shape value judge.success is.0 suits, fits_each shape value judge.failure is.1 suits)

-- a metric that is there has a judge, of its shape
judge_of_metric : (metrics : List MetricPart) (judges : List Judge) (metric : ℕ) (part : MetricPart) → JudgesEach metrics judges → slice_get metrics metric ≡ Some part → (judge : Judge) × (slice_get judges metric ≡ Some judge) × JudgesShape (shape_view part.shape) judge
judge_of_metric [] judges metric part each there = absurd cc
judge_of_metric (first ∷ metrics) [] metric part each there = absurd each
judge_of_metric (first ∷ metrics) (judge ∷ judges) zero part each there = let same : first ≡ part = cc in (judge, refl, subst (λ part. JudgesShape (shape_view part.shape) judge) same each.0)
judge_of_metric (first ∷ metrics) (judge ∷ judges) (suc metric) part each there = judge_of_metric metrics judges metric part each.1 there

-- the entry that was read at a number
pub entry_there : (bundle : Bundle) (number : ℕ) (entry : EventPart) → number < length bundle.entries → entry ≡ slice_index_or bundle.entries number entry → slice_get bundle.entries number ≡ Some entry
entry_there bundle number entry below read = slice_get_read bundle.entries (length bundle.entries) number entry refl below read

-- the judge that was read of a run that was read
pub record Reads (bundle : Bundle) (run : ℕ) (part : RunPart) (metric : ℕ) (sample : Sample) : Type 0 where
  pub inside : metric < length part.judges
  pub is : (judge : Judge) → judge ≡ slice_index_or part.judges metric judge → (judge_at bundle run metric ≡ Some judge) × Suits judge sample

same_judge : (judges : List Judge) (metric : ℕ) (first second : Judge) → slice_get judges metric ≡ Some first → slice_get judges metric ≡ Some second → first ≡ second
same_judge judges metric first second one other = cc

pub judge_inside : (bundle : Bundle) (run : ℕ) (part : RunPart) (metric : ℕ) (sample : Sample) → IsBundle bundle → run < length bundle.runs → part ≡ slice_index_or bundle.runs run part → SuitsMetric bundle.metrics metric sample → Reads bundle run part metric sample
judge_inside bundle run part metric sample is below read suits =
    let there = slice_get_read bundle.runs (length bundle.runs) run part refl below read in
    let of_run = of_each (IsRun bundle.metrics) bundle.runs run part is.runs there in
    let found = judge_of_metric bundle.metrics part.judges metric suits.part of_run.judges suits.there in
    let inside = slice_get_within part.judges metric found.0 found.1 in
    record {
      inside = inside;
      is = λ judge judge_read.
          let judge_there = slice_get_read part.judges (length part.judges) metric judge refl inside judge_read in
          let same : found.0 ≡ judge = same_judge part.judges metric found.0 judge found.1 judge_there in
          (rw (there, judge_there) refl, subst (λ judge. Suits judge sample) same (sample_suits (shape_view suits.part.shape) found.0 sample found.2 suits.suits));
    }

-- an entry that was read is one of the bundle's
pub entry_is : (bundle : Bundle) (number : ℕ) (entry : EventPart) → IsBundle bundle → number < length bundle.entries → entry ≡ slice_index_or bundle.entries number entry → FitsBundle bundle.metrics (length bundle.runs) entry
entry_is bundle number entry is below read = of_each (FitsBundle bundle.metrics (length bundle.runs)) bundle.entries number entry is.entries (entry_there bundle number entry below read)

pub run_there : (bundle : Bundle) (number : ℕ) (entry : EventPart) → IsBundle bundle → number < length bundle.entries → entry ≡ slice_index_or bundle.entries number entry → entry.run < length bundle.runs
run_there bundle number entry is below read = (entry_is bundle number entry is below read).run

pub measure_suits : (bundle : Bundle) (number : ℕ) (entry : EventPart) (metric : ℕ) (sample : Declared) → IsBundle bundle → number < length bundle.entries → entry ≡ slice_index_or bundle.entries number entry → entry.what ≡ Measure metric sample → SuitsMetric bundle.metrics metric (sample_view sample)
measure_suits bundle number entry metric sample is below read same = subst (λ what. CanHappen bundle.metrics what) same (entry_is bundle number entry is below read).what

-- the judge that was read takes no memory, where judging takes none
pub reads_nothing : (bundle : Bundle) (run : ℕ) (part : RunPart) (metric : ℕ) (sample : Sample) (judge : Judge) → Reads bundle run part metric sample → judge ≡ slice_index_or part.judges metric judge → IfSome (judge_at bundle run metric) (λ judge. TakesNoMemory judge sample) → TakesNoMemory judge sample
reads_nothing bundle run part metric sample judge reads read nothing = subst (λ found. IfSome found (λ judge. TakesNoMemory judge sample)) (reads.is judge read).0 nothing

pub entry_at : {A : Type 0} (xs : List A) (place : ℕ) → place < length xs → (x : A) × (slice_get xs place ≡ Some x)
entry_at [] place inside = absurd (omega arith)
entry_at (first ∷ rest) zero inside = (first, refl)
entry_at (first ∷ rest) (suc place) inside = entry_at rest place (omega arith)

-- a number that is there is one of a run that is there
pub run_of_number : (bundle : Bundle) (number : ℕ) → IsBundle bundle → number < length bundle.entries → (own : ℕ) × (run_at bundle number ≡ Some own) × (own < length bundle.runs)
run_of_number bundle number is inside =
    let entry = entry_at bundle.entries number inside in
    (entry.0.run, rw entry.1 refl, (of_each (FitsBundle bundle.metrics (length bundle.runs)) bundle.entries number entry.0 is.entries entry.1).run)
