-- That a command for one thread says one text of an input. Reports of bundles that are the same but for where they lie in
-- memory, by the same numbers, are one text.
use Rattle.ar_judge.specs.Condition.{Condition}
use Rattle.std.proofs.Common.{◌≡◌, ℕ, zero, suc, List, [], ◌∷◌, length, map, Option, Some, None, refl, sym, ◌∙◌, ap}
use Rattle.std.specs.Prelude.{option_and_then, option_map, slice_get, unwrap_or}
use Rattle.std.specs.List.{filter_map}
use Rattle.std.proofs.lemmas.List.{length-map}
use Rattle.ar_value.specs.Value.{Value}
use Rattle.ar_limits.specs.Run.{effects, metric_counts, metric_phases}
use Rattle.ar_limits.specs.declared.counts.Counts.{Counts}
use Rattle.ar_limits.specs.declared.event.Effect.{Effect}
use Rattle.ar_limits.specs.declared.limits.Limits.{Limits}
use Rattle.ar_limits.specs.declared.phase.Phase.{Phase}
use Rattle.ar_judge.specs.Verdict.{Judge, Sample, measured, misfit, provider, said_of, said_where, sample_view, verdict}
use Rattle.ar_bundle.specs.Bundle.{Bundle, event_of, events_of, found_of, happened, happened_as, judge_at, run_at}
use Rattle.ar_bundle.specs.Lawful.{numbers_of}
use Rattle.ar_bundle.specs.declared.bundle.EventPart.{EventPart}
use Rattle.ar_bundle.specs.declared.bundle.MetricPart.{MetricPart}
use Rattle.ar_bundle.specs.declared.bundle.RunPart.{RunPart}
use Rattle.ar_bundle.specs.declared.bundle.What.{What}
use Rattle.ar_bundle.specs.declared.bundle.What.TheVariants.{Measure, Stop}
use Rattle.ar_bundle.specs.declared.finding.Finding.{Finding}
use Rattle.ar_bundle.specs.declared.finding.Finding.TheVariants.{Judged}
use Rattle.ar_bundle.specs.declared.finding.Finding.TheVariants as findings
use Rattle.ar_document.specs.Entries.{Entry, entry_view, what_view}
use Rattle.ar_document.specs.Opening.{Metric, metric_view}
use Rattle.ar_facts.specs.Facts.{facts_found, facts_of_events, facts_of_metrics, facts_of_runs, finding_facts, name_at, phases_of, report_facts, run_facts, stopped}
use Rattle.ar_facts.specs.Report.{report_text}
use Rattle.ar_facts.specs.ReportData.{report_data}
use Rattle.ar_command.proofs.OneNumbering.{same_numbers}
use Rattle.ar_command.proofs.OneText.{one_bundle, one_printed}
use Rattle.ar_command.specs.Alike.{AreOfSameRuns, AreSameConditions, AreSameJudges, AreSameRuns, IsSameBundle, IsSameRun}
use Rattle.ar_command.specs.Serving.{ReportsInOrder, Says, closing_of}
use Rattle.ar_command.specs.declared.serving.Closing.{Closing}
use Rattle.ar_command_line.specs.declared.command_line.Command.TheVariants as commands
use Rattle.ar_command_line.specs.declared.command_line.Format.{Format}
use Rattle.ar_command_line.specs.declared.command_line.Format.TheVariants as formats

-- ---- verdicts

same_said : (value : Value) (one other : Option Condition) → AreSameConditions one other
    → said_where (said_of value) one ≡ said_where (said_of value) other
same_said value (Some one) (Some other) same = let text = same.text in let shape = same.shape in rw (text, shape) refl
same_said value (Some one) None same = absurd same
same_said value None (Some other) same = absurd same
same_said value None None same = refl

same_verdict : (sample : Sample) (one other : Judge) → AreSameConditions one.success other.success → AreSameConditions one.failure other.failure → verdict one sample ≡ verdict other sample
same_verdict provider one other success failure = refl
same_verdict (misfit fault) one other success failure = refl
same_verdict (measured value) one other success failure = rw (same_said value one.success other.success success) (rw (same_said value one.failure other.failure failure) refl)

-- ---- judges by their indexes

abbrev pub AreSameHere : (one other : Option Judge) → Type 0
AreSameHere (Some one) (Some other) = AreSameConditions one.success other.success × AreSameConditions one.failure other.failure
AreSameHere None None = Unit {0}
AreSameHere one other = ⊥

same_judge : (some others : List Judge) (place : ℕ) → AreSameJudges some others → AreSameHere (slice_get some place) (slice_get others place)
same_judge [] [] place same = tt
same_judge [] (other ∷ others) place same = absurd same
same_judge (one ∷ some) [] place same = absurd same
same_judge (one ∷ some) (other ∷ others) zero same = same.0
same_judge (one ∷ some) (other ∷ others) (suc place) same = same_judge some others place same.1

abbrev judges_at : Option RunPart → (metric : ℕ) → Option Judge
judges_at run metric = option_and_then (λ (run : RunPart). slice_get run.judges metric) run

pub same_judge_at : (some others : List RunPart) (run metric : ℕ) → AreSameRuns some others → AreSameHere (judges_at (slice_get some run) metric) (judges_at (slice_get others run) metric)
same_judge_at [] [] run metric same = tt
same_judge_at [] (other ∷ others) run metric same = absurd same
same_judge_at (one ∷ some) [] run metric same = absurd same
same_judge_at (one ∷ some) (other ∷ others) zero metric same = same_judge one.judges other.judges metric same.0.judges
same_judge_at (one ∷ some) (other ∷ others) (suc run) metric same = same_judge_at some others run metric same.1

-- ---- entries by their indexes

abbrev pub AreSameEntries : (one other : Option EventPart) → Type 0
AreSameEntries (Some one) (Some other) = entry_view one ≡ entry_view other
AreSameEntries None None = Unit {0}
AreSameEntries one other = ⊥

pub same_entry : (some others : List EventPart) (place : ℕ) → map entry_view some ≡ map entry_view others → AreSameEntries (slice_get some place) (slice_get others place)
same_entry [] [] place same = tt
same_entry [] (other ∷ others) place same = absurd cc
same_entry (one ∷ some) [] place same = absurd cc
same_entry (one ∷ some) (other ∷ others) zero same = let head : entry_view one ≡ entry_view other = cc in head
same_entry (one ∷ some) (other ∷ others) (suc place) same = same_entry some others place cc

found_by : (sample : Sample) (one other : Option Judge) → AreSameHere one other
    → option_map (λ judge. findings.Judged (verdict judge sample)) one ≡ option_map (λ judge. findings.Judged (verdict judge sample)) other
found_by sample (Some one) (Some other) same = ap (λ v. Some (findings.Judged v)) (same_verdict sample one other same.0 same.1)
found_by sample (Some one) None same = absurd same
found_by sample None (Some other) same = absurd same
found_by sample None None same = refl

same_event_of : (one other : What) (finding : Finding) → what_view one ≡ what_view other → event_of one finding ≡ event_of other finding
same_event_of (Measure metric sample) (Measure its also) (findings.Judged verdict) same = let is : metric ≡ its = cc in rw is refl
same_event_of (Measure metric sample) (Measure its also) findings.Stop same = refl
same_event_of (Measure metric sample) Stop finding same = absurd cc
same_event_of Stop (Measure its also) finding same = absurd cc
same_event_of Stop Stop finding same = refl

-- ---- the texts of two bundles

module _ (one other : Bundle) (same : IsSameBundle one other) where
  pub same_found : (run : ℕ) (what its : What) → what_view what ≡ what_view its → found_of one run what ≡ found_of other run its
  same_found run (Measure metric sample) (Measure place also) view =
      let metric_is : metric ≡ place = cc in
      let sample_is : sample_view sample ≡ sample_view also = cc in
      let judges = same_judge_at one.runs other.runs run place same.runs in
      rw metric_is (rw sample_is (found_by (sample_view also) (judge_at one run place) (judge_at other run place) judges))
  same_found run (Measure metric sample) Stop view = absurd cc
  same_found run Stop (Measure place also) view = absurd cc
  same_found run Stop Stop view = refl

  mapped : {A : Type 0} (f g : Finding → A) (found its : Option Finding) → ((finding : Finding) → f finding ≡ g finding) → found ≡ its → option_map f found ≡ option_map g its
  mapped f g (Some finding) (Some also) point is = let own : finding ≡ also = cc in ap Some (point finding ∙ ap g own)
  mapped f g (Some finding) None point is = absurd cc
  mapped f g None (Some also) point is = absurd cc
  mapped f g None None point is = refl

  happened_by : (entry its : Option EventPart) → AreSameEntries entry its
      → option_and_then (happened_as one) entry ≡ option_and_then (happened_as other) its
  happened_by (Some entry) (Some its) view =
      let run : entry.run ≡ its.run = ap (λ (e : Entry). e.run) view in
      let what : what_view entry.what ≡ what_view its.what = ap (λ (e : Entry). e.what) view in
      rw run (mapped (event_of entry.what) (event_of its.what) (found_of one its.run entry.what) (found_of other its.run its.what) (λ finding. same_event_of entry.what its.what finding what) (same_found its.run entry.what its.what what))
  happened_by (Some entry) None view = absurd view
  happened_by None (Some its) view = absurd view
  happened_by None None view = refl

  pub same_happened : (number : ℕ) → happened one number ≡ happened other number
  same_happened number = happened_by (slice_get one.entries number) (slice_get other.entries number) (same_entry one.entries other.entries number same.entries)

  pub same_events : (numbers : List ℕ) → events_of one numbers ≡ events_of other numbers
  same_events numbers = ap (λ h. filter_map h numbers) (λ k number. same_happened number k)

  run_by : (entry its : Option EventPart) → AreSameEntries entry its → option_map (λ (e : EventPart). e.run) entry ≡ option_map (λ (e : EventPart). e.run) its
  run_by (Some entry) (Some its) view = ap (λ (e : Entry). Some e.run) view
  run_by (Some entry) None view = absurd view
  run_by None (Some its) view = absurd view
  run_by None None view = refl

  pub same_run : (number : ℕ) → run_at one number ≡ run_at other number
  same_run number = run_by (slice_get one.entries number) (slice_get other.entries number) (same_entry one.entries other.entries number same.entries)

  name_by : (metrics its : List MetricPart) (place : ℕ) → map metric_view metrics ≡ map metric_view its → name_at metrics place ≡ name_at its place
  name_by [] [] place view = refl
  name_by [] (metric ∷ its) place view = absurd cc
  name_by (metric ∷ metrics) [] place view = absurd cc
  name_by (metric ∷ metrics) (own ∷ its) zero view = let head : metric_view metric ≡ metric_view own = cc in ap (λ (m : Metric). m.name) head
  name_by (metric ∷ metrics) (own ∷ its) (suc place) view = name_by metrics its place cc

  same_finding_facts : (what its : What) (finding : Finding) → what_view what ≡ what_view its → finding_facts one.metrics what finding ≡ finding_facts other.metrics its finding
  same_finding_facts (Measure metric sample) (Measure place also) (findings.Judged verdict) view = let metric_is : metric ≡ place = cc in rw metric_is (rw (name_by one.metrics other.metrics place same.metrics) refl)
  same_finding_facts (Measure metric sample) (Measure place also) findings.Stop view = refl
  same_finding_facts (Measure metric sample) Stop finding view = absurd cc
  same_finding_facts Stop (Measure place also) finding view = absurd cc
  same_finding_facts Stop Stop finding view = refl

  facts_found_by : (entry its : Option EventPart) → AreSameEntries entry its
      → option_and_then (λ (e : EventPart). option_map (finding_facts one.metrics e.what) (found_of one e.run e.what)) entry
      ≡ option_and_then (λ (e : EventPart). option_map (finding_facts other.metrics e.what) (found_of other e.run e.what)) its
  facts_found_by (Some entry) (Some its) view =
      let run : entry.run ≡ its.run = ap (λ (e : Entry). e.run) view in
      let what : what_view entry.what ≡ what_view its.what = ap (λ (e : Entry). e.what) view in
      rw run (mapped (finding_facts one.metrics entry.what) (finding_facts other.metrics its.what) (found_of one its.run entry.what) (found_of other its.run its.what)
      (λ finding. same_finding_facts entry.what its.what finding what) (same_found its.run entry.what its.what what))
  facts_found_by (Some entry) None view = absurd view
  facts_found_by None (Some its) view = absurd view
  facts_found_by None None view = refl

  pub same_facts_found : (number : ℕ) → facts_found one number ≡ facts_found other number
  same_facts_found number = ap (λ facts. unwrap_or facts stopped) (facts_found_by (slice_get one.entries number) (slice_get other.entries number) (same_entry one.entries other.entries number same.entries))

  same_facts_of_events : (numbers : List ℕ) (some : List Effect) → facts_of_events one numbers some ≡ facts_of_events other numbers some
  same_facts_of_events [] some = refl
  same_facts_of_events (number ∷ numbers) [] = refl
  same_facts_of_events (number ∷ numbers) (effect ∷ some) = rw (same_facts_found number) (rw (same_facts_of_events numbers some) refl)

  pub same_facts_of_metrics : (metrics its : List MetricPart) (limits : List Limits) (phases : List Phase) (counts : List Counts) → map metric_view metrics ≡ map metric_view its → facts_of_metrics metrics limits phases counts ≡ facts_of_metrics its limits phases counts
  same_facts_of_metrics [] [] limits phases counts view = refl
  same_facts_of_metrics [] (own ∷ its) limits phases counts view = absurd cc
  same_facts_of_metrics (metric ∷ metrics) [] limits phases counts view = absurd cc
  same_facts_of_metrics (metric ∷ metrics) (own ∷ its) [] phases counts view = refl
  same_facts_of_metrics (metric ∷ metrics) (own ∷ its) (limit ∷ limits) [] counts view = refl
  same_facts_of_metrics (metric ∷ metrics) (own ∷ its) (limit ∷ limits) (phase ∷ phases) [] view = refl
  same_facts_of_metrics (metric ∷ metrics) (own ∷ its) (limit ∷ limits) (phase ∷ phases) (count ∷ counts) view =
      let head : metric_view metric ≡ metric_view own = cc in
      let name : metric.name ≡ own.name = ap (λ (m : Metric). m.name) head in
      rw name (rw (same_facts_of_metrics metrics its limits phases counts cc) refl)

  same_run_facts : (run its : RunPart) (numbers : List ℕ) → IsSameRun run its → run_facts one run numbers ≡ run_facts other its numbers
  same_run_facts run its numbers is =
      let name = is.name in
      let limits = is.limits in
      let events = same_events numbers in
      let metrics = same_facts_of_metrics one.metrics other.metrics its.limits (metric_phases its.limits (events_of other numbers)) (metric_counts its.limits (events_of other numbers)) same.metrics in
      let facts = same_facts_of_events numbers (effects its.limits (events_of other numbers)) in
      rw name (rw limits (rw events (rw metrics (rw facts refl))))

  same_facts_of_runs : (runs its : List RunPart) (numbers : List (List ℕ)) → AreSameRuns runs its → facts_of_runs one runs numbers ≡ facts_of_runs other its numbers
  same_facts_of_runs [] [] numbers are = refl
  same_facts_of_runs [] (own ∷ its) numbers are = absurd are
  same_facts_of_runs (run ∷ runs) [] numbers are = absurd are
  same_facts_of_runs (run ∷ runs) (own ∷ its) [] are = refl
  same_facts_of_runs (run ∷ runs) (own ∷ its) (some ∷ numbers) are =
      ap (λ facts. facts ∷ facts_of_runs one runs numbers) (same_run_facts run own some are.0) ∙ ap (λ more. run_facts other own some ∷ more) (same_facts_of_runs runs its numbers are.1)

  pub as_many_runs : (runs its : List RunPart) → AreSameRuns runs its → length runs ≡ length its
  as_many_runs [] [] are = refl
  as_many_runs [] (own ∷ its) are = absurd are
  as_many_runs (run ∷ runs) [] are = absurd are
  as_many_runs (run ∷ runs) (own ∷ its) are = ap suc (as_many_runs runs its are.1)

  pub same_facts : (numbers : List (List ℕ)) → report_facts one numbers ≡ report_facts other numbers
  same_facts numbers = same_facts_of_runs one.runs other.runs numbers same.runs

-- the facts of two reports of an input are the same
one_report_facts : (format its_format : Format) (input text other : List ℕ) (closing closing_of_other : Closing) (says : ReportsInOrder format input text closing) (also : ReportsInOrder its_format input other closing_of_other)
    → report_facts says.reports.bundle (map numbers_of says.reports.histories) ≡ report_facts also.reports.bundle (map numbers_of also.reports.histories)
one_report_facts format its_format input text other closing closing_of_other says also =
    let one = says.reports in
    let its = also.reports in
    let same = one_bundle input one.bundle its.bundle one.reads its.reads in
    let as_many : length one.bundle.entries ≡ length its.bundle.entries = sym (length-map one.bundle.entries entry_view) ∙ (ap length same.entries ∙ length-map its.bundle.entries entry_view) in
    let numbers = same_numbers one.bundle its.bundle (same_run one.bundle its.bundle same) one.histories its.histories (as_many_runs one.bundle its.bundle same one.bundle.runs its.bundle.runs same.runs) as_many one.reported.lawful says.rise its.reported.lawful also.rise in
    same_facts one.bundle its.bundle same (map numbers_of one.histories) ∙ ap (report_facts its.bundle) numbers

pub one_report : (format : Format) (input text other : List ℕ) (closing closing_of_other : Closing) → ReportsInOrder format input text closing → ReportsInOrder format input other closing_of_other → (text ≡ other) × (closing ≡ closing_of_other)
one_report format input text other closing closing_of_other says also =
    let facts = one_report_facts format format input text other closing closing_of_other says also in (
      one_printed format _ _ _ _ text other (ap report_text facts) (ap report_data facts) says.reports.reported.is also.reports.reported.is,
      says.reports.reported.closes ∙ (ap (λ facts. closing_of (phases_of facts)) facts ∙ sym also.reports.reported.closes),
    )

pub ordered_is_plain : (workers : ℕ) (format : Format) (input text other : List ℕ) (closing closing_of_other : Closing) → Says (commands.Ordered workers format) input text closing → Says (commands.Plain format) input other closing_of_other
    → (text ≡ other) × (closing ≡ closing_of_other)
ordered_is_plain workers format input text other closing closing_of_other says also = one_report format input text other closing closing_of_other says also

pub same_facts_in_formats : (input words written : List ℕ) (closing closing_of_other : Closing) → Says (commands.Plain formats.Text) input words closing → Says (commands.Plain formats.Json) input written closing_of_other
    → AreOfSameRuns words written × (closing ≡ closing_of_other)
same_facts_in_formats input words written closing closing_of_other says also =
    let facts = one_report_facts formats.Text formats.Json input words written closing closing_of_other says also in (
      record {
        runs = report_facts also.reports.bundle (map numbers_of also.reports.histories);
        as_words = says.reports.reported.is ∙ ap report_text facts;
        as_object = also.reports.reported.is;
      },
      says.reports.reported.closes ∙ (ap (λ facts. closing_of (phases_of facts)) facts ∙ sym also.reports.reported.closes),
    )
