-- That what is explained of an input is one text: histories of bundles that are the same but for where they lie in memory
-- are the same, and so is what led to their events.
use Rattle.ar_judge.specs.Condition.{Condition}
use Rattle.std.proofs.Common.{◌≡◌, ◌≢◌, ◌==◌, ◌&&◌, ℕ, zero, suc, Bool, false, List, [], ◌∷◌, ◌++◌, codes, length, map, Option, Some, None, option_map, Ok, refl, sym, ◌∙◌, ap, ap₂}
use Rattle.std.specs.Prelude.{find, option_and_then, slice_get}
use Rattle.std.specs.List.{AllByRecursion, list_any}
use Rattle.std.specs.Option.{is_none, option_map_or}
use Rattle.std.proofs.lemmas.List.{length-map}
use Rattle.serde_json.specs.Data.{Data}
use Rattle.ar_value.specs.Value.{Value}
use Rattle.ar_value.specs.View.{shape_view}
use Rattle.ar_limits.specs.Prefixes.{with_earlier}
use Rattle.ar_limits.specs.Run.{effects, metric_counts, metric_phases}
use Rattle.ar_limits.specs.declared.limits.Limits.{Limits}
use Rattle.ar_judge.specs.Verdict.{Judge, Sample, measured, misfit, provider, sample_view}
use Rattle.ar_bundle.specs.Bundle.{Bundle, events_of, finding_at, found_of, judge_at}
use Rattle.ar_bundle.specs.Lawful.{AreHistories, IsFound, IsHistory, numbers_of}
use Rattle.ar_bundle.specs.declared.bundle.EventPart.{EventPart}
use Rattle.ar_bundle.specs.declared.bundle.MetricPart.{MetricPart}
use Rattle.ar_bundle.specs.declared.bundle.RunPart.{RunPart}
use Rattle.ar_bundle.specs.declared.bundle.What.{What}
use Rattle.ar_bundle.specs.declared.bundle.What.TheVariants.{Measure, Stop}
use Rattle.ar_bundle.specs.declared.history.Entry.{Entry as HistoryEntry}
use Rattle.ar_command.proofs.OneNumbering.{same_numbers}
use Rattle.ar_command.proofs.OneReport.{AreSameEntries, AreSameHere, as_many_runs, same_entry, same_events, same_facts_found, same_facts_of_metrics, one_report, same_found, same_happened, same_judge_at, same_run}
use Rattle.ar_command.proofs.OneText.{one_bundle, one_check, one_line, one_listing, one_printed}
use Rattle.ar_command.specs.Alike.{AreSameConditions, AreSameRuns, IsSameBundle, IsSameRun}
use Rattle.ar_command.specs.Serving.{Explains, Says, chosen_of}
use Rattle.ar_command.specs.declared.serving.Closing.{Closing}
use Rattle.ar_command_line.specs.Selection.{Selected, all, event, of_metric, of_run, selected}
use Rattle.ar_command_line.specs.declared.command_line.Command.{Command}
use Rattle.ar_command_line.specs.declared.command_line.Command.TheVariants as commands
use Rattle.ar_command_line.specs.declared.command_line.Format.{Format}
use Rattle.ar_document.specs.Entries.{Entry, entry_view, what_view}
use Rattle.ar_document.specs.Opening.{Metric, metric_view}
use Rattle.ar_evaluation.specs.Evaluated.{evaluated_if_there}
use Rattle.ar_reason.specs.Reason.{conditions_by, conditions_of, error_given, given_by, given_of, is_unconditional, is_measured, lacks_conditions, measured_member, misfit_there, reason_if_there, reason_of, reasons_from, reasons_of, run_reasons}
use Rattle.ar_reason.specs.ReasonData.{reasons_data}
use Rattle.ar_reason.specs.ReasonText.{reasons_text}
use Rattle.ar_progress.specs.Steps.{change_after, chosen_steps, closer_of, is_chosen_run, leaves_complete, measures, own_completer, step_after, steps_after}
use Rattle.ar_progress.specs.declared.steps.Change.{Change}
use Rattle.ar_progress.specs.declared.chosen.Chosen.{Chosen}
use Rattle.ar_progress.specs.declared.chosen.Chosen.TheVariants as chosen
use Rattle.ar_progress.specs.declared.steps.Step.{Step}

-- ---- what conditions say

same_evaluated : (which : List ℕ) (found : Value) (one other : Option Condition) → AreSameConditions one other → evaluated_if_there which found one ≡ evaluated_if_there which found other
same_evaluated which found (Some one) (Some other) same = let text = same.text in let shape = same.shape in rw (text, shape) refl
same_evaluated which found (Some one) None same = absurd same
same_evaluated which found None (Some other) same = absurd same
same_evaluated which found None None same = refl

same_conditions_by : (sample : Sample) (one other : Option Judge) → AreSameHere one other → conditions_by one sample ≡ conditions_by other sample
same_conditions_by (measured found) (Some one) (Some other) same = rw (same_evaluated (codes "success") found one.success other.success same.0, same_evaluated (codes "failure") found one.failure other.failure same.1) refl
same_conditions_by provider (Some one) (Some other) same = refl
same_conditions_by (misfit fault) (Some one) (Some other) same = refl
same_conditions_by sample (Some one) None same = absurd same
same_conditions_by sample None (Some other) same = absurd same
same_conditions_by sample None None same = refl

none_alike : (one other : Option Condition) → AreSameConditions one other → is_none one ≡ is_none other
none_alike (Some one) (Some other) same = refl
none_alike (Some one) None same = absurd same
none_alike None (Some other) same = absurd same
none_alike None None same = refl

lacks_alike : (one other : Option Judge) → AreSameHere one other → option_map_or is_unconditional one false ≡ option_map_or is_unconditional other false
lacks_alike (Some one) (Some other) same = rw (none_alike one.success other.success same.0, none_alike one.failure other.failure same.1) refl
lacks_alike (Some one) None same = absurd same
lacks_alike None (Some other) same = absurd same
lacks_alike None None same = refl

-- ---- functions that agree

find_alike : {A : Type 0} (f g : A → Bool) (several : List A) → ((one : A) → f one ≡ g one) → find f several ≡ find g several
find_alike f g [] same = refl
find_alike f g (one ∷ several) same = rw (same one, find_alike f g several same) refl

any_alike : {A : Type 0} (f g : A → Bool) (several : List A) → ((one : A) → f one ≡ g one) → list_any f several ≡ list_any g several
any_alike f g [] same = refl
any_alike f g (one ∷ several) same = rw (same one, any_alike f g several same) refl

-- ---- metrics by their indexes

abbrev AreSameMetrics : (one other : Option MetricPart) → Type 0
AreSameMetrics (Some one) (Some other) = metric_view one ≡ metric_view other
AreSameMetrics None None = Unit {0}
AreSameMetrics one other = ⊥

same_metric : (some others : List MetricPart) (place : ℕ) → map metric_view some ≡ map metric_view others → AreSameMetrics (slice_get some place) (slice_get others place)
same_metric [] [] place same = tt
same_metric [] (other ∷ others) place same = absurd cc
same_metric (one ∷ some) [] place same = absurd cc
same_metric (one ∷ some) (other ∷ others) zero same = let head : metric_view one ≡ metric_view other = cc in head
same_metric (one ∷ some) (other ∷ others) (suc place) same = same_metric some others place cc

same_misfit : (found : Option Data) (one other : Option MetricPart) → AreSameMetrics one other → misfit_there found one ≡ misfit_there found other
same_misfit (Some found) (Some one) (Some other) same = let shape : shape_view one.shape ≡ shape_view other.shape = ap (λ (m : Metric). m.shape) same in rw shape refl
same_misfit None (Some one) (Some other) same = refl
same_misfit found (Some one) None same = absurd same
same_misfit found None (Some other) same = absurd same
same_misfit found None None same = refl

-- ---- histories

-- entries with the same numbers and effects have the same findings
module _ (one other : Bundle) (same : (number : ℕ) → finding_at one number ≡ finding_at other number) where
  same_entries : (run its_run : ℕ) (some its : List HistoryEntry) → AllByRecursion (IsFound one run) some → AllByRecursion (IsFound other its_run) its → numbers_of some ≡ numbers_of its
      → map (λ (entry : HistoryEntry). entry.effect) some ≡ map (λ (entry : HistoryEntry). entry.effect) its → some ≡ its
  same_entries run its_run [] [] found also numbers effects_are = refl
  same_entries run its_run [] (entry ∷ its) found also numbers effects_are = absurd cc
  same_entries run its_run (entry ∷ some) [] found also numbers effects_are = absurd cc
  same_entries run its_run (entry ∷ some) (own ∷ its) found also numbers effects_are =
      let number : entry.number ≡ own.number = cc in
      let effect : entry.effect ≡ own.effect = cc in
      let finding_there : finding_at one entry.number ≡ Some own.finding = same entry.number ∙ (ap (finding_at other) number ∙ also.0.finding) in
      let finding : entry.finding ≡ own.finding = let both : Some entry.finding ≡ Some own.finding = sym found.0.finding ∙ finding_there in cc in
      let first : entry ≡ own = rw (number, finding, effect) refl in
      let later_numbers : numbers_of some ≡ numbers_of its = cc in
      let later_effects : map (λ (entry : HistoryEntry). entry.effect) some ≡ map (λ (entry : HistoryEntry). entry.effect) its = cc in
      let rest : some ≡ its = same_entries run its_run some its found.1 also.1 later_numbers later_effects in
      rw (first, rest) refl

-- ---- two bundles

module _ (one other : Bundle) (same : IsSameBundle one other) where
  finding_by : (entry its : Option EventPart) → AreSameEntries entry its
      → option_and_then (λ (e : EventPart). found_of one e.run e.what) entry ≡ option_and_then (λ (e : EventPart). found_of other e.run e.what) its
  finding_by (Some entry) (Some its) view =
      let run : entry.run ≡ its.run = ap (λ (e : Entry). e.run) view in
      let what : what_view entry.what ≡ what_view its.what = ap (λ (e : Entry). e.what) view in
      rw run (same_found one other same its.run entry.what its.what what)
  finding_by (Some entry) None view = absurd view
  finding_by None (Some its) view = absurd view
  finding_by None None view = refl

  same_finding : (number : ℕ) → finding_at one number ≡ finding_at other number
  same_finding number = finding_by (slice_get one.entries number) (slice_get other.entries number) (same_entry one.entries other.entries number same.entries)

  same_history : (from : ℕ) (limits its_limits : List Limits) (some its : List HistoryEntry) → limits ≡ its_limits → IsHistory one from limits some → IsHistory other from its_limits its → numbers_of some ≡ numbers_of its → some ≡ its
  same_history from limits its_limits some its same_limits is also numbers =
      let events : events_of one (numbers_of some) ≡ events_of other (numbers_of its) = same_events one other same (numbers_of some) ∙ ap (events_of other) numbers in
      let effects_are : map (λ (entry : HistoryEntry). entry.effect) some ≡ map (λ (entry : HistoryEntry). entry.effect) its =
      is.effects ∙ (ap (λ limits. effects limits (events_of one (numbers_of some))) same_limits ∙ (ap (effects its_limits) events ∙ sym also.effects)) in
      same_entries one other same_finding from from some its is.found also.found numbers effects_are

  same_histories : (from : ℕ) (runs its : List RunPart) (histories more : List (List HistoryEntry)) → AreSameRuns runs its → AreHistories one from runs histories → AreHistories other from its more → map numbers_of histories ≡ map numbers_of more → histories ≡ more
  same_histories from [] [] [] [] are is also numbers = refl
  same_histories from [] [] (some ∷ histories) more are is also numbers = absurd is
  same_histories from [] [] [] (some ∷ more) are is also numbers = absurd also
  same_histories from [] (own ∷ its) histories more are is also numbers = absurd are
  same_histories from (run ∷ runs) [] histories more are is also numbers = absurd are
  same_histories from (run ∷ runs) (own ∷ its) [] more are is also numbers = absurd is
  same_histories from (run ∷ runs) (own ∷ its) (some ∷ histories) [] are is also numbers = absurd also
  same_histories from (run ∷ runs) (own ∷ its) (some ∷ histories) (its_own ∷ more) are is also numbers =
      let limits = are.0.limits in
      let own_numbers : numbers_of some ≡ numbers_of its_own = cc in
      let later_numbers : map numbers_of histories ≡ map numbers_of more = cc in
      let first : some ≡ its_own = same_history from run.limits own.limits some its_own limits is.0 also.0 own_numbers in
      let rest : histories ≡ more = same_histories (suc from) runs its histories more are.1 is.1 also.1 later_numbers in
      rw (first, rest) refl

  same_change : (limits : List Limits) (earlier : List HistoryEntry) (entry : HistoryEntry) → change_after one limits earlier entry ≡ change_after other limits earlier entry
  same_change limits earlier entry =
      let before = same_events one other same (numbers_of earlier) in
      let here = same_happened one other same entry.number in
      rw (before, here) refl

  same_completer : (limits : List Limits) (earlier : List HistoryEntry) (change : Option Change) → own_completer one limits earlier change ≡ own_completer other limits earlier change
  same_completer limits earlier None = refl
  same_completer limits earlier (Some change) =
      ap (option_map (λ (found : List HistoryEntry × HistoryEntry). found.1.number))
      (find_alike _ _ (with_earlier earlier) (λ each. ap (leaves_complete change.metric) (same_change limits each.0 each.1)))

  abbrev step_with : (earlier : List HistoryEntry) → HistoryEntry → Option Change → (completer : Option ℕ) → Step
  step_with earlier entry change completer = record { entry = entry; change = change; closer = closer_of earlier; completer = completer }

  same_step : (limits : List Limits) (earlier : List HistoryEntry) (entry : HistoryEntry) → step_after one limits earlier entry ≡ step_after other limits earlier entry
  same_step limits earlier entry =
      ap (λ change. step_with earlier entry change (own_completer one limits earlier change)) (same_change limits earlier entry)
      ∙ ap (step_with earlier entry (change_after other limits earlier entry)) (same_completer limits earlier (change_after other limits earlier entry))

  same_steps : (limits : List Limits) (earlier entries : List HistoryEntry) → steps_after one limits earlier entries ≡ steps_after other limits earlier entries
  same_steps limits earlier [] = refl
  same_steps limits earlier (entry ∷ entries) =
      ap₂ (λ (first : Step) others. first ∷ others) (same_step limits earlier entry) (same_steps limits (earlier ++ entry ∷ []) entries)

  same_given : (document : Data) (number : ℕ) (what its : What) → what_view what ≡ what_view its → given_of document one number what ≡ given_of document other number its
  same_given document number (Measure metric sample) (Measure place also) view =
      let metric_is : metric ≡ place = cc in
      let sample_is : sample_view sample ≡ sample_view also = cc in
      let words = same_misfit (measured_member (codes "value") document number) (slice_get one.metrics place) (slice_get other.metrics place) (same_metric one.metrics other.metrics place same.metrics) in
      rw metric_is (rw sample_is (ap (λ words. given_by words (error_given (measured_member (codes "error") document number)) (sample_view also)) words))
  same_given document number (Measure metric sample) Stop view = absurd cc
  same_given document number Stop (Measure place also) view = absurd cc
  same_given document number Stop Stop view = refl

  same_conditions : (run : ℕ) (what its : What) → what_view what ≡ what_view its → conditions_of one run what ≡ conditions_of other run its
  same_conditions run (Measure metric sample) (Measure place also) view =
      let metric_is : metric ≡ place = cc in
      let sample_is : sample_view sample ≡ sample_view also = cc in
      rw metric_is (rw sample_is (same_conditions_by (sample_view also) (judge_at one run place) (judge_at other run place) (same_judge_at one.runs other.runs run place same.runs)))
  same_conditions run (Measure metric sample) Stop view = absurd cc
  same_conditions run Stop (Measure place also) view = absurd cc
  same_conditions run Stop Stop view = refl

  same_lacks : (run : ℕ) (what its : What) → what_view what ≡ what_view its → lacks_conditions one run what ≡ lacks_conditions other run its
  same_lacks run (Measure metric sample) (Measure place also) view =
      let metric_is : metric ≡ place = cc in
      let sample_is : sample_view sample ≡ sample_view also = cc in
      rw metric_is (rw sample_is (ap (λ lacks. is_measured (sample_view also) && lacks) (lacks_alike (judge_at one run place) (judge_at other run place) (same_judge_at one.runs other.runs run place same.runs))))
  same_lacks run (Measure metric sample) Stop view = absurd cc
  same_lacks run Stop (Measure place also) view = absurd cc
  same_lacks run Stop Stop view = refl

  reason_by : (document : Data) (step : Step) (entry its : Option EventPart) → AreSameEntries entry its → reason_if_there document one step entry ≡ reason_if_there document other step its
  reason_by document step (Some entry) (Some its) view =
      let run : entry.run ≡ its.run = ap (λ (e : Entry). e.run) view in
      let what : what_view entry.what ≡ what_view its.what = ap (λ (e : Entry). e.what) view in
      let facts = same_facts_found one other same step.entry.number in
      let given = same_given document step.entry.number entry.what its.what what in
      let conditions = same_conditions its.run entry.what its.what what in
      let lacks = same_lacks its.run entry.what its.what what in
      rw (run, facts, given, conditions, lacks) refl
  reason_by document step (Some entry) None view = absurd view
  reason_by document step None (Some its) view = absurd view
  reason_by document step None None view = let facts = same_facts_found one other same step.entry.number in rw facts refl

  same_reason : (document : Data) (step : Step) → reason_of document one step ≡ reason_of document other step
  same_reason document step = reason_by document step (slice_get one.entries step.entry.number) (slice_get other.entries step.entry.number) (same_entry one.entries other.entries step.entry.number same.entries)

  same_reasons : (document : Data) (steps : List Step) → map (reason_of document one) steps ≡ map (reason_of document other) steps
  same_reasons document [] = refl
  same_reasons document (step ∷ steps) = let first = same_reason document step in let rest = same_reasons document steps in rw (first, rest) refl

  same_run_reasons : (document : Data) (asked : Chosen) (run its : RunPart) (history : List HistoryEntry) → IsSameRun run its → run_reasons document one asked run history ≡ run_reasons document other asked its history
  same_run_reasons document asked run its history is =
      let name = is.name in
      let limits = is.limits in
      let events = same_events one other same (numbers_of history) in
      let steps = same_steps its.limits [] history in
      let reasons = same_reasons document (chosen_steps other asked its.limits history) in
      let metrics = same_facts_of_metrics one other same one.metrics other.metrics its.limits (metric_phases its.limits (events_of other (numbers_of history))) (metric_counts its.limits (events_of other (numbers_of history))) same.metrics in
      rw name (rw limits (rw events (rw metrics (rw steps (rw reasons refl)))))

  same_measures : (metric : ℕ) (what its : What) → what_view what ≡ what_view its → measures metric what ≡ measures metric its
  same_measures metric (Measure own sample) (Measure place also) view = let own_is : own ≡ place = cc in ap (λ number. number == metric) own_is
  same_measures metric (Measure own sample) Stop view = absurd cc
  same_measures metric Stop (Measure place also) view = absurd cc
  same_measures metric Stop Stop view = refl

  measures_by : (metric : ℕ) (entry its : Option EventPart) → AreSameEntries entry its
      → option_map_or (λ (part : EventPart). measures metric part.what) entry false ≡ option_map_or (λ (part : EventPart). measures metric part.what) its false
  measures_by metric (Some entry) (Some its) view = same_measures metric entry.what its.what (ap (λ (e : Entry). e.what) view)
  measures_by metric (Some entry) None view = absurd view
  measures_by metric None (Some its) view = absurd view
  measures_by metric None None view = refl

  same_chosen_run : (asked : Chosen) (run : ℕ) (history : List HistoryEntry) → is_chosen_run one asked run history ≡ is_chosen_run other asked run history
  same_chosen_run chosen.All run history = refl
  same_chosen_run (chosen.Event number) run history = let own = same_run one other same number in rw own refl
  same_chosen_run (chosen.Run number) run history = refl
  same_chosen_run (chosen.Metric metric) run history =
      any_alike _ _ history
      (λ entry. measures_by metric (slice_get one.entries entry.number) (slice_get other.entries entry.number) (same_entry one.entries other.entries entry.number same.entries))

  same_reasons_from : (document : Data) (asked : Chosen) (from : ℕ) (runs its : List RunPart) (histories : List (List HistoryEntry)) → AreSameRuns runs its → reasons_from document one asked from runs histories ≡ reasons_from document other asked from its histories
  same_reasons_from document asked from [] [] histories are = refl
  same_reasons_from document asked from [] (own ∷ its) histories are = absurd are
  same_reasons_from document asked from (run ∷ runs) [] histories are = absurd are
  same_reasons_from document asked from (run ∷ runs) (own ∷ its) [] are = refl
  same_reasons_from document asked from (run ∷ runs) (own ∷ its) (history ∷ histories) are =
      let is_asked = same_chosen_run asked from history in
      let first = same_run_reasons document asked run own history are.0 in
      let rest = same_reasons_from document asked (suc from) runs its histories are.1 in
      rw (is_asked, first, rest) refl

  same_names : (runs its : List RunPart) → AreSameRuns runs its → map (λ (run : RunPart). run.name) runs ≡ map (λ (run : RunPart). run.name) its
  same_names [] [] are = refl
  same_names [] (own ∷ its) are = absurd are
  same_names (run ∷ runs) [] are = absurd are
  same_names (run ∷ runs) (own ∷ its) are = let name = are.0.name in let rest = same_names runs its are.1 in rw (name, rest) refl

  same_metric_names : (metrics its : List MetricPart) → map metric_view metrics ≡ map metric_view its → map (λ (metric : MetricPart). metric.name) metrics ≡ map (λ (metric : MetricPart). metric.name) its
  same_metric_names [] [] view = refl
  same_metric_names [] (own ∷ its) view = absurd cc
  same_metric_names (metric ∷ metrics) [] view = absurd cc
  same_metric_names (metric ∷ metrics) (own ∷ its) view =
      let head : metric_view metric ≡ metric_view own = cc in
      let name : metric.name ≡ own.name = ap (λ (m : Metric). m.name) head in
      let rest : map (λ (metric : MetricPart). metric.name) metrics ≡ map (λ (metric : MetricPart). metric.name) its = same_metric_names metrics its cc in
      rw (name, rest) refl

  as_many_entries : length one.entries ≡ length other.entries
  as_many_entries = sym (length-map one.entries entry_view) ∙ (ap length same.entries ∙ length-map other.entries entry_view)

  same_chosen : (selection : Selected) → chosen_of one selection ≡ chosen_of other selection
  same_chosen all = refl
  same_chosen (event number) = let many = as_many_entries in rw many refl
  same_chosen (of_run name) = let names = same_names one.runs other.runs same.runs in rw names refl
  same_chosen (of_metric name) = let names = same_metric_names one.metrics other.metrics same.metrics in rw names refl

-- what is explained of an input is one text
pub one_explanation : (selection : Selected) (format : Format) (input text other : List ℕ) → Explains selection format input text → Explains selection format input other → text ≡ other
one_explanation selection format input text other says also =
    let same = one_bundle input says.bundle also.bundle says.reads also.reads in
    let numbers = same_numbers says.bundle also.bundle (same_run says.bundle also.bundle same) says.histories also.histories (as_many_runs says.bundle also.bundle same says.bundle.runs also.bundle.runs same.runs) (as_many_entries says.bundle also.bundle same) says.lawful says.rise also.lawful also.rise in
    let histories : says.histories ≡ also.histories = same_histories says.bundle also.bundle same 0 says.bundle.runs also.bundle.runs says.histories also.histories same.runs says.lawful.of_runs also.lawful.of_runs numbers in
    let given_is : Ok says.given ≡ Ok also.given = sym says.is_given ∙ also.is_given in
    let given : says.given ≡ also.given = cc in
    let asked_is : Some says.asked ≡ Some also.asked = sym says.chooses ∙ (same_chosen says.bundle also.bundle same selection ∙ also.chooses) in
    let asked : says.asked ≡ also.asked = cc in
    let reasons : reasons_of says.given says.bundle says.asked says.histories ≡ reasons_of also.given also.bundle also.asked also.histories =
    rw (given, asked, histories) (same_reasons_from says.bundle also.bundle same also.given also.asked 0 says.bundle.runs also.bundle.runs also.histories same.runs) in
    one_printed format _ _ _ _ text other (ap reasons_text reasons) (ap reasons_data reasons) says.is also.is

-- a command for one thread says one text of an input
pub one_text : (command : Command) (input text other : List ℕ) (closing closing_of_other : Closing) → ((workers : ℕ) (format : Format) → command ≢ commands.Run workers format) → Says command input text closing → Says command input other closing_of_other
    → (text ≡ other) × (closing ≡ closing_of_other)
one_text (commands.Eval format) input text other closing closing_of_other not_run says also = (one_line format input text other closing closing_of_other says also, says.1 ∙ sym also.1)
one_text (commands.Check format) input text other closing closing_of_other not_run says also = (one_check format input text other closing closing_of_other says also, says.1 ∙ sym also.1)
one_text commands.List input text other closing closing_of_other not_run says also = (one_listing input text other closing closing_of_other says also, says.1 ∙ sym also.1)
one_text (commands.Run workers format) input text other closing closing_of_other not_run says also = absurd (not_run workers format refl)
one_text (commands.Plain format) input text other closing closing_of_other not_run says also = one_report format input text other closing closing_of_other says also
one_text (commands.Ordered workers format) input text other closing closing_of_other not_run says also = one_report format input text other closing closing_of_other says also
one_text (commands.Explain selection format) input text other closing closing_of_other not_run says also = (one_explanation (selected selection) format input text other says.0 also.0, says.1 ∙ sym also.1)
