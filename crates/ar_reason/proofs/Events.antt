-- The events of a history that are asked for, one after another.
use Rattle.std.proofs.Common.{◌≡◌, ◌<◌, ◌≤◌, ℕ, ◌+◌, List, ◌++◌, drop, flat_map, length, map, Some, refl, sym, ◌∙◌, ap}
use Rattle.std.specs.Prelude.{option_map, slice_index_or}
use Rattle.std.proofs.lemmas.Option.{slice_get-get_or, slice_get_read}
use Rattle.serde_json.specs.Data.{Data}
use Rattle.ar_bundle.proofs.Bundles.{of_each}
use Rattle.ar_bundle.specs.Bundle.{Bundle}
use Rattle.ar_bundle.specs.Lawful.{IsFound}
use Rattle.ar_bundle.specs.declared.bundle.EventPart.{EventPart}
use Rattle.ar_facts.proofs.Lines.{found_inside, three, two}
use Rattle.ar_facts.specs.Facts.{event_facts}
use Rattle.ar_evaluation.proofs.Lists.{next_text, no_text_left}
use Rattle.ar_reason.specs.Private.Found.{AreFoundSteps}
use Rattle.ar_reason.specs.Reason.{conditions_of, given_of, lacks_conditions, reason_if_there, reason_of, reason_with}
use Rattle.ar_evaluation.specs.EvaluatedText.{condition_text}
use Rattle.ar_reason.specs.ReasonText.{change_line, given_line, no_condition_line, reason_text, why_line}
use Rattle.ar_progress.specs.Why.{why_of}
use Rattle.ar_facts.specs.Report.{event_line, printed_event}
use Rattle.ar_facts.specs.declared.text.Naming.TheVariants as naming
use Rattle.ar_progress.specs.declared.steps.Step.{Step}

pub is_found : (bundle : Bundle) (run : ℕ) (steps : List Step) (index : ℕ) (step : Step) → AreFoundSteps bundle run steps → index < length steps → step ≡ slice_index_or steps index step → IsFound bundle run step.entry
is_found bundle run steps index step all inside read = of_each (λ (step : Step). IsFound bundle run step.entry) steps index step all (slice_get_read steps (length steps) index step refl inside read)

-- the same of what was read in place of a default
pub is_found_read : (bundle : Bundle) (run : ℕ) (steps : List Step) (index : ℕ) (default : Step) → AreFoundSteps bundle run steps → index < length steps → IsFound bundle run (slice_index_or steps index default).entry
is_found_read bundle run steps index default all inside = of_each (λ (step : Step). IsFound bundle run step.entry) steps index (slice_index_or steps index default) all (slice_get-get_or steps index default inside)

-- what led to an event that was read
pub reason_is : (document : Data) (bundle : Bundle) (run : ℕ) (step : Step) (part : EventPart) → IsFound bundle run step.entry → part ≡ slice_index_or bundle.entries step.entry.number part
    → reason_of document bundle step ≡ reason_with (event_facts bundle step.entry.number step.entry.effect) (given_of document bundle step.entry.number part.what) (conditions_of bundle run part.what) (lacks_conditions bundle run part.what) step
reason_is document bundle run step part is read =
    let there = slice_get_read bundle.entries (length bundle.entries) step.entry.number part refl (found_inside bundle step.entry.number step.entry.finding is.finding) read in
    let own : Some part.run ≡ Some run = sym (ap (option_map (λ (entry : EventPart). entry.run)) there) ∙ is.own in
    let same : part.run ≡ run = cc in
    ap (reason_if_there document bundle step) there
    ∙ ap (λ (run : ℕ). reason_with (event_facts bundle step.entry.number step.entry.effect) (given_of document bundle step.entry.number part.what) (conditions_of bundle run part.what) (lacks_conditions bundle run part.what) step) same

-- and its lines
pub reason_written : (document : Data) (bundle : Bundle) (run : ℕ) (step : Step) (part : EventPart) (before lined given judged noted all : List ℕ) → IsFound bundle run step.entry → part ≡ slice_index_or bundle.entries step.entry.number part
    → lined ≡ before ++ event_line (printed_event naming.Clear (event_facts bundle step.entry.number step.entry.effect)) → given ≡ lined ++ given_line (given_of document bundle step.entry.number part.what) → judged ≡ given ++ flat_map condition_text (conditions_of bundle run part.what)
    → noted ≡ judged ++ no_condition_line (lacks_conditions bundle run part.what) → all ≡ noted ++ (change_line step.change ++ why_line (why_of step)) → all ≡ before ++ reason_text (reason_of document bundle step)
reason_written document bundle run step part before lined given judged noted all is read line its_given conditions none outcome =
    two before given all (event_line (printed_event naming.Clear (event_facts bundle step.entry.number step.entry.effect)) ++ given_line (given_of document bundle step.entry.number part.what)) (flat_map condition_text (conditions_of bundle run part.what) ++ (no_condition_line (lacks_conditions bundle run part.what) ++ (change_line step.change ++ why_line (why_of step))))
    (two before lined given _ _ line its_given) (three given judged noted all _ _ _ conditions none outcome)
    ∙ ap (λ reason. before ++ reason_text reason) (sym (reason_is document bundle run step part is read))

pub next_step : (document : Data) (bundle : Bundle) (steps : List Step) (index : ℕ) (step : Step) (written total : List ℕ) → index < length steps → step ≡ slice_index_or steps index step → written ++ flat_map reason_text (map (reason_of document bundle) (drop index steps)) ≡ total
    → (written ++ reason_text (reason_of document bundle step)) ++ flat_map reason_text (map (reason_of document bundle) (drop (index + 1) steps)) ≡ total
next_step document bundle = next_text (reason_of document bundle) reason_text

pub no_step_left : (document : Data) (bundle : Bundle) (steps : List Step) (index : ℕ) (written total : List ℕ) → length steps ≤ index → written ++ flat_map reason_text (map (reason_of document bundle) (drop index steps)) ≡ total → written ≡ total
no_step_left document bundle = no_text_left (reason_of document bundle) reason_text
