-- What is said of finished runs.
use Rattle.std.proofs.Common.{◌≡◌, ℕ, List, map, Result, Ok, Err, string_bytes, subst, sym, ◌∙◌, ap}
use Rattle.std.specs.Prelude.{IfOk}
use Rattle.std.specs.List.{list_any}
use Rattle.ar_limits.specs.Metric.{is_unsuccessful}
use Rattle.ar_limits.specs.Replay.{Standing}
use Rattle.ar_bundle.specs.Bundle.{Bundle}
use Rattle.ar_bundle.specs.Finished.{AreFinished}
use Rattle.ar_bundle.specs.Lawful.{AllRise, numbers_of}
use Rattle.ar_bundle.specs.declared.finished.Finished.{Finished}
use Rattle.ar_bundle.specs.declared.history.Entry.{Entry}
use Rattle.ar_facts.specs.Facts.{report_facts}
use Rattle.ar_facts.proofs.States.{phases_are}
use Rattle.ar_manifest.proofs.DryRun.{list_any-of_map}
use Rattle.ar_document.specs.Document.{ReadsInput}
use Rattle.ar_value.specs.Answer.{IfRefused}
use Rattle.ar_command.specs.Private.Refusing.{Names, NamesWork, is_serve_memory}
use Rattle.ar_command.specs.Serving.{Breaks, IsCauseOf, IsReport, IsReported, RefusesInput, ReportsInOrder, Says, closing_of}
use Rattle.ar_command.specs.declared.answer.Said.{Said}
use Rattle.ar_command.specs.declared.serving.Closing.{Closing}
use Rattle.ar_command.specs.declared.serving.ServeError.{ServeError}
use Rattle.ar_command.specs.declared.serving.ServeError.TheVariants.{OutOfMemory, Read, Refused, Work, Write}
use Rattle.ar_command_line.specs.declared.command_line.Command.{Command}
use Rattle.ar_command_line.specs.declared.command_line.Command.TheVariants as commands
use Rattle.ar_command_line.specs.declared.command_line.Format.{Format}

-- a state is bad where its phase is
pub bad_phases : (states : List Standing) → list_any (λ (state : Standing). is_unsuccessful state.phase) states ≡ list_any is_unsuccessful (map (λ (state : Standing). state.phase) states)
bad_phases states = list_any-of_map (λ (state : Standing). state.phase) is_unsuccessful states

-- the closing by the states of finished runs is that of their report
pub reported_of : (format : Format) (bundle : Bundle) (finished : Finished) (text : List ℕ) (closing : Closing) → AreFinished bundle finished → IsReport format (report_facts bundle (map numbers_of finished.histories)) text → closing ≡ closing_of (map (λ (state : Standing). state.phase) finished.states.items)
    → IsReported format bundle finished.histories text closing
reported_of format bundle finished text closing are is closes = record { lawful = are.lawful; is = is; closes = closes ∙ ap closing_of (phases_are bundle finished.histories finished.states.items are.lawful.of_runs are.states) }

pub in_order : (format : Format) (input text : List ℕ) (closing : Closing) (bundle : Bundle) (histories : List (List Entry)) → ReadsInput input (Ok bundle) → AllRise histories → IsReported format bundle histories text closing → ReportsInOrder format input text closing
in_order format input text closing bundle histories reads rise reported = record { reports = record { bundle = bundle; reads = reads; histories = histories; reported = reported }; rise = rise }

-- what is said of the bundle of an input is said of the input
module _ (command : Command) (workers : ℕ) (format : Format) (input : List ℕ) (bundle : Bundle) (reads : ReadsInput input (Ok bundle)) where
  pub posted_says : command ≡ commands.Run workers format → (result : Result Said ServeError) → IfOk result (λ said. (histories : List (List Entry)) × IsReported format bundle histories (string_bytes said.text) said.closing) → IfOk result (λ said. Says command input (string_bytes said.text) said.closing)
  posted_says is (Ok said) run = subst (λ command. Says command input (string_bytes said.text) said.closing) (sym is) (record { bundle = bundle; reads = reads; histories = run.0; reported = run.1 })
  posted_says is (Err error) run = tt

  pub in_order_says : command ≡ commands.Ordered workers format → (result : Result Said ServeError) → IfOk result (λ said. (histories : List (List Entry)) × AllRise histories × IsReported format bundle histories (string_bytes said.text) said.closing) → IfOk result (λ said. Says command input (string_bytes said.text) said.closing)
  in_order_says is (Ok said) run = subst (λ command. Says command input (string_bytes said.text) said.closing) (sym is) (in_order format input (string_bytes said.text) said.closing bundle run.0 reads run.1 run.2)
  in_order_says is (Err error) run = tt

-- and why its workers ended
pub breaks : (command own : Command) (input : List ℕ) (bundle : Bundle) → ReadsInput input (Ok bundle) → command ≡ own → {A : Type 0} (result : Result A ServeError) → IfRefused is_serve_memory result (NamesWork (IsCauseOf own bundle)) → IfRefused is_serve_memory result (Names (RefusesInput command input) (Breaks command input))
breaks command own input bundle reads is (Ok x) broken = tt
breaks command own input bundle reads is (Err (Refused refusal)) broken = absurd broken
breaks command own input bundle reads is (Err (Work error)) broken = record { bundle = bundle; reads = reads; cause = subst (λ command. IsCauseOf command bundle error) (sym is) broken.0; not_memory = broken.1 }
breaks command own input bundle reads is (Err OutOfMemory) broken = tt
breaks command own input bundle reads is (Err Read) broken = absurd broken
breaks command own input bundle reads is (Err Write) broken = absurd broken
