-- What was read of an input says as much as all of it.
use Rattle.std.proofs.Common.{◌≡◌, ℕ, ◌≤◌, Bool, true, false, List, [], ◌++◌, length, Option, Some, None, Result, Ok, Err, refl, sym, subst, ◌∙◌, ap, arith, length-append, append-nil, ◌⊎◌, inl, inr}
use Rattle.std.specs.Prelude.{IfOk, IfSome, nat_lt}
use Rattle.std.proofs.lemmas.Bool.Decides.{nat_tests}
use Rattle.ar_value.specs.Answer.{◌>>=◌}
use Rattle.ar_value.specs.declared.fault.Fault.{Fault}
use Rattle.ar_bundle.specs.Bundle.{Bundle}
use Rattle.ar_judge.specs.Saying.{refused_as}
use Rattle.ar_document.specs.Document as bundles
use Rattle.ar_json.specs.Document.{json_in, most_bytes}
use Rattle.ar_document.specs.declared.error.BundleError.{BundleError}
use Rattle.ar_workers.specs.declared.error.WorkError.{WorkError}
use Rattle.ar_command_line.specs.Input.{ReadsUpToLimit, most_reads}
use Rattle.std.specs.Io.KnownBytes.{Appends}
use Rattle.ar_eval.specs.Evaluation.{Evaluates, Follows, eval_json_error, prepared, prepared_input}
use Rattle.ar_command_line.specs.Selection.{Selected, selected}
use Rattle.ar_command.specs.Served.{IfBroken, KeepsEarlier, KeepsRead, Served, ServedInput, ServedKeeping}
use Rattle.ar_command.specs.Warned.{Warns, WarnsOnce}
use Rattle.ar_command.specs.Serving.{Breaks, Explains, IsBroken, IsCarriedOut, LacksSelected, RefusesInput, Reports, Says, WritesFront}
use Rattle.ar_command_line.specs.History.{GrowsAtMost}
use Rattle.ar_command_line.specs.Output.{AppendsAll, Call}
use Rattle.ar_eval.specs.declared.eval.EvalError.{EvalError}
use Rattle.ar_command.specs.declared.serving.Closing.{Closing}
use Rattle.ar_command_line.specs.declared.command_line.Command.{Command}
use Rattle.ar_command_line.specs.declared.command_line.Command.TheVariants as commands
use Rattle.ar_command_line.specs.declared.command_line.Format.{Format}
use Rattle.ar_command.specs.declared.serving.Kept.{Kept}
use Rattle.ar_command.specs.declared.serving.Refusal.{Refusal}
use Rattle.ar_command.specs.declared.serving.ServeError.{ServeError}
use Rattle.ar_command.specs.declared.serving.Refusal.TheVariants as refusals
use Rattle.ar_command.specs.declared.serving.ServeError.TheVariants as errors

-- one input begins with the bytes that were read, all of them or too many
by_size : (input rest bytes : List ℕ) (is_large : Bool) → nat_lt most_bytes (length bytes) ≡ is_large → input ≡ bytes ++ rest → (length bytes ≤ most_bytes → rest ≡ [])
    → json_in input ≡ json_in bytes
unfolding json_in
by_size input rest bytes true large front all =
    let longer : nat_lt most_bytes (length input) ≡ true = rw front (grind (arith, nat_tests, length-append {A = ℕ})) in
    rw (large, longer) refl
by_size input rest bytes false small front all =
    let none : rest ≡ [] = all (grind (arith, nat_tests)) in
    ap json_in (front ∙ ap (λ more. bytes ++ more) none ∙ append-nil bytes)

same_json : (known after : Option (List ℕ)) (bytes : List ℕ) → ReadsUpToLimit known after bytes → IfSome known (λ input. json_in input ≡ json_in bytes)
same_json None after bytes reads = tt
same_json (Some input) None bytes reads = absurd reads.front
same_json (Some input) (Some rest) bytes reads = by_size input rest bytes (nat_lt most_bytes (length bytes)) refl reads.front reads.whole

-- ---- what is said of an input is said of each that is the same document

module _ (input bytes : List ℕ) (same : json_in input ≡ json_in bytes) where
  evaluates_too : (answer : Result (Result Bool Fault) EvalError) → Evaluates bytes answer → Evaluates input answer
  unfolding prepared_input
  evaluates_too answer is = record { follows = subst (λ json. Follows (refused_as eval_json_error json >>= prepared) answer) (sym same) is.follows }

  reads_too : (answer : Result Bundle BundleError) → bundles.ReadsInput bytes answer → bundles.ReadsInput input answer
  reads_too answer is = record { follows = subst (λ json. bundles.FollowsJson json answer) (sym same) is.follows }

  reports_too : (format : Format) (text : List ℕ) (closing : Closing) → Reports format bytes text closing → Reports format input text closing
  reports_too format text closing says = record { bundle = says.bundle; reads = reads_too (Ok says.bundle) says.reads; histories = says.histories; reported = says.reported }

  explains_too : (selection : Selected) (format : Format) (text : List ℕ) → Explains selection format bytes text → Explains selection format input text
  explains_too selection format text says = record { bundle = says.bundle; reads = reads_too (Ok says.bundle) says.reads; given = says.given; is_given = same ∙ says.is_given; histories = says.histories; lawful = says.lawful; rise = says.rise; asked = says.asked; chooses = says.chooses; is = says.is }

  lacks_too : (selection : Selected) → LacksSelected selection bytes → LacksSelected selection input
  lacks_too selection lacks = record { bundle = lacks.bundle; reads = reads_too (Ok lacks.bundle) lacks.reads; none = lacks.none }

  says_too : (command : Command) (text : List ℕ) (closing : Closing) → Says command bytes text closing → Says command input text closing
  unfolding reports_too
  says_too (commands.Eval format) text closing says = (record { answer = says.0.answer; evaluates = evaluates_too (Ok says.0.answer) says.0.evaluates; is = says.0.is }, says.1)
  says_too (commands.Check format) text closing says = (record { bundle = says.0.bundle; reads = reads_too (Ok says.0.bundle) says.0.reads; is = says.0.is }, says.1)
  says_too commands.List text closing says = (record { bundle = says.0.bundle; reads = reads_too (Ok says.0.bundle) says.0.reads; is = says.0.is }, says.1)
  says_too (commands.Run workers format) text closing says = reports_too format text closing says
  says_too (commands.Plain format) text closing says = record { reports = reports_too format text closing says.reports; rise = says.rise }
  says_too (commands.Ordered workers format) text closing says = record { reports = reports_too format text closing says.reports; rise = says.rise }
  says_too (commands.Explain selection format) text closing says = (explains_too (selected selection) format text says.0, says.1)

  refuses_too : (command : Command) (refusal : Refusal) → RefusesInput command bytes refusal → RefusesInput command input refusal
  refuses_too (commands.Eval format) (refusals.Eval fault) refuses = evaluates_too (Err fault) refuses
  refuses_too (commands.Eval format) (refusals.Bundle error) refuses = absurd refuses
  refuses_too (commands.Eval format) refusals.NotThere refuses = absurd refuses
  refuses_too (commands.Check format) (refusals.Bundle error) refuses = reads_too (Err error) refuses
  refuses_too (commands.Check format) (refusals.Eval fault) refuses = absurd refuses
  refuses_too (commands.Check format) refusals.NotThere refuses = absurd refuses
  refuses_too commands.List (refusals.Bundle error) refuses = reads_too (Err error) refuses
  refuses_too commands.List (refusals.Eval fault) refuses = absurd refuses
  refuses_too commands.List refusals.NotThere refuses = absurd refuses
  refuses_too (commands.Run workers format) (refusals.Bundle error) refuses = reads_too (Err error) refuses
  refuses_too (commands.Run workers format) (refusals.Eval fault) refuses = absurd refuses
  refuses_too (commands.Run workers format) refusals.NotThere refuses = absurd refuses
  refuses_too (commands.Plain format) (refusals.Bundle error) refuses = reads_too (Err error) refuses
  refuses_too (commands.Plain format) (refusals.Eval fault) refuses = absurd refuses
  refuses_too (commands.Plain format) refusals.NotThere refuses = absurd refuses
  refuses_too (commands.Ordered workers format) (refusals.Bundle error) refuses = reads_too (Err error) refuses
  refuses_too (commands.Ordered workers format) (refusals.Eval fault) refuses = absurd refuses
  refuses_too (commands.Ordered workers format) refusals.NotThere refuses = absurd refuses
  refuses_too (commands.Explain selection format) (refusals.Bundle error) refuses = reads_too (Err error) refuses
  refuses_too (commands.Explain selection format) (refusals.Eval fault) refuses = absurd refuses
  refuses_too (commands.Explain selection format) refusals.NotThere refuses = lacks_too (selected selection) refuses

of_known : (P : List ℕ → Type 0) (bytes : List ℕ) (known : Option (List ℕ)) → IfSome known (λ input. json_in input ≡ json_in bytes) → ((input : List ℕ) → json_in input ≡ json_in bytes → P input) → IfSome known P
of_known P bytes None same says = tt
of_known P bytes (Some input) same says = says input same

said_of_whole : (known after : Option (List ℕ)) (bytes : List ℕ) (command : Command) (text : List ℕ) (closing : Closing) → ReadsUpToLimit known after bytes → Says command bytes text closing → IfSome known (λ input. Says command input text closing)
said_of_whole known after bytes command text closing reads says = of_known (λ input. Says command input text closing) bytes known (same_json known after bytes reads) (λ input same. says_too input bytes same command text closing says)

refused_of_whole : (known after : Option (List ℕ)) (bytes : List ℕ) (command : Command) (refusal : Refusal) → ReadsUpToLimit known after bytes → RefusesInput command bytes refusal → IfSome known (λ input. RefusesInput command input refusal)
refused_of_whole known after bytes command refusal reads refuses = of_known (λ input. RefusesInput command input refusal) bytes known (same_json known after bytes reads) (λ input same. refuses_too input bytes same command refusal refuses)

with_text : (known : Option (List ℕ)) (command : Command) (text : List ℕ) (closing : Closing) (P : List ℕ → Type 0) → IfSome known (λ input. Says command input text closing) → P text → IfSome known (λ input. (text : List ℕ) × Says command input text closing × P text)
with_text None command text closing P says proceeds = tt
with_text (Some input) command text closing P says proceeds = (text, says, proceeds)

-- an input that was read isn't one that can't be
pub was_read : {A E : Type 0} (input : A) (error : E) → Ok input ≡ Err error → ⊥
was_read input error is = absurd cc

-- workers are at work only on an input that was read
no_work : (result : Result Closing ServeError) (error : WorkError) → (result ≡ Err errors.Read) ⊎ (result ≡ Err errors.OutOfMemory) → result ≡ Err (errors.Work error) → ⊥
no_work result error (inl read) is = absurd cc
no_work result error (inr memory) is = absurd cc

-- workers break on what was taken
pub is_broken : {R W : Type 0} {command : Command} {taken remaining : R → Option (List ℕ)} {reader later_reader : R} {contents : W → Option (List ℕ)} {calls : W → Option (List Call)} {write_failed : W → Bool} {writer later_writer : W} {input later_input : List ℕ} {result : Result Closing ServeError}
    → KeepsRead command taken remaining reader later_reader contents calls write_failed writer later_writer later_input result ⊎ KeepsEarlier input later_input result
    → IfBroken result (Breaks command later_input) → IfBroken result (IsBroken command (taken reader) (taken later_reader))
is_broken {later_input = later_input} {result = result} (inl read) breaks = λ error is. record { input = later_input; took = read.took; breaks = breaks error is }
is_broken {later_input = later_input} {result = result} (inr earlier) breaks = λ error is. absurd (no_work result error earlier.cause is)

-- what is done with an input that was read is done with what was taken
module _ {R W : Type 0} (command : Command) (taken remaining : R → Option (List ℕ)) (reads : R → Option ℕ) (read_failed : R → Bool) (reader later_reader : R)
    (contents : W → Option (List ℕ)) (calls : W → Option (List Call)) (write_failed : W → Bool) (writer later_writer : W) (input : List ℕ)
    (took : Appends (taken reader) (taken later_reader) input) (whole : ReadsUpToLimit (remaining reader) (remaining later_reader) input) (counts : GrowsAtMost (reads reader) (reads later_reader) most_reads) (works : read_failed later_reader ≡ true → ⊥)
  where
    written : (result : Result Closing ServeError) → ServedInput command input contents calls write_failed writer later_writer result → IfOk result (IsCarriedOut command (taken reader) (taken later_reader) contents calls writer later_writer)
    written (Ok closing) served = record { input = input; text = served.written.0; took = took; says = served.written.1; wrote = served.written.2 }
    written (Err error) served = tt

    written_of_known : (result : Result Closing ServeError) → ServedInput command input contents calls write_failed writer later_writer result → IfOk result (λ closing. IfSome (remaining reader) (λ input. (text : List ℕ) × Says command input text closing × AppendsAll contents calls writer later_writer text))
    written_of_known (Ok closing) served =
        with_text (remaining reader) command served.written.0 closing (AppendsAll contents calls writer later_writer) (said_of_whole (remaining reader) (remaining later_reader) input command served.written.0 closing whole served.written.1) served.written.2
    written_of_known (Err error) served = tt

    cut_of_known : WritesFront command contents calls writer later_writer input → IfSome (remaining reader) (WritesFront command contents calls writer later_writer)
    cut_of_known cut = of_known (WritesFront command contents calls writer later_writer) input (remaining reader) (same_json (remaining reader) (remaining later_reader) input whole)
        (λ known same. record { text = cut.text; closing = cut.closing; says = says_too known input same command cut.text cut.closing cut.says; wrote = cut.wrote })

    served_taken : (result : Result Closing ServeError) → ServedInput command input contents calls write_failed writer later_writer result → Served command taken remaining reads read_failed reader later_reader contents calls write_failed writer later_writer result
    served_taken result served = record {
      written = written result served;
      written_of_known = written_of_known result served;
      refused = λ refusal is. record { input = input; took = took; refuses = served.refused refusal is };
      refused_of_known = λ refusal is. refused_of_whole (remaining reader) (remaining later_reader) input command refusal whole (served.refused refusal is);
      counts = counts;
      read = λ is. absurd (served.no_read is);
      read_reported = λ failed. absurd (works failed);
      write = served.write;
      write_reported = served.write_reported;
      cut = λ is. (let cut = served.cut is in record { input = input; text = cut.text; closing = cut.closing; took = took; says = cut.says; wrote = cut.wrote });
      cut_of_known = λ is. cut_of_known (served.cut is);
      silent = served.silent;
    }

    -- and what is kept is that input, which a slice hands on
    pub served_keeping : (slice : List ℕ) → slice ≡ input → (kept later_kept : Kept) → later_kept.input.items ≡ input → (result : Result Closing ServeError) → ServedInput command slice contents calls write_failed writer later_writer result
        → WarnsOnce result kept.warnings.items later_kept.warnings.items (Warns command slice) → ServedKeeping command taken remaining reads read_failed reader later_reader contents calls write_failed writer later_writer kept later_kept result
    served_keeping slice is kept later_kept same result on_slice warns =
        let on_input = subst (λ (bytes : List ℕ). ServedInput command bytes contents calls write_failed writer later_writer result) is on_slice in
        record {
          served = served_taken result on_input;
          keeps = inl (subst (λ (bytes : List ℕ). KeepsRead command taken remaining reader later_reader contents calls write_failed writer later_writer bytes result) (sym same) (record { took = took; whole = whole; served = on_input }));
          warns = subst (λ (bytes : List ℕ). WarnsOnce result kept.warnings.items later_kept.warnings.items (Warns command bytes)) (is ∙ sym same) warns;
        }
