-- Diagnostics of inputs, and lines of warnings.
use Rattle.std.proofs.Common.{◌≡◌, ◌<◌, ◌≤◌, ℕ, suc, ◌+◌, false, List, ◌∷◌, ◌++◌, length, drop, None, Option, Result, Ok, Err, String, Global, IfOk, string_bytes, sym, ◌∙◌, ap, add-one, drop-cons, rules}
use Rattle.std.specs.Prelude.{flat_map, slice_index_or}
use Rattle.std.proofs.Math.ListN.{drop_of_length-le}
use Rattle.std.proofs.lemmas.List.{append-nil, append_assoc}
use Rattle.ar_command.specs.declared.serving.Refusal.{Refusal}
use Rattle.ar_command_line.specs.declared.command_line.Command.{Command}
use Rattle.ar_diagnostic.specs.declared.diagnostic.Diagnostic.{Diagnostic}
use Rattle.ar_diagnostic.specs.declared.diagnostic.Position.{Position}
use Rattle.ar_json.specs.Document.{json_of}
use Rattle.ar_refusal.specs.Refused.{IsDiagnosis, IsNoJson, IsRefusalText, IsWrittenAs, format_of, is_too_large, no_json}
use Rattle.ar_refusal.specs.Warned.{warning_line}

-- what is no JSON, at a position
pub no_json_is : {E : Type 0} (input : List ℕ) (position : Option Position) (result : Result Diagnostic E) → IfOk result (λ it. it ≡ no_json input position) → IfOk result (λ it. IsNoJson input it)
no_json_is input position (Ok it) is = record { position = position; is = is }
no_json_is input position (Err error) is = tt

-- the diagnosis of an input that is no JSON
pub unread_is : {E : Type 0} (command : Command) (input : List ℕ) (refusal : Refusal) (result : Result Diagnostic E) → is_too_large refusal ≡ false → json_of input ≡ None → IfOk result (λ it. IsNoJson input it)
    → IfOk result (λ it. IsDiagnosis command input refusal it)
unread_is command input refusal (Ok it) small none no_json = record {
  large = λ large. search (rules, small, large);
  other = λ _. rw none no_json;
}
unread_is command input refusal (Err error) small none no_json = tt

-- a diagnosis that is said is the text
pub text_is : {E : Type 0} (command : Command) (input : List ℕ) (refusal : Refusal) (it : Diagnostic) (result : Result (String Global) E) → IsDiagnosis command input refusal it → IfOk result (λ text. IsWrittenAs (format_of command) it (string_bytes text))
    → IfOk result (λ text. IsRefusalText command input refusal (string_bytes text))
text_is command input refusal it (Ok text) diagnosis said = record { diagnostic = it; diagnosis = diagnosis; said = said }
text_is command input refusal it (Err error) diagnosis said = tt

-- ---- lines, one after another

left_at : (xs : List Diagnostic) (offset : ℕ) (x : Diagnostic) → offset < length xs → x ≡ slice_index_or xs offset x → drop offset xs ≡ x ∷ drop (suc offset) xs
left_at xs offset x within is = drop-cons xs offset x within ∙ ap (λ first. first ∷ drop (suc offset) xs) (sym is)

pub next_line : (warnings : List Diagnostic) (offset : ℕ) (warning : Diagnostic) (written total : List ℕ) → offset < length warnings → warning ≡ slice_index_or warnings offset warning
    → written ++ flat_map warning_line (drop offset warnings) ≡ total → (written ++ warning_line warning) ++ flat_map warning_line (drop (offset + 1) warnings) ≡ total
next_line warnings offset warning written total within is so_far =
    rw (add-one offset)
    (append_assoc written (warning_line warning) (flat_map warning_line (drop (suc offset) warnings))
    ∙ ap (λ left. written ++ flat_map warning_line left) (sym (left_at warnings offset warning within is)) ∙ so_far)

pub no_line : (warnings : List Diagnostic) (offset : ℕ) (written total : List ℕ) → length warnings ≤ offset → written ++ flat_map warning_line (drop offset warnings) ≡ total → written ≡ total
no_line warnings offset written total past so_far =
    sym (append-nil written) ∙ ap (λ left. written ++ flat_map warning_line left) (sym (drop_of_length-le warnings past)) ∙ so_far
