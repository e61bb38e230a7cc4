-- Inputs, and the documents that they are.
use Rattle.std.proofs.Common.{◌≡◌, ◌<◌, ◌≤◌, ℕ, Bool, true, false, List, length, Ok, Err, Result, refl, sym, subst, arith}
use Rattle.std.specs.Prelude.{nat_lt}
use Rattle.std.proofs.lemmas.Bool.Decides.{nat_tests}
use Rattle.std.proofs.lemmas.Str.{is_utf8-from_IsUtf8, IsUtf8-from_is_utf8}
use Rattle.std.specs.Str.{IsUtf8, is_utf8}
use Rattle.serde_json.specs.Data.{Data}
use Rattle.serde_json.specs.Read.{read}
use Rattle.ar_value.specs.Answer.{there_or}
use Rattle.ar_json.specs.Document.{json_in, most_bytes}
use Rattle.ar_json.specs.declared.document.JsonError.{JsonError}
use Rattle.ar_json.specs.declared.document.JsonError.TheVariants.{TooLarge, Utf8OrJson}
use Rattle.ar_bundle.specs.Bundle.{Bundle}
use Rattle.ar_document.specs.Document.{FollowsJson, Reads, ReadsInput, bundle_json_error}
use Rattle.ar_document.specs.declared.error.BundleError.{BundleError}

pub too_large : (input : List ℕ) → most_bytes < length input → json_in input ≡ Err TooLarge
unfolding json_in
too_large input long =
    let longer : nat_lt most_bytes (length input) ≡ true = grind (arith, nat_tests) in
    rw longer refl

pub of_text : (input : List ℕ) → length input ≤ most_bytes → IsUtf8 input → json_in input ≡ there_or Utf8OrJson (read input)
unfolding json_in
of_text input short utf8 =
    let shorter : nat_lt most_bytes (length input) ≡ false = grind (arith, nat_tests) in
    rw (shorter, is_utf8-from_IsUtf8 input utf8) refl

no_text_by : (input : List ℕ) (utf8 : Bool) → is_utf8 input ≡ utf8 → length input ≤ most_bytes → (IsUtf8 input → ⊥) → json_in input ≡ Err Utf8OrJson
unfolding json_in
no_text_by input true valid short invalid = absurd (invalid (IsUtf8-from_is_utf8 input valid))
no_text_by input false none short invalid =
    let shorter : nat_lt most_bytes (length input) ≡ false = grind (arith, nat_tests) in
    rw (shorter, none) refl

pub no_text : (input : List ℕ) → length input ≤ most_bytes → (IsUtf8 input → ⊥) → json_in input ≡ Err Utf8OrJson
no_text input short invalid = no_text_by input (is_utf8 input) refl short invalid

-- what is no document is refused so
pub refused : (input : List ℕ) (error : JsonError) → json_in input ≡ Err error → ReadsInput input (Err (bundle_json_error error))
refused input error is = record {
  follows = subst (λ (found : Result Data JsonError). FollowsJson found (Err (bundle_json_error error))) (sym is) refl;
}

-- and what is one has its bundle or its fault
pub follows : (input : List ℕ) (document : Data) (answer : Result Bundle BundleError) → json_in input ≡ Ok document → Reads document answer → ReadsInput input answer
follows input document answer is reads = record {
  follows = subst (λ (found : Result Data JsonError). FollowsJson found answer) (sym is) reads;
}
