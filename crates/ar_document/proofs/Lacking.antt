-- Measurements without a value, and those that are picked.
use Rattle.std.proofs.Common.{◌≡◌, ◌≢◌, ℕ, zero, suc, Bool, true, false, ◌||◌, if◌then◌else◌, List, [], ◌∷◌, map, codes, Option, Some, None, option_map, option_and_then, Result, Ok, Err, true≢false, refl, sym, ap, ◌∙◌}
use Rattle.std.specs.Prelude.{slice_get}
use Rattle.std.specs.List.{list_any}
use Rattle.serde_json.specs.Data as json
use Rattle.serde_json.specs.Data.{Data, Items, item, no_items, null}
use Rattle.serde_json.specs.Find.{at, get, get_item}
use Rattle.serde_json.specs.Read.{read}
use Rattle.ar_value.specs.Answer.{IfRefused, there_or}
use Rattle.ar_value.proofs.Steps.{leads}
use Rattle.ar_json.specs.Document.{json_in}
use Rattle.ar_json.specs.declared.document.JsonError.{JsonError}
use Rattle.ar_json.specs.declared.document.JsonError.TheVariants.{Utf8OrJson}
use Rattle.ar_bundle.specs.Bundle.{Bundle}
use Rattle.ar_bundle.specs.declared.bundle.EventPart.{EventPart}
use Rattle.ar_stream.specs.Picked.{HasPicked, picked_items, picked_of}
use Rattle.ar_document.specs.Document.{is_bundle_memory}
use Rattle.ar_document.specs.Unmeasured.{IsNoDocument, KeepsUnmeasured, is_unmeasured, is_unmeasured_at, is_unmeasured_there, measurement_at}
use Rattle.ar_document.specs.declared.error.BundleError.{BundleError}
use Rattle.ar_document.specs.declared.error.BundleError.TheVariants as errors

-- ---- one of the items that are picked

abbrev flag_at : List Bool → (number : ℕ) → Bool
flag_at [] number = false
flag_at (flag ∷ flags) zero = flag
flag_at (flag ∷ flags) (suc number) = flag_at flags number

abbrev if_picked : Bool → Data → Data
if_picked flag found = if flag then found else null

item_picked : (flags : List Bool) (number : ℕ) (items : Items) → get_item number (picked_items flags items) ≡ option_map (if_picked (flag_at flags number)) (get_item number items)
item_picked flags number no_items = refl
item_picked [] zero (item first items) = refl
item_picked [] (suc number) (item first items) = item_picked [] number items
item_picked (flag ∷ flags) zero (item first items) = refl
item_picked (flag ∷ flags) (suc number) (item first items) = item_picked flags number items

at_picked : (flags : List Bool) (number : ℕ) (found : Data) → at number (picked_of flags found) ≡ option_map (if_picked (flag_at flags number)) (at number found)
at_picked flags number null = refl
at_picked flags number (json.boolean value) = refl
at_picked flags number (json.number value) = refl
at_picked flags number (json.string text) = refl
at_picked flags number (json.array items) = item_picked flags number items
at_picked flags number (json.object own) = refl

there_picked : (flags : List Bool) (number : ℕ) (found : Option Data)
    → option_and_then (at number) (option_map (picked_of flags) found) ≡ option_map (if_picked (flag_at flags number)) (option_and_then (at number) found)
there_picked flags number None = refl
there_picked flags number (Some found) = at_picked flags number found

flag_is : (entries : List EventPart) (number : ℕ) → flag_at (map is_unmeasured entries) number ≡ is_unmeasured_there (slice_get entries number)
flag_is [] number = refl
flag_is (first ∷ entries) zero = refl
flag_is (first ∷ entries) (suc number) = flag_is entries number

-- ---- what is kept

all_of : (found : Option Data) → option_map (if_picked true) found ≡ found
all_of None = refl
all_of (Some found) = refl

abbrev data_or : Data → Option Data → Data
data_or other None = other
data_or other (Some found) = found

only_null : (there : Option Data) (found : Data) → option_map (if_picked false) there ≡ Some found → found ≡ null
only_null None found some = absurd (cc)
only_null (Some there) found some = sym (ap (data_or found) some)

module _ (bundle : Bundle) (document kept : Data) (no_others : (name : List ℕ) → name ≢ codes "measurements" → get name kept ≡ None) (picked : get (codes "measurements") kept ≡ option_map (picked_of (map is_unmeasured bundle.entries)) (get (codes "measurements") document)) where
  each : (number : ℕ) (flag : Bool) → is_unmeasured_at bundle number ≡ flag → measurement_at kept number ≡ option_map (if_picked flag) (measurement_at document number)
  each number flag is =
      ap (option_and_then (at number)) picked ∙ there_picked (map is_unmeasured bundle.entries) number (get (codes "measurements") document)
      ∙ ap (λ flag. option_map (if_picked flag) (measurement_at document number)) (flag_is bundle.entries number ∙ is)

  picks_unmeasured : KeepsUnmeasured bundle document kept
  picks_unmeasured = record {
    same = λ number is. each number true is ∙ all_of (measurement_at document number);
    others = λ number is found some. only_null (measurement_at document number) found (sym (each number false is) ∙ some);
    no_members = no_others;
  }

abbrev ok_or : Data → Result Data JsonError → Data
ok_or other (Ok found) = found
ok_or other (Err error) = other

pub keeps_unmeasured : (bundle : Bundle) (input text : List ℕ) (flags : List Bool) (kept : Data) → text ≡ input → flags ≡ map is_unmeasured bundle.entries
    → json_in input ≡ there_or Utf8OrJson (read input) → HasPicked (codes "measurements") flags text kept
    → (document : Data) → json_in input ≡ Ok document → KeepsUnmeasured bundle document kept
keeps_unmeasured bundle input text flags kept same are reads has document is =
    let own : document ≡ has.document = ap (ok_or document) (sym is ∙ reads ∙ ap (there_or Utf8OrJson) (ap read (sym same) ∙ has.is_read)) in
    picks_unmeasured bundle document kept has.no_others
    (has.picked ∙ ap (λ flags. option_map (picked_of flags) (get (codes "measurements") has.document)) are
    ∙ ap (λ document. option_map (picked_of (map is_unmeasured bundle.entries)) (get (codes "measurements") document)) (sym own))

-- what is refused is no document
pub no_document : {A : Type 0} (input text : List ℕ) → text ≡ input → json_in input ≡ there_or Utf8OrJson (read input)
    → (result : Result A BundleError) → IfRefused is_bundle_memory result (λ error. (read text ≡ None) × (error ≡ errors.Utf8OrJson)) → IfRefused is_bundle_memory result (IsNoDocument input)
no_document input text same reads (Ok kept) refused = tt
no_document input text same reads (Err error) refused =
    leads (is_bundle_memory error)
    (λ none. record { cause = Utf8OrJson; is_none = reads ∙ ap (there_or Utf8OrJson) (ap read (sym same) ∙ none.0); named = none.1 })
    refused

-- ---- where each measurement has a value

neither : (one others : Bool) → (one || others) ≡ false → (one ≡ false) × (others ≡ false)
neither true others none = absurd (true≢false none)
neither false others none = (refl, none)

none_there : (entries : List EventPart) (number : ℕ) → list_any is_unmeasured entries ≡ false → is_unmeasured_there (slice_get entries number) ≡ false
none_there [] number none = refl
none_there (first ∷ entries) zero none = (neither (is_unmeasured first) (list_any is_unmeasured entries) none).0
none_there (first ∷ entries) (suc number) none = none_there entries number (neither (is_unmeasured first) (list_any is_unmeasured entries) none).1

pub nothing_kept : (bundle : Bundle) (document : Data) → list_any is_unmeasured bundle.entries ≡ false → KeepsUnmeasured bundle document null
nothing_kept bundle document none = record {
  same = λ number is. absurd (true≢false (sym is ∙ none_there bundle.entries number none));
  others = λ number is found some. absurd (cc);
  no_members = λ name other. refl;
}
