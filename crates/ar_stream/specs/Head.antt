-- A document without what is large: of an object's members, those of some names.
use Rattle.std.specs.Prelude.{◌≡◌, ℕ, Bool, true, false, List, Some, None}
use Rattle.std.specs.Borrow.{Bor}
use Rattle.std.specs.List.{list_any}
use Rattle.std.specs.Str.{bytes_eq}
use Rattle.ar_value.specs.Terms.{Text}
use Rattle.serde_json.specs.Data.{Data}
use Rattle.serde_json.specs.Find.{get}
use Rattle.serde_json.specs.Read.{read}

abbrev pub is_among : (names : List (Bor (List ℕ))) → (name : List ℕ) → Bool
is_among names name = list_any (λ one. bytes_eq one.now name) names

-- the text is a document, of which the head has the members of these names, and no others
pub record IsHead (names : List (Bor (List ℕ))) (text : Text) (head : Data) : Type 0 where
  pub document : Data
  pub is_read : read text ≡ Some document
  pub agrees : (name : List ℕ) → is_among names name ≡ true → get name head ≡ get name document
  pub no_others : (name : List ℕ) → is_among names name ≡ false → get name head ≡ None
