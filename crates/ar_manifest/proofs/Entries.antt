-- Entries of a map, seen by the bytes of their names.
use Rattle.std.proofs.Common.{◌≡◌, ℕ, Bool, true, false, List, [], ◌∷◌, ◌++◌, length, refl, ap}
use Rattle.std.specs.Prelude.{String, string_bytes, if◌then◌else◌, Option}
use Rattle.std.specs.Str.{bytes_eq}
use Rattle.std.proofs.lemmas.List.{length-map}
use Rattle.std.specs.String.{string_eq}
use Rattle.std.specs.Map.{lookup}
use Rattle.std.specs.declared.alloc.Global.{Global}
use Rattle.indexmap.specs.IndexMap.{insert_entry}
use Rattle.ar_manifest.specs.Arguments.{by_name, value_of, with_value}

module _ {V : Type 0} where
  -- a name is looked up by its bytes
  pub value_of_entry : (name : List ℕ) (entries : List (String Global × V)) → value_of name (by_name entries) ≡ lookup (λ key. bytes_eq name (string_bytes key)) entries
  value_of_entry name [] = refl
  value_of_entry name (first ∷ rest) = ap (λ found. if bytes_eq name (string_bytes first.0) then Option.Some first.1 else found) (value_of_entry name rest)

  by_test : (test : Bool) (first : String Global × V) (rest others : List (String Global × V)) (more : List (List ℕ × V)) (value : V) → by_name others ≡ more
      → by_name (if test then (first.0, value) ∷ rest else first ∷ others) ≡ (if test then (string_bytes first.0, value) ∷ by_name rest else (string_bytes first.0, first.1) ∷ more)
  by_test true first rest others more value same = refl
  by_test false first rest others more value same = ap (λ later. (string_bytes first.0, first.1) ∷ later) same

  -- an entry is inserted by its name's bytes
  pub with_value_entry : (entries : List (String Global × V)) (name : String Global) (value : V) → by_name (insert_entry string_eq entries name value) ≡ with_value (by_name entries) (string_bytes name) value
  with_value_entry [] name value = refl
  with_value_entry (first ∷ rest) name value = by_test (string_eq name first.0) first rest _ _ value (with_value_entry rest name value)

  -- there are as many names as entries
  pub len_entries : (entries : List (String Global × V)) → length (by_name entries) ≡ length entries
  len_entries entries = length-map entries (λ entry. (string_bytes entry.0, entry.1))

  -- a new name is put last
  pub with_new_value : (arguments : List (List ℕ × V)) (name : List ℕ) (value : V) → value_of name arguments ≡ Option.None → with_value arguments name value ≡ arguments ++ (name, value) ∷ []
  with_new_value [] name value none = refl
  with_new_value (first ∷ rest) name value none = by_first (bytes_eq name first.0) refl (with_new_value rest name value)
    where
      by_first : (test : Bool) → bytes_eq name first.0 ≡ test → (value_of name rest ≡ Option.None → with_value rest name value ≡ rest ++ (name, value) ∷ []) → with_value (first ∷ rest) name value ≡ first ∷ (rest ++ (name, value) ∷ [])
      by_first true e others = absurd (let some : Option.Some first.1 ≡ Option.None = rw e at none in cc)
      by_first false e others = rw e (ap (λ more. first ∷ more) (others (rw e at none)))
