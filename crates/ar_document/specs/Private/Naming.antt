-- Numbers and texts that are kept by name, and names that are fed to a hasher.
use Rattle.std.specs.Prelude.{◌≡◌, ℕ, List, String, Result, Ok, Err}
use Rattle.std.specs.BTreeMap.{BTreeMap, get_by_text}
use Rattle.std.specs.declared.alloc.Global.{Global}
use Rattle.std.specs.declared.hash.DefaultHasher.{DefaultHasher}
use Rattle.serde_json.specs.Data.{Data, Members, no_members, member, string}
use Rattle.ar_manifest.specs.Arguments.{with_value}
use Rattle.ar_manifest.specs.Binding.{RunArguments}
use Rattle.ar_manifest.specs.Names.{fed}
use Rattle.ar_document.specs.Opening.{index_of_name}
use Rattle.ar_document.specs.declared.error.BundleError.{BundleError}
use Rattle.ar_document.specs.declared.error.BundleError.TheVariants.{Runs}

-- each name's number is that of the first which is the same
pub record AreNumbers (names : List (List ℕ)) (numbers : BTreeMap (String Global) ℕ) : Type 0 where
  pub same : (name : List ℕ) → get_by_text numbers name ≡ index_of_name name names

-- arguments with the text of a name after them
abbrev pub with_argument_text : RunArguments → List ℕ → Data → Result RunArguments BundleError
with_argument_text earlier name (string text) = Ok (with_value earlier name text)
with_argument_text earlier name json = Err Runs

-- the state after the names of members
abbrev pub fed_members : DefaultHasher → Members → DefaultHasher
fed_members state no_members = state
fed_members state (member name json others) = fed_members (fed state name) others
