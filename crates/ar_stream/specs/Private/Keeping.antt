-- What is kept of a document's members, while they are read one after another.
use Rattle.std.specs.Prelude.{◌≡◌, ℕ, Bool, false, if◌then◌else◌, List, [], ◌∷◌, Option, Some, None, option_map}
use Rattle.std.specs.Borrow.{Bor}
use Rattle.ar_value.specs.Terms.{Text}
use Rattle.serde_json.specs.Data.{Data, Members, put}
use Rattle.serde_json.specs.Find.{get, get_member}
use Rattle.serde_json.specs.Read.{read}
use Rattle.ar_stream.specs.Head.{is_among}
use Rattle.ar_stream.specs.Picked.{picked_of}
use Rattle.ar_stream.specs.declared.head.Wanted.{Wanted}

-- the first flag; where there is none, an item isn't picked
abbrev pub first_pick : List Bool → Bool
first_pick [] = false
first_pick (pick ∷ picks) = pick

abbrev pub later_picks : List Bool → List Bool
later_picks [] = []
later_picks (pick ∷ picks) = picks

-- what is kept of a member: all of it, where no items are picked
abbrev pub kept_of : Option (Bor (List Bool)) → Data → Data
kept_of None member = member
kept_of (Some picks) member = picked_of picks.now member

-- members with one more, if it has one of the names
abbrev pub with_member : Wanted → (name : List ℕ) → Data → Members → Members
with_member wanted name member kept =
    if is_among wanted.names.now name then put name (kept_of wanted.picks member) kept else kept

-- what is kept at a name, where this is found there
abbrev pub kept_at : Wanted → (name : List ℕ) → (found : Option Data) → Option Data
kept_at wanted name found =
    if is_among wanted.names.now name then option_map (kept_of wanted.picks) found else None

-- these members are kept of all of these
abbrev pub Keeps : Wanted → (kept all : Members) → Type 0
Keeps wanted kept all = (name : List ℕ) → get_member name kept ≡ kept_at wanted name (get_member name all)

-- the text is a document, of which what is wanted is kept
pub record IsKept (wanted : Wanted) (text : Text) (kept : Data) : Type 0 where
  pub document : Data
  pub is_read : read text ≡ Some document
  pub keeps : (name : List ℕ) → get name kept ≡ kept_at wanted name (get name document)
