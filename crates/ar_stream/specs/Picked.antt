-- A member of a document, of whose items some are picked.
use Rattle.std.specs.Prelude.{◌≡◌, ◌≢◌, Bool, if◌then◌else◌, List, [], ◌∷◌, Some, None, option_map}
use Rattle.ar_value.specs.Terms.{Text}
use Rattle.serde_json.specs.Data.{Data, Items, array, item, no_items, null}
use Rattle.serde_json.specs.Find.{get}
use Rattle.serde_json.specs.Read.{read}

-- the items that are picked, with null in place of the others; one after the last flag isn't picked
abbrev pub picked_items : List Bool → Items → Items
picked_items picks no_items = no_items
picked_items [] (item first items) = item null (picked_items [] items)
picked_items (pick ∷ picks) (item first items) = item (if pick then first else null) (picked_items picks items)

-- of an array the items that are picked, and null in place of what is no array
abbrev pub picked_of : List Bool → Data → Data
picked_of picks (array items) = array (picked_items picks items)
picked_of picks other = null

-- the text is a document, of whose member of this name the items that are picked are kept, and of the others nothing
pub record HasPicked (name : Text) (picks : List Bool) (text : Text) (kept : Data) : Type 0 where
  pub document : Data
  pub is_read : read text ≡ Some document
  pub picked : get name kept ≡ option_map (picked_of picks) (get name document)
  pub no_others : (other : Text) → other ≢ name → get other kept ≡ None
