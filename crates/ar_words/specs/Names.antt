-- How names of a document are listed.
use Rattle.std.specs.Prelude.{List, [], ◌++◌, codes, length, take, Option, unwrap_or}
use Rattle.std.specs.List.{filter_map}
use Rattle.ar_value.specs.Terms.{Text}
use Rattle.serde_json.specs.Data.{Data}
use Rattle.ar_json.specs.Members.{text_member}
use Rattle.ar_diagnostic.specs.Listing.{most_listed, those_listed}
use Rattle.ar_quote.specs.Shown.{quoted}
use Rattle.ar_words.specs.Lists.{metrics, runs}

-- an item's name, if it has one
abbrev pub item_name : Data → Option Text
item_name item = text_member (codes "name") item

-- the names of the items that have one
abbrev pub item_names : List Data → List Text
item_names items = filter_map item_name items

-- those of a kind that there are
abbrev pub those_there : (kinds : Text) → List Data → Text
those_there kinds items = those_listed kinds (item_names (take most_listed items)) (length items)

-- no item of a kind has a name
abbrev pub nothing_named : (kind name : Text) → Text
nothing_named kind name = codes "no " ++ (kind ++ (codes " has the name " ++ quoted name))

-- ---- of a document

abbrev pub runs_there : Data → Text
runs_there document = those_there (codes "runs") (unwrap_or (runs document) [])

abbrev pub metrics_there : Data → Text
metrics_there document = those_there (codes "metrics") (unwrap_or (metrics document) [])
