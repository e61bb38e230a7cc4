-- Items of a document's lists, as places name them.
use Rattle.std.specs.Prelude.{ℕ, List, codes, Option}
use Rattle.serde_json.specs.Data.{Data}
use Rattle.ar_diagnostic.specs.declared.place.Item.{Item}
use Rattle.ar_words.specs.Lists.{metrics, runs, text_at}

-- the item of a number, with its name, if it has one
abbrev pub named_item : (number : ℕ) → Option (List Data) → Item
named_item number items = record { number = number; name = text_at (codes "name") number items }

abbrev pub metric_item : Data → (number : ℕ) → Item
metric_item document number = named_item number (metrics document)

abbrev pub run_item : Data → (number : ℕ) → Item
run_item document number = named_item number (runs document)
