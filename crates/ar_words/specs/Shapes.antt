-- Declared shapes.
use Rattle.std.specs.Prelude.{ℕ, codes, Option, option_and_then}
use Rattle.serde_json.specs.Data.{Data}
use Rattle.serde_json.specs.Find.{get}
use Rattle.ar_json.specs.Declaration.{shape_of}
use Rattle.ar_value.specs.Shape.{Shape}
use Rattle.ar_value.specs.Terms.{Text}
use Rattle.ar_words.specs.Bindings.{made}
use Rattle.ar_words.specs.Close.{close_key}
use Rattle.ar_words.specs.Lists.{metrics, text_at}

abbrev pub declared_shape : Option Data → Option Shape
declared_shape json = option_and_then (λ json. made (shape_of json)) json

-- the declaration of a metric's shape, by the metric's name
abbrev pub declaration_in : Data → (metric : ℕ) → Option Data
declaration_in document metric =
    option_and_then (λ name. option_and_then (get name) (get (codes "shapes") document))
    (text_at (codes "name") metric (metrics document))

-- the first shape whose name is close to a metric's
abbrev pub close_shape : Data → (metric : ℕ) → Option Text
close_shape document metric =
    option_and_then (λ name. option_and_then (close_key name) (get (codes "shapes") document))
    (text_at (codes "name") metric (metrics document))
