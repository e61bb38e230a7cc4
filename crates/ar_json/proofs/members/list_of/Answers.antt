use Rattle.std.proofs.Common.{List, Some, ap, sym}
use Rattle.serde_json.specs.Data.{Data}
use Rattle.serde_json.proofs.Views.{view-Array}
use Rattle.ar_json.proofs.Lists.{listed_items}
use Rattle.ar_json.proofs.members.list_of.Goals as goal

pub returns-in-Array : goal.returns-in-Array
returns-in-Array c = rw (c.in-Array.is, c.deref.ensures.value, view-Array c.in-Array.list) (ap (λ (ds : List Data). Some ds) (sym (listed_items c.in-Array.list.items)))
