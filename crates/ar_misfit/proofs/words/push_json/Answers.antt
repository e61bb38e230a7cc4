use Rattle.std.proofs.Common.{rules}
use Rattle.serde_json.proofs.Views.{view-Array}
use Rattle.ar_misfit.proofs.Viewed.{count_of_view}
use Rattle.ar_misfit.proofs.words.push_json.Goals as goal

pub returns-in-Array : goal.returns-in-Array
returns-in-Array c = rw (c.in-Array.is, view-Array c.in-Array.items, count_of_view c.in-Array.items.items) (search rules)
