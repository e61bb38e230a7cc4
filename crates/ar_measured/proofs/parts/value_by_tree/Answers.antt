use Rattle.json.specs.Value.{value_view as borrowed_view}
use Rattle.serde_json.specs.Read.{of_json}
use Rattle.serde_json.specs.View.{view}
use Rattle.ar_value.specs.View.{shape_view}
use Rattle.ar_measured.proofs.Measures.{tree_read}
use Rattle.ar_measured.proofs.parts.value_by_tree.Goals as goal

pub returns-in-Some : goal.returns-in-Some
returns-in-Some c =
    let same = rw c.in-Some.is at c.requires in
    rw (← same)
    (tree_read (shape_view c.in-Some.reader.now) (of_json (borrowed_view c.args.json.now)) (view c.in_ok-tree.tree) c.read.result c.in_ok-tree.ensures c.read.ensures.exact)

pub returns : goal.returns
returns c = tree_read (shape_view c.args.shape.now) (of_json (borrowed_view c.args.json.now)) (view c.in_ok-tree.tree) c.read_value.result c.in_ok-tree.ensures c.read_value.ensures.exact
