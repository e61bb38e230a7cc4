use Rattle.json.specs.Value.{value_view as borrowed_view}
use Rattle.serde_json.specs.Read.{of_json}
use Rattle.ar_value.specs.View.{shape_view}
use Rattle.ar_json.specs.Reading.{is_memory_under, read}
use Rattle.ar_measured.proofs.Measures.{measured_exact, measured_fits, measured_there, measured_names}
use Rattle.ar_measured.proofs.values.value_of.Goals as goal

pub returns-clause-exact : goal.returns-clause-exact
returns-clause-exact c =
    measured_exact (is_memory_under (shape_view c.args.shape.now)) (λ d. read (shape_view c.args.shape.now) d) (of_json (borrowed_view c.args.json.now)) c.value_under.result c.value_under.ensures

pub returns-clause-there : goal.returns-clause-there
returns-clause-there c =
    measured_there (is_memory_under (shape_view c.args.shape.now)) (λ d. read (shape_view c.args.shape.now) d) (of_json (borrowed_view c.args.json.now)) c.value_under.result c.value_under.ensures

pub returns-clause-fits : goal.returns-clause-fits
returns-clause-fits c = measured_fits (is_memory_under (shape_view c.args.shape.now)) (shape_view c.args.shape.now) (of_json (borrowed_view c.args.json.now)) c.value_under.result c.value_under.ensures

pub returns-clause-names_rise : goal.returns-clause-names_rise
returns-clause-names_rise c = measured_names (is_memory_under (shape_view c.args.shape.now)) (shape_view c.args.shape.now) (of_json (borrowed_view c.args.json.now)) c.value_under.result c.value_under.ensures
