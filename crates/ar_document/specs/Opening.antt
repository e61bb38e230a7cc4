-- What a document has before its runs are examined one by one: its template, the shapes of the template's metrics, and
-- the runs as they are written. Each may be refused, in this order.
use Rattle.std.specs.Prelude.{ℕ, suc, nat_lt, if◌then◌else◌, List, [], ◌∷◌, ◌++◌, length, map, codes, Option, Some, None, is_none, option_and_then, option_map, unwrap_or, Result, Ok, Err, ⊤}
use Rattle.std.specs.Str.{bytes_eq}
use Rattle.ar_value.specs.Terms.{Text}
use Rattle.serde_json.specs.Data.{Data, null, string, object, Members, no_members, member}
use Rattle.serde_json.specs.Find.{get, as_str}
use Rattle.ar_value.specs.Answer.{◌>>=◌, there_or, holds_or, each_after}
use Rattle.ar_json.specs.Declaration.{shape_of}
use Rattle.ar_value.specs.Shape.{Shape}
use Rattle.ar_value.specs.View.{shape_view}
use Rattle.ar_value.specs.Limits.{most_runs}
use Rattle.ar_manifest.specs.Arguments.{with_value}
use Rattle.ar_manifest.specs.Binding.{RunArguments}
use Rattle.ar_json.specs.Members.{list_of}
use Rattle.ar_manifest.specs.Template.{template_of}
use Rattle.ar_manifest.specs.declared.template.Template.{Template}
use Rattle.ar_manifest.specs.declared.template.Metric as templates
use Rattle.ar_judge.specs.Saying.{refused_as}
use Rattle.ar_bundle.specs.declared.bundle.MetricPart.{MetricPart}
use Rattle.ar_document.specs.declared.error.BundleError.{BundleError}
use Rattle.ar_document.specs.declared.error.BundleError.TheVariants.{Manifest, ShapeMissing, Shapes, Runs, DoubleRun}
use Rattle.ar_document.specs.declared.runs.Run.{Run}

-- ---- the template

-- a manifest that is missing is no template, as null is none
abbrev pub template_in : Data → Result Template BundleError
template_in document = refused_as Manifest (template_of (unwrap_or (get (codes "manifest") document) null))

-- ---- metrics

-- a metric's name, and the shape of its measured values
pub record Metric : Type 0 where
  pub name : Text
  pub shape : Shape

abbrev pub metric_with : Text → Shape → Metric
metric_with name shape = record { name = name; shape = shape }

abbrev pub metric_view : MetricPart → Metric
metric_view part = metric_with part.name (shape_view part.shape)

-- the shape that is declared for a metric, after earlier ones; what is no object declares none
abbrev pub with_shape : (shapes : Option Data) → (earlier : List Metric) → templates.Metric → Result Metric BundleError
with_shape shapes earlier metric = do
  declared ← there_or (ShapeMissing (length earlier)) (option_and_then (get metric.name) shapes)
  shape ← refused_as (Shapes (length earlier)) (shape_of declared)
  Ok (metric_with metric.name shape)

abbrev pub metrics_in : (shapes : Option Data) → List templates.Metric → Result (List Metric) BundleError
metrics_in shapes metrics = each_after (with_shape shapes) [] metrics

-- ---- runs, as they are written

-- texts by name, after earlier ones
abbrev pub texts_by_name : RunArguments → Members → Result RunArguments BundleError
texts_by_name earlier no_members = Ok earlier
texts_by_name earlier (member name (string text) others) = texts_by_name (with_value earlier name text) others
texts_by_name earlier (member name json others) = Err Runs

-- a run's own arguments, which may be missing or null
abbrev pub own_arguments : Option Data → Result RunArguments BundleError
own_arguments None = Ok []
own_arguments (Some null) = Ok []
own_arguments (Some (object members)) = texts_by_name [] members
own_arguments (Some json) = Err Runs

-- a run has a text as name
abbrev pub run_of : Data → Result Run BundleError
run_of item = do
  name ← there_or Runs (option_and_then as_str (get (codes "name") item))
  own ← own_arguments (get (codes "args") item)
  Ok (record { name = name; own = own })

-- there are 1 to 64 runs
abbrev pub few_runs : List Data → Result (List Data) BundleError
few_runs [] = Err Runs
few_runs (item ∷ items) = if nat_lt most_runs (length (item ∷ items)) then Err Runs else Ok (item ∷ items)

-- the number of a name among others: that of the first which is the same
abbrev pub index_of_name : Text → List Text → Option ℕ
index_of_name name [] = None
index_of_name name (first ∷ names) = if bytes_eq name first then Some 0 else option_map suc (index_of_name name names)

-- names after earlier ones, each of which is new
unfoldable pub are_new : (earlier : List (List ℕ)) → List Text → Result ⊤ BundleError
are_new earlier [] = Ok tt
are_new earlier (name ∷ names) =
    holds_or (DoubleRun (length earlier)) (is_none (index_of_name name earlier))
    >>= λ new. are_new (earlier ++ name ∷ []) names

abbrev pub names_of : List Run → List (List ℕ)
names_of runs = map (λ run. run.name) runs

abbrev pub run_items : Data → Result (List Data) BundleError
run_items document = there_or Runs (option_and_then list_of (get (codes "runs") document)) >>= few_runs

-- each item is a run, and then has a name of its own
abbrev pub runs_in : Data → Result (List Run) BundleError
runs_in document = do
  items ← run_items document
  runs ← each_after (λ earlier. run_of) [] items
  new ← are_new [] (names_of runs)
  Ok runs

-- ---- all of it

pub record Opened : Type 0 where
  pub template : Template
  pub metrics : List Metric
  pub runs : List Run

abbrev pub opened_as : Template → List Metric → List Run → Opened
opened_as template metrics runs = record { template = template; metrics = metrics; runs = runs }

unfoldable pub opened_of : Data → Result Opened BundleError
opened_of document = do
  template ← template_in document
  metrics ← metrics_in (get (codes "shapes") document) template.metrics
  runs ← runs_in document
  Ok (opened_as template metrics runs)
