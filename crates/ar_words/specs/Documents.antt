-- Refusals of documents: of those that have runs, and of that which `eval` reads. A document is as it was written, and
-- may be any JSON value: what isn't there isn't named.
use Rattle.std.specs.Prelude.{ℕ, Bool, false, if◌then◌else◌, List, ◌++◌, codes, is_some, Option, Some, None}
use Rattle.serde_json.specs.Data.{Data}
use Rattle.serde_json.specs.Find.{get}
use Rattle.ar_value.specs.Terms.{Text}
use Rattle.ar_diagnostic.specs.Diagnostic.{expecting, plain_diagnostic}
use Rattle.ar_diagnostic.specs.Place.{entry_part_name}
use Rattle.ar_diagnostic.specs.declared.diagnostic.Diagnostic.{Diagnostic}
use Rattle.ar_diagnostic.specs.declared.diagnostic.Expected.{Expected}
use Rattle.ar_diagnostic.specs.declared.diagnostic.Expected.TheVariants.{Thing, Rule}
use Rattle.ar_diagnostic.specs.declared.place.EntryPart.{EntryPart}
use Rattle.ar_diagnostic.specs.declared.place.EntryPart.TheVariants as entries
use Rattle.ar_diagnostic.specs.declared.place.Item.{Item}
use Rattle.ar_diagnostic.specs.declared.place.Member.TheVariants as members
use Rattle.ar_diagnostic.specs.declared.place.MetricField.TheVariants as fields
use Rattle.ar_diagnostic.specs.declared.place.Place.{Place}
use Rattle.ar_diagnostic.specs.declared.place.Place.TheVariants as places
use Rattle.ar_diagnostic.specs.declared.place.Within.TheVariants as within
use Rattle.ar_document.specs.Refusals.{bundle_error_name}
use Rattle.ar_document.specs.declared.error.BundleError.{BundleError}
use Rattle.ar_document.specs.declared.error.BundleError.TheVariants as errors
use Rattle.ar_eval.specs.declared.eval.EvalError.{EvalError}
use Rattle.ar_eval.specs.declared.eval.EvalError.TheVariants as eval
use Rattle.ar_json.specs.Members.{text_member}
use Rattle.ar_json.specs.Refusals.{shape_error_name, shape_fault_name}
use Rattle.ar_json.specs.declared.shape_reading.ShapeError.{ShapeError}
use Rattle.ar_json.specs.declared.shape_reading.ShapeError.TheVariants as shapes
use Rattle.ar_judge.specs.declared.error.BuildCause.TheVariants as causes
use Rattle.ar_judge.specs.declared.error.BuildError.{BuildError}
use Rattle.ar_judge.specs.declared.error.BuildError.TheVariants as build
use Rattle.ar_manifest.specs.Cut.{cut_at}
use Rattle.ar_quote.specs.Shown.{quoted}
use Rattle.ar_syntax.specs.declared.error.SyntaxError.{SyntaxError}
use Rattle.ar_syntax.specs.declared.error.SyntaxError.TheVariants.{Unexpected}
use Rattle.ar_warning.specs.Misfits.{misfit_expected}
use Rattle.ar_condition_words.specs.Conditions.{code_diagnostic, condition_diagnostic, length_diagnostic}
use Rattle.ar_words.specs.Bindings.{condition_bound_for}
use Rattle.ar_words.specs.Items.{metric_item, run_item}
use Rattle.ar_words.specs.Lists.{entry_text, metrics, runs}
use Rattle.ar_words.specs.Names.{nothing_named, those_there}
use Rattle.ar_words.specs.Shapes.{close_shape, declaration_in, declared_shape}
use Rattle.ar_words.specs.Templates.{binding_diagnostic, bound_place, template_diagnostic}

-- ---- shapes

abbrev pub shape_expected : ShapeError → Option Expected
shape_expected shapes.TooDeep = Some (Rule (codes "a shape has at most 16 levels"))
shape_expected shapes.UnknownShape =
    Some (Thing
    (codes "\"bool\", \"whole\", \"decimal\", \"text\", {\"list\":shape,\"max\":number}, "
    ++ codes "{\"record\":{name:shape,..}} or {\"optional\":shape}"))
shape_expected shapes.MaxMissing =
    Some (Thing (codes "a list's greatest length as \"max\", a whole number of 0 or more"))
shape_expected shapes.MaxTooLarge = Some (Rule (codes "the greatest length of a list is at most 10000"))
shape_expected shapes.NestedOptional = Some (Rule (codes "an optional shape holds one that isn't optional"))
shape_expected shapes.OutOfMemory = None

abbrev pub shape_diagnostic : Place → ShapeError → Diagnostic
shape_diagnostic place error =
    record (plain_diagnostic place (shape_error_name error)) { expected = shape_expected error }

-- ---- conditions of metrics

-- a condition that can't be run, bound to the arguments of a run
unfoldable pub built_diagnostic : Data → (run metric : ℕ) → BuildError → Diagnostic
built_diagnostic document run metric (build.Success cause) =
    condition_diagnostic (bound_place document run metric (Some fields.SuccessCondition))
    (declared_shape (declaration_in document metric))
    (condition_bound_for document run metric (build.Success cause)) cause
built_diagnostic document run metric (build.Failure cause) =
    condition_diagnostic (bound_place document run metric (Some fields.FailureCondition))
    (declared_shape (declaration_in document metric))
    (condition_bound_for document run metric (build.Failure cause)) cause
built_diagnostic document run metric build.OutOfMemory = plain_diagnostic places.Document (codes "OutOfMemory")

-- ---- entries

-- a part of an entry names none of the items
abbrev pub unknown_name_diagnostic : (entry : ℕ) → EntryPart → (error : Text) → (name : Option Text)
    → Option (List Data) → Diagnostic
unknown_name_diagnostic entry part error (Some name) (Some items) =
    record (plain_diagnostic (places.EntryMember entry part) error) {
      found = Some (nothing_named (entry_part_name part) name);
      hint = Some (those_there (entry_part_name part ++ codes "s") items);
    }
unknown_name_diagnostic entry part error name items = plain_diagnostic (places.EntryMember entry part) error

abbrev pub unknown_run : Data → (entry : ℕ) → Diagnostic
unknown_run document entry =
    unknown_name_diagnostic entry entries.Run (codes "UnknownRun") (entry_text (codes "run") entry document)
    (runs document)

abbrev pub unknown_metric : Data → (entry : ℕ) → Diagnostic
unknown_metric document entry =
    unknown_name_diagnostic entry entries.Metric (codes "UnknownMetric") (entry_text (codes "metric") entry document)
    (metrics document)

-- ---- documents that have runs

abbrev pub double_run : (name : Option Text) → Text
double_run None = codes "an earlier run has the name, too"
double_run (Some name) = codes "an earlier run has the name " ++ (quoted name ++ codes ", too")

abbrev pub run_diagnostic : Item → Diagnostic
run_diagnostic run =
    record (plain_diagnostic (places.Run run) (codes "DoubleRun")) { found = Some (double_run run.name) }

abbrev pub shape_place : Data → (metric : ℕ) → Place
shape_place document metric = places.Metric within.Shapes (metric_item document metric)

-- the key that is probably meant, if there is one
abbrev pub missing_shape_hint : (close : Option Text) → Text
missing_shape_hint None = codes "recipes/shapes proposes shapes of results"
missing_shape_hint (Some key) =
    codes "shapes has " ++ (quoted key ++ codes "; recipes/shapes proposes shapes of results")

-- no shape has a metric's name
abbrev pub missing_shape : Data → (metric : ℕ) → Diagnostic
missing_shape document metric =
    record (expecting (shape_place document metric) (codes "ShapeMissing")
    (codes "a shape in `shapes` for each metric, by its name")) {
      hint = Some (missing_shape_hint (close_shape document metric));
    }

-- an input that is too large or no JSON is no document
unfoldable pub bundle_diagnostic : Data → BundleError → Diagnostic
bundle_diagnostic document (errors.Manifest cause) = template_diagnostic document cause
bundle_diagnostic document (errors.ShapeMissing metric) = missing_shape document metric
bundle_diagnostic document (errors.Shapes metric error) =
    shape_diagnostic (shape_place document metric) error
bundle_diagnostic document errors.Runs =
    expecting (places.Member members.Runs) (codes "Runs")
    (codes "a list of 1 to 64 runs, each with a text `name` and no `args` but texts by name")
bundle_diagnostic document (errors.DoubleRun run) = run_diagnostic (run_item document run)
bundle_diagnostic document (errors.Bind run cause) = binding_diagnostic document run cause
bundle_diagnostic document (errors.Build run metric error) = built_diagnostic document run metric error
bundle_diagnostic document errors.TooManyMeasurements =
    expecting (places.Member members.Measurements) (codes "TooManyMeasurements") (codes "at most 100000 entries")
bundle_diagnostic document (errors.BadEntry entry) =
    expecting (places.Entry entry) (codes "BadEntry")
    (codes
    "a list of entries with a text `run`, and `\"stop\":true` or a text `metric` and one of `value` and `error`")
bundle_diagnostic document (errors.UnknownRun entry) = unknown_run document entry
bundle_diagnostic document (errors.UnknownMetric entry) = unknown_metric document entry
bundle_diagnostic document error = plain_diagnostic places.Document (bundle_error_name error)

-- ---- the document that `eval` reads

abbrev pub has_braces : (condition : Option Text) → Bool
has_braces None = false
has_braces (Some text) = is_some (cut_at (codes "{{") text)

-- arguments in braces are bound in templates alone
abbrev pub braces_hint : SyntaxError → (condition : Option Text) → Option Text
braces_hint (Unexpected at) condition =
    if has_braces condition
    then Some (codes "arguments as {{args.NAME}} are bound in a template, by check, list and run")
    else None
braces_hint error condition = None

abbrev pub with_hint_of_braces : (hint : Option Text) → Diagnostic → Diagnostic
with_hint_of_braces None it = it
with_hint_of_braces (Some hint) it = record it { hint = Some hint }

abbrev pub condition_place : Place
condition_place = places.Member members.Condition

abbrev pub grammar_diagnostic : SyntaxError → (condition : Option Text) → Diagnostic
grammar_diagnostic error condition =
    with_hint_of_braces (braces_hint error condition)
    (condition_diagnostic condition_place None condition (causes.Grammar error))

unfoldable pub eval_diagnostic : Data → EvalError → Diagnostic
eval_diagnostic document eval.TooLarge = plain_diagnostic places.Document (codes "TooLarge")
eval_diagnostic document eval.Utf8OrJson = plain_diagnostic places.Document (codes "Utf8OrJson")
eval_diagnostic document eval.BadDocument =
    expecting places.Document (codes "BadDocument")
    (codes "an object with a text `condition`, a `shape` and a `value`")
eval_diagnostic document (eval.Shape error) = shape_diagnostic (places.Member members.Shape) error
eval_diagnostic document (eval.Grammar error) =
    grammar_diagnostic error (text_member (codes "condition") document)
eval_diagnostic document (eval.Kinds error) =
    condition_diagnostic condition_place (declared_shape (get (codes "shape") document))
    (text_member (codes "condition") document) (causes.Kinds error)
eval_diagnostic document (eval.Compiler error) = length_diagnostic condition_place
eval_diagnostic document (eval.Verifier index reason) = code_diagnostic condition_place reason
eval_diagnostic document (eval.Misfit fault) =
    expecting (places.Member members.Value) (shape_fault_name fault) (misfit_expected fault)
eval_diagnostic document eval.OutOfMemory = plain_diagnostic places.Document (codes "OutOfMemory")
