-- The path of a misfit leads to what was found.
use Rattle.std.proofs.Common.{◌≡◌, ℕ, suc, ◌+◌, Bool, true, false, nat_le, if◌then◌else◌, List, ◌∷◌, Option, Some, None, option_map, Result, Ok, Err, refl, ◌∙◌, ap, arith}
use Rattle.std.specs.Prelude.{option_and_then}
use Rattle.std.specs.Option.{option_or}
use Rattle.serde_json.specs.Data as json
use Rattle.serde_json.specs.Data.{Data}
use Rattle.serde_json.specs.Find.{get, get_item}
use Rattle.ar_value.specs.Shape.{Shape, FieldShapes}
use Rattle.ar_value.specs.Shape as shapes
use Rattle.ar_value.specs.Value.{Value}
use Rattle.ar_json.specs.Reading.{item_count, read}
use Rattle.ar_json.specs.declared.value_reading.ShapeFault.{ShapeFault}
use Rattle.ar_json.specs.declared.value_reading.ShapeFault.TheVariants.{ListTooLong}
use Rattle.ar_misfit.specs.Misfit.{Misfit, Step, index, named, absent_misfit, after_step, field_misfit, fields_misfit, found_at, items_misfit, misfit, misfit_as, misfit_here, misfit_if_refused}

abbrev Leads : Option Misfit → Data → Type 0
Leads (Some m) d = found_at m.path d ≡ m.found
Leads None d = Unit {0}

if_refused : (expected : Shape) (d : Data) (r : Result Value ShapeFault) → Leads (misfit_if_refused expected d r) d
if_refused expected d (Ok v) = tt
if_refused expected d (Err e) = refl

one_of : (first later : Option Misfit) (d : Data) → Leads first d → Leads later d → Leads (option_or first later) d
one_of (Some m) later d first_leads later_leads = first_leads
one_of None later d first_leads later_leads = later_leads

stepped : (step : Step) (found : Option Misfit) (inner d : Data) → ((path : List Step) → found_at (step ∷ path) d ≡ found_at path inner) → Leads found inner → Leads (option_map (after_step step) found) d
stepped step (Some m) inner d to leads = to m.path ∙ leads
stepped step None inner d to leads = tt

items_lead : (M : Data → Option Misfit) → ((d : Data) → Leads (M d) d) → (from : ℕ) (items all : json.Items) → ((n : ℕ) → get_item (from + n) all ≡ get_item n items) → Leads (items_misfit M from items) (json.array all)
items_lead M each from json.no_items all same = tt
items_lead M each from (json.item d ds) all same =
    let here : get_item from all ≡ Some d = ap (λ n. get_item n all) (omega arith) ∙ same 0 in
    one_of (option_map (after_step (index from)) (M d)) (items_misfit M (suc from) ds) (json.array all)
    (stepped (index from) (M d) d (json.array all) (λ path. ap (option_and_then (found_at path)) here) (each d))
    (items_lead M each (suc from) ds all (λ n. ap (λ k. get_item k all) (omega arith) ∙ same (suc n)))

list_leads : (M : Data → Option Misfit) → ((d : Data) → Leads (M d) d) → (expected : Shape) (items : json.Items) (short : Bool)
    → Leads (if short then items_misfit M 0 items else Some (misfit_here expected (Some (json.array items)) ListTooLong)) (json.array items)
list_leads M each expected items true = items_lead M each 0 items items (λ n. ap (λ k. get_item k items) (omega arith))
list_leads M each expected items false = refl

absent_leads : (shape : Shape) (name : List ℕ) (d : Data) → get name d ≡ None → Leads (option_map (after_step (named name)) (absent_misfit shape)) d
absent_leads (shapes.optional shape) name d is = tt
absent_leads shape name d is = rw is refl

field_leads : (M : Data → Option Misfit) → ((d : Data) → Leads (M d) d) → (shape : Shape) (name : List ℕ) (d : Data) (found : Option Data) → get name d ≡ found
    → Leads (option_map (after_step (named name)) (field_misfit M shape found)) d
field_leads M each shape name d (Some inner) is = stepped (named name) (M inner) inner d (λ path. ap (option_and_then (found_at path)) is) (each inner)
field_leads M each shape name d None is = absent_leads shape name d is

mutual
  leads : (expected shape : Shape) (d : Data) → Leads (misfit_as expected shape d) d
  leads expected (shapes.list shape max) (json.array items) = list_leads (λ d. misfit_as shape shape d) (λ d. leads shape shape d) expected items (nat_le (item_count items) max)
  leads expected (shapes.object of) (json.object given) = fields_lead of (json.object given)
  leads expected (shapes.optional shape) json.null = tt
  leads expected (shapes.optional shape) d = leads expected shape d
  leads expected shape d = if_refused expected d (read shape d)

  fields_lead : (of : FieldShapes) (d : Data) → Leads (fields_misfit of d) d
  fields_lead shapes.no_fields d = tt
  fields_lead (shapes.field name shape others) d =
      one_of (option_map (after_step (named name)) (field_misfit (λ inner. misfit_as shape shape inner) shape (get name d))) (fields_misfit others d) d
      (field_leads (λ inner. misfit_as shape shape inner) (λ inner. leads shape shape inner) shape name d (get name d) refl)
      (fields_lead others d)

pub path_leads : (shape : Shape) (d : Data) (m : Misfit) → misfit shape d ≡ Some m → found_at m.path d ≡ m.found
unfolding misfit
path_leads shape d m is = let lead : Leads (misfit_as shape shape d) d = leads shape shape d in rw is at lead
