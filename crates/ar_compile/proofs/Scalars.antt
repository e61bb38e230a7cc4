-- The items of a list literal, pushed one after the other, are taken again as one list.
use Rattle.std.proofs.Common.{◌≡◌, ℕ, suc, ◌+◌, length, true, List, ◌∷◌, Ok, refl, sym, ap, ◌∙◌, arith}
use Rattle.ar_value.specs.Fits.{fits}
use Rattle.ar_value.specs.Operators.{scalar_item}
use Rattle.ar_value.specs.Value.{Value, Items, count, item, no_items}
use Rattle.ar_value.specs.Value as values
use Rattle.ar_value.specs.declared.operator.Scalar.{Scalar}
use Rattle.ar_value.specs.declared.operator.Scalar.TheVariants as scalars
use Rattle.ar_value.specs.Kind.{scalar_shape}
use Rattle.ar_op.specs.Machine.{is_scalar, list_made}

-- items that are all one kind of scalar
abbrev pub AllScalar : Scalar → Items → Type 0
AllScalar scalar values.no_items = Unit {0}
AllScalar scalar (values.item v items) = (is_scalar scalar v ≡ true) × AllScalar scalar items

-- operands under which items were pushed, the last on top
abbrev pub pushed : Items → List Value → List Value
pushed values.no_items operands = operands
pushed (values.item v items) operands = pushed items (v ∷ operands)

abbrev in_front : Items → Items → Items
in_front values.no_items items = items
in_front (values.item v others) items = item v (in_front others items)

pub scalar_fits : (scalar : Scalar) (v : Value) → fits v (scalar_shape scalar) ≡ true → (is_scalar scalar v ≡ true) × (scalar_item v ≡ Ok v)
scalar_fits scalars.Bool (values.bool b) fit = (refl, refl)
scalar_fits scalars.Whole (values.whole w) fit = (refl, refl)
scalar_fits scalars.Decimal (values.decimal d) fit = (refl, refl)
scalar_fits scalars.Text (values.text t) fit = (refl, refl)
scalar_fits scalar v fit = absurd cc

one_later : (m n : ℕ) → m + suc n ≡ suc m + n
one_later m n = omega arith

from_zero : (n : ℕ) → 0 + n ≡ n
from_zero n = omega arith

-- n scalars are taken again, in their order
made_again : (scalar : Scalar) (vs : Items) (n : ℕ) (others : Items) (operands : List Value) → AllScalar scalar vs
    → list_made scalar (count vs + n) others (pushed vs operands) ≡ list_made scalar n (in_front vs others) operands
made_again scalar values.no_items n others operands all = ap (λ m. list_made scalar m others operands) (from_zero n)
made_again scalar (values.item v vs) n others operands all =
    ap (λ m. list_made scalar m others (pushed vs (v ∷ operands))) (sym (one_later (count vs) n))
    ∙ made_again scalar vs (suc n) others (v ∷ operands) all.1 ∙ rw all.0 refl

front_of_none : (vs : Items) → in_front vs no_items ≡ vs
front_of_none values.no_items = refl
front_of_none (values.item v vs) = ap (item v) (front_of_none vs)

none_more : (n : ℕ) → n ≡ n + 0
none_more n = omega arith

pub made_whole : (scalar : Scalar) (vs : Items) (n : ℕ) (operands : List Value) → AllScalar scalar vs → count vs ≡ n → list_made scalar n no_items (pushed vs operands) ≡ Ok (values.list vs ∷ operands)
made_whole scalar vs n operands all is =
    ap (λ m. list_made scalar m no_items (pushed vs operands)) (sym is ∙ none_more (count vs))
    ∙ made_again scalar vs 0 no_items operands all ∙ ap (λ items. Ok (values.list items ∷ operands)) (front_of_none vs)

pub pushed_length : (vs : Items) (operands : List Value) → length (pushed vs operands) ≡ count vs + length operands
pushed_length values.no_items operands = sym (from_zero (length operands))
pushed_length (values.item v vs) operands = pushed_length vs (v ∷ operands) ∙ one_later (count vs) (length operands)
