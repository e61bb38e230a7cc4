-- List literals mean their kinds.
use Rattle.std.proofs.Common.{◌≡◌, ℕ, suc, Bool, true, false, nat_le, List, [], ◌∷◌, length, map, Option, Some, None, Ok, IfOk, refl, ap, arith}
use Rattle.std.specs.Prelude.{◌&&◌}
use Rattle.std.proofs.lemmas.Bool.Decides.{nat_tests}
use Rattle.ar_value.specs.Answer.{◌>>=◌}
use Rattle.ar_value.specs.Fits.{all_items, fits}
use Rattle.ar_value.specs.Kind.{shaped, scalar_shape}
use Rattle.ar_value.specs.Shape.{Shape}
use Rattle.ar_value.specs.Shape as shapes
use Rattle.ar_value.specs.Value.{Value, Items, count}
use Rattle.ar_value.specs.Value as values
use Rattle.ar_check.specs.Check.{Item, common_of, common_scalar, common_with, list_in_common, list_literal_of, converted_item}
use Rattle.ar_value.specs.Operators.{Failure, Meaning}
use Rattle.ar_tree.specs.Meaning.{items_mean, mean}
use Rattle.ar_value.specs.Operators as operators
use Rattle.ar_tree.specs.Typed.{Typed, Typeds, typeds}
use Rattle.ar_tree.specs.Typed as typed
use Rattle.ar_value.specs.declared.operator.Scalar.{Scalar}
use Rattle.ar_value.specs.declared.operator.Scalar.TheVariants as scalars
use Rattle.ar_check.proofs.Means.{Means, MeansKind, Sound, both, both_hold, means_then}
use Rattle.ar_check.proofs.Operands.{MeansScalar, on_bool, on_decimal, on_whole}
use Rattle.ar_check.proofs.Sums.{converted_means}

-- whether an item suits a list of scalars
abbrev pub suits : Scalar → Option Scalar → Bool
suits scalars.Bool (Some scalars.Bool) = true
suits scalars.Whole (Some scalars.Whole) = true
suits scalars.Decimal (Some scalars.Whole) = true
suits scalars.Decimal (Some scalars.Decimal) = true
suits scalars.Text (Some scalars.Text) = true
suits scalar item = false

-- a scalar suits a list of its own
suits_itself : (scalar : Scalar) → suits scalar (Some scalar) ≡ true
suits_itself scalars.Bool = refl
suits_itself scalars.Whole = refl
suits_itself scalars.Decimal = refl
suits_itself scalars.Text = refl

-- what is no scalar suits none
suits_none : (scalar : Scalar) → suits scalar None ≡ true → ⊥
suits_none scalars.Bool h = absurd (cc)
suits_none scalars.Whole h = absurd (cc)
suits_none scalars.Decimal h = absurd (cc)
suits_none scalars.Text h = absurd (cc)

-- wholes suit where decimals do
whole_suits : (scalar : Scalar) → suits scalar (Some scalars.Decimal) ≡ true → suits scalar (Some scalars.Whole) ≡ true
whole_suits scalars.Bool h = h
whole_suits scalars.Whole h = refl
whole_suits scalars.Decimal h = refl
whole_suits scalars.Text h = h

-- what suits two in common suits each
suits_both : (scalar : Scalar) (left right : Option Scalar) → suits scalar (common_scalar left right) ≡ true → (suits scalar left ≡ true) × (suits scalar right ≡ true)
suits_both scalar (Some scalars.Bool) (Some scalars.Bool) h = (h, h)
suits_both scalar (Some scalars.Text) (Some scalars.Text) h = (h, h)
suits_both scalar (Some scalars.Whole) (Some scalars.Whole) h = (h, h)
suits_both scalar (Some scalars.Whole) (Some scalars.Decimal) h = (whole_suits scalar h, h)
suits_both scalar (Some scalars.Decimal) (Some scalars.Whole) h = (h, whole_suits scalar h)
suits_both scalar (Some scalars.Decimal) (Some scalars.Decimal) h = (h, h)
suits_both scalar left right h = absurd (suits_none scalar h)

-- whether all items suit a list of scalars
abbrev pub all_suit : Scalar → List Item → Bool
all_suit scalar [] = true
all_suit scalar (item ∷ items) = suits scalar item.scalar && all_suit scalar items

-- what was found and the items after it suit what they have in common
joined_suit : (scalar : Scalar) (found : Option Scalar) (items : List Item) → common_with found items ≡ Some scalar → (suits scalar found ≡ true) × (all_suit scalar items ≡ true)
joined_suit scalar found [] is = (rw is (suits_itself scalar), refl)
joined_suit scalar found (item ∷ items) is =
    let rest = joined_suit scalar (common_scalar found item.scalar) items is in
    let each = suits_both scalar found item.scalar rest.0 in
    (each.0, both (suits scalar item.scalar) (all_suit scalar items) each.1 rest.1)

-- items suit what they have in common
pub common_suits : (scalar : Scalar) (items : List Item) → common_of items ≡ Some scalar → all_suit scalar items ≡ true
common_suits scalar [] is = absurd (cc)
common_suits scalar (item ∷ items) is =
    let each = joined_suit scalar item.scalar items is in both (suits scalar item.scalar) (all_suit scalar items) each.0 each.1

-- a scalar stays as an item
scalar_stays : (scalar : Scalar) (v : Value) → fits v (scalar_shape scalar) ≡ true → MeansKind (shaped (scalar_shape scalar)) (operators.scalar_item v)
scalar_stays scalars.Bool v fit = on_bool (λ v. MeansKind (shaped shapes.bool) (operators.scalar_item v)) (λ b. refl) v fit
scalar_stays scalars.Whole v fit = on_whole (λ v. MeansKind (shaped shapes.whole) (operators.scalar_item v)) (λ w. refl) v fit
scalar_stays scalars.Decimal v fit = on_decimal (λ v. MeansKind (shaped shapes.decimal) (operators.scalar_item v)) (λ d. refl) v fit
scalar_stays scalars.Text (values.text t) fit = refl
scalar_stays scalars.Text v fit = absurd (cc)

module _ (result : Value) (here : Option Value) where
  -- items mean the scalars that they are
  abbrev pub ItemsMean : List Item → Type 0
  ItemsMean [] = Unit {0}
  ItemsMean (item ∷ items) = MeansScalar item.scalar (mean result here item.tree) × ItemsMean items

  -- an item that suits a list of scalars means that scalar, once it is converted
  converted_item_means : (scalar : Scalar) (of : Option Scalar) (tree : Typed) → suits scalar of ≡ true → MeansScalar of (mean result here tree)
      → MeansKind (shaped (scalar_shape scalar)) (mean result here (converted_item scalar of tree))
  converted_item_means scalars.Bool (Some scalars.Bool) tree is h = h
  converted_item_means scalars.Whole (Some scalars.Whole) tree is h = h
  converted_item_means scalars.Decimal (Some scalars.Whole) tree is h = converted_means result here tree h
  converted_item_means scalars.Decimal (Some scalars.Decimal) tree is h = h
  converted_item_means scalars.Text (Some scalars.Text) tree is h = h
  converted_item_means scalar of tree is h = absurd (cc)

  -- n values, each of which fits
  abbrev pub Fill : Shape → ℕ → Items → Type 0
  Fill shape many found = (count found ≡ many) × (all_items (λ v. fits v shape) found ≡ true)

  -- one more item
  pub more_mean : (scalar : Scalar) (many : ℕ) (first : Typed) (others : Typeds) → MeansKind (shaped (scalar_shape scalar)) (mean result here first)
      → Means (Fill (scalar_shape scalar) many) (items_mean result here others) → Means (Fill (scalar_shape scalar) (suc many)) (items_mean result here (typed.more first others))
  more_mean scalar many first others h k =
      means_then _ (Fill (scalar_shape scalar) (suc many)) (mean result here first) (λ v. operators.scalar_item v >>= λ v. items_mean result here others >>= λ vs. Ok (values.item v vs)) h
      (λ v fit. means_then _ (Fill (scalar_shape scalar) (suc many)) (operators.scalar_item v) (λ v. items_mean result here others >>= λ vs. Ok (values.item v vs)) (scalar_stays scalar v fit)
      (λ v fit. means_then (Fill (scalar_shape scalar) many) (Fill (scalar_shape scalar) (suc many)) (items_mean result here others) (λ vs. Ok (values.item v vs)) k
      (λ vs rest. (ap suc rest.0, both (fits v (scalar_shape scalar)) (all_items (λ v. fits v (scalar_shape scalar)) vs) fit rest.1))))

  -- the items of a list literal have their values
  items_means : (scalar : Scalar) (items : List Item) → all_suit scalar items ≡ true → ItemsMean items
      → Means (Fill (scalar_shape scalar) (length items)) (items_mean result here (typeds (map (λ item. converted_item scalar item.scalar item.tree) items)))
  items_means scalar [] is h = (refl, refl)
  items_means scalar (item ∷ items) is h =
      let parts = both_hold (suits scalar item.scalar) (all_suit scalar items) is in
      more_mean scalar (length items) (converted_item scalar item.scalar item.tree) (typeds (map (λ item. converted_item scalar item.scalar item.tree) items))
      (converted_item_means scalar item.scalar item.tree parts.0 h.0) (items_means scalar items parts.1 h.1)

  -- a list as long as the literal isn't too long
  pub as_long : (m n : ℕ) → m ≡ n → nat_le m n ≡ true
  as_long m n h = grind (arith, nat_tests)

  -- a list literal of scalars means a list of them
  list_means : (scalar : Scalar) (items : List Item) → common_of items ≡ Some scalar → ItemsMean items
      → MeansKind (shaped (shapes.list (scalar_shape scalar) (length items))) (mean result here (typed.listed scalar (typeds (map (λ item. converted_item scalar item.scalar item.tree) items))))
  list_means scalar items is h =
      means_then (Fill (scalar_shape scalar) (length items)) _ (items_mean result here (typeds (map (λ item. converted_item scalar item.scalar item.tree) items))) (λ vs. Ok (values.list vs))
      (items_means scalar items (common_suits scalar items is) h)
      (λ vs all. both (nat_le (count vs) (length items)) (all_items (λ v. fits v (scalar_shape scalar)) vs) (as_long (count vs) (length items) all.0) all.1)

  -- a list literal, where its items have a scalar in common
  in_common_sound : (at : ℕ) (items : List Item) (found : Option Scalar) → common_of items ≡ found → ItemsMean items → IfOk (list_in_common at items found) (Sound result here)
  in_common_sound at items (Some scalar) is h = list_means scalar items is h
  in_common_sound at items None is h = tt

  -- a list literal means its kind
  pub list_sound : (at : ℕ) (items : List Item) (offset : Option ℕ) → ItemsMean items → IfOk (list_literal_of at items offset) (Sound result here)
  list_sound at items (Some offset) h = tt
  list_sound at items None h = in_common_sound at items (common_of items) refl h
