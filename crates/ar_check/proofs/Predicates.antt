-- Predicates over the items of a list mean their kinds.
use Rattle.std.proofs.Common.{◌≡◌, ℕ, suc, pos, Bool, true, false, nat_le, Option, Some, Result, Ok, IfOk, refl, arith}
use Rattle.std.specs.Prelude.{◌≤◌, ◌==◌, if◌then◌else◌}
use Rattle.std.proofs.lemmas.Bool.Decides.{nat_tests}
use Rattle.ar_value.specs.Answer.{◌>>=◌}
use Rattle.ar_value.specs.Fits.{all_items, fits}
use Rattle.ar_value.specs.Kind.{Kind, shaped, boolean_kind}
use Rattle.ar_value.specs.Shape.{Shape}
use Rattle.ar_value.specs.Shape as shapes
use Rattle.ar_value.specs.Value.{Value, Items, count}
use Rattle.ar_value.specs.Value as values
use Rattle.ar_value.specs.declared.operator.Predicate.{Predicate}
use Rattle.ar_value.specs.declared.operator.Predicate.TheVariants as predicates
use Rattle.ar_check.specs.Check.{plain_kind, predicate_kind, predicate_of}
use Rattle.ar_value.specs.Operators.{Failure, Meaning}
use Rattle.ar_tree.specs.Meaning.{all_hold, any_holds, mean, none_holds, over, those}
use Rattle.ar_value.specs.Operators as operators
use Rattle.ar_check.specs.Operand.{Operand, unwrapped}
use Rattle.ar_tree.specs.Typed.{Typed}
use Rattle.ar_tree.specs.Typed as typed
use Rattle.ar_check.proofs.Means.{Means, MeansKind, Sound, both, both_hold, either_means, means_then, wanted}
use Rattle.ar_check.proofs.Operands.{on_bool, on_list}
use Rattle.ar_check.proofs.Parts.{ListOf, plain_list}

-- a test says of each item whether it holds, or is a fault
abbrev Says : (Value → Result Bool Failure) → Shape → Type 0
Says holds shape = (v : Value) → fits v shape ≡ true → Means (λ it. Unit {0}) (holds v)

-- each item fits
abbrev AllFit : Shape → Items → Type 0
AllFit shape items = all_items (λ v. fits v shape) items ≡ true

-- some of the items, each of which fits
abbrev Among : Shape → ℕ → Items → Type 0
Among shape most found = (count found ≤ most) × AllFit shape found

-- the count of what was found, with one more item
one_more : (m n : ℕ) → m ≤ n → suc m ≤ suc n
one_more m n h = omega arith

no_more : (m n : ℕ) → m ≤ n → m ≤ suc n
no_more m n h = omega arith

none_left : (n : ℕ) → 0 ≤ n
none_left n = omega arith

-- what is found in a list is no longer than the list
short_enough : (k m n : ℕ) → k ≤ m → nat_le m n ≡ true → nat_le k n ≡ true
short_enough k m n h is = grind (arith, nat_tests)

module _ (holds : Value → Result Bool Failure) (shape : Shape) (says : Says holds shape) where
  -- whether all hold is a boolean
  all_means : (items : Items) → AllFit shape items → MeansKind boolean_kind (all_hold holds items)
  all_means values.no_items h = refl
  all_means (values.item v items) h =
      let parts = both_hold (fits v shape) (all_items (λ v. fits v shape) items) h in
      means_then (λ it. Unit {0}) _ (holds v) (λ it. if it then all_hold holds items else Ok (values.bool false)) (says v parts.0)
      (λ it any. either_means boolean_kind it (all_hold holds items) (Ok (values.bool false)) (all_means items parts.1) refl)

  -- whether any holds is a boolean
  any_means : (items : Items) → AllFit shape items → MeansKind boolean_kind (any_holds holds items)
  any_means values.no_items h = refl
  any_means (values.item v items) h =
      let parts = both_hold (fits v shape) (all_items (λ v. fits v shape) items) h in
      means_then (λ it. Unit {0}) _ (holds v) (λ it. if it then Ok (values.bool true) else any_holds holds items) (says v parts.0)
      (λ it any. either_means boolean_kind it (Ok (values.bool true)) (any_holds holds items) refl (any_means items parts.1))

  -- whether none holds is a boolean
  none_means : (items : Items) → AllFit shape items → MeansKind boolean_kind (none_holds holds items)
  none_means values.no_items h = refl
  none_means (values.item v items) h =
      let parts = both_hold (fits v shape) (all_items (λ v. fits v shape) items) h in
      means_then (λ it. Unit {0}) _ (holds v) (λ it. if it then Ok (values.bool false) else none_holds holds items) (says v parts.0)
      (λ it any. either_means boolean_kind it (Ok (values.bool false)) (none_holds holds items) refl (none_means items parts.1))

  -- one item more, where it holds
  with_or_without : (it : Bool) (v : Value) (most : ℕ) (others : Items) → fits v shape ≡ true → Among shape most others → Among shape (suc most) (if it then values.item v others else others)
  with_or_without true v most others fit h = (one_more (count others) most h.0, both (fits v shape) (all_items (λ v. fits v shape) others) fit h.1)
  with_or_without false v most others fit h = (no_more (count others) most h.0, h.1)

  -- those that hold are some of the items
  those_mean : (items : Items) → AllFit shape items → Means (Among shape (count items)) (those holds items)
  those_mean values.no_items h = (none_left 0, refl)
  those_mean (values.item v items) h =
      let parts = both_hold (fits v shape) (all_items (λ v. fits v shape) items) h in
      means_then (λ it. Unit {0}) (Among shape (suc (count items))) (holds v) (λ it. those holds items >>= λ others. Ok (if it then values.item v others else others)) (says v parts.0)
      (λ it any. means_then (Among shape (count items)) (Among shape (suc (count items))) (those holds items) (λ others. Ok (if it then values.item v others else others)) (those_mean items parts.1)
      (λ others h. with_or_without it v (count items) others parts.0 h))

  -- a predicate over items means its kind
  over_means : (predicate : Predicate) (max : ℕ) (items : Items) → nat_le (count items) max ≡ true → AllFit shape items
      → MeansKind (predicate_kind predicate (shaped (shapes.list shape max))) (over predicate holds items)
  over_means predicates.All max items short all = all_means items all
  over_means predicates.Any max items short all = any_means items all
  over_means predicates.None max items short all = none_means items all
  over_means predicates.One max items short all =
      means_then (Among shape (count items)) _ (those holds items) (λ found. Ok (values.bool (count found == 1))) (those_mean items all) (λ found h. refl)
  over_means predicates.Count max items short all =
      means_then (Among shape (count items)) _ (those holds items) (λ found. Ok (values.whole (pos (count found)))) (those_mean items all) (λ found h. refl)
  over_means predicates.Filter max items short all =
      means_then (Among shape (count items)) _ (those holds items) (λ found. Ok (values.list found)) (those_mean items all)
      (λ found h. both (nat_le (count found) max) (all_items (λ v. fits v shape) found) (short_enough (count found) (count items) max h.0 short) h.1)

-- the body of a predicate over the items of a list: where it is a boolean, it means one for each item
abbrev pub Body : Value → Kind → (Bool × Typed) → Type 0
Body result list body = (shape : Shape) × (of : ListOf list shape) × (body.0 ≡ true → (v : Value) → fits v shape ≡ true → MeansKind boolean_kind (mean result (Some v) body.1))

module _ (result : Value) (here : Option Value) where
  -- a body that is a boolean of each item says of each whether it holds
  body_says : (shape : Shape) (body : Typed) → ((v : Value) → fits v shape ≡ true → MeansKind boolean_kind (mean result (Some v) body)) → Says (λ v. mean result (Some v) body >>= operators.boolean) shape
  body_says shape body each v fit =
      means_then _ _ (mean result (Some v) body) operators.boolean (each v fit) (λ w is. on_bool (λ w. Means (λ it. Unit {0}) (operators.boolean w)) (λ b. tt) w is)

  -- a predicate over a list means its kind, where its body is a boolean
  pub predicate_means : (predicate : Predicate) (shape : Shape) (max : ℕ) (list body : Typed) → MeansKind (shaped (shapes.list shape max)) (mean result here list)
      → ((v : Value) → fits v shape ≡ true → MeansKind boolean_kind (mean result (Some v) body))
      → MeansKind (predicate_kind predicate (shaped (shapes.list shape max))) (mean result here (typed.predicate predicate list body))
  predicate_means predicate shape max list body h each =
      means_then _ _ (mean result here list) (λ v. operators.items_in v >>= over predicate (λ v. mean result (Some v) body >>= operators.boolean)) h
      (λ v fit. on_list (λ v. MeansKind (predicate_kind predicate (shaped (shapes.list shape max))) (operators.items_in v >>= over predicate (λ v. mean result (Some v) body >>= operators.boolean))) shape max
      (λ items short all. over_means (λ v. mean result (Some v) body >>= operators.boolean) shape (body_says shape body each) predicate max items short all) v fit)

  -- a predicate means its kind
  pub predicate_sound : (at : ℕ) (predicate : Predicate) (list : Operand) (body : Bool × Typed) → Sound result here list → Body result list.kind body
      → IfOk (predicate_of at predicate list body.0 body.1) (Sound result here)
  predicate_sound at predicate list body h says =
      wanted result here at body.0 (typed.predicate predicate (unwrapped list) body.1) (predicate_kind predicate (plain_kind list.kind))
      (λ is. rw says.1.1 (predicate_means predicate says.0 says.1.0 (unwrapped list) body.1 (plain_list result here list says.0 says.1 h) (says.2 is)))
