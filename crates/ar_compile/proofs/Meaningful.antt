-- Typed trees that have kinds mean values of these kinds, or faults.
use Rattle.std.proofs.Common.{◌≡◌, ℕ, suc, true, nat_le, Option, Some, None, IfSome, Ok, Err, refl, subst}
use Rattle.ar_value.specs.Answer.{◌>>=◌}
use Rattle.ar_value.specs.Fits.{all_items, fits}
use Rattle.ar_value.specs.Kind.{Kind, shaped, fits_kind, scalar_shape, boolean_kind}
use Rattle.ar_value.specs.Operators.{Meaning, faulted, ill_kinded}
use Rattle.ar_value.specs.Operators as operators
use Rattle.ar_value.specs.Shape.{Shape}
use Rattle.ar_value.specs.Shape as shapes
use Rattle.ar_value.specs.Value.{Value, count}
use Rattle.ar_value.specs.Value as values
use Rattle.ar_value.specs.declared.operator.BinaryOperator.{BinaryOperator}
use Rattle.ar_value.specs.declared.operator.Scalar.{Scalar}
use Rattle.ar_value.specs.declared.operator.UnaryOperator.{UnaryOperator}
use Rattle.ar_tree.specs.Meaning.{items_mean, mean}
use Rattle.ar_tree.specs.Typed.{Typed, Typeds, how_many}
use Rattle.ar_tree.specs.Typed as typed
use Rattle.ar_check.proofs.Branches.{choice_means, left_fits, means_more, right_fits}
use Rattle.ar_check.proofs.Lists.{Fill, as_long, more_mean}
use Rattle.ar_check.proofs.Means.{IsThere, Means, MeansKind, both, means_then}
use Rattle.ar_check.proofs.OperatorKinds.{both_means, one_means}
use Rattle.ar_check.proofs.Operands.{literal_sound, there_fits}
use Rattle.ar_check.proofs.Parts.{field_means}
use Rattle.ar_check.proofs.Predicates.{predicate_means}
use Rattle.ar_safety.specs.Effects.{binary_kind, unary_kind}
use Rattle.ar_safety.proofs.Effects.{binary_sound, unary_sound}
use Rattle.ar_safety.proofs.Values.{MeansKind as MeansFitting}
use Rattle.ar_compile.specs.Private.Kinded.{Kinded, AllKinded, measured, innermost, literally, of_field, of_unary, of_binary, of_both, of_either, of_choice, of_list, of_predicate, none, one_more}

-- ---- operators

-- what the verifier says of operators, in the words of the check
as_checked : (kind : Kind) (m : Meaning) → MeansFitting kind m → MeansKind kind m
as_checked kind (Ok v) h = h
as_checked kind (Err (faulted fault)) h = tt
as_checked kind (Err ill_kinded) h = h

given_means : (found : Option Kind) (kind : Kind) (m : Meaning) → found ≡ Some kind → IfSome found (λ given. MeansFitting given m) → MeansKind kind m
given_means (Some given) kind m is h = let same : given ≡ kind = cc in as_checked kind m (subst (λ kind. MeansFitting kind m) same h)
given_means None kind m is h = absurd cc

unary_means : (operator : UnaryOperator) (of kind : Kind) (v : Value) → unary_kind operator of ≡ Some kind → fits_kind v of ≡ true → MeansKind kind (operators.unary_meaning operator v)
unary_means operator of kind v gives fits = given_means (unary_kind operator of) kind (operators.unary_meaning operator v) gives (unary_sound operator of v fits)

binary_means : (operator : BinaryOperator) (of next_to kind : Kind) (v w : Value) → binary_kind operator of next_to ≡ Some kind → fits_kind v of ≡ true → fits_kind w next_to ≡ true → MeansKind kind (operators.binary_meaning operator v w)
binary_means operator of next_to kind v w gives fits also = given_means (binary_kind operator of next_to) kind (operators.binary_meaning operator v w) gives (binary_sound operator of next_to v w fits also)

module _ (wanted : Shape) (result : Value) (fit : fits result wanted ≡ true) where
  mutual
    pub kinded_means : (inner : Option Shape) (at_hand : Option Value) → IsThere inner at_hand → (around : ℕ) (tree : Typed) (kind : Kind) → Kinded wanted inner around tree kind → MeansKind kind (mean result at_hand tree)
    kinded_means inner at_hand there around typed.result kind measured = fit
    kinded_means (Some shape) at_hand there around typed.item kind innermost = there_fits shape ill_kinded at_hand there
    kinded_means None at_hand there around typed.item kind is = elim is [ ]
    kinded_means inner at_hand there around (typed.literal constant) kind (literally literal) = literal_sound result at_hand literal
    kinded_means inner at_hand there around (typed.field owner name) kind (of_field {shape = shape} {fields = fields} owner_is named) =
        field_means result at_hand fields shape owner name named (kinded_means inner at_hand there around owner (shaped (shapes.object fields)) owner_is)
    kinded_means inner at_hand there around (typed.unary operator operand) kind (of_unary {of = of} operand_is gives) =
        means_then (λ v. fits_kind v of ≡ true) _ (mean result at_hand operand) (operators.unary_meaning operator) (kinded_means inner at_hand there around operand of operand_is) (λ v fits. unary_means operator of kind v gives fits)
    kinded_means inner at_hand there around (typed.binary operator left right) kind (of_binary {of = of} {next_to = next_to} left_is right_is gives) =
        means_then (λ v. fits_kind v of ≡ true) _ (mean result at_hand left) (λ v. mean result at_hand right >>= λ w. operators.binary_meaning operator v w) (kinded_means inner at_hand there around left of left_is)
        (λ v fits. means_then (λ w. fits_kind w next_to ≡ true) _ (mean result at_hand right) (λ w. operators.binary_meaning operator v w) (kinded_means inner at_hand there around right next_to right_is)
        (λ w also. binary_means operator of next_to kind v w gives fits also))
    kinded_means inner at_hand there around (typed.both left right) kind (of_both left_is right_is) =
        both_means result at_hand left right (kinded_means inner at_hand there around left boolean_kind left_is) (kinded_means inner at_hand there around right boolean_kind right_is)
    kinded_means inner at_hand there around (typed.either left right) kind (of_either left_is right_is) =
        one_means result at_hand left right (kinded_means inner at_hand there around left boolean_kind left_is) (kinded_means inner at_hand there around right boolean_kind right_is)
    kinded_means inner at_hand there around (typed.choice condition then_branch else_branch) kind (of_choice {left = left} {right = right} condition_is then_is else_is merged) =
        choice_means result at_hand kind condition then_branch else_branch (kinded_means inner at_hand there around condition boolean_kind condition_is)
        (means_more left kind (left_fits left right kind merged) (mean result at_hand then_branch) (kinded_means inner at_hand there around then_branch left then_is))
        (means_more right kind (right_fits left right kind merged) (mean result at_hand else_branch) (kinded_means inner at_hand there around else_branch right else_is))
    kinded_means inner at_hand there around (typed.listed scalar items) kind (of_list all_are) =
        means_then (Fill result at_hand (scalar_shape scalar) (how_many items)) _ (items_mean result at_hand items) (λ vs. Ok (values.list vs)) (all_mean inner at_hand there around items scalar all_are)
        (λ vs all. both (nat_le (count vs) (how_many items)) (all_items (λ v. fits v (scalar_shape scalar)) vs) (as_long result at_hand (count vs) (how_many items) all.0) all.1)
    kinded_means inner at_hand there around (typed.predicate predicate list body) kind (of_predicate {max = max} {shape = shape} list_is within body_is) =
        predicate_means result at_hand predicate shape max list body (kinded_means inner at_hand there around list (shaped (shapes.list shape max)) list_is)
        (λ v fits. kinded_means (Some shape) (Some v) fits (suc around) body boolean_kind body_is)

    all_mean : (inner : Option Shape) (at_hand : Option Value) → IsThere inner at_hand → (around : ℕ) (items : Typeds) (scalar : Scalar) → AllKinded wanted inner around items scalar
        → Means (Fill result at_hand (scalar_shape scalar) (how_many items)) (items_mean result at_hand items)
    all_mean inner at_hand there around typed.none scalar none = (refl, refl)
    all_mean inner at_hand there around (typed.more first others) scalar (one_more first_is others_are) =
        more_mean result at_hand scalar (how_many others) first others (kinded_means inner at_hand there around first (shaped (scalar_shape scalar)) first_is) (all_mean inner at_hand there around others scalar others_are)
