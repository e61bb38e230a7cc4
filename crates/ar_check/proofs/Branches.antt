-- Choices and defaults mean their kinds.
use Rattle.std.proofs.Common.{◌≡◌, ℕ, ℤ, Bool, true, false, Option, Some, None, Result, Ok, Err, IfOk, refl}
use Rattle.std.specs.Prelude.{◌&&◌, ◌||◌, if◌then◌else◌}
use Rattle.ar_value.specs.declared.operator.BinaryOperator.TheVariants as binary
use Rattle.ar_value.specs.declared.operator.UnaryOperator.TheVariants as unary
use Rattle.ar_value.specs.Answer.{◌>>=◌}
use Rattle.ar_value.specs.Arithmetic.{decimal_of_whole}
use Rattle.ar_value.specs.Fits.{fits}
use Rattle.ar_value.specs.Kind.{Kind, nil, shaped, common, fits_kind, is_decimal, merge, plain, converted_next_to, whole_as_decimal, boolean_kind}
use Rattle.ar_value.specs.Shape.{Shape}
use Rattle.ar_value.specs.Shape as shapes
use Rattle.ar_value.specs.Value.{Value}
use Rattle.ar_value.specs.Value as values
use Rattle.ar_value.specs.declared.fault.Fault.{Fault}
use Rattle.ar_value.proofs.Merges.{merge_has_both}
use Rattle.ar_check.specs.Check.{choice_in, choice_of, common_default, default_of, in_common, plain_kind}
use Rattle.ar_value.specs.Operators.{Failure, Meaning}
use Rattle.ar_tree.specs.Meaning.{mean}
use Rattle.ar_value.specs.Operators as operators
use Rattle.ar_check.specs.Operand.{Operand, is_boolean, is_whole, unwrapped, converted}
use Rattle.ar_tree.specs.Typed.{Typed}
use Rattle.ar_tree.specs.Typed as typed
use Rattle.ar_check.proofs.Means.{Means, MeansKind, Sound, either_means, means_then, wanted}
use Rattle.ar_check.proofs.Operands.{is_true}
use Rattle.ar_check.proofs.OperatorKinds.{boolean_then}
use Rattle.ar_check.proofs.Sums.{converted_means}

-- ---- kinds in common

-- the first of two tests holds
left_or : (a b : Bool) → a ≡ true → (a || b) ≡ true
left_or true b h = refl
left_or false b h = absurd (cc)

-- the second of two tests holds
right_or : (a b : Bool) → b ≡ true → (a || b) ≡ true
right_or true b h = refl
right_or false b h = h

-- what fits the left kind fits what both have in common
pub left_fits : (left right merged : Kind) → merge left right ≡ Some merged → (v : Value) → fits_kind v left ≡ true → fits_kind v merged ≡ true
left_fits left right merged is v fit = merge_has_both left right merged v is (left_or (fits_kind v left) (fits_kind v right) fit)

-- so does what fits the right one
pub right_fits : (left right merged : Kind) → merge left right ≡ Some merged → (v : Value) → fits_kind v right ≡ true → fits_kind v merged ≡ true
right_fits left right merged is v fit = merge_has_both left right merged v is (right_or (fits_kind v left) (fits_kind v right) fit)

-- what is meant has each property that follows from its own
means_some : (P Q : Value → Type 0) (m : Meaning) → ((v : Value) → P v → Q v) → Means P m → Means Q m
means_some P Q (Ok v) more h = more v h
means_some P Q (Err (operators.faulted fault)) more h = tt
means_some P Q (Err operators.ill_kinded) more h = absurd h

-- what means a kind means a wider one
pub means_more : (kind wider : Kind) → ((v : Value) → fits_kind v kind ≡ true → fits_kind v wider ≡ true) → (m : Meaning) → MeansKind kind m → MeansKind wider m
means_more kind wider more (Ok v) h = more v h
means_more kind wider more (Err (operators.faulted fault)) h = tt
means_more kind wider more (Err operators.ill_kinded) h = absurd h

-- ---- wholes converted next to decimals

-- what arithmetic gives is an optional decimal, or a fault
optional_or_fault : (r : Result ℤ Fault) → MeansKind (shaped (shapes.optional shapes.decimal)) (operators.decimal_meaning r)
optional_or_fault (Ok z) = refl
optional_or_fault (Err fault) = tt

-- an optional whole in millionths is an optional decimal, or a fault
optional_turns : (v : Value) → fits v (shapes.optional shapes.whole) ≡ true → MeansKind (shaped (shapes.optional shapes.decimal)) (operators.to_decimal v)
optional_turns values.nil h = refl
optional_turns (values.whole w) h = optional_or_fault (decimal_of_whole w)
optional_turns v h = absurd (cc)

-- what isn't nil has the plain kind
not_nil_fits : (v : Value) (shape : Shape) → fits v shape ≡ true → operators.is_nil v ≡ false → fits v (plain shape) ≡ true
not_nil_fits values.nil shape h is = absurd (cc)
not_nil_fits v (shapes.optional shape) h is = h
not_nil_fits v shape h is = h

-- a value has a kind where it isn't nil
abbrev pub UnlessNil : Kind → Value → Type 0
UnlessNil kind v = operators.is_nil v ≡ false → fits_kind v kind ≡ true

-- what arithmetic gives is a decimal, or a fault
decimal_unless_nil : (r : Result ℤ Fault) → Means (UnlessNil (shaped shapes.decimal)) (operators.decimal_meaning r)
decimal_unless_nil (Ok z) = λ some. refl
decimal_unless_nil (Err fault) = tt

-- a whole, unless nil, in millionths is a decimal, unless nil, or a fault
whole_turns : (v : Value) → UnlessNil (shaped shapes.whole) v → Means (UnlessNil (shaped shapes.decimal)) (operators.to_decimal v)
whole_turns values.nil h = λ some. absurd (cc)
whole_turns (values.whole w) h = decimal_unless_nil (decimal_of_whole w)
whole_turns v h = let fit = h refl in absurd (cc)

-- likewise an optional decimal
optional_unless_nil : (r : Result ℤ Fault) → Means (UnlessNil (shaped (shapes.optional shapes.decimal))) (operators.decimal_meaning r)
optional_unless_nil (Ok z) = λ some. refl
optional_unless_nil (Err fault) = tt

-- likewise an optional whole
optional_whole_turns : (v : Value) → UnlessNil (shaped (shapes.optional shapes.whole)) v → Means (UnlessNil (shaped (shapes.optional shapes.decimal))) (operators.to_decimal v)
optional_whole_turns values.nil h = λ some. absurd (cc)
optional_whole_turns (values.whole w) h = optional_unless_nil (decimal_of_whole w)
optional_whole_turns v h = let fit = h refl in absurd (cc)

-- what is always nil is any kind's, unless nil
nil_kind : (shape : Shape) (v : Value) → UnlessNil nil v → UnlessNil (shaped shape) v
nil_kind shape values.nil h some = absurd (cc)
nil_kind shape v h some = let fit = h refl in absurd (cc)

-- a value, or what replaces nil
by_nil : (kind : Kind) (v w : Value) (is_nil : Bool) → operators.is_nil v ≡ is_nil → (operators.is_nil v ≡ false → fits_kind v kind ≡ true) → fits_kind w kind ≡ true → fits_kind (if is_nil then w else v) kind ≡ true
by_nil kind v w true is h k = k
by_nil kind v w false is h k = h is

module _ (result : Value) (here : Option Value) where
  -- a tree next to a decimal, or next to something else
  converted_shape : (turns : Bool) (shape : Shape) (tree : Typed) → MeansKind (shaped shape) (mean result here tree)
      → MeansKind (if turns then shaped (whole_as_decimal shape) else shaped shape) (mean result here (if turns && is_whole (plain shape) then typed.unary unary.ToDecimal tree else tree))
  converted_shape false shape tree h = h
  converted_shape true shapes.whole tree h = converted_means result here tree h
  converted_shape true (shapes.optional shapes.whole) tree h = means_then _ _ (mean result here tree) operators.to_decimal h optional_turns
  converted_shape true shape tree h = h

  -- a tree next to another means what its kind is converted to
  converted_kind : (other kind : Kind) (tree : Typed) → MeansKind kind (mean result here tree) → MeansKind (converted_next_to other kind) (mean result here (converted other kind tree))
  converted_kind nil kind tree h = h
  converted_kind (shaped other) nil tree h = h
  converted_kind (shaped other) (shaped shape) tree h = converted_shape (is_decimal other) shape tree h

  -- the first side of a default: plain where it isn't nil
  pub unless_nil : (kind : Kind) (tree : Typed) → MeansKind kind (mean result here tree) → Means (UnlessNil (plain_kind kind)) (mean result here tree)
  unless_nil nil tree h = means_some (λ v. fits_kind v nil ≡ true) (UnlessNil nil) (mean result here tree) (λ v fit some. fit) h
  unless_nil (shaped shape) tree h = means_some (λ v. fits v shape ≡ true) (UnlessNil (shaped (plain shape))) (mean result here tree) (λ v fit some. not_nil_fits v shape fit some) h

  -- likewise next to a decimal, or next to something else
  converted_plain : (turns : Bool) (shape : Shape) (tree : Typed) → Means (UnlessNil (shaped shape)) (mean result here tree)
      → Means (UnlessNil (if turns then shaped (whole_as_decimal shape) else shaped shape)) (mean result here (if turns && is_whole (plain shape) then typed.unary unary.ToDecimal tree else tree))
  converted_plain false shape tree h = h
  converted_plain true shapes.whole tree h = means_then (UnlessNil (shaped shapes.whole)) (UnlessNil (shaped shapes.decimal)) (mean result here tree) operators.to_decimal h whole_turns
  converted_plain true (shapes.optional shapes.whole) tree h =
      means_then (UnlessNil (shaped (shapes.optional shapes.whole))) (UnlessNil (shaped (shapes.optional shapes.decimal))) (mean result here tree) operators.to_decimal h optional_whole_turns
  converted_plain true shape tree h = h

  -- likewise next to the kind of what replaces nil
  converted_unless_nil : (other kind : Kind) (tree : Typed) → Means (UnlessNil kind) (mean result here tree) → Means (UnlessNil (converted_next_to other kind)) (mean result here (converted other kind tree))
  converted_unless_nil nil kind tree h = h
  converted_unless_nil (shaped other) nil tree h = h
  converted_unless_nil (shaped other) (shaped shape) tree h = converted_plain (is_decimal other) shape tree h

  -- ---- choices

  -- either branch of one kind
  pub choice_means : (kind : Kind) (condition then_branch else_branch : Typed) → MeansKind boolean_kind (mean result here condition) → MeansKind kind (mean result here then_branch) → MeansKind kind (mean result here else_branch)
      → MeansKind kind (mean result here (typed.choice condition then_branch else_branch))
  choice_means kind condition then_branch else_branch h k l =
      boolean_then kind (mean result here condition) (λ b. if b then mean result here then_branch else mean result here else_branch) h
      (λ b. either_means kind b (mean result here then_branch) (mean result here else_branch) k l)

  -- a choice, where the branches have a kind in common
  choice_found : (at : ℕ) (found : Option Kind) (left right : Kind) (condition : Operand) (then_branch else_branch : Typed) → merge left right ≡ found → Sound result here condition
      → MeansKind left (mean result here then_branch) → MeansKind right (mean result here else_branch) → IfOk (choice_in at found (is_boolean condition) (typed.choice (unwrapped condition) then_branch else_branch)) (Sound result here)
  choice_found at None left right condition then_branch else_branch is h k l = tt
  choice_found at (Some kind) left right condition then_branch else_branch is h k l =
      wanted result here at (is_boolean condition) (typed.choice (unwrapped condition) then_branch else_branch) kind
      (λ holds. choice_means kind (unwrapped condition) then_branch else_branch (is_true result here condition h holds)
      (means_more left kind (left_fits left right kind is) (mean result here then_branch) k) (means_more right kind (right_fits left right kind is) (mean result here else_branch) l))

  -- a choice means its kind
  pub choice_sound : (at : ℕ) (condition then_branch else_branch : Operand) → Sound result here condition → Sound result here then_branch → Sound result here else_branch → IfOk (choice_of at condition then_branch else_branch) (Sound result here)
  choice_sound at condition then_branch else_branch h k l =
      choice_found at (common then_branch.kind else_branch.kind) (converted_next_to else_branch.kind then_branch.kind) (converted_next_to then_branch.kind else_branch.kind) condition
      (converted else_branch.kind then_branch.kind then_branch.tree) (converted then_branch.kind else_branch.kind else_branch.tree) refl h (converted_kind else_branch.kind then_branch.kind then_branch.tree k) (converted_kind then_branch.kind else_branch.kind else_branch.tree l)

  -- ---- defaults

  -- a default of a kind that both sides have
  pub otherwise_means : (plain right kind : Kind) (first other : Typed) → Means (UnlessNil plain) (mean result here first) → MeansKind right (mean result here other)
      → ((v : Value) → fits_kind v plain ≡ true → fits_kind v kind ≡ true) → ((v : Value) → fits_kind v right ≡ true → fits_kind v kind ≡ true)
      → MeansKind kind (mean result here (typed.binary binary.Default first other))
  otherwise_means plain right kind first other h k more less =
      means_then (UnlessNil plain) _ (mean result here first) (λ v. mean result here other >>= λ w. Ok (if operators.is_nil v then w else v)) h
      (λ v fit. means_then _ _ (mean result here other) (λ w. Ok (if operators.is_nil v then w else v)) k
      (λ w also. by_nil kind v w (operators.is_nil v) refl (λ some. more v (fit some)) (less w also)))

  -- a default, where both sides have a kind in common
  default_found : (at : ℕ) (found : Option Kind) (plain right : Kind) (first other : Typed) → merge plain right ≡ found → Means (UnlessNil plain) (mean result here first) → MeansKind right (mean result here other)
      → IfOk (in_common at (typed.binary binary.Default first other) found) (Sound result here)
  default_found at None plain right first other is h k = tt
  default_found at (Some kind) plain right first other is h k = otherwise_means plain right kind first other h k (left_fits plain right kind is) (right_fits plain right kind is)

  -- a default, where the first is always nil or has a shape
  default_kinds : (at : ℕ) (plain of_other : Kind) (first other : Typed) → Means (UnlessNil plain) (mean result here first) → MeansKind of_other (mean result here other)
      → IfOk (in_common at (typed.binary binary.Default (converted of_other plain first) (converted plain of_other other)) (common_default plain of_other)) (Sound result here)
  default_kinds at nil nil first other h k = otherwise_means nil nil nil first other h k (λ v fit. fit) (λ v fit. fit)
  default_kinds at nil (shaped shape) first other h k =
      otherwise_means (shaped shape) (shaped shape) (shaped shape) first other (means_some (UnlessNil nil) (UnlessNil (shaped shape)) (mean result here first) (nil_kind shape) h) k (λ v fit. fit) (λ v fit. fit)
  default_kinds at (shaped shape) of_other first other h k =
      default_found at (common (shaped shape) of_other) (converted_next_to of_other (shaped shape)) (converted_next_to (shaped shape) of_other) (converted of_other (shaped shape) first)
      (converted (shaped shape) of_other other) refl (converted_unless_nil of_other (shaped shape) first h) (converted_kind (shaped shape) of_other other k)

  -- a default means its kind
  pub default_sound : (at : ℕ) (first other : Operand) → Sound result here first → Sound result here other → IfOk (default_of at first other) (Sound result here)
  default_sound at first other h k = default_kinds at (plain_kind first.kind) other.kind first.tree other.tree (unless_nil first.kind first.tree h) k
