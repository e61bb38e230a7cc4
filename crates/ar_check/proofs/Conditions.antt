-- What is checked is a condition by the table of kinds, and what is refused is none.
use Rattle.std.proofs.Common.{◌≡◌, ℕ, Bool, true, false, None, Ok, Err, refl, subst}
use Rattle.std.specs.Prelude.{if◌then◌else◌}
use Rattle.ar_value.specs.Answer.{◌>>=◌, Unless}
use Rattle.ar_value.specs.Kind.{shaped, plain}
use Rattle.ar_value.specs.Shape.{Shape}
use Rattle.ar_tree.specs.Expression.{Expression, offset_of}
use Rattle.ar_check.specs.Check.{checked, condition_of, typed_of}
use Rattle.ar_check.specs.Operand.{Operand, operand, is_boolean, unwrapped}
use Rattle.ar_tree.specs.Typed.{Typed}
use Rattle.ar_check.specs.Typing.{HasKind, IsCondition}
use Rattle.ar_check.specs.declared.error.TypeError.{TypeError}
use Rattle.ar_check.specs.declared.error.TypeError.TheVariants.{NotTruth}
use Rattle.ar_check.proofs.KindTable.{has_kind, is_typed}
use Rattle.ar_check.proofs.Tables.{from_bind, boolean_is, boolean_within}

-- an operand that is a condition is a boolean
boolean_of : (at : ℕ) (found : Operand) (holds : Bool) (condition : Typed) → is_boolean found ≡ holds → (if holds then Ok (unwrapped found) else Err (NotTruth at)) ≡ Ok condition → is_boolean found ≡ true
boolean_of at found true condition is h = is
boolean_of at found false condition is h = absurd (cc)

pub is_condition : (shape : Shape) (tree : Expression) (condition : Typed) → checked shape tree ≡ Ok condition → IsCondition shape tree
is_condition shape tree condition h =
    let found = from_bind (typed_of shape None 0 tree) (condition_of (offset_of tree)) condition h in
    let of = boolean_within found.0.kind (boolean_of (offset_of tree) found.0 (is_boolean found.0) condition refl found.2) in
    record { shape = of.0; typed = subst (λ kind. HasKind shape None 0 tree kind) of.1 (has_kind shape None 0 tree found.0 found.1); boolean = of.2 }

-- a boolean is a condition
no_refusal : (at : ℕ) (found : Operand) (holds : Bool) (e : TypeError) → holds ≡ true → (if holds then Ok (unwrapped found) else Err (NotTruth at)) ≡ Err e → ⊥
no_refusal at found true e is h = cc
no_refusal at found false e is h = cc

pub is_none : (shape : Shape) (tree : Expression) (e : TypeError) → checked shape tree ≡ Err e → IsCondition shape tree → ⊥
is_none shape tree e h is =
    let found = is_typed shape None 0 tree (shaped is.shape) is.typed in
    let is_bool : is_boolean (operand found.0 (shaped is.shape)) ≡ true = boolean_is (plain is.shape) is.boolean in
    no_refusal (offset_of tree) (operand found.0 (shaped is.shape)) (is_boolean (operand found.0 (shaped is.shape))) e is_bool
    (let refused : (typed_of shape None 0 tree >>= condition_of (offset_of tree)) ≡ Err e = h in rw found.1 at refused)

-- a tree that has no kind, unless memory ran out
pub refuses_none : (memory : Bool) (shape : Shape) (tree : Expression) (e : TypeError) → Unless memory (typed_of shape None 0 tree ≡ Err e) → Unless memory (IsCondition shape tree → ⊥)
refuses_none true shape tree e h = tt
refuses_none false shape tree e h = is_none shape tree e (rw h refl)
