-- What is found at an offset in the body of a predicate.
use Rattle.std.proofs.Common.{◌≡◌, ℕ, ◌+◌, Option, Some, Result, Ok, Err, IfOk, refl, ◌∙◌, add-one}
use Rattle.ar_value.specs.Shape.{Shape}
use Rattle.ar_value.specs.View.{shape_view}
use Rattle.ar_tree.specs.Expression.{Expression}
use Rattle.ar_check.specs.Private.Inside.{innermost_of}
use Rattle.ar_check.specs.Private.Search.{offset_in, offset_over}
use Rattle.ar_check.specs.declared.found.Operands.{Operands}
use Rattle.ar_check.specs.declared.typing.Scope.{Scope}

-- inside a predicate the innermost item has the shape of the list's items
over_item : (scope inside : Scope) (offset : ℕ) (body : Expression) (shape : Shape) (entered : Option Shape) → shape_view inside.measured.now ≡ shape_view scope.measured.now → innermost_of inside ≡ Some shape
    → inside.around ≡ scope.around + 1 → Some shape ≡ entered → offset_in inside offset body ≡ offset_over scope offset entered body
over_item scope inside offset body shape entered measured item around is = rw (measured, item, around, add-one, ← is) refl

same : {E : Type 0} (answer : Result (Option Operands) E) (left right : Option Operands) → left ≡ right → IfOk answer (λ found. found ≡ left) → IfOk answer (λ found. found ≡ right)
same (Ok found) left right e h = h ∙ e
same (Err error) left right e h = tt

-- so what is found there is what is found over the list's items
pub found_over : {E : Type 0} (answer : Result (Option Operands) E) (scope inside : Scope) (offset : ℕ) (body : Expression) (shape : Shape) (entered : Option Shape)
    → shape_view inside.measured.now ≡ shape_view scope.measured.now → innermost_of inside ≡ Some shape → inside.around ≡ scope.around + 1 → Some shape ≡ entered
    → IfOk answer (λ found. found ≡ offset_in inside offset body) → IfOk answer (λ found. found ≡ offset_over scope offset entered body)
found_over answer scope inside offset body shape entered measured item around is h =
    same answer (offset_in inside offset body) (offset_over scope offset entered body) (over_item scope inside offset body shape entered measured item around is) h
