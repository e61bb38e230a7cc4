-- What is found of trees in the scopes of memory, of which no public contract speaks.
use Rattle.std.specs.Prelude.{ℕ, suc, ◌==◌, if◌then◌else◌, Option, Some, option_and_then}
use Rattle.ar_value.specs.Kind.{Kind}
use Rattle.ar_value.specs.Shape.{Shape}
use Rattle.ar_value.specs.View.{shape_view}
use Rattle.ar_tree.specs.Expression.{Expression, Expressions}
use Rattle.ar_check.specs.Found.{found_among, found_in, has_offset, entered_list, kind_of, one}
use Rattle.ar_check.specs.Private.Inside.{innermost_of}
use Rattle.ar_check.specs.declared.found.Operands.{Operands}
use Rattle.ar_check.specs.declared.typing.Scope.{Scope}

-- the kind of a tree in a scope, if it has one
abbrev pub kind_at : Scope → Expression → Option Kind
kind_at scope tree = kind_of (shape_view scope.measured.now) (innermost_of scope) scope.around tree

-- what is found at an offset in a tree, and in one of some trees
abbrev pub offset_in : Scope → ℕ → Expression → Option Operands
offset_in scope offset tree = found_in offset (shape_view scope.measured.now) (innermost_of scope) scope.around tree

abbrev pub offset_among : Scope → ℕ → Expressions → Option Operands
offset_among scope offset trees =
    found_among offset (shape_view scope.measured.now) (innermost_of scope) scope.around trees

-- what the body of a predicate is, and what is found at an offset in it, where an item has a shape
abbrev pub body_over : Scope → Option Shape → Expression → Option Operands
body_over scope shape body =
    option_and_then (λ shape. one (kind_of (shape_view scope.measured.now) (Some shape) (suc scope.around) body)) shape

abbrev pub offset_over : Scope → ℕ → Option Shape → Expression → Option Operands
offset_over scope offset shape body =
    option_and_then
    (λ shape. found_in offset (shape_view scope.measured.now) (Some shape) (suc scope.around) body) shape

-- what is found at a predicate of an offset over a list, in its body or in its list
abbrev pub offset_in_predicate : Scope → ℕ → ℕ → Expression → Expression → Option Operands
offset_in_predicate scope offset at list body =
    if at == offset then body_over scope (entered_list scope.around (kind_at scope list)) body
    else (if has_offset offset body then offset_over scope offset (entered_list scope.around (kind_at scope list)) body
    else offset_in scope offset list)
