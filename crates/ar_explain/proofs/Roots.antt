-- The last entry of a trace is the root's.
use Rattle.std.proofs.Common.{◌≡◌, Bool, true, false, Option, refl, ap, ◌∙◌}
use Rattle.std.specs.Prelude.{◌||◌, ◌++◌, ◌∷◌, [], List}
use Rattle.ar_value.specs.Value.{Value}
use Rattle.ar_tree.specs.Typed.{Typed}
use Rattle.ar_tree.specs.Typed as typed
use Rattle.ar_explain.specs.Parts.{is_evaluated}
use Rattle.ar_explain.specs.Trace.{TraceEntry, root_entry, trace}
use Rattle.ar_explain.proofs.Entries.{of_two}

pub root_last : (result : Value) (here : Option Value) (tree : Typed) → (earlier : List TraceEntry) × (trace result here tree ≡ earlier ++ root_entry result here tree ∷ [])
root_last result here typed.result = ([], refl)
root_last result here typed.item = ([], refl)
root_last result here (typed.literal literal) = ([], refl)
root_last result here (typed.field owner name) = (_, refl)
root_last result here (typed.unary operator operand) = (_, refl)
root_last result here (typed.binary operator left right) = (_, refl)
root_last result here (typed.both left right) = (_, refl)
root_last result here (typed.either left right) = (_, refl)
root_last result here (typed.choice condition then_branch else_branch) = (_, refl)
root_last result here (typed.listed scalar items) = (_, refl)
root_last result here (typed.predicate predicate many body) = (_, refl)

or_true : (b : Bool) → (b || true) ≡ true
or_true true = refl
or_true false = refl

pub root_evaluated : (result : Value) (here : Option Value) (tree : Typed) → is_evaluated [] (trace result here tree) ≡ true
root_evaluated result here tree =
    let last = root_last result here tree in
    ap (λ entries. is_evaluated [] entries) last.1 ∙ of_two [] last.0 (root_entry result here tree ∷ []) ∙ or_true (is_evaluated [] last.0)
