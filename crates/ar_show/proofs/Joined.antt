-- The sides of an operator, and the items of a list, one after another.
use Rattle.std.proofs.Common.{◌≡◌, refl, sym, ap, ◌∙◌, ℕ, suc, ◌+◌, ◌<◌, ◌≤◌, Bool, false, List, ◌∷◌, ◌++◌, length, map, drop, add-one, append_assoc, drop-cons}
use Rattle.std.specs.Prelude.{slice_index_or, Result, OnOk}
use Rattle.std.proofs.Math.ListN.{drop_of_length-le}
use Rattle.std.proofs.lemmas.List.{append-nil}
use Rattle.std.proofs.lemmas.Result.{on_ok_weaker}
use Rattle.ar_value.specs.declared.operator.BinaryOperator.{BinaryOperator}
use Rattle.ar_value.specs.declared.operator.BinaryOperator.TheVariants as binary
use Rattle.ar_tree.specs.Typed.{Typed, typeds}
use Rattle.ar_tree.specs.Views.{typed_view}
use Rattle.ar_tree.specs.declared.typed.Typed.{Typed as TypedCode}
use Rattle.ar_show.specs.PartText.{binary_text, shown_part, shown_parts}
use Rattle.ar_show.specs.Private.Sides.{left_side, right_side}
use Rattle.ar_show.specs.Words.{between}

pub both_sides : (operator : BinaryOperator) (left right : Typed) (l r : List ℕ) → left_side operator left l ++ right_side operator right r ≡ binary_text operator left right l r
both_sides binary.Index left right l r = refl
both_sides binary.Default left right l r = refl
both_sides binary.IsIn left right l r = refl
both_sides (binary.Wholes operator) left right l r = refl
both_sides (binary.Decimals operator) left right l r = refl
both_sides (binary.Compare of way) left right l r = refl
both_sides (binary.Equal family) left right l r = refl
both_sides (binary.TextTest test) left right l r = refl

pub next_part : (items : List TypedCode) (index : ℕ) (item : TypedCode) (first : Bool) (written total : List ℕ) → index < length items → item ≡ slice_index_or items index item
    → written ++ shown_parts first (typeds (map typed_view (drop index items))) ≡ total
    → (written ++ (between first ++ shown_part (typed_view item))) ++ shown_parts false (typeds (map typed_view (drop (index + 1) items))) ≡ total
next_part items index item first written total within is so_far =
    let left : drop index items ≡ item ∷ drop (suc index) items = drop-cons items index item within ∙ ap (λ x. x ∷ drop (suc index) items) (sym is) in
    rw (add-one index)
    (append_assoc written (between first ++ shown_part (typed_view item)) (shown_parts false (typeds (map typed_view (drop (suc index) items))))
    ∙ ap (λ left. written ++ shown_parts first (typeds (map typed_view left))) (sym left) ∙ so_far)

pub no_part : (items : List TypedCode) (index : ℕ) (first : Bool) (written total : List ℕ) → length items ≤ index → written ++ shown_parts first (typeds (map typed_view (drop index items))) ≡ total → written ≡ total
no_part items index first written total past so_far =
    sym (append-nil written) ∙ ap (λ left. written ++ shown_parts first (typeds (map typed_view left))) (sym (drop_of_length-le items {i = index} past)) ∙ so_far

-- ---- texts, one after another

pub two_texts : {A E : Type 0} (result : Result A E) (before first after a b : List ℕ) → first ≡ before ++ a → OnOk result (after ≡ first ++ b) → OnOk result (after ≡ before ++ (a ++ b))
two_texts result before first after a b one = on_ok_weaker result (λ last. last ∙ rw one (append_assoc before a b))

pub three_texts : {A E : Type 0} (result : Result A E) (before first second after a b c : List ℕ) → first ≡ before ++ a → second ≡ first ++ b → OnOk result (after ≡ second ++ c) → OnOk result (after ≡ before ++ (a ++ (b ++ c)))
three_texts result before first second after a b c one two = on_ok_weaker result (λ last. last ∙ rw (two, one) (simp append_assoc))
