-- How many operands there are, as it is counted.
use Rattle.std.proofs.Common.{◌≡◌, ℕ, ◌+◌, ◌<◌, ◌≤◌, List, [], ◌∷◌, ◌++◌, length, take, sym, ◌∙◌, ap, arith, add-one}
use Rattle.std.specs.Prelude.{slice_index_or, min, ◌-◌, ◌^◌}
use Rattle.std.proofs.Math.Seq.{take-suc}
use Rattle.std.proofs.lemmas.List.{take_all}
use Rattle.ar_safety.specs.Arrivals.{floor_height}
use Rattle.ar_verify.specs.Private.Held.{around_view, counted, from_innermost}
use Rattle.ar_verify.specs.Private.Kinds.{parts_kind}
use Rattle.ar_verify.specs.declared.operands.Around.{Around}
use Rattle.ar_verify.specs.declared.whole.ShapeName as ShapeName
use Rattle.ar_verify.proofs.Tops.{on_top, so_many}

pub both_counted : (a b : ℕ) → min (counted a + b) (2 ^ 64 - 1) ≡ counted (b + a)
both_counted a b = omega arith

floor_of : {M : Type 0} {name : ShapeName.Ghosts M} (loops : List (Around M name)) (i : ℕ) (around : Around M name) → i < length loops → around ≡ slice_index_or loops i around
    → floor_height (from_innermost (take (i + 1) loops)) ≡ length around.below.items + floor_height (from_innermost (take i loops))
floor_of loops i around within is =
    ap (λ taken. floor_height (from_innermost taken)) (ap (λ n. take n loops) (add-one i) ∙ take-suc loops i around within ∙ ap (λ last. take i loops ++ last ∷ []) (sym is))
    ∙ ap floor_height (on_top around_view (take i loops) around) ∙ ap (λ n. n + floor_height (from_innermost (take i loops))) (so_many parts_kind around.below.items)

pub one_deeper : {M : Type 0} {name : ShapeName.Ghosts M} (loops : List (Around M name)) (i so_far : ℕ) (around : Around M name) → i < length loops → around ≡ slice_index_or loops i around → so_far ≡ counted (floor_height (from_innermost (take i loops)))
    → min (so_far + length around.below.items) (2 ^ 64 - 1) ≡ counted (floor_height (from_innermost (take (i + 1) loops)))
one_deeper loops i so_far around within is are = rw (are, floor_of loops i around within is) (both_counted (floor_height (from_innermost (take i loops))) (length around.below.items))

pub all_taken : {M : Type 0} {name : ShapeName.Ghosts M} (loops : List (Around M name)) (i so_far : ℕ) → length loops ≤ i → so_far ≡ counted (floor_height (from_innermost (take i loops))) → so_far ≡ counted (floor_height (from_innermost loops))
all_taken loops i so_far past are = are ∙ ap (λ taken. counted (floor_height (from_innermost taken))) (take_all i loops past)
