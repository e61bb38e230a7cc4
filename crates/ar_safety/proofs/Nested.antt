-- Where pass 3 found nothing, no index is in more loops than it lets through.
use Rattle.std.proofs.Common.{◌≡◌, ◌≤◌, ℕ, zero, suc, Bool, true, false, List, ◌∷◌, length, Option, Some, None, refl, ap, sym, arith}
use Rattle.std.specs.Prelude.{if◌then◌else◌, nat_le, slice_get}
use Rattle.std.proofs.lemmas.Bool.Decides.{nat_tests}
use Rattle.ar_value.specs.declared.operator.Predicate.{Predicate}
use Rattle.ar_value.specs.Limits.{most_loops}
use Rattle.ar_op.specs.declared.op.Op.{Op}
use Rattle.ar_op.specs.declared.op.Op.TheVariants.{Enter}
use Rattle.ar_safety.specs.Indices.{loops_around, loops_among, in_innermost, names_well, nests_well, loop_reaches, unless}
use Rattle.ar_safety.proofs.Nesting.{begins, no_reason, none_of_both, reaches_less, reaching}

module _ (ops : List Op) where
  -- whoever holds `index` holds those in front of it that are after its Enter
  longer : (op : Option Op) (index before : ℕ) (enter : ℕ) (others fewer : List ℕ) → before ≤ index → length others ≤ length fewer
      → (holds : Bool) → holds ≡ loop_reaches op index → (also : Bool) → also ≡ loop_reaches op before → length (if holds then enter ∷ others else others) ≤ length (if also then enter ∷ fewer else fewer)
  longer op index before enter others fewer le less true is true are = omega arith
  longer op index before enter others fewer le less true is false are =
      let near : loop_reaches op before ≡ true = reaches_less op index before le (sym is) in absurd cc
  longer op index before enter others fewer le less false is true are = omega arith
  longer op index before enter others fewer le less false is false are = less

  fewer : (index before : ℕ) → before ≤ index → (n : ℕ) → length (loops_among ops index n) ≤ length (loops_among ops before n)
  fewer index before le zero = omega arith
  fewer index before le (suc n) =
      longer (slice_get ops n) index before n (loops_among ops index n) (loops_among ops before n) le (fewer index before le n)
      (loop_reaches (slice_get ops n) index) refl (loop_reaches (slice_get ops n) before) refl

  module _ (paired : (index : ℕ) (op : Op) → slice_get ops index ≡ Some op → names_well ops index op ≡ None) (nested : (index : ℕ) (op : Op) → slice_get ops index ≡ Some op → nests_well ops index op ≡ None) where
    few_inside : (predicate : Predicate) (enter step : ℕ) → slice_get ops enter ≡ Some (Enter predicate step) → length (loops_around ops (suc enter)) ≤ most_loops
    few_inside predicate enter step there =
        let parts = none_of_both (unless (nat_le (length (loops_around ops (suc enter))) most_loops) _) (unless (in_innermost ops (loops_around ops enter) step) _) (nested enter (Enter predicate step) there) in
        let few : nat_le (length (loops_around ops (suc enter))) most_loops ≡ true = no_reason (nat_le (length (loops_around ops (suc enter))) most_loops) _ parts.0 in
        grind (arith, nat_tests)

    few_holding : (index n : ℕ) → n ≤ index → length (loops_among ops index n) ≤ most_loops
    few_holding index zero le = omega arith
    few_holding index (suc enter) le = by_test (loop_reaches (slice_get ops enter) index) refl (few_holding index enter (omega arith))
      where
        by_test : (test : Bool) → loop_reaches (slice_get ops enter) index ≡ test → length (loops_among ops index enter) ≤ most_loops → length (if test then enter ∷ loops_among ops index enter else loops_among ops index enter) ≤ most_loops
        by_test true is others =
            let the = reaching (slice_get ops enter) index is in
            let few = few_inside the.0 enter the.1 the.2 in
            let all : length (loops_around ops (suc enter)) ≡ suc (length (loops_around ops enter)) = ap length (begins ops paired the.0 enter the.1 the.2) in
            let less = fewer index enter (omega arith) enter in
            omega arith
        by_test false is others = others

    pub few_held : (index : ℕ) → length (loops_around ops index) ≤ most_loops
    few_held index = few_holding index index (omega arith)
