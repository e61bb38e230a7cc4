-- No object of an evaluated condition is deep.
use Rattle.std.proofs.Common.{◌≤◌, ◌++◌, ℕ, suc, max, List, Option, Some, None, arith}
use Rattle.std.specs.Option.{option_map_or}
use Rattle.std.proofs.Math.Nat.{max-le}
use Rattle.serde_json.specs.Data.{Data, depth, null}
use Rattle.ar_exact.specs.Flat.{flat_data}
use Rattle.ar_exact.proofs.Flatness.{written_depth}
use Rattle.ar_apart.specs.Apart.{Apart}
use Rattle.ar_explain.specs.Lines.{Line, Outcome, failed, is_item, passed, unneeded, valued}
use Rattle.ar_object.proofs.Values.{above, count_flat, none_deep, text_flat}
use Rattle.ar_object.specs.Object.{count_data, count_or_null, text_or_null}
use Rattle.ar_evaluation.specs.Evaluated.{EvaluatedCondition}
use Rattle.ar_evaluation.specs.EvaluatedData.{condition_answer, apart_data, apart_if_there, evaluated_data, failure_if_there, gap_data, operands_if_there, part_data, shown_if_there, value_if_there}

pub text_small : (found : Option (List ℕ)) (levels : ℕ) → depth (text_or_null found) ≤ levels
text_small found levels = let is = text_flat found in omega arith

pub count_small : (found : Option ℕ) (levels : ℕ) → depth (count_or_null found) ≤ levels
count_small found levels = let is = count_flat found in omega arith

pub zero_small : (levels : ℕ) → 0 ≤ levels
zero_small levels = omega arith

-- objects of three members, and of more
pub three_deep : (a b c levels : ℕ) → a ≤ levels → b ≤ levels → c ≤ levels → suc (max a (max b (max c 0))) ≤ suc levels
three_deep a b c levels in_a in_b in_c = above (max-le in_a (max-le in_b (max-le in_c (zero_small levels))))

pub five_deep : (a b c d e levels : ℕ) → a ≤ levels → b ≤ levels → c ≤ levels → d ≤ levels → e ≤ levels → suc (max a (max b (max c (max d (max e 0))))) ≤ suc levels
five_deep a b c d e levels in_a in_b in_c in_d in_e =
    above (max-le in_a (max-le in_b (max-le in_c (max-le in_d (max-le in_e (zero_small levels))))))

pub six_deep : (a b c d e f levels : ℕ) → a ≤ levels → b ≤ levels → c ≤ levels → d ≤ levels → e ≤ levels → f ≤ levels → suc (max a (max b (max c (max d (max e (max f 0)))))) ≤ suc levels
six_deep a b c d e f levels in_a in_b in_c in_d in_e in_f =
    above (max-le in_a (max-le in_b (max-le in_c (max-le in_d (max-le in_e (max-le in_f (zero_small levels)))))))

seven_deep : (a b c d e f g levels : ℕ) → a ≤ levels → b ≤ levels → c ≤ levels → d ≤ levels → e ≤ levels → f ≤ levels → g ≤ levels → suc (max a (max b (max c (max d (max e (max f (max g 0))))))) ≤ suc levels
seven_deep a b c d e f g levels in_a in_b in_c in_d in_e in_f in_g =
    above (max-le in_a (max-le in_b (max-le in_c (max-le in_d (max-le in_e (max-le in_f (max-le in_g (zero_small levels))))))))

pub nine_deep : (a b c d e f g h i levels : ℕ) → a ≤ levels → b ≤ levels → c ≤ levels → d ≤ levels → e ≤ levels → f ≤ levels → g ≤ levels → h ≤ levels → i ≤ levels
    → suc (max a (max b (max c (max d (max e (max f (max g (max h (max i 0))))))))) ≤ suc levels
nine_deep a b c d e f g h i levels in_a in_b in_c in_d in_e in_f in_g in_h in_i =
    above (max-le in_a (max-le in_b (max-le in_c (max-le in_d (max-le in_e (max-le in_f (max-le in_g (max-le in_h (max-le in_i (zero_small levels))))))))))

pub ten_deep : (a b c d e f g h i j levels : ℕ) → a ≤ levels → b ≤ levels → c ≤ levels → d ≤ levels → e ≤ levels → f ≤ levels → g ≤ levels → h ≤ levels → i ≤ levels → j ≤ levels
    → suc (max a (max b (max c (max d (max e (max f (max g (max h (max i (max j 0)))))))))) ≤ suc levels
ten_deep a b c d e f g h i j levels in_a in_b in_c in_d in_e in_f in_g in_h in_i in_j =
    above (max-le in_a (max-le in_b (max-le in_c (max-le in_d (max-le in_e (max-le in_f (max-le in_g (max-le in_h (max-le in_i (max-le in_j (zero_small levels)))))))))))

-- ---- values

pub exact_small : (exact : Data) (levels : ℕ) → 8 ≤ levels → depth (flat_data exact) ≤ levels
exact_small exact levels many = let is = written_depth exact in omega (arith, is, many)

-- ---- the parts of a condition

value_small : (said : Outcome) → depth (value_if_there said) ≤ 8
value_small (valued shown apart) = written_depth shown.exact
value_small (is_item shown) = written_depth shown.exact
value_small (failed failure on) = zero_small 8
value_small unneeded = zero_small 8
value_small (passed items held) = zero_small 8

answer_small : (said : Outcome) → depth (condition_answer said) ≤ 10
answer_small (valued shown apart) = exact_small shown.exact 10 (omega arith)
answer_small (is_item shown) = zero_small 10
answer_small (failed failure on) = zero_small 10
answer_small unneeded = zero_small 10
answer_small (passed items held) = zero_small 10

gap_flat : (said : Outcome) → depth (gap_data said) ≤ 8
gap_flat (passed items held) = omega arith
gap_flat (valued shown apart) = omega arith
gap_flat (is_item shown) = omega arith
gap_flat (failed failure on) = omega arith
gap_flat unneeded = omega arith

apart_small : (apart : Option Apart) → depth (option_map_or apart_data apart null) ≤ 8
apart_small (Some apart) = omega arith
apart_small None = omega arith

part_flat : (line : Line) → depth (part_data line) ≤ 9
part_flat line =
    ten_deep 0 _ _ _ _ 0 _ 0 _ _ 8 (zero_small 8) (gap_flat line.said) (apart_small (apart_if_there line.said)) (text_small (failure_if_there line.said) 8) (above (none_deep count_data 7 (λ n. omega arith) line.items)) (zero_small 8) (text_small (operands_if_there line.said) 8) (zero_small 8) (text_small (shown_if_there line.said) 8) (value_small line.said)

apart_within : (apart : Option Apart) → depth (option_map_or apart_data apart null) ≤ 10
apart_within apart = let is = apart_small apart in omega (arith, is)

pub evaluated_flat : (condition : EvaluatedCondition) → depth (evaluated_data condition) ≤ 11
evaluated_flat condition =
    seven_deep _ 0 _ 0 _ _ 0 10 (answer_small condition.answer) (zero_small 10) (apart_within (apart_if_there condition.answer)) (zero_small 10) (text_small (operands_if_there condition.answer) 10) (above (none_deep part_data 9 part_flat (condition.parts.lines ++ condition.parts.last))) (zero_small 10)
