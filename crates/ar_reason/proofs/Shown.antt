-- The verdict of a measured value is by the conditions that are shown, and that of another value by the misfit.
use Rattle.std.proofs.Common.{◌≡◌, ◌||◌, Bool, true, false, List, [], ◌∷◌, ◌++◌, codes, Option, None, Some, refl, sym, ◌∙◌, ap, inl, inr}
use Rattle.std.specs.Prelude.{if◌then◌else◌, Result, Ok, Err}
use Rattle.std.specs.List.{list_any}
use Rattle.ar_value.specs.Operators.{Meaning, faulted, ill_kinded}
use Rattle.ar_value.specs.Shape.{Shape}
use Rattle.ar_value.specs.Terms.{Text}
use Rattle.ar_value.specs.Value.{Value}
use Rattle.ar_value.specs.View.{shape_view}
use Rattle.ar_tree.specs.Meaning.{answer_of, mean}
use Rattle.ar_tree.specs.Typed.{Typed}
use Rattle.ar_apart.specs.Apart.{Apart}
use Rattle.ar_explain.specs.Lines.{outcome_of}
use Rattle.ar_explain.specs.Operands.{apart_on, failed_on}
use Rattle.ar_judge.proofs.Trees.{tree_by_parser}
use Rattle.ar_judge.specs.Condition.{Condition}
use Rattle.ar_judge.specs.Saying.{said_by, typed_text}
use Rattle.ar_judge.specs.Verdict.{AreBuilt, Said, absent, said_of, said_where, spoken, verdict_by}
use Rattle.ar_judge.specs.declared.error.BuildCause.{BuildCause}
use Rattle.ar_judge.specs.declared.verdict.Cause.TheVariants as causes
use Rattle.ar_judge.specs.declared.verdict.Verdict.TheVariants.{Error}
use Rattle.ar_limits.proofs.PrefixLemmas.{option_cases}
use Rattle.ar_json.specs.Reading.{read}
use Rattle.ar_json.specs.declared.value_reading.ShapeFault.{ShapeFault}
use Rattle.ar_misfit.proofs.Faults.{misfit_refused, no_misfit_read}
use Rattle.ar_misfit.specs.Misfit.{misfit}
use Rattle.ar_evaluation.specs.Evaluated.{EvaluatedCondition, after_success, evaluated, evaluated_if_there, evaluated_with, has_failed, is_failure}
use Rattle.ar_reason.specs.ReasonLaws.{MisfitIsOfVerdict, VerdictIsByShown, said_among}

-- ---- a condition with a tree, or none

record Written : Type 0 where
  text : Text
  tree : Typed

abbrev shown : (which : Text) → Value → Option Written → List EvaluatedCondition
shown which found None = []
shown which found (Some condition) = evaluated_with which condition.text found condition.tree ∷ []

abbrev meant : Value → Option Written → Said
meant found None = absent
meant found (Some condition) = spoken (answer_of (mean found None condition.tree))

record IsWritten (found : Value) (condition : Option Condition) : Type 0 where
  own : Option Written
  shows : (which : Text) → evaluated_if_there which found condition ≡ shown which found own
  says : said_where (said_of found) condition ≡ meant found own

written : (shape : Shape) (text : Option Text) (condition : Option Condition) (found : Value) → AreBuilt shape text condition → IsWritten found condition
written shape None None found built = record { own = None; shows = λ which. refl; says = refl }
written shape None (Some condition) found built = absurd built
written shape (Some text) None found built = absurd built
written shape (Some text) (Some condition) found built =
    let parsed = tree_by_parser shape text built.tree built.has_tree in
    let typed : typed_text (shape_view condition.verified.shape) condition.text ≡ Ok built.tree =
    ap (λ shape. typed_text shape condition.text) built.shape_is ∙ (ap (typed_text shape) built.text_is ∙ parsed) in
    record {
      own = Some (record { text = condition.text; tree = built.tree });
      shows = λ which. ap (λ (tree : Result Typed BuildCause). evaluated which condition.text found tree) typed;
      says = ap (λ (tree : Result Typed BuildCause). spoken (said_by found tree)) typed;
    }

-- ---- what decides

-- where the success condition fails, the failure condition doesn't matter
fails_alone : (meaning : Meaning) (on : Option Text) (apart : Option Apart) (failure : Said) → is_failure (outcome_of meaning on apart) ≡ true → verdict_by (spoken (answer_of meaning)) failure ≡ verdict_by (spoken (answer_of meaning)) absent
fails_alone (Ok value) on apart failure fails = absurd cc
fails_alone (Err (faulted fault)) on apart failure fails = refl
fails_alone (Err ill_kinded) on apart failure fails = refl

either_false : (does : Bool) → (does || false) ≡ true → does ≡ true
either_false true is = refl
either_false false is = absurd cc

by_shown : (found : Value) (success failure : Option Written)
    → verdict_by (meant found success) (meant found failure) ≡ verdict_by (said_among (codes "success") found (after_success (shown (codes "success") found success) (shown (codes "failure") found failure))) (said_among (codes "failure") found (after_success (shown (codes "success") found success) (shown (codes "failure") found failure)))
by_shown found None None = refl
by_shown found None (Some failure) = refl
by_shown found (Some success) failure = by_test (list_any has_failed (shown (codes "success") found (Some success))) refl where
  by_test : (fails : Bool) → list_any has_failed (shown (codes "success") found (Some success)) ≡ fails
      → verdict_by (meant found (Some success)) (meant found failure)
      ≡ verdict_by (said_among (codes "success") found (if fails then shown (codes "success") found (Some success) else shown (codes "success") found (Some success) ++ shown (codes "failure") found failure))
      (said_among (codes "failure") found (if fails then shown (codes "success") found (Some success) else shown (codes "success") found (Some success) ++ shown (codes "failure") found failure))
  by_test true is =
      fails_alone (mean found None success.tree) (failed_on found None success.tree) (apart_on found None success.tree) (meant found failure) (either_false (is_failure (outcome_of (mean found None success.tree) (failed_on found None success.tree) (apart_on found None success.tree))) is)
  by_test false is = by_other failure where
    by_other : (failure : Option Written)
        → verdict_by (meant found (Some success)) (meant found failure)
        ≡ verdict_by (said_among (codes "success") found (shown (codes "success") found (Some success) ++ shown (codes "failure") found failure))
        (said_among (codes "failure") found (shown (codes "success") found (Some success) ++ shown (codes "failure") found failure))
    by_other None = refl
    by_other (Some failure) = refl

pub verdict_is_by_shown : VerdictIsByShown
verdict_is_by_shown shape success failure judge found is =
    let succeeds = written shape success judge.success found is.success_is in
    let fails = written shape failure judge.failure found is.failure_is in
    ap (λ (said : Said). verdict_by said (said_where (said_of found) judge.failure)) succeeds.says
    ∙ (ap (verdict_by (meant found succeeds.own)) fails.says
    ∙ (by_shown found succeeds.own fails.own
    ∙ sym (ap (λ (conditions : List EvaluatedCondition). verdict_by (said_among (codes "success") found conditions) (said_among (codes "failure") found conditions))
    (ap (λ (first : List EvaluatedCondition). after_success first (evaluated_if_there (codes "failure") found judge.failure)) (succeeds.shows (codes "success"))
    ∙ ap (after_success (shown (codes "success") found succeeds.own)) (fails.shows (codes "failure"))))))

-- ---- misfits

fault_is : (found : Result Value ShapeFault) (fault own : ShapeFault) → found ≡ Err fault → found ≡ Err own → fault ≡ own
fault_is found fault own refused shown = cc

never_read : (found : Result Value ShapeFault) (fault : ShapeFault) (value : Value) → found ≡ Err fault → found ≡ Ok value → ⊥
never_read found fault value refused read_as = cc

pub misfit_is_of_verdict : MisfitIsOfVerdict
misfit_is_of_verdict judge shape json fault refused =
    elim (option_cases (misfit shape json)) [
      | inl none ↦ let given = no_misfit_read shape json none in absurd (never_read (read shape json) fault given.0 refused given.1)
      | inr found ↦ record {
        shown = found.0;
        is_there = found.1;
        verdict_is = ap (λ (fault : ShapeFault). Error (causes.Shape fault)) (fault_is (read shape json) fault found.0.fault refused (misfit_refused shape json found.0 found.1));
      }
    ]
