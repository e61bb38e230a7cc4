-- That a text has one result: it is built, or refused for one cause; and so do the texts of a metric.
use Rattle.ar_judge.specs.Condition.{Condition}
use Rattle.std.proofs.Common.{◌≡◌, ◌≢◌, ℕ, List, Option, Some, None, refl, sym, subst, ◌∙◌, ap, arith}
use Rattle.std.specs.Prelude.{◌<◌, ◌≤◌}
use Rattle.ar_value.specs.Shape.{Shape}
use Rattle.ar_value.specs.Limits.{most_code_entries}
use Rattle.ar_compile.specs.Compiled.{compiled}
use Rattle.ar_compile.specs.Length.{length_of}
use Rattle.ar_safety.specs.Verdict.{IsFault}
use Rattle.ar_safety.specs.declared.error.Reason.{Reason}
use Rattle.ar_safety.proofs.OneVerdict.{one_verdict, same_fault}
use Rattle.ar_judge.specs.Built.{IsBuilt}
use Rattle.ar_judge.specs.Saying.{IsRefused, IsTooLong, IsUnsafe}
use Rattle.ar_judge.proofs.Trees.{tree_by_parser}
use Rattle.ar_judge.specs.Verdict.{AreBuilt, IsJudge, Judge, RefusesText, RefusesTexts}
use Rattle.ar_judge.specs.declared.error.BuildCause.{BuildCause}
use Rattle.ar_judge.specs.declared.error.BuildCause.TheVariants.{Grammar, Kinds, Compiler, Verifier, OutOfMemory}
use Rattle.ar_judge.specs.declared.error.BuildError.{BuildError}
use Rattle.ar_judge.specs.declared.error.BuildError.TheVariants as errors

-- ---- one text

built_alone : (shape : Shape) (text : List ℕ) (condition : Condition) (cause : BuildCause) → cause ≢ OutOfMemory → IsBuilt shape text condition → IsRefused shape text cause → ⊥
built_alone shape text condition (Grammar error) own built refused = let typed = tree_by_parser shape text built.tree built.has_tree in cc
built_alone shape text condition (Kinds error) own built refused = let typed = tree_by_parser shape text built.tree built.has_tree in cc
built_alone shape text condition (Compiler error) own built refused =
    let typed = tree_by_parser shape text built.tree built.has_tree in
    let also = refused.1.typed in
    let same : refused.1.tree ≡ built.tree = cc in
    let long = subst (λ tree. most_code_entries < length_of tree) same refused.1.long in
    let short = built.short in
    omega arith
built_alone shape text condition (Verifier index reason) own built refused =
    let typed = tree_by_parser shape text built.tree built.has_tree in
    let also = refused.typed in
    let same : refused.tree ≡ built.tree = cc in
    one_verdict (compiled built.tree) shape condition.verified.budget condition.verified.depth index reason built.accepted (subst (λ tree. IsFault (compiled tree) shape index reason) same refused.fault)
built_alone shape text condition OutOfMemory own built refused = own refl

long_alone : (shape : Shape) (text : List ℕ) (index : ℕ) (reason : Reason) → IsTooLong shape text → IsUnsafe shape text index reason → ⊥
long_alone shape text index reason long unsafe =
    let typed = long.typed in
    let also = unsafe.typed in
    let same : unsafe.tree ≡ long.tree = cc in
    let short = subst (λ tree. length_of tree ≤ most_code_entries) same unsafe.short in
    let too_long = long.long in
    omega arith

one_unsafe : (shape : Shape) (text : List ℕ) (index other_index : ℕ) (reason other_reason : Reason) → IsUnsafe shape text index reason → IsUnsafe shape text other_index other_reason → (index ≡ other_index) × (reason ≡ other_reason)
one_unsafe shape text index other_index reason other_reason one other =
    let typed = one.typed in
    let also = other.typed in
    let same : other.tree ≡ one.tree = cc in
    same_fault (compiled one.tree) shape index other_index reason other_reason one.fault (subst (λ tree. IsFault (compiled tree) shape other_index other_reason) same other.fault)

one_cause : (shape : Shape) (text : List ℕ) (cause other : BuildCause) → cause ≢ OutOfMemory → other ≢ OutOfMemory → IsRefused shape text cause → IsRefused shape text other → cause ≡ other
one_cause shape text (Grammar error) (Grammar other) own also_own one two = cc
one_cause shape text (Grammar error) (Kinds other) own also_own one two = absurd cc
one_cause shape text (Grammar error) (Compiler other) own also_own one two = let typed = two.1.typed in absurd cc
one_cause shape text (Grammar error) (Verifier index reason) own also_own one two = let typed = two.typed in absurd cc
one_cause shape text (Kinds error) (Grammar other) own also_own one two = absurd cc
one_cause shape text (Kinds error) (Kinds other) own also_own one two = cc
one_cause shape text (Kinds error) (Compiler other) own also_own one two = let typed = two.1.typed in absurd cc
one_cause shape text (Kinds error) (Verifier index reason) own also_own one two = let typed = two.typed in absurd cc
one_cause shape text (Compiler error) (Grammar other) own also_own one two = let typed = one.1.typed in absurd cc
one_cause shape text (Compiler error) (Kinds other) own also_own one two = let typed = one.1.typed in absurd cc
one_cause shape text (Compiler error) (Compiler other) own also_own one two = ap (λ e. Compiler e) (one.0 ∙ sym two.0)
one_cause shape text (Compiler error) (Verifier index reason) own also_own one two = absurd (long_alone shape text index reason one.1 two)
one_cause shape text (Verifier index reason) (Grammar other) own also_own one two = let typed = one.typed in absurd cc
one_cause shape text (Verifier index reason) (Kinds other) own also_own one two = let typed = one.typed in absurd cc
one_cause shape text (Verifier index reason) (Compiler other) own also_own one two = absurd (long_alone shape text index reason two.1 one)
one_cause shape text (Verifier index reason) (Verifier other_index other_reason) own also_own one two =
    let same = one_unsafe shape text index other_index reason other_reason one two in
    ap (λ p. Verifier p reason) same.0 ∙ ap (λ r. Verifier other_index r) same.1
one_cause shape text OutOfMemory other own also_own one two = absurd (own refl)
one_cause shape text (Grammar error) OutOfMemory own also_own one two = absurd (also_own refl)
one_cause shape text (Kinds error) OutOfMemory own also_own one two = absurd (also_own refl)
one_cause shape text (Compiler error) OutOfMemory own also_own one two = absurd (also_own refl)
one_cause shape text (Verifier index reason) OutOfMemory own also_own one two = absurd (also_own refl)

-- ---- a text that may be missing

text_alone : (shape : Shape) (text : Option (List ℕ)) (condition : Option Condition) (cause : BuildCause) → AreBuilt shape text condition → RefusesText shape text cause → ⊥
text_alone shape (Some text) (Some condition) cause built refused =
    let there = refused.is_there in
    let same : refused.refused_text ≡ text = cc in
    built_alone shape text condition cause refused.own built (subst (λ (own : List ℕ). IsRefused shape own cause) same refused.is)
text_alone shape (Some text) None cause built refused = built
text_alone shape None condition cause built refused = let there = refused.is_there in cc

one_text : (shape : Shape) (text : Option (List ℕ)) (cause other : BuildCause) → RefusesText shape text cause → RefusesText shape text other → cause ≡ other
one_text shape text cause other one two =
    let there = one.is_there in
    let also = two.is_there in
    let same : two.refused_text ≡ one.refused_text = cc in
    one_cause shape one.refused_text cause other one.own two.own one.is (subst (λ (own : List ℕ). IsRefused shape own other) same two.is)

-- ---- the texts of a metric

pub judged_alone : (shape : Shape) (success failure : Option (List ℕ)) (judge : Judge) (error : BuildError) → error ≢ errors.OutOfMemory → IsJudge shape success failure judge → RefusesTexts shape success failure error → ⊥
judged_alone shape success failure judge (errors.Success cause) own is refused = text_alone shape success judge.success cause is.success_is refused
judged_alone shape success failure judge (errors.Failure cause) own is refused = text_alone shape failure judge.failure cause is.failure_is refused.1
judged_alone shape success failure judge errors.OutOfMemory own is refused = own refl

pub one_error : (shape : Shape) (success failure : Option (List ℕ)) (error other : BuildError) → error ≢ errors.OutOfMemory → other ≢ errors.OutOfMemory → RefusesTexts shape success failure error → RefusesTexts shape success failure other → error ≡ other
one_error shape success failure (errors.Success cause) (errors.Success other) own also_own one two = ap (λ c. errors.Success c) (one_text shape success cause other one two)
one_error shape success failure (errors.Success cause) (errors.Failure other) own also_own one two = absurd (text_alone shape success two.0.0 cause two.0.1 one)
one_error shape success failure (errors.Failure cause) (errors.Success other) own also_own one two = absurd (text_alone shape success one.0.0 other one.0.1 two)
one_error shape success failure (errors.Failure cause) (errors.Failure other) own also_own one two = ap (λ c. errors.Failure c) (one_text shape failure cause other one.1 two.1)
one_error shape success failure errors.OutOfMemory other own also_own one two = absurd (own refl)
one_error shape success failure (errors.Success cause) errors.OutOfMemory own also_own one two = absurd (also_own refl)
one_error shape success failure (errors.Failure cause) errors.OutOfMemory own also_own one two = absurd (also_own refl)
