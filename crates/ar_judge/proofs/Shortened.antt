-- Conditions that are shortened: one that is too long is refused as it is whole.
use Rattle.ar_judge.specs.Condition.{Condition}
use Rattle.std.proofs.Common.{◌≡◌, ◌<◌, ◌+◌, ℕ, zero, suc, Bool, true, false, List, length, refl, sym, ◌∙◌, ap, subst, arith, Option, Some, None, Err}
use Rattle.std.specs.Prelude.{nat_le, nat_lt, codes, option_map}
use Rattle.std.specs.List.{repeat}
use Rattle.std.proofs.lemmas.Bool.Decides.{nat_tests}
use Rattle.std.proofs.lemmas.List.{length-append}
use Rattle.ar_value.specs.Shape.{Shape}
use Rattle.ar_value.specs.Limits.{most_text_bytes}
use Rattle.ar_syntax.specs.Parse.{parse_of}
use Rattle.ar_syntax.specs.Tokens.{tokens_of}
use Rattle.ar_syntax.specs.declared.error.SyntaxError.TheVariants.{TooLong}
use Rattle.ar_manifest.specs.Shortened.{shortened, spaces}
use Rattle.ar_judge.proofs.Trees.{tree_by_parser}
use Rattle.ar_judge.specs.Built.{IsBuilt}
use Rattle.ar_judge.specs.Saying.{IsRefused, typed_text}
use Rattle.ar_judge.specs.Verdict.{AreBuilt, IsJudge, Judge, RefusesText, RefusesTexts}
use Rattle.ar_judge.specs.declared.error.BuildCause.{BuildCause}
use Rattle.ar_judge.specs.declared.error.BuildCause.TheVariants.{Grammar, Kinds, Compiler, Verifier, OutOfMemory}
use Rattle.ar_judge.specs.declared.error.BuildError.{BuildError}
use Rattle.ar_judge.specs.declared.error.BuildError.TheVariants as errors

-- ---- one text

-- a text that is too long is refused for that alone
long_parse : (text : List ℕ) → most_text_bytes < length text → parse_of text ≡ Err TooLong
unfolding parse_of tokens_of
long_parse text long =
    let test : nat_lt most_text_bytes (length text) ≡ true = grind (arith, nat_tests, long) in
    rw test refl

length-repeat : (n : ℕ) (text : List ℕ) → length text ≡ 1 → length (repeat n text) ≡ n
length-repeat zero text one = refl
length-repeat (suc n) text one = length-append text (repeat n text) ∙ ap (λ m. length text + m) (length-repeat n text one) ∙ omega (arith, one)

length-spaces : (n : ℕ) → length (spaces n) ≡ n
unfolding spaces
length-spaces n = length-repeat n (codes " ") refl

-- what becomes of a text is one of two
data Shortens (text : List ℕ) : Type 0 where
  stays : shortened text ≡ text → Shortens text
  gives_way : most_text_bytes < length text → most_text_bytes < length (shortened text) → Shortens text

shortens : (text : List ℕ) → Shortens text
unfolding shortened
shortens text = by_test (nat_le (length text) most_text_bytes) refl
  where
    by_test : (short : Bool) → nat_le (length text) most_text_bytes ≡ short → Shortens text
    by_test true short = stays (rw short refl)
    by_test false long = gives_way (grind (arith, nat_tests, long)) (rw (long, length-spaces (most_text_bytes + 1)) (omega arith))

-- it has the same tree, or the same refusal
same_typed : (shape : Shape) (text : List ℕ) → typed_text shape (shortened text) ≡ typed_text shape text
same_typed shape text = elim (shortens text) [
  | stays same ↦ ap (typed_text shape) same
  | gives_way long longer ↦ rw (long_parse text long, long_parse (shortened text) longer) refl
]

built_whole : (shape : Shape) (text : List ℕ) (condition : Condition) → IsBuilt shape (shortened text) condition → IsBuilt shape text condition
built_whole shape text condition built = elim (shortens text) [
  | stays same ↦ subst (λ (text : List ℕ). IsBuilt shape text condition) same built
  | gives_way long longer ↦
      let typed = tree_by_parser shape (shortened text) built.tree built.has_tree in
      let parsed = long_parse (shortened text) longer in
      absurd (let impossible = rw parsed at typed in cc)
]

refused_whole : (shape : Shape) (text : List ℕ) (cause : BuildCause) → IsRefused shape (shortened text) cause → IsRefused shape text cause
refused_whole shape text (Grammar error) refused = sym (same_typed shape text) ∙ refused
refused_whole shape text (Kinds error) refused = sym (same_typed shape text) ∙ refused
refused_whole shape text (Compiler error) refused =
    (refused.0, record { tree = refused.1.tree; typed = sym (same_typed shape text) ∙ refused.1.typed; long = refused.1.long })
refused_whole shape text (Verifier index reason) refused =
    record { tree = refused.tree; typed = sym (same_typed shape text) ∙ refused.typed; short = refused.short; fault = refused.fault }
refused_whole shape text OutOfMemory refused = tt

-- ---- the texts of a metric

are_built_whole : (shape : Shape) (text : Option (List ℕ)) (condition : Option Condition) → AreBuilt shape (option_map shortened text) condition → AreBuilt shape text condition
are_built_whole shape (Some text) (Some condition) built = built_whole shape text condition built
are_built_whole shape None None built = tt
are_built_whole shape (Some text) None built = absurd built
are_built_whole shape None (Some condition) built = absurd built

refuses_text_whole : (shape : Shape) (text : Option (List ℕ)) (cause : BuildCause) → RefusesText shape (option_map shortened text) cause → RefusesText shape text cause
refuses_text_whole shape (Some text) cause refused =
    let there = refused.is_there in
    let same : refused.refused_text ≡ shortened text = cc in
    record { refused_text = text; is_there = refl; own = refused.own; is = refused_whole shape text cause (subst (λ (own : List ℕ). IsRefused shape own cause) same refused.is) }
refuses_text_whole shape None cause refused = let there = refused.is_there in absurd cc

-- a judge of shortened texts is one of the texts
pub judges_whole : (shape : Shape) (success failure : Option (List ℕ)) (judge : Judge) → IsJudge shape (option_map shortened success) (option_map shortened failure) judge → IsJudge shape success failure judge
judges_whole shape success failure judge is =
    record { success_is = are_built_whole shape success judge.success is.success_is; failure_is = are_built_whole shape failure judge.failure is.failure_is }

-- what refuses shortened texts refuses the texts
pub refuses_whole : (shape : Shape) (success failure : Option (List ℕ)) (error : BuildError) → RefusesTexts shape (option_map shortened success) (option_map shortened failure) error → RefusesTexts shape success failure error
refuses_whole shape success failure (errors.Success cause) refused = refuses_text_whole shape success cause refused
refuses_whole shape success failure (errors.Failure cause) refused =
    ((refused.0.0, are_built_whole shape success refused.0.0 refused.0.1), refuses_text_whole shape failure cause refused.1)
refuses_whole shape success failure errors.OutOfMemory refused = tt
