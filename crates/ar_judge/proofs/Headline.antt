-- The first half of the headline.
use Rattle.ar_judge.specs.Condition.{Condition}
use Rattle.std.proofs.Common.{◌≡◌, ℕ, true, List, Option, Some, None, Ok, refl, sym, ap, subst, ◌∙◌}
use Rattle.ar_value.specs.Fits.{fits}
use Rattle.ar_value.specs.Shape.{Shape}
use Rattle.ar_value.specs.Value.{Value}
use Rattle.ar_tree.specs.Meaning.{answer_of, mean}
use Rattle.ar_syntax.proofs.Limits.{parsed_in_limits}
use Rattle.ar_syntax.specs.Parse.{parse_of}
use Rattle.ar_op.specs.Code.{IsCode}
use Rattle.ar_compile.proofs.Conditions.{compiled_means}
use Rattle.ar_compile.proofs.Lawful.{compiled_is_code}
use Rattle.ar_compile.specs.Compiled.{compiled}
use Rattle.ar_compile.specs.Ends.{EndsAsMeant}
use Rattle.ar_safety.proofs.Safe.{few_operands, verified_is_safe}
use Rattle.ar_safety.specs.Safety.{IsSafe}
use Rattle.ar_judge.specs.Built.{IsBuilt}
use Rattle.ar_judge.specs.Saying.{said, typed_text}
use Rattle.ar_judge.specs.JudgeHeadline.{BuildsJudge, HoldsWhereThere, JudgeHeadlineHolds, JudgesAsMeant, run_answer}
use Rattle.ar_judge.specs.Headline.{HeadlineHolds, RunsAsMeant}
use Rattle.ar_judge.specs.Verdict.{AreBuilt, IsJudge, Judge, Said, said_of, said_where, spoken, verdict_by}
use Rattle.ar_judge.proofs.Running.{in_limits, one_answer}
use Rattle.ar_judge.proofs.Trees.{expression_parsed, tree_by_parser}

-- ---- conditions

module _ (shape : Shape) (text : List ℕ) (condition : Condition) (built : IsBuilt shape text condition) (value : Value) (fit : fits value shape ≡ true) where
  parsed : parse_of text ≡ Ok built.has_tree.expression
  parsed = expression_parsed shape text built.tree built.has_tree

  typed : typed_text shape text ≡ Ok built.tree
  typed = tree_by_parser shape text built.tree built.has_tree

  -- the code of a text is code
  is_code : IsCode (compiled built.tree)
  is_code = compiled_is_code built.tree (in_limits shape built.has_tree.expression built.tree (parsed_in_limits text built.has_tree.expression parsed) built.has_tree.kinds) built.short

  -- it is safe
  safe : IsSafe condition.verified.code value condition.verified.budget condition.verified.depth
  safe = subst (λ code. IsSafe code value condition.verified.budget condition.verified.depth) (sym built.code_is) (verified_is_safe (compiled built.tree) shape condition.verified.budget condition.verified.depth value is_code built.accepted fit)

  -- and evaluates to what its tree means
  ending : EndsAsMeant condition.verified.code value (mean value None built.tree)
  ending =
      subst (λ code. EndsAsMeant code value (mean value None built.tree)) (sym built.code_is) (compiled_means shape built.has_tree.expression built.tree value built.has_tree.kinds fit)

  same_answer : safe.answer ≡ ending.answer
  same_answer = one_answer condition.verified.code value condition.verified.budget safe.cost safe.answer ending.answer (record { steps = condition.verified.budget; done = safe.ends; paid = safe.paid }) ending.ending

  meant : answer_of (mean value None built.tree) ≡ Some safe.answer
  meant = ending.meant ∙ ap (λ answer. Some answer) (sym same_answer)

  runs : RunsAsMeant shape text condition.verified value
  runs = record { safe = safe; meant = record { tree = built.tree; has_tree = built.has_tree; meant = meant } }

  said_is : said shape text value ≡ Some safe.answer
  said_is = rw (typed, meant) refl

  -- what is run is what is meant
  run_is_meant : run_answer value condition ≡ said shape text value
  run_is_meant = rw (safe.ends, said_is) refl

  -- which is what the condition says
  said_is_meant : said_of value condition ≡ said shape text value
  said_is_meant = rw (built.shape_is, built.text_is) refl

pub condition_holds : (shape : Shape) (text : List ℕ) (condition : Condition) → IsBuilt shape text condition → HeadlineHolds shape text condition
condition_holds shape text condition built = record {
  payable = built.accepted.payable;
  shallow = few_operands (compiled built.tree) shape condition.verified.budget condition.verified.depth built.accepted;
  runs = runs shape text condition built;
}

-- ---- judges

pub each_holds : (shape : Shape) (text : Option (List ℕ)) (condition : Option Condition) → AreBuilt shape text condition → HoldsWhereThere shape text condition
each_holds shape (Some text) (Some condition) built = condition_holds shape text condition built
each_holds shape None None built = tt
each_holds shape (Some text) None built = absurd built
each_holds shape None (Some condition) built = absurd built

each_said : (shape : Shape) (text : Option (List ℕ)) (condition : Option Condition) (value : Value) → fits value shape ≡ true → AreBuilt shape text condition → said_where (said_of value) condition ≡ said_where (λ text. said shape text value) text
each_said shape (Some text) (Some condition) value fit built = ap spoken (said_is_meant shape text condition built value fit)
each_said shape None None value fit built = refl
each_said shape (Some text) None value fit built = absurd built
each_said shape None (Some condition) value fit built = absurd built

each_run : (shape : Shape) (text : Option (List ℕ)) (condition : Option Condition) (value : Value) → fits value shape ≡ true → AreBuilt shape text condition → said_where (run_answer value) condition ≡ said_where (λ text. said shape text value) text
each_run shape (Some text) (Some condition) value fit built = ap spoken (run_is_meant shape text condition built value fit)
each_run shape None None value fit built = refl
each_run shape (Some text) None value fit built = absurd built
each_run shape None (Some condition) value fit built = absurd built

both : (one other same also : Said) → one ≡ same → other ≡ also → verdict_by one other ≡ verdict_by same also
both one other same also is other_is = rw (is, other_is) refl

module _ (shape : Shape) (success failure : Option (List ℕ)) (judge : Judge) (is : IsJudge shape success failure judge) where
  judges : (value : Value) → fits value shape ≡ true → JudgesAsMeant shape success failure judge value
  judges value fit =
      let success_said = each_said shape success judge.success value fit is.success_is in
      let failure_said = each_said shape failure judge.failure value fit is.failure_is in
      let success_run = each_run shape success judge.success value fit is.success_is in
      let failure_run = each_run shape failure judge.failure value fit is.failure_is in
      let of_success = said_where (λ text. said shape text value) success in
      let of_failure = said_where (λ text. said shape text value) failure in
      let meant = both (said_where (said_of value) judge.success) (said_where (said_of value) judge.failure) of_success of_failure success_said failure_said in
      let run = both (said_where (run_answer value) judge.success) (said_where (run_answer value) judge.failure) of_success of_failure success_run failure_run in
      record { run = meant ∙ sym run; meant = meant }

pub judge_holds : (shape : Shape) (success failure : Option (List ℕ)) (judge : Judge) → IsJudge shape success failure judge → JudgeHeadlineHolds shape success failure judge
judge_holds shape success failure judge is = record {
  success_holds = each_holds shape success judge.success is.success_is;
  failure_holds = each_holds shape failure judge.failure is.failure_is;
  verdicts = judges shape success failure judge is;
}

-- and so all that building it returns
pub builds_judge : (shape : Shape) (success failure : Option (List ℕ)) (judge : Judge) → IsJudge shape success failure judge → BuildsJudge shape success failure (Ok judge)
builds_judge shape success failure judge is = record { built = is; headline = judge_holds shape success failure judge is; refused = tt; without_memory = λ none. refl }
