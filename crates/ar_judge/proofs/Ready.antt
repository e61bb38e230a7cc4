-- Conditions that are ready to be run, and that the headline holds of them.
use Rattle.ar_judge.specs.Condition.{condition_with}
use Rattle.std.proofs.Common.{◌≡◌, ℕ, List, Ok, sym, subst}
use Rattle.ar_value.specs.View.{shape_view}
use Rattle.ar_value.specs.declared.shape.Shape.{Shape as Declared}
use Rattle.ar_op.specs.Code.{Code}
use Rattle.ar_safety.specs.Bounds.{Verified}
use Rattle.ar_safety.specs.Verdict.{IsVerified}
use Rattle.ar_judge.specs.Saying.{typed_text}
use Rattle.ar_judge.specs.Headline.{HeadlineHolds}
use Rattle.ar_judge.specs.Private.Readiness.{IsCodeOf, IsReady, Means}
use Rattle.ar_judge.proofs.Headline.{condition_holds}
use Rattle.ar_judge.proofs.Running.{built}

-- the code of a text's tree, once it is verified
pub ready : (shape : Declared) (text : List ℕ) (code : Code) (verified : Verified) → IsCodeOf (shape_view shape) text code → verified.code ≡ code → verified.shape ≡ shape → IsVerified code (shape_view shape) verified.budget verified.depth → IsReady text verified
ready shape text code verified is code_is shape_is accepted =
    record {
      tree = is.tree;
      typed = subst (λ shape. typed_text (shape_view shape) text ≡ Ok is.tree) (sym shape_is) is.typed;
      means = subst (λ shape. Means (shape_view shape) is.tree verified.code) (sym shape_is) (subst (λ code. Means (shape_view shape) is.tree code) (sym code_is) is.means);
      holds = subst (λ shape. HeadlineHolds (shape_view shape) text (condition_with text verified)) (sym shape_is) (condition_holds (shape_view shape) text (condition_with text verified) (built shape text code verified is code_is shape_is accepted));
    }

pub ready_holds : (text : List ℕ) (verified : Verified) → IsReady text verified → HeadlineHolds (shape_view verified.shape) text (condition_with text verified)
ready_holds text verified is = is.holds
