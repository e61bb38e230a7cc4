use Rattle.std.proofs.Common.{length, ap, sym, subst, ◌∙◌}
use Rattle.std.specs.Prelude.{nat_le}
use Rattle.ar_safety.specs.Verdict.{IsCause, IsVerified}
use Rattle.ar_safety.specs.Bounds.{greatest_budget}
use Rattle.ar_value.specs.View.{shape_view}
use Rattle.ar_safety.specs.Indices.{indices_pass}
use Rattle.ar_verify.specs.Private.Costs.{IsCost}
use Rattle.ar_verify.specs.Private.Table.{summary_view}
use Rattle.ar_verify.proofs.Verdicts.{by_test, has_passed, is_too_expensive, is_verified, so_many}
use Rattle.ar_verify.proofs.verifier.check.Goals as goal

pub budget-requires-clause-passed : goal.budget-requires-clause-passed
budget-requires-clause-passed c =
    has_passed c.args.code.now (shape_view c.args.shape.now) (summary_view c.in_ok-arrivals.arrivals) (ap indices_pass (sym c.ops.ensures.ops) ∙ c.in_ok-check_indices.ensures) c.in_ok-arrivals.ensures

pub budget-requires-clause-counted : goal.budget-requires-clause-counted
budget-requires-clause-counted c =
    ap length c.deref.ensures.value
    ∙ so_many c.args.code.now (shape_view c.args.shape.now) (summary_view c.in_ok-arrivals.arrivals) (ap indices_pass (sym c.ops.ensures.ops) ∙ c.in_ok-check_indices.ensures) c.in_ok-arrivals.ensures

pub returns : goal.returns
returns c =
    let passed = ap indices_pass (sym c.ops.ensures.ops) ∙ c.in_ok-check_indices.ensures in
    let cost = subst (λ most. IsCost c.args.code.now most 0 c.in_ok-budget.budget) c.deref.ensures.value c.in_ok-budget.ensures in
    let reported = by_test (nat_le c.in_ok-budget.budget greatest_budget) _ _ c.unless_too_large.result
    (λ bounds. IsVerified c.args.code.now (shape_view c.args.shape.now) bounds.budget bounds.depth) (IsCause c.args.code.now (shape_view c.args.shape.now)) c.unless_too_large.ensures
    (is_verified c.args.code.now (shape_view c.args.shape.now) (summary_view c.in_ok-arrivals.arrivals) passed c.in_ok-arrivals.ensures c.in_ok-budget.budget cost)
    (is_too_expensive c.args.code.now (shape_view c.args.shape.now) (summary_view c.in_ok-arrivals.arrivals) passed c.in_ok-arrivals.ensures c.in_ok-budget.budget cost) in
    record { accepted = reported.0; refused = reported.1; code = search }
