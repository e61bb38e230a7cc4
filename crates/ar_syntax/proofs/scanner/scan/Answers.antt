use Rattle.std.proofs.lemmas.Str.{IsCharBoundary-start}
use Rattle.std.proofs.Common.{arith, rules, drop, length-drop}
use Rattle.std.proofs.lemmas.Result.{err_from_is_err_and}
use Rattle.ar_syntax.proofs.Answers.{unless_maps}
use Rattle.ar_syntax.proofs.Boundaries.{boundary_after_gap, boundary_after_token}
use Rattle.ar_syntax.proofs.Pieces.{IsFront, IsFront-front_of, IsFrontGap, IsFrontGap-front_of}
use Rattle.ar_syntax.proofs.Scans.{with_tokens-gap, with_tokens-end, with_tokens-fault, with_tokens-token}
use Rattle.ar_syntax.specs.Spelling.{is_syntax_memory}
use Rattle.ar_syntax.proofs.scanner.scan.Goals as goal
use Rattle.ar_syntax.proofs.scanner.scan.Goals.{In-Found, In-Gap}

pub loop-at-init : goal.loop-at-init
loop-at-init c = record { in_range = omega arith; boundary = IsCharBoundary-start c.args.text.now c.utf8.text; so_far = search rules }

pub returns : goal.returns
returns c = with_tokens-end c.args.text.now c.loop-at.at c.loop-at.field c.loop-at.tokens.items _ (omega arith) c.loop-at.invariant.so_far

pub returns-in_err-piece : goal.returns-in_err-piece
returns-in_err-piece c =
    let error = err_from_is_err_and c.from_residual.result c.from_residual.ensures.1 in
    rw (error.1, error.2)
    (unless_maps (is_syntax_memory c.in_err-piece.field-0.0) _ _ (λ found. with_tokens-fault c.args.text.now c.loop-at.at c.loop-at.field c.loop-at.tokens.items c.in_err-piece.field-0.0 _ c.loop-at-test.true found c.loop-at.invariant.so_far)
    (rw c.range_from.ensures.value at c.in_err-piece.ensures))

pub range_from-requires : goal.range_from-requires
range_from-requires c = λ _. c.loop-at.invariant.boundary

-- the blank or comment at the front
front_gap : (c : In-Gap) → IsFrontGap (drop c.loop-at.at c.args.text.now) c.in-Gap.len
front_gap c = IsFrontGap-front_of c.loop-at.at c.in-Gap.len c.loop-at.field (drop c.loop-at.at c.args.text.now) (omega (arith, length-drop c.loop-at.at c.args.text.now, c.loop-at-test.true)) (rw (c.range_from.ensures.value, c.in-Gap.is) at c.in_ok-piece.ensures)

pub loop-at-preserved-in-Gap : goal.loop-at-preserved-in-Gap
loop-at-preserved-in-Gap c =
    let gap = front_gap (goal.at.loop-at-preserved-in-Gap c).In-Gap in
    record {
      in_range = omega (arith, gap.within, length-drop c.loop-at.at c.args.text.now);
      boundary = boundary_after_gap c.args.text.now c.loop-at.at c.utf8.text c.loop-at.invariant.boundary c.in-Gap.len gap;
      so_far = with_tokens-gap c.args.text.now c.loop-at.at c.in-Gap.len c.loop-at.field c.loop-at.tokens.items _ c.loop-at-test.true (rw (c.range_from.ensures.value, c.in-Gap.is) at c.in_ok-piece.ensures) gap.some c.loop-at.invariant.so_far;
    }

-- the token at the front
front_token : (c : In-Found) → IsFront c.loop-at.at (drop c.loop-at.at c.args.text.now) c.in-Found.token
front_token c = IsFront-front_of c.loop-at.at c.loop-at.field (drop c.loop-at.at c.args.text.now) c.in-Found.token (rw (c.range_from.ensures.value, c.in-Found.is) at c.in_ok-piece.ensures)

pub loop-at-preserved : goal.loop-at-preserved
loop-at-preserved c =
    let front = front_token (goal.at.loop-at-preserved c).In-Found in
    record {
      in_range = omega (arith, front.within, length-drop c.loop-at.at c.args.text.now);
      boundary = boundary_after_token c.args.text.now c.loop-at.at c.utf8.text c.loop-at.invariant.boundary c.in-Found.token front;
      so_far = with_tokens-token c.args.text.now c.loop-at.at c.loop-at.field c.loop-at.tokens.items _ c.in-Found.token _ _ c.loop-at-test.true (rw (c.range_from.ensures.value, c.in-Found.is) at c.in_ok-piece.ensures) front.some c.in_ok-push-in-Found.ensures.items c.takes_field-field.ensures c.loop-at.invariant.so_far;
    }

pub overflow_add-at : goal.overflow_add-at
overflow_add-at c =
    let gap = front_gap (goal.at.overflow_add-at c).In-Gap in
    omega (arith, gap.within, length-drop c.loop-at.at c.args.text.now)

pub loop-at-smaller-in-Gap : goal.loop-at-smaller-in-Gap
loop-at-smaller-in-Gap c =
    let gap = front_gap (goal.at.loop-at-smaller-in-Gap c).In-Gap in
    omega (arith, gap.some, c.loop-at-test.true)

pub loop-at-smaller : goal.loop-at-smaller
loop-at-smaller c =
    let front = front_token (goal.at.loop-at-smaller c).In-Found in
    omega (arith, front.some, c.loop-at-test.true)
