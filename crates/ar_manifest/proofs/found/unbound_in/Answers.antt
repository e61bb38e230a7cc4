use Rattle.std.proofs.Common.{arith, rules, sym}
use Rattle.ar_manifest.proofs.TextParts.{shorter}
use Rattle.ar_manifest.proofs.Unbound.{after_value, no_end, no_reference, without_value}
use Rattle.ar_manifest.proofs.found.unbound_in.Goals as goal

pub returns-in_default-cut_at : goal.returns-in_default-cut_at
returns-in_default-cut_at c =
    let scope = c.args.scope.now in
    sym (no_end scope.arguments.now scope.own.now scope.metric c.loop-opened.rest.now _ c.loop-opened.invariant.so_far
    c.in-Some.field-0-0.now c.in-Some.opened.now (sym c.in-Some.ensures) (sym c.in_default-cut_at.ensures))

pub returns-then-not-has_value : goal.returns-then-not-has_value
returns-then-not-has_value c =
    let scope = c.args.scope.now in
    rw c.trimmed.ensures
    (sym (without_value scope.arguments.now scope.own.now scope.metric c.loop-opened.rest.now _ c.loop-opened.invariant.so_far
    c.in-Some.field-0-0.now c.in-Some.opened.now (sym c.in-Some.ensures) c.in-Some-cut_at.between.now c.in-Some-cut_at.after.now (sym c.in-Some-cut_at.ensures) (sym c.if-not-has_value.ensures)))

pub loop-opened-smaller : goal.loop-opened-smaller
loop-opened-smaller c =
    omega (arith, shorter c.loop-opened.rest.now (c.in-Some.field-0-0.now, c.in-Some.opened.now) (c.in-Some-cut_at.between.now, c.in-Some-cut_at.after.now) (sym c.in-Some.ensures) (sym c.in-Some-cut_at.ensures))

pub loop-opened-preserved : goal.loop-opened-preserved
loop-opened-preserved c =
    let scope = c.args.scope.now in
    record {
      is_text = search rules;
      so_far = after_value scope.arguments.now scope.own.now scope.metric c.loop-opened.rest.now _ c.loop-opened.invariant.so_far
          c.in-Some.field-0-0.now c.in-Some.opened.now (sym c.in-Some.ensures) c.in-Some-cut_at.between.now c.in-Some-cut_at.after.now (sym c.in-Some-cut_at.ensures) (sym c.if-not-has_value.ensures);
    }

pub returns : goal.returns
returns c =
    let scope = c.args.scope.now in
    sym (no_reference scope.arguments.now scope.own.now scope.metric c.loop-opened.rest.now _ c.loop-opened.invariant.so_far (sym c.in_default.ensures))
