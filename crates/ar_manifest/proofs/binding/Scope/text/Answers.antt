use Rattle.std.proofs.Common.{◌∙◌, arith, rules, sym}
use Rattle.std.proofs.lemmas.Result.{err_from_is_err_and}
use Rattle.ar_manifest.proofs.Filling.{bind_begin, bind_end, bind_fault, bind_more, bind_open}
use Rattle.ar_manifest.proofs.Steps.{refuses_same}
use Rattle.ar_manifest.proofs.TextParts.{shorter}
use Rattle.ar_manifest.proofs.binding.Scope.text.Goals as goal

pub returns-in_default-cut_at : goal.returns-in_default-cut_at
returns-in_default-cut_at c =
    bind_open c.args.self.now.arguments.now c.args.self.now.own.now c.args.self.now.metric c.args.most c.loop-before.bound c.loop-before.rest.now _ c.loop-before.invariant.so_far
    c.in-Some.before.now c.in-Some.opened.now (sym c.in-Some.ensures) (sym c.in_default-cut_at.ensures)

pub returns-in_err-value : goal.returns-in_err-value
returns-in_err-value c =
    let error = err_from_is_err_and c.from_residual.result c.from_residual.ensures.1 in
    rw (error.1, error.2)
    (refuses_same _ _ (bind_fault c.args.self.now.arguments.now c.args.self.now.own.now c.args.self.now.metric c.args.most c.loop-before.bound c.loop-before.rest.now _ c.loop-before.invariant.so_far
    c.in-Some.before.now c.in-Some.opened.now (sym c.in-Some.ensures) c.in-Some-cut_at.between.now c.in-Some-cut_at.after.now (sym c.in-Some-cut_at.ensures) _ c.in_err-value.ensures))

pub loop-before-smaller : goal.loop-before-smaller
loop-before-smaller c =
    omega (arith, shorter c.loop-before.rest.now (c.in-Some.before.now, c.in-Some.opened.now) (c.in-Some-cut_at.between.now, c.in-Some-cut_at.after.now) (sym c.in-Some.ensures) (sym c.in-Some-cut_at.ensures))

pub returns : goal.returns
returns c =
    bind_end c.args.self.now.arguments.now c.args.self.now.own.now c.args.self.now.metric c.args.most c.loop-before.bound c.loop-before.rest.now _ c.loop-before.invariant.so_far
    _ (sym c.in_default.ensures) c.in_ok-joined.ensures

pub loop-before-preserved : goal.loop-before-preserved
loop-before-preserved c = record {
  is_text = search rules;
  so_far = bind_more c.args.self.now.arguments.now c.args.self.now.own.now c.args.self.now.metric c.args.most c.loop-before.bound c.loop-before.rest.now _ c.loop-before.invariant.so_far
      c.in-Some.before.now c.in-Some.opened.now (sym c.in-Some.ensures) c.in-Some-cut_at.between.now c.in-Some-cut_at.after.now (sym c.in-Some-cut_at.ensures)
      c.in_ok-value.value.now c.in_ok-bound.bound c.in_ok-bound-2.bound c.in_ok-value.ensures c.in_ok-bound.ensures c.in_ok-bound-2.ensures;
}

pub loop-before-init : goal.loop-before-init
loop-before-init c = record {
  is_text = search rules;
  so_far = bind_begin c.args.self.now.arguments.now c.args.self.now.own.now c.args.self.now.metric c.args.most c.from.result c.args.text.now (c.from.ensures ∙ c.new.ensures.bytes);
}
