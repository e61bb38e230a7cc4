use Rattle.std.proofs.Common.{map, ◌∷◌, [], refl, ◌∙◌, ap}
use Rattle.std.proofs.lemmas.List.{map-append}
use Rattle.std.proofs.lemmas.Result.{err_from_is_err_and}
use Rattle.serde_json.specs.View.{view}
use Rattle.ar_manifest.specs.DryRun.{dry_name}
use Rattle.ar_manifest.proofs.Steps.{refuses_same, step_end, step_fault, step_more}
use Rattle.ar_manifest.proofs.dry_run.listed_names.Goals as goal

pub returns-in_err-name : goal.returns-in_err-name
returns-in_err-name c =
    let error = err_from_is_err_and c.from_residual.result c.from_residual.ensures.1 in
    let earlier = map (λ name. name.now) c.loop-json.names.items in
    let refused = refuses_same c.in_err-name.field-0.0 (dry_name c.args.metrics.now earlier (view c.json-item.result)) (rw c.deref.ensures.value at c.in_err-name.ensures) in
    rw (error.1, error.2)
    (step_fault (λ json. view json) (dry_name c.args.metrics.now) c.args.list.now c.loop-json.json-index earlier _ c.json-item.result c.in_err-name.field-0.0 c.loop-json-test.true c.json-item.is refused c.loop-json.invariant)

pub loop-json-preserved : goal.loop-json-preserved
loop-json-preserved c =
    let earlier = map (λ name. name.now) c.loop-json.names.items in
    let later = ap (map (λ name. name.now)) c.in_ok-push.ensures.items ∙ map-append (λ name. name.now) c.loop-json.names.items (c.in_ok-name.name ∷ []) in
    step_more (λ json. view json) (dry_name c.args.metrics.now) c.args.list.now c.loop-json.json-index earlier _ c.json-item.result c.in_ok-name.name.now (map (λ name. name.now) c.push.new.self.items) c.loop-json-test.true c.json-item.is
    (rw c.deref.ensures.value at c.in_ok-name.ensures) later c.loop-json.invariant

pub returns : goal.returns
returns c = step_end (λ json. view json) (dry_name c.args.metrics.now) c.args.list.now c.loop-json.json-index (map (λ name. name.now) c.loop-json.names.items) _ (map (λ name. name.now) c.loop-json.names.items) c.loop-json-test.false refl c.loop-json.invariant
