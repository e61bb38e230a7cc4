use Rattle.std.proofs.Common.{◌≡◌, ◌∙◌, [], ◌∷◌, ◌++◌, ap, append_assoc, arith, length}
use Rattle.std.proofs.lemmas.Grind.{common_steps}
use Rattle.std.proofs.lemmas.Result.{err_from_is_err_and}
use Rattle.std.specs.Vec.Iter.{into_iter_items}
use Rattle.ar_document.specs.Document.{is_bundle_memory}
use Rattle.ar_document.specs.Private.Opened.{opened_with}
use Rattle.ar_document.proofs.Earlier.{of_their_texts}
use Rattle.ar_document.proofs.Growing.{part_more}
use Rattle.ar_document.proofs.Refusing.{runs_refused}
use Rattle.ar_value.proofs.Steps.{leads}
use Rattle.ar_document.proofs.parts.parts_of.Goals as goal

pub part_of-requires-clause-earlier : goal.part_of-requires-clause-earlier
part_of-requires-clause-earlier c = rw c.deref.ensures.value (of_their_texts c.args.template.now c.args.metrics.now c.args.runs.items c.loop-run.yielded c.loop-run.parts.items c.loop-run.invariant.2)

pub returns-in_err-part-clause-refused : goal.returns-in_err-part-clause-refused
returns-in_err-part-clause-refused c =
    let at = c.loop-run in
    let error = err_from_is_err_and c.from_residual-in_err-part.result c.from_residual-in_err-part.ensures.1 in
    let steps : into_iter_items at.run-iterator ≡ c.in-Some.run' ∷ into_iter_items c.next.new.self = c.in-Some.ensures.steps.0 in
    let all : at.yielded ++ c.in-Some.run' ∷ into_iter_items c.next.new.self ≡ c.args.runs.items = rw (← steps) at.invariant.0 in
    let refused = rw c.deref.ensures.value at (c.in_err-part.ensures.refused c.args.runs.items) in
    rw (error.1, error.2)
    (leads (is_bundle_memory c.in_err-part.field-0.0) (runs_refused (opened_with c.args.template.now c.args.metrics.now c.args.runs.items) at.yielded (into_iter_items c.next.new.self) at.parts.items c.in-Some.run' c.in_err-part.field-0.0 all at.invariant.2) refused)

pub loop-run-preserved : goal.loop-run-preserved
loop-run-preserved c =
    let at = c.loop-run in
    let steps : into_iter_items at.run-iterator ≡ c.in-Some.run' ∷ into_iter_items c.next.new.self = c.in-Some.ensures.steps.0 in
    let gone = c.in-Some.ensures.steps.1 in
    let was = at.invariant.1 in
    let short = ap length steps in (
      append_assoc at.yielded (c.in-Some.run' ∷ []) _ ∙ rw (← steps) at.invariant.0,
      omega arith,
      rw c.in_ok-try_push.ensures
          (part_more (opened_with c.args.template.now c.args.metrics.now c.args.runs.items) at.yielded at.parts.items c.in-Some.run' c.in_ok-part.part at.invariant.2 (c.in_ok-part.ensures.part c.args.runs.items)),
    )

pub returns-clause-parts : goal.returns-clause-parts
returns-clause-parts c = grind (arith, common_steps)
