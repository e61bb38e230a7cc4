use Rattle.std.proofs.Common.{◌≡◌, ◌<◌, ◌≤◌, ℕ, false, List, [], ◌∷◌, length, replicate, Ok, Err, refl, ap, ◌∙◌}
use Rattle.std.specs.Prelude.{slice_index_or}
use Rattle.ar_value.specs.View.{shape_view}
use Rattle.ar_op.specs.declared.op.Op.{Op}
use Rattle.ar_op.specs.declared.op.Op.TheVariants.{Push}
use Rattle.ar_op.specs.declared.op.Source.TheVariants.{Bool}
use Rattle.ar_safety.specs.Arrivals.{operands}
use Rattle.ar_verify.specs.Private.Table.{pass_view}
use Rattle.ar_safety.specs.declared.error.Reason.TheVariants.{Unreachable}
use Rattle.ar_verify.proofs.Comes.{all_seen, begins, continues, inside_table, stopped}
use Rattle.ar_verify.proofs.arrivals.find_named.Goals as goal

within : (ops all : List Op) (index : ℕ) → ops ≡ all → index < length ops → index < length all
within ops all index same h = rw same at h

there : (ops all : List Op) (index : ℕ) → ops ≡ all → slice_index_or ops index (Push (Bool false)) ≡ slice_index_or all index (Push (Bool false))
there ops all index same = ap (λ ops. slice_index_or ops index (Push (Bool false))) same

past : (ops all : List Op) (index : ℕ) → ops ≡ all → length ops ≤ index → length all ≤ index
past ops all index same h = rw same at h

pub loop-index-init : goal.loop-index-init
loop-index-init g c =
    begins c.args.code.now (shape_view g.M.ShapeName.shape) _ (c.in_ok-pass.ensures.table ∙ ap (λ ops. Ok (operands [] []) ∷ replicate (length ops) (Err Unreachable)) c.ops-ops.ensures.ops)
    c.in_ok-pass.ensures.depth c.in_ok-pass.ensures.items

pub look_at-requires-clause-targets : goal.look_at-requires-clause-targets
look_at-requires-clause-targets g c =
    inside_table c.args.code.now (shape_view g.M.ShapeName.shape) c.requires.indices c.loop-index.index (pass_view c.loop-index.pass) c.loop-index.invariant _ (Push (Bool false)) c.loop-index.pass.arrived.items refl
    (within _ _ _ c.ops-ops.ensures.ops c.loop-index-test.true) (there _ _ _ c.ops-ops.ensures.ops)

pub returns-in-Err : goal.returns-in-Err
returns-in-Err g c =
    stopped c.args.code.now (shape_view g.M.ShapeName.shape) c.requires.indices c.loop-index.index (pass_view c.loop-index.pass) c.loop-index.invariant _ (Push (Bool false))
    (within _ _ _ c.ops-ops.ensures.ops c.loop-index-test.true) (there _ _ _ c.ops-ops.ensures.ops) c.in-Err.failure c.at.result (pass_view c.look_at.new.self) c.at.ensures c.in-Err.ensures

pub loop-index-preserved : goal.loop-index-preserved
loop-index-preserved g c =
    continues c.args.code.now (shape_view g.M.ShapeName.shape) c.requires.indices c.loop-index.index (pass_view c.loop-index.pass) c.loop-index.invariant _ (Push (Bool false))
    (within _ _ _ c.ops-ops.ensures.ops c.loop-index-test.true) (there _ _ _ c.ops-ops.ensures.ops) (pass_view c.look_at.new.self) c.in_default.ensures

pub returns : goal.returns
returns g c =
    all_seen c.args.code.now (shape_view g.M.ShapeName.shape) c.loop-index.index (pass_view c.loop-index.pass) c.loop-index.invariant (past _ _ _ c.ops-ops.ensures.ops c.loop-index-test.false)
