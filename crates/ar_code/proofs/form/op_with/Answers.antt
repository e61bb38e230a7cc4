use Rattle.std.proofs.Common.{◌≡◌, ◌-◌, ◌<◌, ℕ, List, Option, Some, None, length, refl, sym, ap, ◌∙◌, arith}
use Rattle.std.specs.List.{slice_get}
use Rattle.std.specs.Option.{option_copied}
use Rattle.std.specs.Slice.{IsItemAt}
use Rattle.std.proofs.lemmas.Option.{slice_get_past, slice_get_read}
use Rattle.ar_op.specs.declared.op.Op.{Op}
use Rattle.ar_code.specs.Decoding.{all_ops}
use Rattle.ar_code.proofs.Ordered.{op_by_index}
use Rattle.ar_code.proofs.form.op_with.Goals as goal

copied : (ops : List Op) (index : ℕ) (op : Option _) → IsItemAt ops index op → option_copied op ≡ slice_get ops index
copied ops index None is = sym (slice_get_past ops index is.3)
copied ops index (Some op) is = sym (slice_get_read ops (length ops) index op.now refl is.3.0 is.1)

pub returns : goal.returns
returns c =
    let positive : 0 < c.args.code = omega (arith, c.from.ensures, c.in_ok-index.ensures) in
    let index : c.in_ok-index.index ≡ c.args.code - 1 = omega (arith, c.from.ensures, c.in_ok-index.ensures) in
    c.copied.ensures ∙ copied all_ops c.in_ok-index.index c.get.result c.get.ensures.lookup ∙ ap (λ (n : ℕ). slice_get all_ops n) index ∙ op_by_index c.args.code positive
