use Rattle.std.proofs.Common.{sym, ◌∙◌}
use Rattle.serde_json.specs.View.{view}
use Rattle.ar_exact.proofs.Flatness.{flat_has_no_float}
use Rattle.ar_exact.proofs.exact.put_exact.Goals as goal

pub put_json-requires : goal.put_json-requires
put_json-requires c = flat_has_no_float 8 (view c.args.value.now) (sym c.is_flat.ensures ∙ c.if-is_flat.true)
