use Rattle.ar_diagnostic.specs.DiagnosticData.{place_data}
use Rattle.ar_diagnostic.proofs.data.place_json.Goals as goal

pub returns : goal.returns
unfolding place_data
returns c =
    rw (← c.argument.ensures, ← c.entry.ensures, ← c.excerpt_of.ensures, ← c.field.ensures, ← c.metric.ensures, ← c.offset_of.ensures, ← c.part.ensures, ← c.run.ensures)
    (c.finish.ensures _ (c.put-3.ensures _ _ (c.put_text.ensures _ (c.put_number-2.ensures _ (c.put-2.ensures _ _ (c.put_text_if_there-2.ensures _ (c.put_text_if_there.ensures _ (c.put_number.ensures _ (c.put.ensures _ _ c.new-object.ensures c.item_or_null.ensures)))) c.item_or_null-2.ensures))) c.item_or_null-3.ensures))
