use Rattle.ar_diagnostic.specs.DiagnosticData.{diagnostic_with}
use Rattle.ar_diagnostic.proofs.data.diagnostic_json.Goals as goal

pub returns : goal.returns
unfolding diagnostic_with
returns c =
    rw (← c.expected_of.ensures, ← c.text_of.ensures, ← c.text_of-2.ensures, ← c.as_str.ensures)
    (c.finish.ensures _ (c.put_text-2.ensures _ (c.put-3.ensures _ _ (c.put-2.ensures _ _ (c.put.ensures _ _ (c.put_text.ensures _ (c.put_text_if_there-3.ensures _ (c.put_text_if_there-2.ensures _ (c.put_text_if_there.ensures _ c.new-object.ensures)))) c.place_json.ensures) c.pointer_json.ensures) c.position_json.ensures)))
