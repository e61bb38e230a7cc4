use Rattle.ar_diagnostic.specs.DiagnosticData.{refusal_data}
use Rattle.ar_diagnostic.proofs.data.refusal_object.Goals as goal

pub returns : goal.returns
unfolding refusal_data
returns c =
    rw (← c.in_ok-line.ensures, ← c.as_str.ensures.value)
    (c.finish.ensures _ (c.put_count.ensures _ (c.put.ensures _ _ c.new-object.ensures c.diagnostic_json.ensures)))
