use Rattle.ar_json.proofs.NeedsLemmas.{Required_before}
use Rattle.ar_json.proofs.needs.required_of.Given as goal

-- what was examined comes before what is left
abbrev pub invariant-loop-index : goal.invariant-loop-index
invariant-loop-index l = Required_before l.names l.shapes l.index l.indices.items
