use Rattle.ar_json.proofs.NeedsLemmas.{Inner_before}
use Rattle.ar_json.proofs.needs.+needs_of.Given as goal

-- what was examined comes before what is left
abbrev pub invariant-inner_of-loop-index : goal.invariant-inner_of-loop-index
invariant-inner_of-loop-index l = Inner_before l.names l.shapes l.index l.inner.items
