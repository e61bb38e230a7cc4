use Rattle.std.proofs.Common.{◌≡◌, ◌+◌, false, drop}
use Rattle.ar_syntax.specs.Token.{unescaped}
use Rattle.ar_syntax.proofs.Quotes.{with_bytes}
use Rattle.ar_syntax.proofs.quoted.unescaped_bytes.Given as goal

-- the bytes so far, with what those that are left represent, are all
abbrev pub invariant-loop-index : goal.invariant-loop-index
invariant-loop-index l = with_bytes l.value.items (unescaped (l.before + l.index) l.escaped (drop l.index l.bytes)) ≡ unescaped l.before false l.bytes
