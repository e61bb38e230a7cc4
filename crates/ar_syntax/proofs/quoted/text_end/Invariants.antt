use Rattle.std.proofs.Common.{◌≡◌, false, drop}
use Rattle.ar_syntax.specs.Token.{text_end}
use Rattle.ar_syntax.proofs.quoted.text_end.Given as goal

-- the end is searched in the bytes that are left
abbrev pub invariant-loop-at : goal.invariant-loop-at
invariant-loop-at l = text_end l.quote l.at l.escaped (drop l.at l.bytes) ≡ text_end l.quote 0 false l.bytes
