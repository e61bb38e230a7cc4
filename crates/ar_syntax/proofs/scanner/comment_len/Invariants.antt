use Rattle.std.proofs.Common.{◌≡◌, ◌+◌, false, drop}
use Rattle.ar_syntax.specs.Tokens.{comment_end}
use Rattle.ar_syntax.proofs.scanner.comment_len.Given as goal

-- the end is searched in the bytes that are left
abbrev pub invariant-loop-index : goal.invariant-loop-index
invariant-loop-index l = comment_end (2 + l.index) l.star (drop l.index l.inside) ≡ comment_end 2 false l.inside
