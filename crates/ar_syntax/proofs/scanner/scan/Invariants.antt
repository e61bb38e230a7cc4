use Rattle.std.proofs.Common.{◌≡◌, ◌-◌, ◌≤◌, false, drop, length}
use Rattle.std.specs.Str.{IsCharBoundary}
use Rattle.ar_syntax.specs.Tokens.{tokens_after}
use Rattle.ar_syntax.proofs.Scans.{with_tokens}
use Rattle.ar_syntax.proofs.scanner.scan.Given as goal

-- the tokens so far, with those of the bytes that are left after them, are all tokens
abbrev pub invariant-loop-at : goal.invariant-loop-at
invariant-loop-at l = record {
  in_range : l.at ≤ length l.text;
  boundary : IsCharBoundary l.text l.at;
  so_far : with_tokens l.tokens.items (tokens_after 0 l.at l.field (drop l.at l.text)) ≡ tokens_after 0 0 false l.text;
}

abbrev pub decreases-loop-at : goal.decreases-loop-at
decreases-loop-at l = length l.text - l.at
