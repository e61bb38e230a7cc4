use Rattle.std.proofs.Common.{◌≡◌, drop}
use Rattle.ar_syntax.specs.Parse.{tree_of, walk}
use Rattle.ar_syntax.specs.Private.Steps.{state_of}
use Rattle.ar_syntax.specs.Private.Frames.{frames_of}
use Rattle.ar_syntax.proofs.parser.tree_of_tokens.Given as goal

-- what is left leads from the state to the tree of all tokens
abbrev pub invariant-loop-token : goal.invariant-loop-token
invariant-loop-token l =
    tree_of l.end l.tokens ≡ walk l.end (state_of (frames_of l.stack.items) l.state) (drop l.token-index l.tokens)
