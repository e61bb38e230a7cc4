use Rattle.std.proofs.Common.{◌≡◌, length}
use denote.Text.{Utf8}
use denote.Shadow.{shadow}
use Rattle.ar_manifest.specs.Cut.{parts_of}
use Rattle.ar_manifest.specs.Found.{unbound_in}
use Rattle.ar_manifest.proofs.found.unbound_in.Given as goal

-- all references so far have values
abbrev pub invariant-loop-opened : goal.invariant-loop-opened
invariant-loop-opened l = record {
  is_text : shadow (Utf8 l.rest);
  so_far : unbound_in l.scope.arguments.now l.scope.own.now l.scope.metric (parts_of l.rest) ≡ unbound_in l.scope.arguments.now l.scope.own.now l.scope.metric (parts_of l.fn.text);
}

abbrev pub decreases-loop-opened : goal.decreases-loop-opened
decreases-loop-opened l = length l.rest
