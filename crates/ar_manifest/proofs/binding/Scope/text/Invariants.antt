use Rattle.std.proofs.Common.{◌≡◌, length}
use denote.Text.{Utf8}
use denote.Shadow.{shadow}
use Rattle.ar_manifest.specs.Binding.{filled}
use Rattle.ar_manifest.specs.Cut.{parts_of}
use Rattle.ar_manifest.specs.Private.Within.{text_within}
use Rattle.ar_manifest.proofs.Filling.{with_kept}
use Rattle.ar_manifest.proofs.binding.Scope.text.Given as goal

-- what is kept so far, with the rest bound at its end, is what is kept of all
abbrev pub invariant-loop-before : goal.invariant-loop-before
invariant-loop-before l = record {
  is_text : shadow (Utf8 l.rest);
  so_far : with_kept l.fn.most l.bound (filled l.self.arguments.now l.self.own.now l.self.metric (parts_of l.rest))
      ≡ text_within l.self.arguments.now l.self.own.now l.self.metric l.fn.most l.fn.text;
}

abbrev pub decreases-loop-before : goal.decreases-loop-before
decreases-loop-before l = length l.rest
