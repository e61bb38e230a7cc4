use Rattle.std.proofs.Common.{◌≡◌, [], drop, take}
use Rattle.ar_document.specs.Opening.{are_new, names_of}
use Rattle.ar_document.specs.Private.Naming.{AreNumbers}
use Rattle.ar_document.proofs.runs.numbers_of.Given as goal

-- the names so far are new, and have their numbers
abbrev pub invariant-loop-number : goal.invariant-loop-number
invariant-loop-number l = record {
  new : are_new (names_of (take l.number l.runs)) (names_of (drop l.number l.runs)) ≡ are_new [] (names_of l.runs);
  numbers : AreNumbers (names_of (take l.number l.runs)) l.numbers;
}
