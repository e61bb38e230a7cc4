use Rattle.std.proofs.Common.{◌≡◌, ◌++◌, drop, string_bytes}
use Rattle.ar_code.specs.Listing.{lines, listing}
use Rattle.ar_code.proofs.listings.listing.Given as goal

-- the lines so far come before those of the operations that are left
abbrev pub invariant-loop-index : goal.invariant-loop-index
invariant-loop-index l = string_bytes l.out ++ lines l.code l.index (drop l.index l.code.ops) ≡ listing l.code
