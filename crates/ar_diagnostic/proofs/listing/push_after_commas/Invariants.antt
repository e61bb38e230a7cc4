use Rattle.std.proofs.Common.{◌≡◌, ◌++◌, codes, flat_map, string_bytes, take}
use Rattle.ar_quote.specs.Shown.{quoted}
use Rattle.ar_diagnostic.proofs.listing.push_after_commas.Given as goal

-- the names so far are written
abbrev pub invariant-loop-name : goal.invariant-loop-name
invariant-loop-name l = string_bytes l.out ≡ string_bytes l.initial.out ++ flat_map (λ name. codes ", " ++ quoted name) (take l.name-index l.names)
