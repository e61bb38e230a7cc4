use Rattle.std.proofs.Common.{◌≡◌, ◌++◌, flat_map, string_bytes}
use Rattle.ar_diagnostic.specs.Place.{pointer_character}
use Rattle.ar_diagnostic.proofs.place_text.push_token.Given as goal

-- the characters so far are written
abbrev pub invariant-loop-character : goal.invariant-loop-character
invariant-loop-character l = string_bytes l.out ≡ string_bytes l.initial.out ++ flat_map pointer_character l.yielded
