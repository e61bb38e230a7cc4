use Rattle.std.proofs.Common.{◌≡◌, ◌++◌, length, map, string_bytes, take}
use Rattle.std.specs.List.{AllByRecursion, flat_map}
use Rattle.ar_op.specs.Code.{IsText}
use Rattle.ar_code.specs.Image.{number, string}
use Rattle.ar_code.proofs.image_writing.put_strings.Given as goal

-- the number of texts and the texts so far are written, and they are UTF-8
abbrev pub invariant-loop-text : goal.invariant-loop-text
invariant-loop-text l = (l.out.items ≡ l.fn.out.items ++ (number (length l.texts) ++ flat_map string (map string_bytes (take l.text-index l.texts))))
    × AllByRecursion IsText (map string_bytes (take l.text-index l.texts))
