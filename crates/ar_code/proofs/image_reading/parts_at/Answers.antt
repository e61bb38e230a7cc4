use Rattle.std.proofs.Common.{rules, ◌≡◌, Ok, length, map, string_bytes, refl}
use Rattle.std.proofs.lemmas.List.{length-map}
use Rattle.ar_op.specs.Code.{code_of_parts}
use Rattle.ar_code.specs.Decoding.{parts_at, so_many_ops}
use Rattle.ar_code.proofs.Readings.{parts_are_code}
use Rattle.ar_code.proofs.image_reading.parts_at.Goals as goal

pub of_parts-requires : goal.of_parts-requires
unfolding parts_at
of_parts-requires c =
    let texts = map string_bytes c.in_ok-texts.texts.items in
    let names = map string_bytes c.in_ok-names.names.items in
    let ops : so_many_ops c.args.end c.args.version (length c.in_ok-texts.texts.items) (length c.in_ok-names.names.items) c.in_ok-count.count c.in_ok-count.rest.now ≡ Ok (c.in_ok-ops.ops.items, c.in_ok-ops.rest.now) = search rules in
    let read : parts_at c.args.end c.args.version c.args.bytes.now ≡ Ok (code_of_parts c.in_ok-ops.ops.items texts names, c.in_ok-ops.rest.now) =
    rw (c.in_ok-texts.ensures.exact, c.in_ok-names.ensures.exact, c.in_ok-count.ensures.exact, length-map c.in_ok-texts.texts.items string_bytes, length-map c.in_ok-names.names.items string_bytes, ops) refl in
    parts_are_code c.args.end c.args.version c.args.bytes.now (code_of_parts c.in_ok-ops.ops.items texts names, c.in_ok-ops.rest.now) read
