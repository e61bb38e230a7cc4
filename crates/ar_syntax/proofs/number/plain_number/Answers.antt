use Rattle.std.proofs.Common.{arith}
use Rattle.std.proofs.lemmas.Grind.{common_steps}
use Rattle.std.proofs.lemmas.List.{take_rest}
use Rattle.ar_syntax.proofs.Fronts.{number_in_range}
use Rattle.ar_syntax.proofs.number.plain_number.Goals as goal

pub ended-requires-clause-within : goal.ended-requires-clause-within
ended-requires-clause-within c =
    rw (c.number_len.ensures, c.digits_after_point-fraction.ensures.front, take_rest, c.digits-whole.ensures.front) (number_in_range c.args.bytes.now)

pub slice_bounds-digits_after_point-count : goal.slice_bounds-digits_after_point-count
slice_bounds-digits_after_point-count c = grind (arith, common_steps)

pub slice_bounds-digits_after_point-start : goal.slice_bounds-digits_after_point-start
slice_bounds-digits_after_point-start c = grind (arith, common_steps)

pub returns-in_err-kind : goal.returns-in_err-kind
returns-in_err-kind c = grind (arith, common_steps)

pub returns : goal.returns
returns c = grind (arith, common_steps)
