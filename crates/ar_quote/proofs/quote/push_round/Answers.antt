use Rattle.std.proofs.Common.{◌++◌, string_bytes}
use Rattle.std.specs.Char.{encode_utf8}
use Rattle.std.specs.Str.{chars}
use Rattle.ar_quote.specs.Quote.{quote_end, quoted_round, shown_before, shown_first, token_end}
use Rattle.ar_quote.proofs.Appended.{at_ok, if_ok, seven}
use Rattle.ar_quote.proofs.quote.push_round.Goals as goal

pub returns : goal.returns
unfolding quoted_round
returns c =
    if_ok c.push_str-2.result
    (seven (string_bytes c.args.out.now) (string_bytes c.push_last.new.out) (string_bytes c.push.new.self) (string_bytes c.push_first.new.out) (string_bytes c.push_str.new.self) (string_bytes c.push-2.new.self)
    (string_bytes c.push_first-2.new.out) (string_bytes c.push_str-2.new.self)
    (shown_before (chars c.args.here.before.now)) (encode_utf8 0xAB) (shown_first (chars c.args.here.token.now)) (token_end (chars c.args.here.token.now)) (encode_utf8 0xBB)
    (shown_first (chars c.args.here.after.now)) (quote_end (chars c.args.here.after.now))
    c.in_ok-push_last.ensures c.in_ok-push.ensures.bytes c.in_ok-push_first.ensures (rw (← c.token_end.ensures) c.in_ok-push_str.ensures.bytes) c.in_ok-push-2.ensures.bytes c.in_ok-push_first-2.ensures)
    (at_ok c.push_str-2.result (string_bytes c.push_str-2.new.self) (string_bytes c.push_first-2.new.out ++ quote_end (chars c.args.here.after.now)) (string_bytes c.push_first-2.new.out) (rw (← c.quote_end.ensures) c.push_str-2.ensures.bytes))
