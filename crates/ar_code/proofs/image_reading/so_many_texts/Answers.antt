use Rattle.std.proofs.Common.{◌≡◌, ◌++◌, ◌∷◌, [], map, string_bytes, arith}
use Rattle.std.proofs.lemmas.Result.{err_from_is_err_and}
use Rattle.std.proofs.lemmas.List.{map_push}
use Rattle.ar_code.specs.Decoding.{so_many_texts}
use Rattle.ar_code.proofs.Loops.{texts_done, texts_end, texts_go_on}
use Rattle.ar_code.proofs.image_reading.so_many_texts.Goals as goal

pub returns-in_err-text-clause-exact : goal.returns-in_err-text-clause-exact
returns-in_err-text-clause-exact c =
    let p = err_from_is_err_and c.from_residual.result c.from_residual.ensures.1 in
    rw (p.1, p.2) (texts_end c.args.end c.in_err-text.field-0.0 (map string_bytes c.loop.texts.items) c.args.count c.loop.counter c.loop.rest.now
    (so_many_texts c.args.end c.args.count c.args.bytes.now) c.loop-test.true c.in_err-text.ensures.exact c.loop.invariant.1)

pub loop-preserved : goal.loop-preserved
loop-preserved c =
    let one : map string_bytes c.push.new.self.items ≡ map string_bytes c.loop.texts.items ++ string_bytes c.in_ok-text.text ∷ [] = rw c.in_ok-push.ensures.items (map_push _ c.loop.texts.items c.in_ok-text.text) in (
      omega (arith, c.loop.invariant.0, c.in_ok-text.ensures.shorter),
      rw one (texts_go_on c.args.end (map string_bytes c.loop.texts.items) c.args.count c.loop.counter c.loop.rest.now c.in_ok-text.after.now (string_bytes c.in_ok-text.text)
          (so_many_texts c.args.end c.args.count c.args.bytes.now) c.loop-test.true c.in_ok-text.ensures.exact c.loop.invariant.1),
    )

pub returns-clause-exact : goal.returns-clause-exact
returns-clause-exact c =
    texts_done c.args.end (map string_bytes c.loop.texts.items) c.args.count c.loop.counter c.loop.rest.now (so_many_texts c.args.end c.args.count c.args.bytes.now) c.loop-test.false c.loop.invariant.1
