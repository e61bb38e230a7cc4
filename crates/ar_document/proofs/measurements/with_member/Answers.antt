use Rattle.std.proofs.Common.{◌≡◌, ◌∙◌, sym, true≢false}
use Rattle.std.specs.Prelude.{codes}
use Rattle.std.proofs.lemmas.Slice.Eq.{bytes_eq-Decides}
use Rattle.json.proofs.Grammar.{left_some}
use Rattle.ar_stream.specs.Passing.{data_at}
use Rattle.ar_document.proofs.Measuring.{found_same, if_ok, member_given, other_member, some_found}
use Rattle.ar_document.proofs.measurements.with_member.Goals as goal

pub returns-then-eq-clause-read : goal.returns-then-eq-clause-read
returns-then-eq-clause-read c =
    let named = (bytes_eq-Decides c.args.name.now (codes "measurements")).0 (sym c.if-eq.ensures) in
    if_ok c.read_measurements.result
    (λ later read. found_same _ _ _ _ (λ given has earlier before. member_given c.args.opened.now c.args.name.now given later named has earlier) read)
    c.read_measurements.ensures.read

pub returns-clause-read : goal.returns-clause-read
returns-clause-read c =
    let given = left_some (data_at c.args.levels c.args.reader.now) c.pass_value.new.reader c.in_ok-pass_value.ensures.value in
    let other = λ (same : codes "measurements" ≡ c.args.name.now). true≢false (sym ((bytes_eq-Decides c.args.name.now (codes "measurements")).1 (sym same)) ∙ sym c.if-eq.ensures) in
    some_found c.pass_value.new.reader _ given.0 _ given.1 (λ earlier has. other_member c.args.opened.now c.args.name.now given.0 c.args.entries other earlier has)
