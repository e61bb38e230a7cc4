use Rattle.std.proofs.Common.{◌≡◌, length, Some, sym, arith}
use Rattle.std.proofs.lemmas.Result.{err_from_is_err_and}
use Rattle.json.specs.Json.{read_key}
use Rattle.json.proofs.Grammar.{read_key-shorter}
use Rattle.serde_json.specs.Data.{no_members}
use Rattle.ar_value.proofs.Steps.{leads}
use Rattle.ar_stream.specs.Error.{is_stream_memory}
use Rattle.ar_document.proofs.Measuring.{member_more, no_member_read, no_name_read, none_given, whole_object}
use Rattle.ar_document.proofs.measurements.read_members.Goals as goal

pub members-init : goal.members-init
members-init c = (length c.args.reader.now, omega arith, λ all is. (no_members, sym is, none_given c.args.opened.now c.new.result c.new.ensures.items))

pub returns-in_err-name-clause-refused : goal.returns-in_err-name-clause-refused
returns-in_err-name-clause-refused c =
    let l = c.members in
    let error = err_from_is_err_and c.from_residual.result c.from_residual.ensures.1 in
    rw (error.1, error.2) (no_name_read c.args.opened.now c.args.levels c.args.reader.now l.reader l.entries l.invariant c.in_err-name.ensures.value)

pub members-preserved : goal.members-preserved
members-preserved c =
    let l = c.members in
    let named : read_key l.reader ≡ Some (Some c.in-Some.name.now, c.next_key.new.self) = grind arith in
    let less = read_key-shorter l.reader _ _ named in
    member_more c.args.opened.now c.args.levels c.args.reader.now l.reader c.next_key.new.self c.with_member.new.reader c.in-Some.name.now l.entries c.in_ok-entries.entries named less c.in_ok-entries.ensures.shorter c.in_ok-entries.ensures.read l.invariant

pub returns-in_err-entries-clause-refused : goal.returns-in_err-entries-clause-refused
returns-in_err-entries-clause-refused c =
    let l = c.members in
    let named : read_key l.reader ≡ Some (Some c.in-Some.name.now, c.next_key.new.self) = grind arith in
    let error = err_from_is_err_and c.from_residual-in_err-entries.result c.from_residual-in_err-entries.ensures.1 in
    rw (error.1, error.2)
    (leads (is_stream_memory c.in_err-entries.field-0.0)
    (λ none. no_member_read c.args.opened.now c.args.levels c.args.reader.now l.reader c.next_key.new.self c.in-Some.name.now l.entries l.invariant named none)
    c.in_err-entries.ensures.refused)

pub returns-clause-read : goal.returns-clause-read
returns-clause-read c =
    let l = c.members in
    whole_object c.args.opened.now c.args.levels c.args.reader.now l.reader c.next_key.new.self l.entries l.invariant (grind arith)
