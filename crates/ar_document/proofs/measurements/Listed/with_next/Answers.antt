use Rattle.std.proofs.Common.{sym, subst, arith}
use Rattle.ar_document.specs.Private.Measured.{HasRead}
use Rattle.ar_document.proofs.Measuring.{entry_next, fault_stays, found_same, if_ok, one_too_many, some_found}
use Rattle.ar_document.proofs.measurements.Listed.with_next.Goals as goal

pub returns-then-self-eq0-clause-read : goal.returns-then-self-eq0-clause-read
returns-then-self-eq0-clause-read c =
    if_ok c.with_passed.result
    (λ later read. some_found _ _ read.0 _ read.1 (λ done has. subst (HasRead c.args.opened.now _) (sym read.2) (one_too_many c.args.opened.now done read.0 c.args.self has (omega arith))))
    c.with_passed.ensures.read

pub returns-in_ok-entries-in-Ok-clause-read : goal.returns-in_ok-entries-in-Ok-clause-read
returns-in_ok-entries-in-Ok-clause-read c =
    let entries = c.in_ok-entries-in-Ok in
    found_same _ _ _ _
    (λ made gives done has. entry_next c.args.opened.now done made c.args.self has c.in-Ok.entries entries.entries c.in-Ok.is (omega arith) (rw c.in-Ok.entries-is at gives) (rw c.in-Ok.entries-is at entries.ensures.each))
    entries.ensures.read

pub returns-in-Err-clause-read : goal.returns-in-Err-clause-read
returns-in-Err-clause-read c =
    if_ok c.with_passed-in-Err.result
    (λ later read. some_found _ _ read.0 _ read.1 (λ done has. subst (HasRead c.args.opened.now _) (sym read.2) (fault_stays c.args.opened.now done read.0 c.args.self has c.in-Err.fault c.in-Err.is (omega arith))))
    c.with_passed-in-Err.ensures.read
