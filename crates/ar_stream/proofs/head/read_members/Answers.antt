use Rattle.std.proofs.Common.{◌≡◌, ◌-◌, length, Some, refl, sym, ap, ◌∙◌, arith}
use Rattle.std.proofs.lemmas.Result.{err_from_is_err_and}
use Rattle.json.specs.Json.{read_key, value}
use Rattle.json.proofs.Grammar.{read_key-shorter}
use Rattle.serde_json.specs.Data.{no_members, put}
use Rattle.serde_json.specs.Find.{get_member}
use Rattle.serde_json.specs.View.{members_view}
use Rattle.ar_value.proofs.Steps.{leads}
use Rattle.ar_stream.specs.Error.{is_stream_memory}
use Rattle.ar_stream.proofs.Kept.{keeps_still, member_read, member_refused, members_read, no_name, nothing_kept}
use Rattle.ar_stream.proofs.head.read_members.Goals as goal

pub members-init : goal.members-init
members-init c = (
  length c.args.reader.now,
  omega arith,
  no_members,
  refl,
  λ name. ap (λ entries. get_member name (members_view entries)) c.new-kept.ensures.empty ∙ sym (nothing_kept c.args.wanted.now name),
)

pub returns-in_err-name-clause-refused : goal.returns-in_err-name-clause-refused
returns-in_err-name-clause-refused c =
    let l = c.members in
    let error = err_from_is_err_and c.from_residual.result c.from_residual.ensures.1 in
    rw (error.1, error.2) (l.invariant.3 ∙ no_name (value c.args.levels) l.invariant.2 l.invariant.0 l.reader c.in_err-name.ensures.value)

pub members-preserved : goal.members-preserved
members-preserved c =
    let l = c.members in
    let named : read_key l.reader ≡ Some (Some c.in-Some.name.now, c.next_key.new.self) = grind arith in
    let less = read_key-shorter l.reader _ _ named in
    let lesser = c.in_ok-read_member.ensures.shorter in
    let read = c.in_ok-read_member.ensures.read in (
      l.invariant.0 - 1,
      omega (arith, l.invariant.1),
      put c.in-Some.name.now read.0 l.invariant.2,
      l.invariant.3
          ∙ member_read (value c.args.levels) l.invariant.2 l.invariant.0 _ l.reader c.next_key.new.self _ read.0 (omega (arith, l.invariant.1)) named read.1,
      rw read.2 (keeps_still c.args.wanted.now c.in-Some.name.now read.0 (members_view l.kept.entries) l.invariant.2 l.invariant.4),
    )

pub returns-in_err-read_member-clause-refused : goal.returns-in_err-read_member-clause-refused
returns-in_err-read_member-clause-refused c =
    let l = c.members in
    let named : read_key l.reader ≡ Some (Some c.in-Some.name.now, c.next_key.new.self) = grind arith in
    let error = err_from_is_err_and c.from_residual-in_err-read_member.result c.from_residual-in_err-read_member.ensures.1 in
    rw (error.1, error.2)
    (leads (is_stream_memory c.in_err-read_member.field-0.0) (λ none. l.invariant.3 ∙ member_refused (value c.args.levels) l.invariant.2 l.invariant.0 _ l.reader c.next_key.new.self named none) c.in_err-read_member.ensures.refused)

pub returns-clause-read : goal.returns-clause-read
returns-clause-read c =
    let l = c.members in (
      l.invariant.2,
      l.invariant.3 ∙ members_read (value c.args.levels) l.invariant.2 l.invariant.0 l.reader c.next_key.new.self l.invariant.1 (grind arith),
      l.invariant.4,
    )
