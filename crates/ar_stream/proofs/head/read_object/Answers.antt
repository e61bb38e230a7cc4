use Rattle.std.proofs.Common.{◌≡◌, [], ◌∷◌, ap, ◌∙◌, arith}
use Rattle.std.proofs.lemmas.Result.{err_from_is_err_and}
use Rattle.json.specs.Lex.{tokens}
use Rattle.json.specs.Reads.{token_of}
use Rattle.json.specs.Token.{Token}
use Rattle.serde_json.specs.Data.{object}
use Rattle.serde_json.specs.Find.{get}
use Rattle.serde_json.proofs.Views.{view-Object}
use Rattle.ar_value.proofs.Steps.{leads}
use Rattle.ar_stream.specs.Error.{is_stream_memory}
use Rattle.ar_stream.specs.Passing.{data_at}
use Rattle.ar_stream.proofs.Whole.{more_after, no_object_at, nothing_read, object_at, whole_read}
use Rattle.ar_stream.proofs.head.read_object.Goals as goal

pub returns-in_err-members-clause-refused : goal.returns-in_err-members-clause-refused
returns-in_err-members-clause-refused c =
    let first : tokens c.args.text.now ≡ Token.begin_object ∷ c.enter_object.new.reader = grind arith in
    let error = err_from_is_err_and c.from_residual-in_err-members.result c.from_residual-in_err-members.ensures.1 in
    rw (error.1, error.2)
    (leads (is_stream_memory c.in_err-members.field-0.0) (λ none. nothing_read c.args.text.now (ap (data_at 127) first ∙ no_object_at c.enter_object.new.reader none)) c.in_err-members.ensures.refused)

pub returns-in-Some-clause-refused : goal.returns-in-Some-clause-refused
returns-in-Some-clause-refused c =
    let first : tokens c.args.text.now ≡ Token.begin_object ∷ c.enter_object.new.reader = grind arith in
    let read = c.in_ok-members.ensures.read in
    more_after c.args.text.now (object read.0) (token_of c.in-Some.field-0) c.next.new.self
    (ap (data_at 127) first ∙ object_at c.enter_object.new.reader _ read.0 (rw (c.in-Some.ensures.value) at read.1))

pub returns-in-None-clause-object : goal.returns-in-None-clause-object
returns-in-None-clause-object c =
    let first : tokens c.args.text.now ≡ Token.begin_object ∷ c.enter_object.new.reader = grind arith in
    let read = c.in_ok-members.ensures.read in
    record {
      document = object read.0;
      is_read = whole_read c.args.text.now (object read.0) (ap (data_at 127) first ∙ object_at c.enter_object.new.reader [] read.0 (rw (c.in-None.ensures.value.0) at read.1));
      keeps = λ name. ap (get name) (view-Object c.in_ok-members.members) ∙ read.2 name;
    }
