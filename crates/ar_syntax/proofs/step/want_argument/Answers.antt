use Rattle.std.proofs.Common.{map, sym}
use Rattle.ar_tree.specs.Views.{expression_of}
use Rattle.ar_syntax.specs.Private.Frames.{frames_of}
use Rattle.ar_syntax.specs.Roles.{follows}
use Rattle.ar_syntax.proofs.Openers.{argument_begins, empty_call}
use Rattle.ar_syntax.proofs.step.want_argument.Goals as goal

pub returns-then-is_empty_call : goal.returns-then-is_empty_call
returns-then-is_empty_call c =
    empty_call (frames_of c.args.stack.now.items) c.args.at c.args.function c.args.token.now (map expression_of c.args.so_far.items) (follows c.args.token.now) (sym (rw c.deref.ensures.value at c.if-is_empty_call.ensures))

pub returns : goal.returns
returns c =
    argument_begins (frames_of c.args.stack.now.items) (frames_of c.argue.new.stack.items) c.args.at c.args.function c.args.token.now (map expression_of c.args.so_far.items) (follows c.args.token.now) c.argue.result (sym (rw c.deref.ensures.value at c.if-is_empty_call.ensures)) c.argue.ensures
