use Rattle.std.proofs.Common.{refl}
use Rattle.ar_syntax.specs.Private.Frames.{frames_of}
use Rattle.ar_tree.specs.Views.{expression_of}
use Rattle.ar_syntax.proofs.Openers.{no_end}
use Rattle.ar_syntax.proofs.step.end_frame.Goals as goal

pub returns-in-Grouped : goal.returns-in-Grouped
returns-in-Grouped c = rw c.in-Grouped.is (c.end_group.ensures (frames_of c.args.stack.now.items)).0

pub returns-in-Indexed : goal.returns-in-Indexed
returns-in-Indexed c = rw c.in-Indexed.is (c.end_index.ensures (frames_of c.args.stack.now.items))

pub returns-in-Argued : goal.returns-in-Argued
returns-in-Argued c = rw c.in-Argued.is (c.end_argument.ensures.plain (frames_of c.args.stack.now.items))

pub returns-in-Body : goal.returns-in-Body
returns-in-Body c = rw c.in-Body.is (c.end_argument-in-Body.ensures.body (frames_of c.args.stack.now.items))

pub returns-in-Braced : goal.returns-in-Braced
returns-in-Braced c = rw c.in-Braced.is (c.end_braces.ensures (frames_of c.args.stack.now.items))

pub returns-in-RightOf : goal.returns-in-RightOf
returns-in-RightOf c = rw c.in-RightOf.is (no_end (frames_of c.args.stack.now.items) (expression_of c.args.tree.value) c.args.ender _ refl)

pub returns-in-Prefixed : goal.returns-in-Prefixed
returns-in-Prefixed c = rw c.in-Prefixed.is (no_end (frames_of c.args.stack.now.items) (expression_of c.args.tree.value) c.args.ender _ refl)

pub returns : goal.returns
returns c = rw c.in-Else.is (no_end (frames_of c.args.stack.now.items) (expression_of c.args.tree.value) c.args.ender _ refl)
