use Rattle.std.proofs.Common.{rules, ◌<◌, ◌≤◌, length}
use Rattle.std.proofs.lemmas.Result.{on_ok_weaker}
use Rattle.ar_explain.proofs.Keeping.{line_first, line_other}
use Rattle.ar_explain.specs.Views.{explanation_view, line_view}
use Rattle.ar_explain.proofs.explanation.Explanation.keep.Goals as goal

pub returns-then-len-ge-MOST_AT_EACH_END : goal.returns-then-len-ge-MOST_AT_EACH_END
returns-then-len-ge-MOST_AT_EACH_END c =
    let old = c.args.self.now in
    let full : 500 ≤ length old.lines.items = search rules in
    on_ok_weaker c.keep_last.result (line_other old.lines.items old.last.items old.left_out (line_view c.args.line) (explanation_view c.keep_last.new.self) full) c.keep_last.ensures

pub returns : goal.returns
returns c =
    let old = c.args.self.now in
    let few : length old.lines.items < 500 = search rules in
    line_first old.lines.items c.push.new.self.items old.last.items old.left_out c.args.line few c.in_ok-push.ensures.items
