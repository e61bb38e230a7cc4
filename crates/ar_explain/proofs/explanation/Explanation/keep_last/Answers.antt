use Rattle.std.proofs.Common.{rules, ◌<◌, ◌≤◌, length, map, ap}
use Rattle.std.proofs.lemmas.Result.{on_ok_weaker}
use Rattle.ar_explain.proofs.Keeping.{line_counted, line_last}
use Rattle.ar_explain.specs.Views.{explanation_view, line_view}
use Rattle.ar_explain.proofs.explanation.Explanation.keep_last.Goals as goal

pub returns-then-len-lt-MOST_AT_EACH_END : goal.returns-then-len-lt-MOST_AT_EACH_END
returns-then-len-lt-MOST_AT_EACH_END c =
    let old = c.args.self.now in
    let few : length old.last.items < 500 = search rules in
    on_ok_weaker c.push_last.result (line_last (map line_view old.lines.items) old.left_out old.last.items (line_view c.args.line) (explanation_view c.push_last.new.self) few) c.push_last.ensures

pub returns : goal.returns
returns c =
    let old = c.args.self.now in
    let full : 500 ≤ length old.last.items = search rules in
    on_ok_weaker c.push_last-2.result
    (line_counted old.lines.items old.left_out c.drop_first.new.self.left_out c.drop_first.new.self.lines.items old.last.items c.drop_first.new.self.last.items (line_view c.args.line)
    (explanation_view c.push_last-2.new.self) full (ap (λ lines. lines.items) c.drop_first.ensures.lines) c.drop_first.ensures.left_out c.drop_first.ensures.last) c.push_last-2.ensures
