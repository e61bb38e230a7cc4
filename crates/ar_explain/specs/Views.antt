-- What explanations in memory say.
use Rattle.std.specs.Prelude.{map, option_map, string_bytes}
use Rattle.serde_json.specs.View.{view}
use Rattle.ar_tree.specs.Views.{typed_view}
use Rattle.ar_apart.specs.Views.{apart_view}
use Rattle.ar_operand.specs.Failures.{failure_of}
use Rattle.ar_explain.specs.Lines.{Explanation, Line, Outcome, Shown, failed, is_item, passed, unneeded, valued}
use Rattle.ar_explain.specs.declared.explanation.Explanation.{Explanation as ExplanationCode}
use Rattle.ar_explain.specs.declared.explanation.Line.{Line as LineCode}
use Rattle.ar_explain.specs.declared.explanation.Said.{Said as SaidCode}
use Rattle.ar_explain.specs.declared.explanation.Shown.{Shown as ShownCode}
use Rattle.ar_explain.specs.declared.explanation.Said.TheVariants as said

abbrev pub shown_view : ShownCode → Shown
shown_view shown = record { text = string_bytes shown.text; exact = view shown.exact }

abbrev pub said_view : SaidCode → Outcome
said_view (said.Valued shown apart) = valued (shown_view shown) (option_map apart_view apart)
said_view (said.Failed failure on) = failed (failure_of failure) (option_map string_bytes on)
said_view said.Unneeded = unneeded
said_view (said.Item shown) = is_item (shown_view shown)
said_view (said.Passed items held) = passed items held

abbrev pub line_view : LineCode → Line
line_view line =
    record { items = line.items.items; part = typed_view line.part.now; said = said_view line.said }

abbrev pub explanation_view : ExplanationCode → Explanation
explanation_view e = record {
  lines = map line_view e.lines.items;
  left_out = e.left_out;
  last = map line_view e.last.items;
}
