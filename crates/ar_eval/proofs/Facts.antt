-- Worked documents, computed by the definitions alone.
use Rattle.std.proofs.Common.{◌≡◌, ℕ, Bool, true, false, List, Option, Some, None, Result, Ok, Err, refl}
use Rattle.std.specs.Result.{result_err}
use Rattle.std.specs.Prelude.{codes}
use Rattle.serde_json.specs.Data.{Data, array, boolean, number, string, object, no_items, no_members, member, unsigned}
use Rattle.ar_value.specs.DecimalText.{decimal_of}
use Rattle.ar_json.specs.Declaration.{shape_of}
use Rattle.ar_value.specs.declared.fault.Fault.TheVariants.{IndexOutOfRange}
use Rattle.ar_json.specs.declared.value_reading.ShapeFault.TheVariants.{WrongKind}
use Rattle.ar_json.specs.declared.shape_reading.ShapeError.TheVariants.{UnknownShape}
use Rattle.ar_syntax.specs.Fault.{fault_of}
use Rattle.ar_syntax.specs.Machine.{parser_step}
use Rattle.ar_syntax.specs.Parse.{parse_of, tree_of}
use Rattle.ar_syntax.specs.Roles.{follows, is_brace, is_group, is_in, field_name_of, begun_by, literal_text}
use Rattle.ar_syntax.specs.Token.{word_of}
use Rattle.ar_syntax.specs.Tokens.{base_of, front_of, number_at_front, sign_at, text_at_front, token_of, tokens_after, tokens_of}
use Rattle.ar_syntax.specs.declared.error.SyntaxError.TheVariants.{LiteralTooFine, Unexpected}
use Rattle.ar_check.specs.declared.error.TypeError.TheVariants.{WrongOperand}
use Rattle.ar_eval.specs.Evaluation.{Prepared, meant, prepared}
use Rattle.ar_value.specs.Answer.{◌>>=◌}
use Rattle.ar_value.specs.declared.fault.Fault.{Fault}
use Rattle.ar_eval.specs.declared.eval.EvalError.{EvalError}
use Rattle.ar_eval.specs.declared.eval.EvalError.TheVariants.{BadDocument, Shape, Misfit}
use Rattle.ar_judge.specs.Saying.{typed_text}
use Rattle.ar_judge.specs.declared.error.BuildCause.{BuildCause}
use Rattle.ar_judge.specs.declared.error.BuildCause.TheVariants.{Grammar, Kinds}

-- what a document's condition means on its value
abbrev said_of : Data → Result (Option (Result Bool Fault)) EvalError
said_of document = prepared document >>= meant

-- the fault of a document's text, if it has one
abbrev fault_in : Result Prepared EvalError → Option BuildCause
fault_in (Ok given) = result_err (typed_text given.shape given.text)
fault_in (Err error) = None

-- a document with these members
abbrev document : List ℕ → Data → Data → Data
document condition shape value = object (member (codes "condition") (string condition) (member (codes "shape") shape (member (codes "value") value no_members)))

success_rate : said_of (document (codes "result >= 0.95") (string (codes "decimal")) (string (codes "0.9523809523809523"))) ≡ Ok (Some (Ok true))
unfolding prepared shape_of parse_of tree_of fault_of parser_step begun_by follows field_name_of literal_text is_in is_group is_brace tokens_of tokens_after front_of token_of number_at_front base_of text_at_front sign_at word_of decimal_of
success_rate = refl

just_below : said_of (document (codes "result >= 0.95") (string (codes "decimal")) (string (codes "0.9499999999"))) ≡ Ok (Some (Ok false))
unfolding prepared shape_of parse_of tree_of fault_of parser_step begun_by follows field_name_of literal_text is_in is_group is_brace tokens_of tokens_after front_of token_of number_at_front base_of text_at_front sign_at word_of decimal_of
just_below = refl

not_rounded : said_of (document (codes "result > 0.5") (string (codes "whole")) (number (unsigned 9223372036854775807))) ≡ Ok (Some (Ok true))
unfolding prepared shape_of parse_of tree_of fault_of parser_step begun_by follows field_name_of literal_text is_in is_group is_brace tokens_of tokens_after front_of token_of number_at_front base_of text_at_front sign_at word_of
not_rounded = refl

unequal : said_of (document (codes "result != false") (string (codes "bool")) (boolean false)) ≡ Ok (Some (Ok false))
unfolding prepared shape_of parse_of tree_of fault_of parser_step begun_by follows field_name_of literal_text is_in is_group is_brace tokens_of tokens_after front_of token_of number_at_front base_of text_at_front sign_at word_of
unequal = refl

no_order : fault_in (prepared (document (codes "result < true") (string (codes "bool")) (boolean true))) ≡ Some (Kinds (WrongOperand 7))
unfolding prepared shape_of parse_of tree_of fault_of parser_step begun_by follows field_name_of literal_text is_in is_group is_brace tokens_of tokens_after front_of token_of number_at_front base_of text_at_front sign_at word_of
no_order = refl

too_fine : fault_in (prepared (document (codes "result > 0.1234567") (string (codes "bool")) (boolean true))) ≡ Some (Grammar (LiteralTooFine 9))
unfolding prepared shape_of parse_of tree_of fault_of parser_step begun_by follows field_name_of literal_text is_in is_group is_brace tokens_of tokens_after front_of token_of number_at_front base_of text_at_front sign_at word_of
too_fine = refl

shape_first : said_of (document (codes "result >") (string (codes "float")) (boolean true)) ≡ Err (Shape UnknownShape)
unfolding prepared shape_of
shape_first = refl

unfinished : fault_in (prepared (document (codes "result >") (string (codes "bool")) (boolean true))) ≡ Some (Grammar (Unexpected 8))
unfolding prepared shape_of parse_of tree_of fault_of parser_step begun_by follows field_name_of literal_text is_in is_group is_brace tokens_of tokens_after front_of token_of number_at_front base_of text_at_front sign_at word_of
unfinished = refl

misfit_last : said_of (document (codes "result > 0") (string (codes "whole")) (string (codes "7"))) ≡ Err (Misfit WrongKind)
unfolding prepared shape_of parse_of tree_of fault_of parser_step begun_by follows field_name_of literal_text is_in is_group is_brace tokens_of tokens_after front_of token_of number_at_front base_of text_at_front sign_at word_of
misfit_last = refl

-- a fault of the condition on a value
rates : Data
rates = object (member (codes "list") (string (codes "decimal")) (member (codes "max") (number (unsigned 10)) no_members))

nothing_measured : said_of (document (codes "result[0] >= 0.95") rates (array no_items)) ≡ Ok (Some (Err IndexOutOfRange))
unfolding prepared rates shape_of parse_of tree_of fault_of parser_step begun_by follows field_name_of literal_text is_in is_group is_brace tokens_of tokens_after front_of token_of number_at_front base_of text_at_front sign_at word_of
nothing_measured = refl

no_object : said_of (string (codes "result")) ≡ Err BadDocument
unfolding prepared
no_object = refl
