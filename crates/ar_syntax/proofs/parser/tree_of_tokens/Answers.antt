use Rattle.std.proofs.Common.{◌≡◌, ℕ, suc, ◌+◌, ◌<◌, ◌≤◌, List, ◌∷◌, length, drop, Result, sym, ◌∙◌, ap, arith, drop-cons, add-one}
use Rattle.std.specs.Prelude.{slice_index_or}
use Rattle.std.proofs.Math.ListN.{drop_of_length-le}
use Rattle.std.proofs.lemmas.Result.{err_from_is_err_and}
use Rattle.ar_value.specs.Answer.{◌>>=◌}
use Rattle.ar_syntax.specs.Machine.{ParserState, parser_step}
use Rattle.ar_syntax.specs.Parse.{state_after, walk}
use Rattle.ar_syntax.specs.Condition.{strict}
use Rattle.ar_syntax.specs.Spelling.{is_syntax_memory}
use Rattle.ar_syntax.specs.Private.Steps.{at_state}
use Rattle.ar_syntax.specs.declared.error.SyntaxError.{SyntaxError}
use Rattle.ar_syntax.specs.declared.token.Token.{Token}
use Rattle.ar_syntax.proofs.Answers.{unless_maps}
use Rattle.ar_syntax.proofs.parser.tree_of_tokens.Goals as goal

-- where the tokens that are left lead, by their first
by_first : (end : ℕ) (state : ParserState) (tokens : List Token) (i : ℕ) (token : Token) → i < length tokens → token ≡ slice_index_or tokens i token
    → walk end state (drop i tokens) ≡ (state_after state token (parser_step strict state token) >>= λ next. walk end next (drop (i + 1) tokens))
by_first end state tokens i token below is =
    rw add-one (ap (walk end state) (drop-cons tokens i token below ∙ ap (λ (first : Token). first ∷ drop (suc i) tokens) (sym is)))

pub returns-in_err-state : goal.returns-in_err-state
returns-in_err-state c =
    let error = err_from_is_err_and c.from_residual.result c.from_residual.ensures.1 in
    rw (error.1, error.2)
    (unless_maps (is_syntax_memory c.in_err-state.field-0.0) _ _ (λ found. c.loop-token.invariant
    ∙ by_first c.args.end (at_state c.loop-token.stack.items c.loop-token.state) c.args.tokens.now c.loop-token.token-index c.token-item.result c.loop-token-test.true c.token-item.is
    ∙ ap (λ (next : Result ParserState SyntaxError). next >>= λ state. walk c.args.end state (drop (c.loop-token.token-index + 1) c.args.tokens.now)) found) c.in_err-state.ensures)

pub loop-token-preserved : goal.loop-token-preserved
loop-token-preserved c =
    c.loop-token.invariant
    ∙ by_first c.args.end (at_state c.loop-token.stack.items c.loop-token.state) c.args.tokens.now c.loop-token.token-index c.token-item.result c.loop-token-test.true c.token-item.is
    ∙ ap (λ (next : Result ParserState SyntaxError). next >>= λ state. walk c.args.end state (drop (c.loop-token.token-index + 1) c.args.tokens.now)) c.in_ok-state.ensures

pub returns : goal.returns
returns c =
    let past : length c.args.tokens.now ≤ c.loop-token.token-index = omega (arith, c.loop-token-test.false) in
    rw (c.loop-token.invariant, drop_of_length-le c.args.tokens.now past) c.ended.ensures
