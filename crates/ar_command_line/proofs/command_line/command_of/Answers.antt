use Rattle.std.proofs.Common.{◌∙◌, sym, rules}
use Rattle.std.proofs.lemmas.Result.{err_from_is_err_and}
use Rattle.clap.specs.Words.{app_of}
use Rattle.ar_command_line.specs.CommandLine.{texts_of}
use Rattle.ar_command_line.proofs.Faults.{answers, same_error, refused_words}
use Rattle.ar_command_line.proofs.command_line.command_of.Goals as goal

pub returns-in_err-matches : goal.returns-in_err-matches
returns-in_err-matches c =
    let error = err_from_is_err_and c.from_residual-in_err-matches.result c.from_residual-in_err-matches.ensures.1 in
    record {
      named = search rules;
      bounds = search rules;
      ordered_bounds = search rules;
      words = λ answer.
          let is_words = same_error _ _ (sym error.1 ∙ answer) in
          refused_words (app_of c.in_ok-command_line.command_line) (texts_of c.args.words.now) c.in_err-matches.field-0.0 c.in_ok-command_line.ensures
          c.in_err-matches.ensures.kinds (sym error.2 ∙ is_words);
      workers = search rules;
      event = search rules;
      output = search rules;
      conflict = search rules;
      several = search rules;
    }

pub returns : goal.returns
returns c =
    answers (app_of c.in_ok-command_line.command_line) (texts_of c.args.words.now) c.in_ok-matches.matches c.command_named.result c.in_ok-command_line.ensures
    c.in_ok-matches.ensures.kinds c.in_ok-matches.ensures.matches c.command_named.ensures
