use Rattle.std.proofs.Common.{arith, rules}
use Rattle.std.proofs.lemmas.Grind.{common_steps}
use Rattle.ar_board.proofs.cell.kept_run.KeptRun.push.Goals as goal

pub overflow_add-index_mut : goal.overflow_add-index_mut
overflow_add-index_mut c = grind (arith, common_steps)

pub returns : goal.returns
returns c =
    record {
      run = c.append-effect.ensures;
      place = search rules;
      author = search rules;
      posts = grind (arith, common_steps);
      author_capacity = search rules;
    }
