use Rattle.ar_board.proofs.CoreLaws.{at_rest}
use Rattle.ar_board.proofs.laws.lawful_at_rest.Goals as goal

pub returns : goal.returns
returns c bundle workers places ordered steps is rest = at_rest bundle workers places ordered steps is rest
