use Rattle.ar_verify.proofs.OneForm.{decides}
use Rattle.ar_verify.proofs.join.are_of_one_form.Goals as goal

pub returns : goal.returns
returns c = decides _ _ c.is_alike.result c.is_alike.ensures
