use Rattle.ar_object.proofs.Texts.{named}
use Rattle.ar_quote.proofs.Appended.{if_ok}
use Rattle.ar_reason.proofs.data.put_misfit.Goals as goal

pub returns : goal.returns
returns c =
    let writes = c.write_misfit.ensures in
    rw c.in-Misfit.is (if_ok c.write_misfit.result (λ adds. named c.put_key.ensures adds) (rw (c.deref.ensures, c.in_ok-pointer.ensures) at writes))
