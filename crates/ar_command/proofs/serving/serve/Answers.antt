use Rattle.ar_command.proofs.Documents.{is_broken}
use Rattle.ar_command.proofs.serving.serve.Goals as goal

pub returns-clause-work : goal.returns-clause-work
returns-clause-work g c = is_broken c.serve_keeping.ensures.served.keeps c.serve_keeping.ensures.work
