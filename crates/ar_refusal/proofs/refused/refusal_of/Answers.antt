use Rattle.std.proofs.Common.{rules}
use Rattle.ar_json.proofs.Documents.{no_json}
use Rattle.ar_refusal.proofs.Diagnosed.{unread_is}
use Rattle.ar_refusal.proofs.refused.refusal_of.Goals as goal

pub returns-in-Err-2 : goal.returns-in-Err-2
returns-in-Err-2 c =
    let none = no_json c.args.input.now (c.in-Err.ensures.err (search rules)) in
    search (rules, unread_is, none)
