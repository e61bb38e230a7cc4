use Rattle.std.proofs.Common.{rules, string_bytes}
use Rattle.ar_compile.proofs.Tables.{added, stays}
use Rattle.ar_compile.proofs.table.add_text.Goals as goal

-- the text is there
pub returns-then-number-len-clause-table : goal.returns-then-number-len-clause-table
returns-then-number-len-clause-table c = stays string_bytes c.args.texts.now.items c.args.text.now c.args.number c.requires (search rules)

-- the text comes after the others
pub returns-clause-table : goal.returns-clause-table
returns-clause-table c = added string_bytes c.args.texts.now.items c.push.new.self.items c.in_ok-from_str.field-0 c.args.text.now c.args.number c.requires (search rules) (search rules) (search rules)
