use Rattle.ar_object.proofs.Texts.{list_member}
use Rattle.ar_reason.proofs.data.put_awaited.Goals as goal

pub returns : goal.returns
returns c = list_member c.begin_list.ensures c.write_all_awaited.ensures c.end_list.ensures
