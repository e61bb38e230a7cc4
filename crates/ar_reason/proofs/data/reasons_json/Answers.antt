use Rattle.std.proofs.Common.{refl}
use Rattle.serde_json.specs.View.{view}
use Rattle.ar_object.proofs.Texts.{last, object_is, then, value_written}
use Rattle.ar_reason.proofs.Objects.{reasons_flat}
use Rattle.ar_reason.specs.Reason.{reasons_of}
use Rattle.ar_reason.proofs.data.reasons_json.Goals as goal

pub returns : goal.returns
returns c =
    let object = object_is c.begin_object.ensures (then c.in_ok-put_runs.ensures (then c.put_count.ensures (last c.end_object.ensures))) refl in
    c.finish.ensures _ (value_written c.new-json.ensures object) (reasons_flat (reasons_of (view c.args.document.now) c.args.bundle.now c.args.chosen c.args.finished.now.histories))
