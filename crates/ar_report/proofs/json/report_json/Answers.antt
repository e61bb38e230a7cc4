use Rattle.std.proofs.Common.{map, refl}
use Rattle.ar_bundle.specs.Lawful.{numbers_of}
use Rattle.ar_facts.proofs.Objects.{report_flat}
use Rattle.ar_facts.specs.Facts.{report_facts}
use Rattle.ar_object.proofs.Texts.{last, object_is, then, value_written}
use Rattle.ar_report.proofs.json.report_json.Goals as goal

pub returns : goal.returns
returns c =
    let object = object_is c.begin_object.ensures (then c.put_runs.ensures (then c.put_count.ensures (last c.end_object.ensures))) refl in
    c.finish.ensures _ (value_written c.new-json.ensures object) (report_flat (report_facts c.args.bundle.now (map numbers_of c.args.finished.now.histories)))
