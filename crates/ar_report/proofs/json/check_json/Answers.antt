use Rattle.std.proofs.Common.{◌∙◌, ap, codes, map, refl, subst}
use Rattle.ar_facts.proofs.Objects.{check_flat}
use Rattle.ar_facts.specs.Facts.{check_facts}
use Rattle.ar_facts.specs.ReportData.{condition_data}
use Rattle.ar_object.proofs.Texts.{last, named, object_is, then, value_written}
use Rattle.ar_object.specs.Object.{array_of}
use Rattle.ar_object.specs.Written.{AddsMember}
use Rattle.ar_report.specs.Private.Shown.{conditions_seen}
use Rattle.ar_report.proofs.json.check_json.Goals as goal

pub returns : goal.returns
returns c =
    let are = ap conditions_seen c.deref.ensures.value ∙ c.in_ok-found.ensures in
    let listed = subst (λ conditions. AddsMember (codes "conditions") (array_of (map condition_data conditions)) c.begin_object.new.self.written c.put_conditions.new.json.written) are c.put_conditions.ensures in
    let object = object_is c.begin_object.ensures (then listed (then (named c.put_key.ensures c.write_most.ensures) (then c.put_count.ensures (last c.end_object.ensures)))) refl in
    c.finish.ensures _ (value_written c.new-json.ensures object) (check_flat (check_facts c.args.bundle.now))
