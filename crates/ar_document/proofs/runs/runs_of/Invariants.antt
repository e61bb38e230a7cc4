use Rattle.std.proofs.Common.{◌≡◌, [], drop, map, length}
use Rattle.serde_json.specs.View.{view}
use Rattle.ar_value.specs.Answer.{each_after}
use Rattle.ar_document.specs.Opening.{run_of}
use Rattle.ar_document.specs.declared.runs.Run.{Run}
use Rattle.ar_document.proofs.runs.runs_of.Given as goal

-- the runs so far, with those of the items that are left after them, are all runs
abbrev pub invariant-loop-item : goal.invariant-loop-item
invariant-loop-item l = record {
  made : each_after (λ earlier. run_of) (map (λ (run : Run). run) l.runs.items) (map (λ json. view json) (drop l.item-index l.items)) ≡ each_after (λ earlier. run_of) [] (map (λ json. view json) l.items);
  each : length l.runs.items ≡ l.item-index;
}
