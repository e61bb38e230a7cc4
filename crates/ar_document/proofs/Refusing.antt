-- Runs that are refused.
use Rattle.std.proofs.Common.{◌≡◌, ◌<◌, ℕ, List, [], ◌∷◌, ◌++◌, length, take, map, get_or, Some, Ok, refl, sym, ◌∙◌, ap, subst}
use Rattle.std.specs.Prelude.{slice_get, option_map}
use Rattle.std.proofs.Math.Seq.{take-append_seam}
use Rattle.std.proofs.lemmas.List.{take-map}
use Rattle.std.proofs.lemmas.Option.{slice_get_read, slice_get-map}
use Rattle.ar_manifest.specs.Bound.{bound_of}
use Rattle.ar_manifest.specs.declared.bound.BoundMetric.{BoundMetric}
use Rattle.ar_manifest.specs.declared.template.Template.{Template}
use Rattle.ar_judge.specs.Verdict.{Judge}
use Rattle.ar_bundle.specs.declared.bundle.MetricPart.{MetricPart}
use Rattle.ar_bundle.specs.declared.bundle.RunPart.{RunPart}
use Rattle.ar_document.specs.Opening.{Opened, metric_view}
use Rattle.ar_document.specs.Private.Opened.{opened_with}
use Rattle.ar_document.specs.Private.Parts.{RefusesJudge, RefusesJudges}
use Rattle.ar_document.specs.Parts.{AreJudges, HaveParts, RefusesRun, RefusesRuns}
use Rattle.ar_document.specs.declared.error.BundleError.{BundleError}
use Rattle.ar_document.specs.declared.error.BundleError.TheVariants.{Build}
use Rattle.ar_document.specs.declared.runs.Run.{Run}
use Rattle.ar_document.proofs.Growing.{as_many_parts}

-- the conditions of the next metric are refused
pub next_refused : (run : ℕ) (metrics : List MetricPart) (bound : List BoundMetric) (judges : List Judge) (i : ℕ) (metric : MetricPart) (own : BoundMetric) (error : BundleError) → i < length metrics → i < length bound
    → metric ≡ get_or metrics i metric → own ≡ get_or bound i own → AreJudges (map metric_view (take i metrics)) (take i bound) judges → RefusesJudge run i metric own error → RefusesJudges run metrics bound error
next_refused run metrics bound judges i metric own error inside own_inside metric_is own_is are refused = record {
  number = i;
  earlier = judges;
  are_judges = are;
  metric = metric;
  metric_is = slice_get_read metrics (length metrics) i metric refl inside metric_is;
  own = own;
  own_is = slice_get_read bound (length bound) i own refl own_inside own_is;
  refused = refused;
}

-- so their run is refused
pub run_refused : (template : Template) (metrics : List MetricPart) (all : List Run) (number : ℕ) (run : Run) (bound : List BoundMetric) (error : BundleError) → bound_of template run.own ≡ Ok bound → RefusesJudges number metrics bound error
    → RefusesRun (opened_with template metrics all) number run error
run_refused template metrics all number run bound (Build named metric error) is_bound refuses = (
  refuses.refused.0,
  record {
    bound = bound;
    is_bound = is_bound;
    earlier = refuses.earlier;
    are_judges = by_number refuses.number metric refuses.earlier (sym refuses.refused.1) refuses.are_judges;
    metric = metric_view refuses.metric;
    metric_is = slice_get-map metric_view metrics metric ∙ ap (option_map metric_view) (subst (λ n. slice_get metrics n ≡ Some refuses.metric) (sym refuses.refused.1) refuses.metric_is);
    own = refuses.own;
    own_is = subst (λ n. slice_get bound n ≡ Some refuses.own) (sym refuses.refused.1) refuses.own_is;
    not_memory = refuses.refused.2;
    refused = refuses.refused.3;
  },
)
  where
    by_number : (i n : ℕ) (judges : List Judge) → i ≡ n → AreJudges (map metric_view (take i metrics)) (take i bound) judges → AreJudges (take n (map metric_view metrics)) (take n bound) judges
    by_number i n judges same are = rw (take-map metric_view n metrics, ← same) are
run_refused template metrics all number run bound error is_bound refuses = absurd refuses.refused

-- the item after some others
at_end : {A : Type 0} (before : List A) (next : A) (rest : List A) → slice_get (before ++ next ∷ rest) (length before) ≡ Some next
at_end [] next rest = refl
at_end (first ∷ before) next rest = at_end before next rest

-- the next run is refused
pub runs_refused : (opened : Opened) (before rest : List Run) (parts : List RunPart) (run : Run) (error : BundleError) → before ++ run ∷ rest ≡ opened.runs → HaveParts opened before parts → RefusesRun opened (length parts) run error
    → RefusesRuns opened error
runs_refused opened before rest parts run error all are refused =
    let many = as_many_parts opened before parts are in
    record {
      number = length before;
      run = run;
      run_is = subst (λ runs. slice_get runs (length before) ≡ Some run) all (at_end before run rest);
      earlier = parts;
      are_parts = subst (λ runs. HaveParts opened (take (length before) runs) parts) all (rw (take-append_seam before (run ∷ rest)) are);
      refused = subst (λ n. RefusesRun opened n run error) many refused;
    }
