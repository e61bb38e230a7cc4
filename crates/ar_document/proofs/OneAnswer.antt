-- That a document has one result: a bundle, or one fault.
use Rattle.std.proofs.Common.{◌≡◌, ℕ, zero, suc, List, [], ◌∷◌, take, Some, Result, Ok, Err, sym, subst, inl, inr, ◌∙◌, ap, arith}
use Rattle.std.specs.Prelude.{◌<◌, slice_get}
use Rattle.std.proofs.lemmas.Bool.Decides.{leb_tells}
use Rattle.serde_json.specs.Data.{Data}
use Rattle.ar_manifest.specs.declared.bound.BoundMetric.{BoundMetric}
use Rattle.ar_judge.specs.Verdict.{IsJudge, Judge, RefusesTexts}
use Rattle.ar_judge.specs.declared.error.BuildError.{BuildError}
use Rattle.ar_bundle.specs.Bundle.{Bundle}
use Rattle.ar_bundle.specs.declared.bundle.RunPart.{RunPart}
use Rattle.ar_document.specs.Document.{FollowsJson, IsBundleOf, IsFaultOf, ReadsInput, of_entry, of_opening, of_run}
use Rattle.ar_json.specs.Document.{json_in}
use Rattle.ar_document.specs.Opening.{Metric, Opened}
use Rattle.ar_document.specs.Parts.{AreJudges, HaveParts, IsPart, RefusesMetric, RefusesRun, RefusesRuns}
use Rattle.ar_document.specs.declared.error.BundleError.{BundleError}
use Rattle.ar_document.specs.declared.error.BundleError.TheVariants.{Bind, Build}
use Rattle.ar_json.specs.declared.document.JsonError.{JsonError}
use Rattle.ar_document.specs.declared.runs.Run.{Run}
use Rattle.ar_judge.proofs.OneCause.{judged_alone, one_error}

-- ---- items and their positions

-- an item before the end of what is taken is in it
kept : {A : Type 0} (xs : List A) (end index : ℕ) (x : A) → index < end → slice_get xs index ≡ Some x → slice_get (take end xs) index ≡ Some x
kept [] end index x less is = absurd cc
kept (first ∷ xs) zero index x less is = absurd (omega arith)
kept (first ∷ xs) (suc end) zero x less is = is
kept (first ∷ xs) (suc end) (suc index) x less is = kept xs end index x (omega arith) is

-- of two positions one is the lower, or they are the same
data Order (one other : ℕ) : Type 0 where
  below : one < other → Order one other
  above : other < one → Order one other
  equal : one ≡ other → Order one other

ordered : (one other : ℕ) → Order one other
ordered one other = elim (leb_tells one other) [
  | inr w ↦ above w.1
  | inl w ↦ elim (leb_tells other one) [
    | inr v ↦ below v.1
    | inl v ↦ equal (omega arith)
  ]
]

-- ---- the metrics of a run

record Judged (metric : Metric) (own : BoundMetric) : Type 0 where
  judge : Judge
  is : IsJudge metric.shape own.success_condition own.failure_condition judge

judged_at : (metrics : List Metric) (bound : List BoundMetric) (judges : List Judge) (index : ℕ) (metric : Metric) (own : BoundMetric) → AreJudges metrics bound judges
    → slice_get metrics index ≡ Some metric → slice_get bound index ≡ Some own → Judged metric own
judged_at [] bound judges index metric own are metric_is own_is = absurd cc
judged_at (first ∷ metrics) [] judges index metric own are metric_is own_is = absurd are
judged_at (first ∷ metrics) (next ∷ bound) [] index metric own are metric_is own_is = absurd are
judged_at (first ∷ metrics) (next ∷ bound) (judge ∷ judges) zero metric own are metric_is own_is =
    let metric_same : first ≡ metric = cc in
    let own_same : next ≡ own = cc in
    record { judge = judge; is = subst (λ (m : Metric). IsJudge m.shape own.success_condition own.failure_condition judge) metric_same (subst (λ (o : BoundMetric). IsJudge first.shape o.success_condition o.failure_condition judge) own_same are.0) }
judged_at (first ∷ metrics) (next ∷ bound) (judge ∷ judges) (suc index) metric own are metric_is own_is = judged_at metrics bound judges index metric own are.1 metric_is own_is

-- all metrics are judged, or one is refused
metric_alone : (opened : Opened) (run : Run) (bound : List BoundMetric) (judges : List Judge) (number : ℕ) (error : BuildError) (refused : RefusesMetric opened run number error)
    → refused.bound ≡ bound → AreJudges opened.metrics bound judges → ⊥
metric_alone opened run bound judges number error refused same are =
    let judged = judged_at opened.metrics bound judges number refused.metric refused.own are refused.metric_is (subst (λ (b : List BoundMetric). slice_get b number ≡ Some refused.own) same refused.own_is) in
    judged_alone refused.metric.shape refused.own.success_condition refused.own.failure_condition judged.judge error refused.not_memory judged.is refused.refused

same_bound : (opened : Opened) (run : Run) (number other_number : ℕ) (error other : BuildError) (one : RefusesMetric opened run number error) (two : RefusesMetric opened run other_number other) → one.bound ≡ two.bound
same_bound opened run number other_number error other one two =
    let is = one.is_bound in
    let also = two.is_bound in
    cc

-- no metric before the one that is refused is refused
not_before : (opened : Opened) (run : Run) (number later : ℕ) (error other : BuildError) → number < later → RefusesMetric opened run number error → RefusesMetric opened run later other → ⊥
not_before opened run number later error other less one two =
    let same = same_bound opened run number later error other one two in
    let own_is = subst (λ (b : List BoundMetric). slice_get b number ≡ Some one.own) same one.own_is in
    let judged = judged_at (take later opened.metrics) (take later two.bound) two.earlier number one.metric one.own two.are_judges
    (kept opened.metrics later number one.metric less one.metric_is) (kept two.bound later number one.own less own_is) in
    judged_alone one.metric.shape one.own.success_condition one.own.failure_condition judged.judge error one.not_memory judged.is one.refused

one_metric : (opened : Opened) (run : Run) (number : ℕ) (error other : BuildError) → RefusesMetric opened run number error → RefusesMetric opened run number other → error ≡ other
one_metric opened run number error other one two =
    let same = same_bound opened run number number error other one two in
    let own_is = one.own_is in
    let also_own = two.own_is in
    let metric_is = one.metric_is in
    let also_metric = two.metric_is in
    let owns : two.own ≡ one.own = cc in
    let metrics : two.metric ≡ one.metric = cc in
    let refused = subst (λ (m : Metric). RefusesTexts m.shape one.own.success_condition one.own.failure_condition other) metrics
    (subst (λ (o : BoundMetric). RefusesTexts two.metric.shape o.success_condition o.failure_condition other) owns two.refused) in
    one_error one.metric.shape one.own.success_condition one.own.failure_condition error other one.not_memory two.not_memory one.refused refused

same_metric : (opened : Opened) (run : Run) (number other_number : ℕ) (error other : BuildError) → RefusesMetric opened run number error → RefusesMetric opened run other_number other
    → (number ≡ other_number) × (error ≡ other)
same_metric opened run number other_number error other one two = elim (ordered number other_number) [
  | below less ↦ absurd (not_before opened run number other_number error other less one two)
  | above less ↦ absurd (not_before opened run other_number number other error less two one)
  | equal is ↦ (is, one_metric opened run number error other one (subst (λ (n : ℕ). RefusesMetric opened run n other) (sym is) two))
]

-- ---- runs

part_alone : (opened : Opened) (run : Run) (part : RunPart) (number : ℕ) (error : BundleError) → IsPart opened run part → RefusesRun opened number run error → ⊥
part_alone opened run part number (Bind named error) is refused =
    let bound = is.is_bound in
    let unbound = refused.1 in
    cc
part_alone opened run part number (Build named metric error) is refused =
    let bound = is.is_bound in
    let also = refused.1.is_bound in
    let same : refused.1.bound ≡ is.bound = cc in
    metric_alone opened run is.bound part.judges metric error refused.1 same is.judges
part_alone opened run part number _ is refused = refused

record HasPart (opened : Opened) (run : Run) : Type 0 where
  part : RunPart
  is : IsPart opened run part

part_at : (opened : Opened) (runs : List Run) (parts : List RunPart) (index : ℕ) (run : Run) → HaveParts opened runs parts → slice_get runs index ≡ Some run → HasPart opened run
part_at opened [] parts index run are is = absurd cc
part_at opened (first ∷ runs) [] index run are is = absurd are
part_at opened (first ∷ runs) (part ∷ parts) zero run are is =
    let same : first ≡ run = cc in
    record { part = part; is = subst (λ (r : Run). IsPart opened r part) same are.0 }
part_at opened (first ∷ runs) (part ∷ parts) (suc index) run are is = part_at opened runs parts index run are.1 is

-- all runs have their parts, or one is refused
parts_alone : (opened : Opened) (parts : List RunPart) (error : BundleError) → HaveParts opened opened.runs parts → RefusesRuns opened error → ⊥
parts_alone opened parts error are refused =
    let found = part_at opened opened.runs parts refused.number refused.run are refused.run_is in
    part_alone opened refused.run found.part refused.number error found.is refused.refused

-- no run before the one that is refused is refused
none_before : (opened : Opened) (error other : BundleError) (one : RefusesRuns opened error) (two : RefusesRuns opened other) → one.number < two.number → ⊥
none_before opened error other one two less =
    let found = part_at opened (take two.number opened.runs) two.earlier one.number one.run two.are_parts (kept opened.runs two.number one.number one.run less one.run_is) in
    part_alone opened one.run found.part one.number error found.is one.refused

one_run : (opened : Opened) (number : ℕ) (run : Run) (error other : BundleError) → RefusesRun opened number run error → RefusesRun opened number run other → error ≡ other
one_run opened number run (Bind named error) (Bind also_named other) one two =
    let first = one.1 in
    let second = two.1 in
    let same : error ≡ other = cc in
    ap (λ n. Bind n error) (one.0 ∙ sym two.0) ∙ ap (λ e. Bind also_named e) same
one_run opened number run (Bind named error) (Build also_named metric other) one two =
    let first = one.1 in
    let second = two.1.is_bound in
    absurd cc
one_run opened number run (Build named metric error) (Bind also_named other) one two =
    let first = one.1.is_bound in
    let second = two.1 in
    absurd cc
one_run opened number run (Build named metric error) (Build also_named other_metric other) one two =
    let same = same_metric opened run metric other_metric error other one.1 two.1 in
    ap (λ n. Build n metric error) (one.0 ∙ sym two.0) ∙ ap (λ m. Build also_named m error) same.0 ∙ ap (λ e. Build also_named other_metric e) same.1
one_run opened number run (Bind named error) _ one two = absurd two
one_run opened number run (Build named metric error) _ one two = absurd two
one_run opened number run _ other one two = absurd one

one_refusal : (opened : Opened) (error other : BundleError) → RefusesRuns opened error → RefusesRuns opened other → error ≡ other
one_refusal opened error other one two = elim (ordered one.number two.number) [
  | below less ↦ absurd (none_before opened error other one two less)
  | above less ↦ absurd (none_before opened other error two one less)
  | equal is ↦
      let first = one.run_is in
      let second = two.run_is in
      let run_same : two.run ≡ one.run = cc in
      one_run opened one.number one.run error other one.refused
      (subst (λ (n : ℕ). RefusesRun opened n one.run other) (sym is) (subst (λ (r : Run). RefusesRun opened two.number r other) run_same two.refused))
]

-- ---- documents

bundle_alone : (document : Data) (bundle : Bundle) (error : BundleError) → IsBundleOf document bundle → IsFaultOf document error → ⊥
bundle_alone document bundle error is (of_opening refused) = let opens = is.opens in cc
bundle_alone document bundle error is (of_run opened opens refused) =
    let also = is.opens in
    let same : is.opened ≡ opened = cc in
    parts_alone opened bundle.runs error (subst (λ (o : Opened). HaveParts o o.runs bundle.runs) same is.runs) refused
bundle_alone document bundle error is (of_entry opened opens parts are refused) =
    let also = is.opens in
    let entries = is.entries in
    let same : is.opened ≡ opened = cc in
    cc

one_fault : (document : Data) (error other : BundleError) → IsFaultOf document error → IsFaultOf document other → error ≡ other
one_fault document error other (of_opening one) (of_opening two) = cc
one_fault document error other (of_opening one) (of_run opened opens two) = absurd cc
one_fault document error other (of_opening one) (of_entry opened opens parts are two) = absurd cc
one_fault document error other (of_run opened opens one) (of_opening two) = absurd cc
one_fault document error other (of_run opened opens one) (of_run also also_opens two) =
    let same : also ≡ opened = cc in
    one_refusal opened error other one (subst (λ (o : Opened). RefusesRuns o other) same two)
one_fault document error other (of_run opened opens one) (of_entry also also_opens parts are two) =
    let same : also ≡ opened = cc in
    absurd (parts_alone opened parts error (subst (λ (o : Opened). HaveParts o o.runs parts) same are) one)
one_fault document error other (of_entry opened opens parts are one) (of_opening two) = absurd cc
one_fault document error other (of_entry opened opens parts are one) (of_run also also_opens two) =
    let same : opened ≡ also = cc in
    absurd (parts_alone also parts other (subst (λ (o : Opened). HaveParts o o.runs parts) same are) two)
one_fault document error other (of_entry opened opens parts are one) (of_entry also also_opens others also_are two) =
    let same : also ≡ opened = cc in
    cc

-- ---- inputs

follows_alone : (read : Result Data JsonError) (bundle : Bundle) (error : BundleError) → FollowsJson read (Ok bundle) → FollowsJson read (Err error) → ⊥
follows_alone (Ok document) bundle error is refused = bundle_alone document bundle error is refused
follows_alone (Err fault) bundle error is refused = cc

pub bundle_or_fault : (input : List ℕ) (bundle : Bundle) (error : BundleError) → ReadsInput input (Ok bundle) → ReadsInput input (Err error) → ⊥
bundle_or_fault input bundle error is refused = follows_alone (json_in input) bundle error is.follows refused.follows

follows_once : (read : Result Data JsonError) (error other : BundleError) → FollowsJson read (Err error) → FollowsJson read (Err other) → error ≡ other
follows_once (Ok document) error other one two = one_fault document error other one two
follows_once (Err fault) error other one two = cc

pub same_fault : (input : List ℕ) (error other : BundleError) → ReadsInput input (Err error) → ReadsInput input (Err other) → error ≡ other
same_fault input error other one two = follows_once (json_in input) error other one.follows two.follows
