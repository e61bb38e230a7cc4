-- Numbers of names.
use Rattle.std.proofs.Common.{◌≡◌, ◌<◌, ◌≤◌, ℕ, suc, ◌+◌, Bool, true, false, cond, List, [], ◌∷◌, ◌++◌, length, Option, Some, None, Result, Ok, Err, refl, sym, subst, ◌∙◌, ap, take, drop, map, get_or, arith, add-one}
use Rattle.std.specs.Prelude.{String, string_bytes, string_cmp, if◌then◌else◌, option_map, is_none, is_some, IfSome, ⊤}
use Rattle.std.specs.Str.{bytes_eq}
use Rattle.std.specs.BTreeMap.{BTreeMap, Updates, get_by_text}
use Rattle.std.specs.declared.alloc.Global.{Global}
use Rattle.std.proofs.lemmas.Bool.{false_from_ne_true, false≢true}
use Rattle.std.proofs.lemmas.Map.Text.{btree_map_updates_text}
use Rattle.std.proofs.lemmas.Slice.Eq.{bytes_eq-Decides}
use Rattle.std.proofs.lemmas.List.{drop_all, drop_more, map-append, length-map, length-take-le}
use Rattle.std.proofs.Math.Seq.{take-suc}
use Rattle.ar_value.specs.Answer.{◌>>=◌, Unless, holds_or}
use Rattle.ar_document.specs.Document.{is_bundle_memory}
use Rattle.ar_bundle.specs.declared.bundle.MetricPart.{MetricPart}
use Rattle.ar_document.specs.Opening.{are_new, metric_view, names_of, index_of_name}
use Rattle.ar_document.specs.declared.error.BundleError.{BundleError}
use Rattle.ar_document.specs.declared.error.BundleError.TheVariants.{DoubleRun}
use Rattle.ar_document.specs.declared.runs.Run.{Run}
use Rattle.ar_value.proofs.Steps.{leads}
use Rattle.ar_document.specs.Private.Naming.{AreNumbers}
use Rattle.ar_document.specs.Private.Opened.{metric_names}

-- where a name isn't among some, the next may be it
abbrev or_next : Option ℕ → Bool → ℕ → Option ℕ
or_next (Some number) same next = Some number
or_next None same next = if same then Some next else None

number_one_more : (found : Option ℕ) (same : Bool) (count : ℕ) → option_map suc (or_next found same count) ≡ or_next (option_map suc found) same (suc count)
number_one_more (Some number) same count = refl
number_one_more None true count = refl
number_one_more None false count = refl

number_after : (names : List (List ℕ)) (name next : List ℕ) → index_of_name name (names ++ next ∷ []) ≡ or_next (index_of_name name names) (bytes_eq name next) (length names)
number_after [] name next = by_test (bytes_eq name next)
  where
    by_test : (same : Bool) → (if same then Some 0 else None) ≡ or_next None same 0
    by_test same = refl
number_after (first ∷ names) name next = by_test (bytes_eq name first) (number_after names name next)
  where
    by_test : (same : Bool) → index_of_name name (names ++ next ∷ []) ≡ or_next (index_of_name name names) (bytes_eq name next) (length names)
        → (if same then Some 0 else option_map suc (index_of_name name (names ++ next ∷ []))) ≡ or_next (if same then Some 0 else option_map suc (index_of_name name names)) (bytes_eq name next) (suc (length names))
    by_test true after = refl
    by_test false after = ap (option_map suc) after ∙ number_one_more (index_of_name name names) (bytes_eq name next) (length names)

-- texts are compared either way round
swapped : (one other : List ℕ) → bytes_eq one other ≡ bytes_eq other one
swapped one other = by_test (bytes_eq one other) refl
  where
    by_test : (test : Bool) → bytes_eq one other ≡ test → test ≡ bytes_eq other one
    by_test true is = sym ((bytes_eq-Decides other one).1 (sym ((bytes_eq-Decides one other).0 is)))
    by_test false is = sym (false_from_ne_true (bytes_eq other one) (λ same. false≢true (sym is ∙ (bytes_eq-Decides one other).1 (sym ((bytes_eq-Decides other one).0 same)))))

put : (found : Option ℕ) (same : Bool) (number : ℕ) → (same ≡ true → found ≡ None) → cond same (Some number) found ≡ or_next found same number
put found true number new = rw (new refl) refl
put (Some earlier) false number new = refl
put None false number new = refl

-- a name that is new gets the next number
pub new_name : (names : List (List ℕ)) (numbers after : BTreeMap (String Global) ℕ) (key : String Global) (name : List ℕ) (number : ℕ) → AreNumbers names numbers → get_by_text numbers name ≡ None → length names ≡ number
    → string_bytes key ≡ name → Updates string_cmp numbers after key (Some number) → AreNumbers (names ++ name ∷ []) after
new_name names numbers after key name number are new count same updates = record { same = numbered }
  where
    none : (other : List ℕ) → bytes_eq name other ≡ true → index_of_name other names ≡ None
    none other is = subst (λ text. index_of_name text names ≡ None) ((bytes_eq-Decides name other).0 is) (sym (are.same name) ∙ new)

    numbered : (other : List ℕ) → get_by_text after other ≡ index_of_name other (names ++ name ∷ [])
    numbered other =
        btree_map_updates_text (string_bytes key) numbers after (Some number) updates other
        ∙ ap (λ text. cond (bytes_eq text other) (Some number) (get_by_text numbers other)) same
        ∙ ap (cond (bytes_eq name other) (Some number)) (are.same other)
        ∙ put (index_of_name other names) (bytes_eq name other) number (none other)
        ∙ ap (λ test. or_next (index_of_name other names) test number) (swapped name other)
        ∙ ap (or_next (index_of_name other names) (bytes_eq other name)) (sym count)
        ∙ sym (number_after names other name)

stays : (found : Option ℕ) (same : Bool) (count : ℕ) → (same ≡ true → is_some found ≡ true) → found ≡ or_next found same count
stays (Some number) same count old = refl
stays None true count old = absurd (let there = old refl in cc)
stays None false count old = refl

-- a name that an earlier one is the same as has its number
pub old_name : (names : List (List ℕ)) (numbers : BTreeMap (String Global) ℕ) (name : List ℕ) → AreNumbers names numbers → is_some (get_by_text numbers name) ≡ true → AreNumbers (names ++ name ∷ []) numbers
old_name names numbers name are old =
    record { same = λ other. are.same other ∙ stays (index_of_name other names) (bytes_eq other name) (length names) (λ same. subst (λ text. is_some (index_of_name text names) ≡ true) (sym ((bytes_eq-Decides other name).0 same)) (rw (are.same name) at old)) ∙ sym (number_after names other name) }

later : (found : Option ℕ) (bound : ℕ) → IfSome found (λ n. n < bound) → IfSome (option_map suc found) (λ n. n < suc bound)
later (Some n) bound inside = omega (arith, inside)
later None bound inside = tt

-- a number that is found is below the number of names
pub number_inside : (name : List ℕ) (names : List (List ℕ)) → IfSome (index_of_name name names) (λ n. n < length names)
number_inside name [] = tt
number_inside name (first ∷ names) = by_test (bytes_eq name first) (later (index_of_name name names) (length names) (number_inside name names))
  where
    by_test : (same : Bool) → IfSome (option_map suc (index_of_name name names)) (λ n. n < suc (length names)) → IfSome (if same then Some 0 else option_map suc (index_of_name name names)) (λ n. n < suc (length names))
    by_test true after = omega arith
    by_test false after = after

pub run_inside : (runs : List Run) (name : List ℕ) (n : ℕ) → index_of_name name (names_of runs) ≡ Some n → n < length runs
run_inside runs name n is =
    let inside = number_inside name (names_of runs) in
    let below : n < length (names_of runs) = rw is at inside in
    rw (length-map runs (λ run. run.name)) at below

-- ---- runs, one after another

-- whether a run's name is new
abbrev is_new : (names : List (List ℕ)) (run : Run) → Result ⊤ BundleError
is_new names run = holds_or (DoubleRun (length names)) (is_none (index_of_name run.name names))

module _ (runs : List Run) (i : ℕ) (run : Run) (inside : i < length runs) (is : run ≡ get_or runs i run) where
  pub names_longer : names_of (take (suc i) runs) ≡ names_of (take i runs) ++ run.name ∷ []
  names_longer = ap names_of (take-suc runs i run inside ∙ ap (λ (last : Run). take i runs ++ last ∷ []) (sym is)) ∙ map-append (λ run. run.name) (take i runs) (run ∷ [])

  next : are_new (names_of (take i runs)) (names_of (drop i runs)) ≡ (is_new (names_of (take i runs)) run >>= λ new. are_new (names_of (take i runs) ++ run.name ∷ []) (names_of (drop (i + 1) runs)))
  unfolding are_new
  next = ap (λ rest. are_new (names_of (take i runs)) (names_of rest)) (drop_more runs i run inside ∙ ap (λ (first : Run). first ∷ drop (i + 1) runs) (sym is))

  -- as many names are before it as its number says
  pub names_before : length (names_of (take i runs)) ≡ i
  names_before = length-map (take i runs) (λ run. run.name) ∙ length-take-le i runs (omega (arith, inside))

  numbered : is_new (names_of (take i runs)) run ≡ holds_or (DoubleRun i) (is_none (index_of_name run.name (names_of (take i runs))))
  numbered = ap (λ (number : ℕ). holds_or (DoubleRun number) (is_none (index_of_name run.name (names_of (take i runs))))) names_before

  pub next_numbers : (after : BTreeMap (String Global) ℕ) → AreNumbers (names_of (take i runs) ++ run.name ∷ []) after → AreNumbers (names_of (take (i + 1) runs)) after
  next_numbers after are = subst (λ names. AreNumbers names after) (sym (ap (λ n. names_of (take n runs)) (add-one i) ∙ names_longer)) are

  pub next_new : (all : Result ⊤ BundleError) → holds_or (DoubleRun i) (is_none (index_of_name run.name (names_of (take i runs)))) ≡ Ok tt → are_new (names_of (take i runs)) (names_of (drop i runs)) ≡ all → are_new (names_of (take (i + 1) runs)) (names_of (drop (i + 1) runs)) ≡ all
  next_new all new so_far =
      ap (λ names. are_new names (names_of (drop (i + 1) runs))) (ap (λ n. names_of (take n runs)) (add-one i) ∙ names_longer)
      ∙ sym (ap (λ answer. answer >>= λ new. are_new (names_of (take i runs) ++ run.name ∷ []) (names_of (drop (i + 1) runs))) (numbered ∙ new))
      ∙ sym next ∙ so_far

  pub not_new : (all : Result ⊤ BundleError) (refusal : BundleError) → Unless (is_bundle_memory refusal) (holds_or (DoubleRun i) (is_none (index_of_name run.name (names_of (take i runs)))) ≡ Err refusal) → are_new (names_of (take i runs)) (names_of (drop i runs)) ≡ all → Unless (is_bundle_memory refusal) (all ≡ Err refusal)
  not_new all refusal old so_far =
      leads (is_bundle_memory refusal) (λ refused. sym so_far ∙ next ∙ ap (λ answer. answer >>= λ new. are_new (names_of (take i runs) ++ run.name ∷ []) (names_of (drop (i + 1) runs))) (numbered ∙ refused)) old

pub all_new : (runs : List Run) (i : ℕ) (all : Result ⊤ BundleError) → length runs ≤ i → are_new (names_of (take i runs)) (names_of (drop i runs)) ≡ all → all ≡ Ok tt
unfolding are_new
all_new runs i all past so_far = sym so_far ∙ ap (λ rest. are_new (names_of (take i runs)) (names_of rest)) (drop_all i runs past)

-- ---- metrics, one after another

module _ (metrics : List MetricPart) (i : ℕ) (metric : MetricPart) (inside : i < length metrics) (is : metric ≡ get_or metrics i metric) where
  metrics_longer : metric_names (map metric_view (take (i + 1) metrics)) ≡ metric_names (map metric_view (take i metrics)) ++ metric.name ∷ []
  metrics_longer =
      ap (λ n. metric_names (map metric_view (take n metrics))) (add-one i)
      ∙ ap (λ some. metric_names (map metric_view some)) (take-suc metrics i metric inside ∙ ap (λ (last : MetricPart). take i metrics ++ last ∷ []) (sym is))
      ∙ ap metric_names (map-append metric_view (take i metrics) (metric ∷ []))
      ∙ map-append (λ metric. metric.name) (map metric_view (take i metrics)) (metric_view metric ∷ [])

  pub metrics_before : length (metric_names (map metric_view (take i metrics))) ≡ i
  metrics_before = length-map (map metric_view (take i metrics)) (λ metric. metric.name) ∙ length-map (take i metrics) metric_view ∙ length-take-le i metrics (omega (arith, inside))

  pub next_metric : (after : BTreeMap (String Global) ℕ) → AreNumbers (metric_names (map metric_view (take i metrics)) ++ metric.name ∷ []) after → AreNumbers (metric_names (map metric_view (take (i + 1) metrics))) after
  next_metric after are = subst (λ names. AreNumbers names after) (sym metrics_longer) are
