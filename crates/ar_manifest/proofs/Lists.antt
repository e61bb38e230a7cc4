-- JSON lists.
use Rattle.std.proofs.Common.{◌≡◌, ◌≤◌, ◌<◌, true, false, List, [], ◌∷◌, length, map, refl, arith, Ok, Err}
use Rattle.std.specs.Prelude.{nat_lt}
use Rattle.std.proofs.lemmas.List.{length-map}
use Rattle.std.proofs.lemmas.Bool.Decides.{nat_tests}
use Rattle.ar_value.specs.Limits.{most_metrics}
use Rattle.serde_json.specs.View.{view}
use Rattle.serde_json.specs.declared.value.Value.{Value}
use Rattle.ar_manifest.specs.Template.{metrics_counted}
use Rattle.ar_manifest.specs.declared.error.ManifestError.TheVariants.{TooManyMetrics}

-- too many metrics
pub counted_many : (list : List Value) → most_metrics < length list → metrics_counted (map (λ json. view json) list) ≡ Err TooManyMetrics
counted_many [] many = absurd (omega arith)
counted_many (json ∷ list) many =
    let longer : nat_lt most_metrics (length (map (λ json. view json) (json ∷ list))) ≡ true = rw (length-map (json ∷ list) (λ json. view json)) (grind (arith, nat_tests)) in
    rw longer refl

-- neither too many metrics nor none
pub counted_some : (list : List Value) → 0 < length list → length list ≤ most_metrics → metrics_counted (map (λ json. view json) list) ≡ Ok (map (λ json. view json) list)
counted_some [] some few = absurd (omega arith)
counted_some (json ∷ list) some few =
    let fewer : nat_lt most_metrics (length (map (λ json. view json) (json ∷ list))) ≡ false = rw (length-map (json ∷ list) (λ json. view json)) (grind (arith, nat_tests)) in
    rw fewer refl
