-- Lists of 1 to 64 runs, and of at most 100,000 entries.
use Rattle.std.proofs.Common.{◌≡◌, ◌≤◌, ◌<◌, true, false, List, [], ◌∷◌, length, map, refl, arith, Ok, Err}
use Rattle.std.specs.Prelude.{nat_lt}
use Rattle.std.proofs.lemmas.List.{length-map}
use Rattle.std.proofs.lemmas.Bool.Decides.{nat_tests}
use Rattle.ar_value.specs.Limits.{most_runs}
use Rattle.ar_limits.specs.Replay.{most_events}
use Rattle.serde_json.specs.View.{view}
use Rattle.serde_json.specs.declared.value.Value.{Value}
use Rattle.ar_document.specs.Entries.{few_entries}
use Rattle.ar_document.specs.Opening.{few_runs}
use Rattle.ar_document.specs.declared.error.BundleError.TheVariants.{Runs, TooManyMeasurements}

pub no_runs : (list : List Value) → length list ≡ 0 → few_runs (map (λ json. view json) list) ≡ Err Runs
no_runs [] none = refl
no_runs (json ∷ list) none = absurd (omega (arith, none))

pub many_runs : (list : List Value) → most_runs < length list → few_runs (map (λ json. view json) list) ≡ Err Runs
many_runs [] many = absurd (omega arith)
many_runs (json ∷ list) many =
    let longer : nat_lt most_runs (length (map (λ json. view json) (json ∷ list))) ≡ true = rw (length-map (json ∷ list) (λ json. view json)) (grind (arith, nat_tests)) in
    rw longer refl

pub some_runs : (list : List Value) → 0 < length list → length list ≤ most_runs → few_runs (map (λ json. view json) list) ≡ Ok (map (λ json. view json) list)
some_runs [] some few = absurd (omega arith)
some_runs (json ∷ list) some few =
    let fewer : nat_lt most_runs (length (map (λ json. view json) (json ∷ list))) ≡ false = rw (length-map (json ∷ list) (λ json. view json)) (grind (arith, nat_tests)) in
    rw fewer refl

pub many_entries : (list : List Value) → most_events < length list → few_entries (map (λ json. view json) list) ≡ Err TooManyMeasurements
many_entries list many =
    let longer : nat_lt most_events (length (map (λ json. view json) list)) ≡ true = rw (length-map list (λ json. view json)) (grind (arith, nat_tests)) in
    rw longer refl

pub few_entries_are : (list : List Value) → length list ≤ most_events → few_entries (map (λ json. view json) list) ≡ Ok (map (λ json. view json) list)
few_entries_are list few =
    let fewer : nat_lt most_events (length (map (λ json. view json) list)) ≡ false = rw (length-map list (λ json. view json)) (grind (arith, nat_tests)) in
    rw fewer refl
