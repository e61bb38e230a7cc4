-- Predicates that are the same.
use Rattle.std.proofs.Common.{◌≡◌, ℕ, zero, suc, true, refl, sym, ap, ◌∙◌}
use Rattle.std.proofs.lemmas.Bool.{eqb-true, eq-eqb}
use Rattle.ar_value.specs.Predicates.{is_same, predicate_number}
use Rattle.ar_value.specs.declared.operator.Predicate.{Predicate}
use Rattle.ar_value.specs.declared.operator.Predicate.TheVariants as predicates

abbrev with_number : ℕ → Predicate
with_number zero = predicates.All
with_number (suc zero) = predicates.Any
with_number (suc (suc zero)) = predicates.None
with_number (suc (suc (suc zero))) = predicates.One
with_number (suc (suc (suc (suc zero)))) = predicates.Count
with_number (suc (suc (suc (suc (suc n))))) = predicates.Filter

by_number : (predicate : Predicate) → with_number (predicate_number predicate) ≡ predicate
by_number predicates.All = refl
by_number predicates.Any = refl
by_number predicates.None = refl
by_number predicates.One = refl
by_number predicates.Count = refl
by_number predicates.Filter = refl

pub same_predicate : (predicate other : Predicate) → is_same predicate other ≡ true → predicate ≡ other
same_predicate predicate other e =
    sym (by_number predicate) ∙ ap with_number (eqb-true (predicate_number predicate) (predicate_number other) e) ∙ by_number other

pub itself : (predicate : Predicate) → is_same predicate predicate ≡ true
itself predicate = eq-eqb (predicate_number predicate) (predicate_number predicate) refl
