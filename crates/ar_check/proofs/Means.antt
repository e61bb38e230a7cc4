-- Meanings that have a kind: a value that fits it, or a fault.
use Rattle.std.proofs.Common.{◌≡◌, ℕ, Bool, true, false, Option, Some, None, Result, Ok, Err, IfOk, refl}
use Rattle.std.specs.Prelude.{◌&&◌, if◌then◌else◌}
use Rattle.ar_value.specs.Answer.{◌>>=◌}
use Rattle.ar_value.specs.Fits.{fits}
use Rattle.ar_value.specs.Kind.{Kind, fits_kind, boolean_kind}
use Rattle.ar_value.specs.Shape.{Shape}
use Rattle.ar_value.specs.Value.{Value}
use Rattle.ar_check.specs.Check.{where_wanted}
use Rattle.ar_value.specs.Operators.{Failure, Meaning, faulted, ill_kinded}
use Rattle.ar_tree.specs.Meaning.{mean}
use Rattle.ar_check.specs.Operand.{Operand}
use Rattle.ar_tree.specs.Typed.{Typed}
use Rattle.ar_check.specs.declared.error.TypeError.{TypeError}

-- what is meant has a property, unless it is a fault
abbrev pub Means : {A : Type 0} → (A → Type 0) → Result A Failure → Type 0
Means P (Ok x) = P x
Means P (Err (faulted fault)) = Unit {0}
Means P (Err ill_kinded) = ⊥

-- what is meant fits a kind, unless it is a fault
abbrev pub MeansKind : Kind → Meaning → Type 0
MeansKind kind meaning = Means (λ value. fits_kind value kind ≡ true) meaning

-- an operand's tree means its kind
abbrev pub Sound : Value → Option Value → Operand → Type 0
Sound result here operand = MeansKind operand.kind (mean result here operand.tree)

-- where there is a shape, there is a value that fits it
abbrev pub IsThere : Option Shape → Option Value → Type 0
IsThere (Some shape) (Some value) = fits value shape ≡ true
IsThere (Some shape) None = ⊥
IsThere None value = Unit {0}

-- an operand is a boolean
abbrev pub IsBoolean : Value → Option Value → Operand → Type 0
IsBoolean result here operand = (operand.kind ≡ boolean_kind) × MeansKind boolean_kind (mean result here operand.tree)

-- what a meaning leads to, where each value that it may be leads there
pub means_then : {A B : Type 0} (P : A → Type 0) (Q : B → Type 0) (m : Result A Failure) (f : A → Result B Failure) → Means P m → ((x : A) → P x → Means Q (f x)) → Means Q (m >>= f)
means_then P Q (Ok x) f p step = step x p
means_then P Q (Err (faulted fault)) f p step = tt
means_then P Q (Err ill_kinded) f p step = absurd p

-- what an answer leads to, where each operand that it may be leads there
pub answers : {A B : Type 0} (P : A → Type 0) (Q : B → Type 0) (r : Result A TypeError) (f : A → Result B TypeError) → IfOk r P → ((x : A) → P x → IfOk (f x) Q) → IfOk (r >>= f) Q
answers P Q (Ok x) f p step = step x p
answers P Q (Err e) f p step = tt

-- of what was returned, a property for each value
pub answers_each : {A : Type 0} (V : Value → Type 0) (P : Value → A → Type 0) (r : Result A TypeError) → ((v : Value) → V v → IfOk r (P v)) → IfOk r (λ x. (v : Value) → V v → P v x)
answers_each V P (Ok x) each = each
answers_each V P (Err e) each = tt

-- two tests that hold at once
pub both_hold : (a b : Bool) → (a && b) ≡ true → (a ≡ true) × (b ≡ true)
both_hold true b h = (refl, h)
both_hold false b h = absurd (cc)

-- two tests that hold, at once
pub both : (a b : Bool) → a ≡ true → b ≡ true → (a && b) ≡ true
both true b p q = q
both false b p q = p

-- the one or the other, by a test
pub either_means : (kind : Kind) (test : Bool) (then_branch else_branch : Meaning) → MeansKind kind then_branch → MeansKind kind else_branch → MeansKind kind (if test then then_branch else else_branch)
either_means kind true then_branch else_branch p q = p
either_means kind false then_branch else_branch p q = q

-- what is given where operands are what is required
pub wanted : (result : Value) (here : Option Value) (at : ℕ) (is_wanted : Bool) (tree : Typed) (kind : Kind)
    → (is_wanted ≡ true → MeansKind kind (mean result here tree)) → IfOk (where_wanted at is_wanted tree kind) (Sound result here)
wanted result here at true tree kind h = h refl
wanted result here at false tree kind h = tt

-- a boolean, where operands are what is required
pub boolean_wanted : (result : Value) (here : Option Value) (at : ℕ) (is_wanted : Bool) (tree : Typed) → (is_wanted ≡ true → MeansKind boolean_kind (mean result here tree)) → IfOk (where_wanted at is_wanted tree boolean_kind) (IsBoolean result here)
boolean_wanted result here at true tree h = (refl, h refl)
boolean_wanted result here at false tree h = tt

-- a boolean means its kind
pub is_sound : (result : Value) (here : Option Value) (operand : Operand) → IsBoolean result here operand → Sound result here operand
is_sound result here operand h = rw h.0 h.1
