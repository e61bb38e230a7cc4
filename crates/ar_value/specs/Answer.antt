-- An answer: a value, or a refusal.
use Rattle.std.specs.Prelude.{◌≡◌, Bool, true, false, List, [], ◌∷◌, ◌++◌, Option, Some, None, Result, Ok, Err, ⊤}

-- a value leads on, a refusal is kept
infixl 10 ◌>>=◌
abbrev pub ◌>>=◌ : {A B E : Type 0} → Result A E → (A → Result B E) → Result B E
(Ok x) >>= f = f x
(Err e) >>= f = Err e

-- a value that is required
abbrev pub there_or : {A E : Type 0} → E → Option A → Result A E
there_or refusal (Some x) = Ok x
there_or refusal None = Err refusal

-- a fact that has to hold
abbrev pub holds_or : {E : Type 0} → E → Bool → Result ⊤ E
holds_or refusal true = Ok tt
holds_or refusal false = Err refusal

-- what a step makes of each of some items, one after another, each after those that it made before
unfoldable pub each_after : {A B E : Type 0} → (List B → A → Result B E) → List B → List A → Result (List B) E
each_after step earlier [] = Ok earlier
each_after step earlier (item ∷ items) = step earlier item >>= λ made. each_after step (earlier ++ made ∷ []) items

-- both are there and related, or neither is there
abbrev pub BothOrNeither : {A B : Type 0} → (A → B → Type 0) → Option A → Option B → Type 0
BothOrNeither Relates (Some one) (Some other) = Relates one other
BothOrNeither Relates None None = Unit {0}
BothOrNeither Relates (Some one) None = ⊥
BothOrNeither Relates None (Some other) = ⊥

abbrev pub Unless : Bool → Type 0 → Type 0
Unless true P = Unit {0}
Unless false P = P

-- What a function returned, seen by a view, is the defined answer. So is a refusal, unless it is out of memory.
abbrev pub Gives : {X Y E : Type 0} → (E → Bool) → (X → Y) → Result X E → Result Y E → Type 0
Gives is_memory view (Ok x) answer = answer ≡ Ok (view x)
Gives is_memory view (Err e) answer = Unless (is_memory e) (answer ≡ Err e)

-- what is true of what a function returned, unless it is out of memory
abbrev pub UnlessMemory : {X E : Type 0} → (E → Bool) → Result X E → (Result X E → Type 0) → Type 0
UnlessMemory is_memory (Ok x) P = P (Ok x)
UnlessMemory is_memory (Err e) P = Unless (is_memory e) (P (Err e))

-- what is true of a refusal, unless it is out of memory
abbrev pub IfRefused : {X E : Type 0} → (E → Bool) → Result X E → (E → Type 0) → Type 0
IfRefused is_memory (Ok x) P = Unit {0}
IfRefused is_memory (Err e) P = Unless (is_memory e) (P e)

-- Each refusal that is defined is returned: out of memory is never returned instead.
abbrev pub Refuses : {X Y E : Type 0} → Result X E → Result Y E → Type 0
Refuses {E = E} result answer = (refusal : E) → answer ≡ Err refusal → result ≡ Err refusal
