-- Reading one thing after the other, as a loop does.
use Rattle.std.proofs.Common.{◌≡◌, ℕ, suc, ◌-◌, ◌+◌, ◌<◌, ◌≤◌, Bool, true, false, List, [], ◌∷◌, ◌++◌, Ok, Err, refl, sym, ap, ◌∙◌, append_assoc, arith}
use Rattle.std.proofs.lemmas.List.{append-nil}
use Rattle.ar_value.specs.Answer.{◌>>=◌, Unless}
use Rattle.ar_op.specs.declared.op.Op.{Op}
use Rattle.ar_code.specs.Decoding.{Reading, is_memory, op_at, so_many_ops, so_many_texts, text_at}
use Rattle.ar_code.specs.declared.version.Version.{Version}
use Rattle.ar_code.specs.declared.error.ImageError.{ImageError}
use Rattle.ar_code.proofs.Freely.{unless_any}

-- what was read before, and what is still read
abbrev pub following : {A : Type 0} → List A → Reading (List A) → Reading (List A)
following front read = read >>= λ others. Ok (front ++ others.0, others.1)

regroup : {A : Type 0} (front : List A) (first : A) (read : Reading (List A)) → following front (read >>= λ others. Ok (first ∷ others.0, others.1)) ≡ following (front ++ first ∷ []) read
regroup front first (Ok x) = ap (λ (xs : List _). Ok (xs, x.1)) (simp append_assoc)
regroup front first (Err f) = refl

-- readers of n things of a kind
pub record Reads {A : Type 0} (one : List ℕ → Reading A) (many : ℕ → List ℕ → Reading (List A)) : Type 0 where
  pub none : (bytes : List ℕ) → many 0 bytes ≡ Ok ([], bytes)
  pub more : (n : ℕ) (bytes : List ℕ) → many (suc n) bytes ≡ (one bytes >>= λ first. many n first.1 >>= λ others. Ok (first.0 ∷ others.0, others.1))

continues : {A : Type 0} (one : List ℕ → Reading A) (many : ℕ → List ℕ → Reading (List A)) → Reads one many → (front : List A) (count i : ℕ) (bytes after : List ℕ) (first : A) (total : Reading (List A)) → i < count
    → one bytes ≡ Ok (first, after) → following front (many (count - i) bytes) ≡ total → following (front ++ first ∷ []) (many (count - (i + 1)) after) ≡ total
continues one many reads front count i bytes after first total lt h so_far =
    let k : count - i ≡ suc (count - (i + 1)) = omega arith in
    let step : following front (many (count - i) bytes) ≡ following (front ++ first ∷ []) (many (count - (i + 1)) after) = rw (k, reads.more (count - (i + 1)) bytes, h) (regroup front first (many (count - (i + 1)) after)) in
    sym step ∙ so_far

unless_both : (P Q : Type 0) (m : Bool) → (P → Q) → Unless m P → Unless m Q
unless_both P Q true f p = tt
unless_both P Q false f p = f p

ends : {A : Type 0} (one : List ℕ → Reading A) (many : ℕ → List ℕ → Reading (List A)) → Reads one many → (error : ImageError) (front : List A) (count i : ℕ) (bytes : List ℕ) (total : Reading (List A)) → i < count
    → one bytes ≡ Err error → following front (many (count - i) bytes) ≡ total → total ≡ Err error
ends one many reads error front count i bytes total lt h so_far =
    let k : count - i ≡ suc (count - (i + 1)) = omega arith in
    let step : following front (many (count - i) bytes) ≡ Err error = rw (k, reads.more (count - (i + 1)) bytes, h) refl in
    sym so_far ∙ step

is_done : {A : Type 0} (one : List ℕ → Reading A) (many : ℕ → List ℕ → Reading (List A)) → Reads one many → (front : List A) (count i : ℕ) (bytes : List ℕ) (total : Reading (List A)) → count ≤ i
    → following front (many (count - i) bytes) ≡ total → total ≡ Ok (front, bytes)
is_done one many reads front count i bytes total le so_far =
    let k : count - i ≡ 0 = omega arith in
    let step : following front (many (count - i) bytes) ≡ Ok (front, bytes) = rw (k, reads.none bytes) (ap (λ (xs : List _). Ok (xs, bytes)) (append-nil front)) in
    sym so_far ∙ step

-- ---- operations

pub ops_read : (end : ℕ) (version : Version) (texts names : ℕ) → Reads (op_at end version texts names) (so_many_ops end version texts names)
unfolding so_many_ops
ops_read end version texts names = record { none = λ bytes. refl; more = λ n bytes. refl }

pub ops_go_on : (end : ℕ) (version : Version) (texts names : ℕ) (front : List Op) (count i : ℕ) (bytes after : List ℕ) (first : Op) (total : Reading (List Op)) → i < count → op_at end version texts names bytes ≡ Ok (first, after)
    → following front (so_many_ops end version texts names (count - i) bytes) ≡ total → following (front ++ first ∷ []) (so_many_ops end version texts names (count - (i + 1)) after) ≡ total
ops_go_on end version texts names = continues (op_at end version texts names) (so_many_ops end version texts names) (ops_read end version texts names)

pub ops_end : (end : ℕ) (version : Version) (texts names : ℕ) (error : ImageError) (front : List Op) (count i : ℕ) (bytes : List ℕ) (total : Reading (List Op)) → i < count → op_at end version texts names bytes ≡ Err error
    → following front (so_many_ops end version texts names (count - i) bytes) ≡ total → Unless (is_memory error) (total ≡ Err error)
ops_end end version texts names error front count i bytes total lt h so_far = unless_any (total ≡ Err error) (is_memory error) (ends (op_at end version texts names) (so_many_ops end version texts names) (ops_read end version texts names) error front count i bytes total lt h so_far)

pub ops_done : (end : ℕ) (version : Version) (texts names : ℕ) (front : List Op) (count i : ℕ) (bytes : List ℕ) (total : Reading (List Op)) → count ≤ i → following front (so_many_ops end version texts names (count - i) bytes) ≡ total → total ≡ Ok (front, bytes)
ops_done end version texts names = is_done (op_at end version texts names) (so_many_ops end version texts names) (ops_read end version texts names)

-- ---- texts

pub texts_read : (end : ℕ) → Reads (text_at end) (so_many_texts end)
unfolding so_many_texts
texts_read end = record { none = λ bytes. refl; more = λ n bytes. refl }

pub texts_go_on : (end : ℕ) (front : List (List ℕ)) (count i : ℕ) (bytes after : List ℕ) (first : List ℕ) (total : Reading (List (List ℕ))) → i < count → text_at end bytes ≡ Ok (first, after)
    → following front (so_many_texts end (count - i) bytes) ≡ total → following (front ++ first ∷ []) (so_many_texts end (count - (i + 1)) after) ≡ total
texts_go_on end = continues (text_at end) (so_many_texts end) (texts_read end)

pub texts_end : (end : ℕ) (error : ImageError) (front : List (List ℕ)) (count i : ℕ) (bytes : List ℕ) (total : Reading (List (List ℕ))) → i < count → Unless (is_memory error) (text_at end bytes ≡ Err error)
    → following front (so_many_texts end (count - i) bytes) ≡ total → Unless (is_memory error) (total ≡ Err error)
texts_end end error front count i bytes total lt h so_far = unless_both (text_at end bytes ≡ Err error) (total ≡ Err error) (is_memory error) (λ e. ends (text_at end) (so_many_texts end) (texts_read end) error front count i bytes total lt e so_far) h

pub texts_done : (end : ℕ) (front : List (List ℕ)) (count i : ℕ) (bytes : List ℕ) (total : Reading (List (List ℕ))) → count ≤ i → following front (so_many_texts end (count - i) bytes) ≡ total → total ≡ Ok (front, bytes)
texts_done end = is_done (text_at end) (so_many_texts end) (texts_read end)
