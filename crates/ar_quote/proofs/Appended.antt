-- Texts, one after another.
use Rattle.std.proofs.Common.{◌≡◌, ◌∙◌, ap, ℕ, List, ◌++◌}
use Rattle.std.specs.Prelude.{if◌then◌else◌, is_ok, Result, Ok, Err, OnOk}
use Rattle.std.proofs.lemmas.List.{append_assoc}

pub if_ok : {A E P Q : Type 0} (result : Result A E) → (P → Q) → OnOk result P → OnOk result Q
if_ok (Ok x) f p = f p
if_ok (Err e) f p = tt

pub at_ok : {A E X : Type 0} (result : Result A E) (after good bad : X) → after ≡ (if is_ok result then good else bad) → OnOk result (after ≡ good)
at_ok (Ok x) after good bad e = e
at_ok (Err e) after good bad same = tt

pub two : (before first after a b : List ℕ) → first ≡ before ++ a → after ≡ first ++ b → after ≡ before ++ (a ++ b)
two before first after a b one last = last ∙ (ap (λ text. text ++ b) one ∙ append_assoc before a b)

pub seven : (before first second third fourth fifth sixth after a b c d e f g : List ℕ) → first ≡ before ++ a → second ≡ first ++ b → third ≡ second ++ c → fourth ≡ third ++ d → fifth ≡ fourth ++ e → sixth ≡ fifth ++ f → after ≡ sixth ++ g
    → after ≡ before ++ (a ++ (b ++ (c ++ (d ++ (e ++ (f ++ g))))))
seven before first second third fourth fifth sixth after a b c d e f g one two three four five six last = rw (last, six, five, four, three, two, one) (simp append_assoc)
