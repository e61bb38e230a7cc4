-- Bytes that are read or written one part after another.
use Rattle.std.proofs.Common.{◌≡◌, ℕ, List, [], ◌++◌, Option, None, Some, take, sym, ◌∙◌, append_assoc, append-nil}
use Rattle.std.specs.Io.KnownBytes.{Appends, Consumes, Keeps}

consumes_more : (before between after : Option (List ℕ)) (bytes more : List ℕ) → Consumes before between bytes → Consumes between after more → Consumes before after (bytes ++ more)
consumes_more None between after bytes more front later = tt
consumes_more (Some _) None after bytes more front later = absurd front
consumes_more (Some _) (Some _) None bytes more front later = absurd later
consumes_more (Some _) (Some _) (Some rest) bytes more front later = rw front (rw later (sym (append_assoc bytes more rest)))

pub appends_more : (before between after : Option (List ℕ)) (bytes more : List ℕ) → Appends before between bytes → Appends between after more → Appends before after (bytes ++ more)
appends_more None between after bytes more front later = tt
appends_more (Some _) None after bytes more front later = absurd front
appends_more (Some _) (Some _) None bytes more front later = absurd later
appends_more (Some known) (Some _) (Some _) bytes more front later = rw later (rw front (append_assoc known bytes more))

pub consumes_none : (before between after : Option (List ℕ)) (bytes given : List ℕ) (count : ℕ) → count ≡ 0 → Consumes before between bytes → Consumes between after (take count given) → Consumes before after bytes
consumes_none before between after bytes given count none front later =
    rw (append-nil bytes) at (consumes_more before between after bytes [] front (rw none at later))

pub appends_none : (before between after : Option (List ℕ)) (bytes given : List ℕ) (count : ℕ) → count ≡ 0 → Appends before between bytes → Appends between after (take count given) → Appends before after bytes
appends_none before between after bytes given count none front later =
    rw (append-nil bytes) at (appends_more before between after bytes [] front (rw none at later))

pub appends_nothing : (known : Option (List ℕ)) → Appends known known []
appends_nothing None = tt
appends_nothing (Some known) = sym (append-nil known)

pub appends_kept : (before between after : Option (List ℕ)) (bytes : List ℕ) → Appends before between bytes → Keeps between after → Appends before after bytes
appends_kept None between after bytes first keeps = tt
appends_kept (Some _) None after bytes first keeps = absurd first
appends_kept (Some _) (Some _) None bytes first keeps = absurd keeps
appends_kept (Some _) (Some _) (Some _) bytes first keeps = keeps ∙ first

pub nothing_appended : (before after : Option (List ℕ)) (given : List ℕ) (count : ℕ) → count ≡ 0 → Appends before after (take count given) → Keeps before after
nothing_appended None after given count none appends = tt
nothing_appended (Some _) None given count none appends = absurd appends
nothing_appended (Some known) (Some _) given count none appends = (rw none at appends) ∙ append-nil known
