-- Histories that grow call by call.
use Rattle.std.proofs.Common.{◌≤◌, ℕ, ◌+◌, List, [], ◌++◌, Option, None, Some, sym, append_assoc, append-nil, arith}
use Rattle.ar_command_line.specs.History.{Extends, GrowsAtMost}

pub continues : {A : Type 0} (before between after : Option (List A)) (some more : List A) → Extends before between some → Extends between after more → Extends before after (some ++ more)
continues None between after some more first later = tt
continues (Some _) None after some more first later = absurd first
continues (Some _) (Some _) None some more first later = absurd later
continues (Some known) (Some _) (Some _) some more first later = rw later (rw first (append_assoc known some more))

pub nothing_yet : {A : Type 0} (history : Option (List A)) → Extends history history []
nothing_yet None = tt
nothing_yet (Some known) = sym (append-nil known)

pub grows_more : (before between after : Option ℕ) (n : ℕ) → GrowsAtMost before between n → GrowsAtMost between after 1 → GrowsAtMost before after (n + 1)
grows_more None between after n first later = tt
grows_more (Some _) None after n first later = absurd first
grows_more (Some _) (Some _) None n first later = absurd later
grows_more (Some k) (Some m) (Some j) n first later = grind (arith)

pub grows_within : (before after : Option ℕ) (n most : ℕ) → n ≤ most → GrowsAtMost before after n → GrowsAtMost before after most
grows_within None after n most within grows = tt
grows_within (Some _) None n most within grows = absurd grows
grows_within (Some k) (Some m) n most within grows = grind (arith)

pub grows_none : (count : Option ℕ) → GrowsAtMost count count 0
grows_none None = tt
grows_none (Some k) = grind (arith)
