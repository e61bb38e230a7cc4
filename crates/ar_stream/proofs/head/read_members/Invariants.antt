use Rattle.std.proofs.Common.{◌≡◌, ℕ, ◌≤◌, length}
use Rattle.json.specs.Json.{members, value}
use Rattle.serde_json.specs.Data.{Members, no_members}
use Rattle.serde_json.specs.Read.{converted, of_members}
use Rattle.serde_json.specs.View.{members_view}
use Rattle.ar_stream.specs.Private.Keeping.{Keeps}
use Rattle.ar_stream.proofs.head.read_members.Given as goal

abbrev pub invariant-members : goal.invariant-members
invariant-members l =
    (n : ℕ) × (length l.reader ≤ n) × (earlier : Members)
    × (converted (λ found. of_members found no_members) (members (value l.levels) (length l.initial.reader) l.initial.reader)
    ≡ converted (λ found. of_members found earlier) (members (value l.levels) n l.reader))
    × Keeps l.wanted (members_view l.kept.entries) earlier

abbrev pub decreases-members : goal.decreases-members
decreases-members l = length l.reader
