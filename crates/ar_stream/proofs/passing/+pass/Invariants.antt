use Rattle.std.proofs.Common.{◌≡◌, ℕ, ◌+◌, ◌*◌, ◌≤◌, length}
use Rattle.json.specs.Json.{items, members, value}
use Rattle.serde_json.specs.Data.{no_members}
use Rattle.serde_json.specs.Read.{converted, of_items, of_members}
use Rattle.ar_stream.specs.Passing.{tokens_left}
use Rattle.ar_stream.specs.Private.Rest.{after_items, after_members}
use Rattle.ar_stream.proofs.passing.+pass.Given as goal

abbrev pub decreases-pass_items : goal.decreases-pass_items
decreases-pass_items l = 3 * l.levels + 2

abbrev pub decreases-pass_members : goal.decreases-pass_members
decreases-pass_members l = 3 * l.levels + 2

abbrev pub decreases-pass_value : goal.decreases-pass_value
decreases-pass_value l = 3 * l.levels + 1

abbrev pub decreases-enter : goal.decreases-enter
decreases-enter l = 3 * l.levels

abbrev pub invariant-pass_items-loop-reader : goal.invariant-pass_items-loop-reader
invariant-pass_items-loop-reader l =
    (n : ℕ) × (length l.reader ≤ n) × (after_items l.levels l.initial.reader ≡ tokens_left (converted of_items (items (value l.levels) n l.reader)))
    × (length l.reader ≤ length l.initial.reader)

abbrev pub decreases-pass_items-loop-reader : goal.decreases-pass_items-loop-reader
decreases-pass_items-loop-reader l = length l.reader

abbrev pub invariant-pass_members-loop-reader : goal.invariant-pass_members-loop-reader
invariant-pass_members-loop-reader l =
    (n : ℕ) × (length l.reader ≤ n)
    × (after_members l.levels l.initial.reader ≡ tokens_left (converted (λ found. of_members found no_members) (members (value l.levels) n l.reader)))
    × (length l.reader ≤ length l.initial.reader)

abbrev pub decreases-pass_members-loop-reader : goal.decreases-pass_members-loop-reader
decreases-pass_members-loop-reader l = length l.reader
