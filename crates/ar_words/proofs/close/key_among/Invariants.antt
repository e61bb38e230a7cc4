use Rattle.std.proofs.Common.{◌≡◌}
use Rattle.std.specs.List.{find}
use Rattle.serde_json.specs.View.{members_view}
use Rattle.ar_words.specs.Close.{are_close, keys_of}
use Rattle.ar_words.proofs.close.key_among.Given as goal

-- none of the keys so far is close
abbrev pub invariant-loop-key : goal.invariant-loop-key
invariant-loop-key l =
    find (are_close l.word l.name) (keys_of (members_view l.key-iterator)) ≡ find (are_close l.word l.name) (keys_of (members_view l.members.entries))
