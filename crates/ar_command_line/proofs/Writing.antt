-- An output of which a front was written.
use Rattle.std.proofs.Common.{◌≡◌, ◌≤◌, ℕ, List, [], ◌∷◌, ◌++◌, length, length-append, take, drop, Option, Result, Ok, Err, refl, sym, ◌∙◌, ap, append_assoc, arith, sum}
use Rattle.std.proofs.lemmas.List.{length-take, map_push, take-append-drop}
use Rattle.std.proofs.lemmas.List.Sums.{sum_by_push}
use Rattle.std.specs.Io.KnownBytes.{Appends, Keeps}
use Rattle.std.specs.Prelude.{OnErr}
use Rattle.ar_command_line.specs.History.{Extends}
use Rattle.ar_command_line.specs.Output.{AppendsFront, Call, GivesUp, flush, write, writes}
use Rattle.ar_command_line.specs.declared.stream.DeviceFault.{DeviceFault}
use Rattle.ar_command_line.proofs.Histories.{continues, nothing_yet}
use Rattle.ar_command_line.proofs.Reading.{appends_kept, appends_more, appends_nothing}

-- a front of the bytes was written, by writes that took this many bytes each
pub record HasWritten {W : Type 0} (contents : W → Option (List ℕ)) (calls : W → Option (List Call)) (before now : W) (bytes rest : List ℕ) : Type 0 where
  pub front : List ℕ
  pub whole : bytes ≡ front ++ rest
  pub wrote : Appends (contents before) (contents now) front
  pub counts : List ℕ
  pub taken : sum counts ≡ length front
  pub called : Extends (calls before) (calls now) (writes counts)

empty : (xs : List ℕ) → length xs ≡ 0 → xs ≡ []
empty [] none = refl
empty (x ∷ xs) none = absurd (omega arith)

module _ {W : Type 0} (contents : W → Option (List ℕ)) (calls : W → Option (List Call)) (before : W) (bytes : List ℕ) where
  pub none_written : HasWritten contents calls before before bytes bytes
  none_written = record {
    front = [];
    whole = refl;
    wrote = appends_nothing (contents before);
    counts = [];
    taken = refl;
    called = nothing_yet (calls before);
  }

  module _ (between after : W) (rest : List ℕ) (so_far : HasWritten contents calls before between bytes rest) where
    pub more_written : (left : List ℕ) (count : ℕ) → Appends (contents between) (contents after) (take count rest) → Extends (calls between) (calls after) (write (Ok count) ∷ [])
        → count ≤ length rest → left ≡ drop count rest → HasWritten contents calls before after bytes left
    more_written left count more call within is_left = record {
      front = so_far.front ++ take count rest;
      whole = so_far.whole ∙ ap (λ xs. so_far.front ++ xs) (sym (take-append-drop count rest)) ∙ sym (append_assoc so_far.front (take count rest) (drop count rest)) ∙ ap (λ xs. (so_far.front ++ take count rest) ++ xs) (sym is_left);
      wrote = appends_more (contents before) (contents between) (contents after) so_far.front (take count rest) so_far.wrote more;
      counts = so_far.counts ++ count ∷ [];
      taken = sum_by_push (λ n. n) so_far.counts count ∙ grind (arith, so_far.taken, length-append {A = ℕ}, length-take {A = ℕ});
      called = rw (map_push (λ count. write (Ok count)) so_far.counts count) (continues (calls before) (calls between) (calls after) (writes so_far.counts) (write (Ok count) ∷ []) so_far.called call);
    }

    -- the last call failed
    pub failed : (last : Call) → Keeps (contents between) (contents after) → Extends (calls between) (calls after) (last ∷ []) → GivesUp last rest → AppendsFront contents calls before after bytes
    failed last keeps call fails = record {
      front = so_far.front;
      rest = rest;
      whole = so_far.whole;
      wrote = appends_kept (contents before) (contents between) (contents after) so_far.front so_far.wrote keeps;
      counts = so_far.counts;
      taken = so_far.taken;
      last = last;
      called = continues (calls before) (calls between) (calls after) (writes so_far.counts) (last ∷ []) so_far.called call;
      fails = fails;
    }

    -- nothing is left, and the sink wasn't flushed
    pub flush_failed : (result : Result (Unit {0}) DeviceFault) → length rest ≡ 0 → Keeps (contents between) (contents after) → Extends (calls between) (calls after) (flush result ∷ []) → OnErr result (AppendsFront contents calls before after bytes)
    flush_failed (Ok done) none keeps call = tt
    flush_failed (Err fault) none keeps call = failed (flush (Err fault)) keeps call (empty rest none)
