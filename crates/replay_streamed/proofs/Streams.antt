-- The chunks of a recording, one after the other: what was played so far is the whole of what was read so far.
-- Assumes nothing.
use Prim.Native.Nat.{ℕ, zero, suc, ◌+◌, ◌≤◌}
use mathlib.Core.Path.{◌≡◌, refl, sym, ap, ◌∙◌}
use mathlib.Core.Bool.{Bool, true, false, not, ◌&&◌}
use mathlib.Core.List.{List, [], ◌++◌, append-nil}
use native.Mathlib.Nat.{add-zero}
use native.Mathlib.Omega.{arith}
use borrow.Author.Tests.{eq-eqb, ne_eqb, eqb-true, not-true, not-false}
use lib.Dec.{eqb}
use lib.ListN.{length, take, length-append}
use lib.Seq.{length-take-le}
use Rattle.input.specs.declared.Input.{Input}
use Rattle.record.specs.declared.Regulator.{Regulator}
use Rattle.std.specs.Prelude.{Result, Ok, Err}
use Rattle.recording_ticks.specs.declared.DecodeError.{DecodeError}
use Rattle.recording_ticks.specs.Recorded.{tick_bytes, decoded_of}
use Rattle.recording_ticks.proofs.Parts.{whole_tick}
use Rattle.replay_playing.specs.Played.{Played, played_on, on_tick, play_from, played_of, played_after}
use Rattle.replay_streamed.specs.Streamed.{chunk_bytes, Chunk, Streamed, Replayed}
use Rattle.replay_streamed.specs.declared.Advanced.{Advanced}
use Rattle.replay_streamed.specs.declared.Ended.{Ended}
use Rattle.replay_playing.proofs.Joined.{joined}

-- ---- whether the run is over

module _ (written : Bool) (done : ℕ) where
  pub over_unwritten : written ≡ false → true ≡ not (written && eqb done chunk_bytes)
  over_unwritten p = rw p

  pub over_full : written ≡ true → done ≡ chunk_bytes → false ≡ not (written && eqb done chunk_bytes)
  over_full p e = rw (p, eq-eqb done chunk_bytes e)

  pub over_rest : written ≡ true → (done ≡ chunk_bytes → ⊥) → true ≡ not (written && eqb done chunk_bytes)
  over_rest p e = rw (p, ne_eqb done chunk_bytes e)

pub ruleset overs = (over_unwritten, over_full, over_rest, not-true, not-false)

full_of : (written : Bool) (done : ℕ) → false ≡ not (written && eqb done chunk_bytes) → done ≡ chunk_bytes
full_of true done e = eqb-true done chunk_bytes (not-false _ (sym e))
full_of false done e = let z : ◌≡◌ {A = Bool} false true = e in let y : ◌≡◌ {A = ℕ} 0 1 = cc in absurd (omega arith)

-- ---- no more bytes are played than there are

within_case : (bytes : List ℕ) (p : Played) (f : Input → Played) (d : Result Input DecodeError) → d ≡ decoded_of bytes p.done → p.done ≤ length bytes
    → ((i : Input) → p.done + tick_bytes ≤ length bytes → (f i).done ≤ length bytes) → (on_tick d f p).done ≤ length bytes
within_case bytes p f (Ok i) e h rest = rest i (whole_tick bytes p.done i e)
within_case bytes p f (Err x) e h rest = h

play_within : (n : ℕ) (bytes : List ℕ) (p : Played) → p.done ≤ length bytes → (play_from n bytes p).done ≤ length bytes
unfolding play_from
play_within zero bytes p h = h
play_within (suc n) bytes p h = within_case bytes p _ (decoded_of bytes p.done) refl h (λ i l. play_within n bytes (played_on p i) l)

played_within : (r : Regulator) (bytes : List ℕ) → (played_of r bytes).done ≤ length bytes
unfolding played_of
played_within r bytes = play_within (length bytes) bytes _ (omega arith)

-- ---- chunk after chunk

same_played : (p : Played) {r : Regulator} {n : ℕ} {t : List ℕ} → p.state ≡ r → p.done ≡ n → p.text ≡ t → p ≡ record { state = r; done = n; text = t }
same_played p a b c = rw (← a, ← b, ← c)

-- the chunks so far: as many bytes as the offset says, all their ticks run, and the record that they left
pub record Behind (state next : Regulator) (offset : ℕ) : Type 0 where
  pub read : List ℕ
  pub size : length read ≡ offset
  pub all : (played_of state read).done ≡ length read
  pub left : (played_of state read).state ≡ next

pub behind_start : (r : Regulator) → Behind r r 0
unfolding played_of play_from
behind_start r = record { read = []; size = refl; all = refl; left = refl }

module _ {state next : Regulator} {offset : ℕ} (b : Behind state next offset) where
  module _ {space lines : List ℕ} {a : Advanced} (c : Chunk next space lines a) where
    abbrev chunk : List ℕ
    chunk = take a.got space

    -- with this chunk, in one piece
    on_whole : played_of state (b.read ++ chunk)
        ≡ record { state = a.ran.next; done = offset + a.ran.done; text = (played_of state b.read).text ++ take a.ran.end lines }
    on_whole =
        joined state b.read chunk b.all
        ∙ ap (λ (r : Regulator). played_after (played_of state b.read) (played_of r chunk)) b.left
        ∙ ap (played_after (played_of state b.read)) (sym c.played)
        ∙ ap (λ (n : ℕ). record { state = a.ran.next; done = n + a.ran.done; text = (played_of state b.read).text ++ take a.ran.end lines }) (b.all ∙ b.size)

    chunk_size : length chunk ≡ a.got
    chunk_size = length-take-le a.got space c.within

    pub behind_on : length space ≡ chunk_bytes → a.over ≡ false → Behind state a.ran.next (offset + chunk_bytes)
    behind_on s o =
        let full : a.ran.done ≡ chunk_bytes = full_of a.ran.written a.ran.done (sym o ∙ c.over) in
        let most : a.ran.done ≤ length chunk = rw (sym (ap (λ (p : Played). p.done) c.played)) at (played_within next chunk) in
        let size : length (b.read ++ chunk) ≡ offset + chunk_bytes = simp length-append (omega (arith, b.size, chunk_size, c.within)) in
        record {
          read = b.read ++ chunk;
          size = size;
          all = ap (λ (p : Played). p.done) on_whole ∙ ap (λ (n : ℕ). offset + n) full ∙ sym size;
          left = ap (λ (p : Played). p.state) on_whole;
        }

    pub behind_end : a.over ≡ true → Streamed state space lines (record { ran = a.ran; got = a.got; offset = offset })
    behind_end o =
        record {
          earlier = b.read;
          size = b.size;
          within = c.within;
          all = b.all;
          played = on_whole;
          ends = λ w e. let z : ◌≡◌ {A = Bool} true false = sym o ∙ c.over ∙ sym (over_full a.ran.written a.ran.done w e) in let y : ◌≡◌ {A = ℕ} 0 1 = cc in omega arith;
        }

  -- no turn is left
  pub behind_out : (space lines : List ℕ)
      → Streamed state space lines (record { ran = record { next = next; done = 0; end = 0; written = true }; got = 0; offset = offset })
  behind_out space lines =
      record {
        earlier = b.read;
        size = b.size;
        within = omega arith;
        all = b.all;
        played =
            ap (played_of state) (append-nil b.read)
            ∙ same_played (played_of state b.read) b.left (b.all ∙ b.size ∙ sym (add-zero offset)) (sym (append-nil (played_of state b.read).text));
        ends = λ w e. omega arith;
      }

-- the buffers left aside
pub replayed : {state : Regulator} {space lines : List ℕ} {e : Ended} → Streamed state space lines e → Replayed state e
replayed {space = space} {e = e} s =
    record {
      read = s.earlier ++ take e.got space;
      size = simp length-append (omega (arith, s.size, length-take-le e.got space s.within));
      next = ap (λ (p : Played). p.state) s.played;
      done = ap (λ (p : Played). p.done) s.played;
      ends = s.ends;
    }

-- nothing was read
pub replayed_none : (state : Regulator) → Replayed state (record { ran = record { next = state; done = 0; end = 0; written = true }; got = 0; offset = 0 })
unfolding played_of play_from
replayed_none state = record { read = []; size = refl; next = refl; done = refl; ends = λ w e. omega arith }
