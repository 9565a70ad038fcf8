-- What a run over a recording gives that is read chunk by chunk: what it gives in one piece, so that no border of a chunk shows.
-- No contract can name what a read brings, but it stands in the buffer. Definitions only.
use Rattle.std.specs.Prelude.{ℕ, ◌+◌, ◌*◌, ◌≤◌, ◌≡◌, not, ◌&&◌, true, List, ◌++◌, eqb, length, take}
use Rattle.record.specs.declared.Regulator.{Regulator}
use Rattle.recording_ticks.specs.Recorded.{tick_bytes}
use Rattle.replay_playing.specs.Played.{played_of, played_to}
use Rattle.replay_streamed.specs.declared.Advanced.{Advanced}
use Rattle.replay_streamed.specs.declared.Ended.{Ended}

-- ticks that are read at once, and their bytes
abbrev pub chunk_ticks : ℕ
chunk_ticks = 64

abbrev pub chunk_bytes : ℕ
chunk_bytes = chunk_ticks * tick_bytes

-- after a chunk: what stands at the front of the buffer was played from this record, and its lines stand in the other buffer. The run is
-- over unless they were written and the chunk was full of ticks.
pub record Chunk (state : Regulator) (space lines : List ℕ) (a : Advanced) : Type 0 where
  pub within : a.got ≤ length space
  pub played : played_to a.ran.next a.ran.done a.ran.end lines ≡ played_of state (take a.got space)
  pub over : a.over ≡ not (a.ran.written && eqb a.ran.done chunk_bytes)

-- after all chunks: the ones before the last, in the order in which they were read, are as many bytes as the offset says, and all their
-- ticks were run; with the last one, which stands in the buffer, they were played in one piece, and the other buffer has the text that
-- the last one adds. Only a chunk that is not full of ticks ends the run, or a write that fails.
pub record Streamed (state : Regulator) (space lines : List ℕ) (e : Ended) : Type 0 where
  pub earlier : List ℕ
  pub size : length earlier ≡ e.offset
  pub within : e.got ≤ length space
  pub all : (played_of state earlier).done ≡ length earlier
  pub played : played_of state (earlier ++ take e.got space)
      ≡ record { state = e.ran.next; done = e.offset + e.ran.done; text = (played_of state earlier).text ++ take e.ran.end lines }
  pub ends : e.ran.written ≡ true → e.ran.done ≡ chunk_bytes → ⊥

-- the same where the buffers are gone: some bytes, as many as were read, were played in one piece
pub record Replayed (state : Regulator) (e : Ended) : Type 0 where
  pub read : List ℕ
  pub size : length read ≡ e.offset + e.got
  pub next : (played_of state read).state ≡ e.ran.next
  pub done : (played_of state read).done ≡ e.offset + e.ran.done
  pub ends : e.ran.written ≡ true → e.ran.done ≡ chunk_bytes → ⊥
