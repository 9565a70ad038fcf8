-- A recording in two parts: where the first is played to its end, the second goes on from the record that it left, and the two give what the
-- whole gives in one piece.
-- Assumes nothing.
use Prim.Native.Nat.{ℕ, zero, suc, ◌+◌, ◌*◌, ◌≤◌}
use mathlib.Core.Path.{◌≡◌, refl, sym, ap, ◌∙◌}
use mathlib.Core.List.{List, [], ◌++◌, append_assoc, append-nil}
use native.Mathlib.Nat.{add_assoc, add-zero}
use native.Mathlib.Omega.{arith}
use lib.ListN.{length, length-append}
use Rattle.input.specs.declared.Input.{Input}
use Rattle.record.specs.declared.Regulator.{Regulator}
use Rattle.std.specs.Prelude.{Result, Ok, Err}
use Rattle.recording_ticks.specs.declared.DecodeError.{DecodeError}
use Rattle.recording_ticks.specs.declared.DecodeError.TheVariants.{CutShort}
use Rattle.recording_ticks.specs.Recorded.{tick_bytes, decoded_of}
use Rattle.recording_ticks.proofs.Made.{cut_short}
use Rattle.recording_ticks.proofs.Parts.{whole_tick, decoded_first, decoded_second}
use Rattle.replay_playing.specs.Played.{Played, played_on, on_tick, play_from, played_of, played_after}
use Rattle.replay_playing.proofs.Runs.{stop_at}

on_alike : (d : Result Input DecodeError) (f g : Input → Played) (p : Played) → ((i : Input) → f i ≡ g i) → on_tick d f p ≡ on_tick d g p
on_alike (Ok i) f g p h = h i
on_alike (Err x) f g p h = refl

-- nothing is left
none_left : (n : ℕ) (bytes : List ℕ) (p : Played) → length bytes ≤ p.done → play_from n bytes p ≡ p
none_left n bytes p h = stop_at n bytes p CutShort (cut_short bytes p.done (omega arith))

-- more turns than are needed make no difference
turns_alike : (n m : ℕ) (bytes : List ℕ) (p : Played) → length bytes ≤ p.done + tick_bytes * n → length bytes ≤ p.done + tick_bytes * m
    → play_from n bytes p ≡ play_from m bytes p
unfolding play_from
turns_alike zero m bytes p h k = sym (none_left m bytes p (omega arith))
turns_alike (suc n) zero bytes p h k = none_left (suc n) bytes p (omega arith)
turns_alike (suc n) (suc m) bytes p h k =
    on_alike (decoded_of bytes p.done) _ _ p (λ i. turns_alike n m bytes (played_on p i) (omega arith) (omega arith))

module _ (first second : List ℕ) where
  -- the whole, played from here on with enough turns, is played on from there
  record On (p q : Played) (n : ℕ) : Type 0 where
    turns : ℕ
    enough : length (first ++ second) ≤ q.done + tick_bytes * turns
    plays : play_from n (first ++ second) p ≡ play_from turns (first ++ second) q

  on_case : (n : ℕ) (p : Played) (f : Input → Played) (d : Result Input DecodeError) → d ≡ decoded_of first p.done → length (first ++ second) ≤ p.done + tick_bytes * n
      → ((i : Input) (m : ℕ) → length (first ++ second) ≤ (played_on p i).done + tick_bytes * m → On (played_on p i) (f i) m)
      → On p (on_tick d f p) n
  unfolding play_from
  on_case zero p f (Ok i) e h rest =
      absurd (omega (arith, whole_tick first p.done i e, length-append first second))
  on_case (suc n) p f (Ok i) e h rest =
      let q = rest i n (omega arith) in
      let d : decoded_of (first ++ second) p.done ≡ Ok i = decoded_first first second p.done (whole_tick first p.done i e) ∙ sym e in
      record { turns = q.turns; enough = q.enough; plays = rw d q.plays }
  on_case n p f (Err x) e h rest = record { turns = n; enough = h; plays = refl }

  -- the ticks of the first part
  play_first : (k n : ℕ) (p : Played) → length (first ++ second) ≤ p.done + tick_bytes * n → On p (play_from k first p) n
  unfolding play_from
  play_first zero n p h = record { turns = n; enough = h; plays = refl }
  play_first (suc k) n p h =
      on_case n p (λ i. play_from k first (played_on p i)) (decoded_of first p.done) refl h (λ i m l. play_first k m (played_on p i) l)

  -- the ticks of the second
  module _ (p : Played) (e : p.done ≡ length first) where
    second_case : (m : ℕ) (q : Played) (d : Result Input DecodeError) (f g : Input → Played) → ((i : Input) → f i ≡ played_after p (g i))
        → on_tick d f (played_after p q) ≡ played_after p (on_tick d g q)
    second_case m q (Ok i) f g h = h i
    second_case m q (Err x) f g h = refl

    one_more : (q : Played) (i : Input) → played_on (played_after p q) i ≡ played_after p (played_on q i)
    one_more q i = rw (add_assoc p.done q.done tick_bytes, append_assoc)

    play_second : (m : ℕ) (q : Played) → play_from m (first ++ second) (played_after p q) ≡ played_after p (play_from m second q)
    unfolding play_from
    play_second zero q = refl
    play_second (suc m) q =
        let d : decoded_of (first ++ second) (p.done + q.done) ≡ decoded_of second q.done = rw e (decoded_second first second q.done) in
        rw d
        (second_case m q (decoded_of second q.done) _ _ (λ i. ap (play_from m (first ++ second)) (one_more q i) ∙ play_second m (played_on q i)))

pub joined : (r : Regulator) (first second : List ℕ) → (played_of r first).done ≡ length first
    → played_of r (first ++ second) ≡ played_after (played_of r first) (played_of (played_of r first).state second)
unfolding played_of
joined r first second e =
    let p : Played = play_from (length first) first (record { state = r; done = 0; text = [] }) in
    let q : Played = record { state = p.state; done = 0; text = [] } in
    let o = play_first first second (length first) (length (first ++ second)) (record { state = r; done = 0; text = [] }) (omega arith) in
    let same : p ≡ played_after p q = rw (add-zero, append-nil) in
    o.plays
    ∙ ap (play_from o.turns (first ++ second)) same
    ∙ play_second first second p e o.turns q
    ∙ ap (played_after p) (turns_alike o.turns (length second) second q (omega (arith, o.enough, length-append first second)) (omega arith))
