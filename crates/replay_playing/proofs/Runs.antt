-- A run over the bytes of a recording, tick by tick: its lines fit, and are those of the ticks.
-- Assumes nothing.
use Prim.Native.Nat.{ℕ, zero, suc, ◌+◌, ◌*◌, ◌-◌, ◌≤◌, ◌<◌}
use mathlib.Core.Path.{◌≡◌, refl, sym, ap, ◌∙◌}
use mathlib.Core.Bool.{true}
use mathlib.Core.List.{List, [], ◌∷◌, ◌++◌}
use native.Mathlib.Omega.{arith}
use lib.ListN.{length, take, drop, length-append, length-drop}
use Rattle.files.specs.Counts.{IsPrefixLen}
use Rattle.files.proofs.Counting.{prefix_len_of_le}
use borrow.Author.Tests.{le-leb}
use lib.Dec.{leb}
use Rattle.common.proofs.Cases.{yes, chosen}
use Rattle.input.specs.declared.Input.{Input}
use Rattle.record.specs.declared.Regulator.{Regulator}
use Rattle.std.specs.Prelude.{Option, None, Some, Result, Ok, Err}
use Rattle.std.proofs.lemmas.Option.{none-some, same_Some}
use Rattle.recording_ticks.specs.declared.DecodeError.{DecodeError}
use Rattle.recording_ticks.specs.declared.DecodeError.TheVariants.{CutShort}
use Rattle.recording_lines.specs.Lines.{widest, line_of, placed, written_of, end_of}
use Rattle.recording_ticks.specs.Recorded.{tick_bytes, decoded_of}
use Rattle.recording_lines.proofs.Texts.{most_digits_lem}
use Rattle.recording_ticks.proofs.Made.{cut_short}
use Rattle.showing.specs.Showing.{field_count, fields_of, outputs_of}
use Rattle.rules.specs.declared.Ticked.{Ticked}
use Rattle.rules.specs.Ticks as ticks
use Rattle.rules.specs.Ticks.{outputs_in, ran_of, out_of, refused_of, tick_of}
use Rattle.replay_playing.specs.declared.Stepped.{Stepped}
use Rattle.replay_playing.specs.Played.{Played, line_room, line_at, played_on, play_from, played_of, step_of, lines_of}

-- ---- a line

output_count : (r : Regulator) (i : Input) → length (outputs_in (tick_of r i).reply) ≡ field_count
unfolding tick_of out_of refused_of ran_of ticks.end_of outputs_of fields_of
output_count r i =
    chosen (λ (t : Ticked Regulator). length (outputs_in t.reply) ≡ field_count) _ _ _
    (λ p. chosen (λ (t : Ticked Regulator). length (outputs_in t.reply) ≡ field_count) _ _ _ (λ q. refl) (λ q. refl)) (λ p. refl)

line_short : (ns : List ℕ) → length (line_of ns) ≤ widest * length ns
unfolding line_of
line_short [] = omega arith
line_short (n ∷ ns) = simp length-append (omega (arith, most_digits_lem n, line_short ns))

pub line_fits : (r : Regulator) (i : Input) → length (line_at r i) ≤ line_room
line_fits r i = omega (arith, line_short (outputs_in (tick_of r i).reply), output_count r i)

-- ---- a line that is put at the end of the lines

take_left : (xs ys : List ℕ) (n : ℕ) → n ≡ length xs → take n (xs ++ ys) ≡ xs
take_left [] ys n e = rw e
take_left (x ∷ xs) ys zero e = absurd (omega arith)
take_left (x ∷ xs) ys (suc n) e = ap (λ (l : List ℕ). x ∷ l) (take_left xs ys n (omega arith))

module _ (lines text : List ℕ) (end : ℕ) (h : end + length text ≤ length lines) where
  before : length (take end lines) ≡ end
  before = sym (prefix_len_of_le end lines (omega arith)).1

  pub put_text : take (end + length text) (placed lines end text) ≡ take end lines ++ text
  put_text =
      take_left (take end lines ++ text) (drop (end + length text) lines) (end + length text) (simp length-append (omega (arith, before)))

  pub put_length : length (placed lines end text) ≡ length lines
  put_length = simp (length-append, length-drop) (omega (arith, before))

-- ---- one tick

module _ (bytes : List ℕ) (at : ℕ) (r : Regulator) (lines : List ℕ) (end : ℕ) {d : Result Input DecodeError} (e : d ≡ decoded_of bytes at) where
  abbrev Step : Option Stepped → List ℕ → Type 0
  Step s after = (s ≡ step_of (decoded_of bytes at) r end) × (after ≡ lines_of (decoded_of bytes at) r lines end)

  pub step_tick : {i : Input} {t : Ticked Regulator} {o : List ℕ} {past : ℕ} {after : List ℕ} → end + line_room ≤ length lines → d ≡ Ok i → t ≡ tick_of r i → o ≡ outputs_in t.reply
      → after ≡ written_of o lines end → past ≡ end_of o lines end
      → Step (Some (record { next = t.next; end = past })) after
  unfolding written_of end_of
  step_tick {i} {t} {o} {past} {after} h p q u w z =
      let room : leb (end + widest * length (outputs_in (tick_of r i).reply)) (length lines) ≡ true = le-leb (end + widest * length (outputs_in (tick_of r i).reply)) (length lines) (omega (arith, output_count r i)) in
      let f : past ≡ end + length (line_at r i) = z ∙ rw (u, q) (sym (yes _ _ _ _ room refl)) in
      rw (← e, p)
      (rw (f, q), w ∙ rw (u, q) (sym (yes _ _ _ _ room refl)))

  pub step_none : (x : DecodeError) → d ≡ Err x → Step None lines
  step_none x p = rw (← e, p) (refl, refl)

-- ---- the run

-- what is left to play from here gives the whole
pub record Going (bytes : List ℕ) (whole : Played) (room : ℕ) (r : Regulator) (done end : ℕ) (lines : List ℕ) : Type 0 where
  pub fuel : ℕ
  pub plays : play_from fuel bytes (record { state = r; done = done; text = take end lines }) ≡ whole
  pub enough : length bytes ≤ done + tick_bytes * fuel
  pub within : done ≤ length bytes
  pub short : tick_bytes * end ≤ line_room * done
  pub same : length lines ≡ room

pub going_start : (r : Regulator) (bytes lines : List ℕ) → Going bytes (played_of r bytes) (length lines) r 0 0 lines
unfolding played_of
going_start r bytes lines =
    record { fuel = length bytes; plays = refl; enough = omega arith; within = omega arith; short = omega arith; same = refl }

on_tick_lem : (n : ℕ) (bytes : List ℕ) (whole p : Played) (i : Input) → play_from n bytes p ≡ whole → length bytes ≤ p.done + tick_bytes * n
    → p.done + tick_bytes ≤ length bytes → Ok i ≡ decoded_of bytes p.done
    → (m : ℕ) × (play_from m bytes (played_on p i) ≡ whole) × (length bytes ≤ p.done + tick_bytes + tick_bytes * m)
unfolding play_from
on_tick_lem zero bytes whole p i e l h d = absurd (omega arith)
on_tick_lem (suc n) bytes whole p i e l h d = (n, rw (← d) at e, omega arith)

pub stop_at : (n : ℕ) (bytes : List ℕ) (p : Played) (x : DecodeError) → Err x ≡ decoded_of bytes p.done → play_from n bytes p ≡ p
unfolding play_from
stop_at zero bytes p x e = refl
stop_at (suc n) bytes p x e = rw (← e)

module _ {bytes : List ℕ} {whole : Played} {room : ℕ} {r : Regulator} {done end : ℕ} {lines : List ℕ}
    (g : Going bytes whole room r done end lines)
  where
    abbrev here : Played
    here = record { state = r; done = done; text = take end lines }

    module _ (h : tick_bytes ≤ length bytes - done) (k : line_room * length bytes ≤ tick_bytes * room) where
      pub line_room_lem : end + line_room ≤ length lines
      line_room_lem = omega (arith, g.within, g.short, g.same)

      on_case : (d : Result Input DecodeError) → d ≡ decoded_of bytes done → {s : Stepped} → Some s ≡ step_of d r end
          → Going bytes whole room s.next (done + tick_bytes) s.end (lines_of d r lines end)
      on_case (Ok i) e {s} t =
          let here_is : s ≡ record { next = (tick_of r i).next; end = end + length (line_at r i) } = same_Some s (record { next = (tick_of r i).next; end = end + length (line_at r i) }) t in
          let fits : end + length (line_at r i) ≤ length lines = omega (arith, line_room_lem, line_fits r i) in
          let q = on_tick_lem g.fuel bytes whole here i g.plays g.enough (omega (arith, g.within)) e in
          rw here_is (record {
            fuel = q.0;
            plays = ap (λ (l : List ℕ). play_from q.0 bytes (record { state = (tick_of r i).next; done = done + tick_bytes; text = l })) (put_text lines (line_at r i) end fits) ∙ q.1;
            enough = q.2;
            within = omega (arith, g.within);
            short = omega (arith, g.short, line_fits r i);
            same = put_length lines (line_at r i) end fits ∙ g.same;
          })
      on_case (Err x) e {s} t = absurd (none-some s (sym t))

      pub going_on : {s : Stepped} {after : List ℕ} → Some s ≡ step_of (decoded_of bytes done) r end → after ≡ lines_of (decoded_of bytes done) r lines end
          → Going bytes whole room s.next (done + tick_bytes) s.end after
      going_on p q = rw q (on_case (decoded_of bytes done) refl p)

    -- the end of the lines is within them
    pub going_counts : line_room * length bytes ≤ tick_bytes * room → IsPrefixLen end lines
    going_counts k = prefix_len_of_le end lines (omega (arith, g.within, g.short, g.same))

    stopped : (x : DecodeError) → Err x ≡ decoded_of bytes done → here ≡ whole
    stopped x e = sym (stop_at g.fuel bytes here x e) ∙ g.plays

    -- fewer bytes than a tick's are left
    pub going_end : length bytes - done < tick_bytes → here ≡ whole
    going_end h = stopped CutShort (cut_short bytes done (omega (arith, g.within)))

    no_tick : (d : Result Input DecodeError) → d ≡ decoded_of bytes done → None ≡ step_of d r end → (lines_of d r lines end ≡ lines) × (here ≡ whole)
    no_tick (Ok i) e t = absurd (none-some (record { next = (tick_of r i).next; end = end + length (line_at r i) }) t)
    no_tick (Err x) e t = (refl, stopped x e)

    -- what stands here is no tick: the lines are as they were
    module _ {after : List ℕ} (p : None ≡ step_of (decoded_of bytes done) r end) (q : after ≡ lines_of (decoded_of bytes done) r lines end) where
      pub lines_kept : after ≡ lines
      lines_kept = q ∙ (no_tick (decoded_of bytes done) refl p).0

      pub going_stop : ◌≡◌ {A = Played} (record { state = r; done = done; text = take end after }) whole
      going_stop =
          ap (λ (l : List ℕ). record { state = r; done = done; text = take end l }) lines_kept
          ∙ (no_tick (decoded_of bytes done) refl p).1

      pub stop_counts : line_room * length bytes ≤ tick_bytes * room → IsPrefixLen end after
      stop_counts k = rw lines_kept (going_counts k)
