-- The delay in force is the one that the ticks before say: T2 by history, over every list.
-- Assumes nothing.
use Prim.Native.Nat.{ℕ}
use mathlib.Core.Path.{◌≡◌, refl, sym, ap, ◌∙◌, subst}
use mathlib.Core.Bool.{Bool, true, false, ◌&&◌, ◌||◌, true≢false, false≢true}
use mathlib.Core.List.{List, ◌∷◌, ◌++◌}
use mathlib.Core.Logic.{◌⊎◌, inl, inr, ⊎_elim, ◌↔◌}
use borrow.Author.Tests.{eqb-true, eq-eqb}
use Rattle.common.specs.Choice.{choose}
use Rattle.common.proofs.Cases.{yes, no}
use Rattle.common.proofs.Joined.{split, or_left, or_right, and_false}
use Rattle.slots.specs.Slots.{slot, t1, t2, t3, is_continuous}
use Rattle.ways.specs.declared.Direction.{Direction}
use Rattle.ways.specs.declared.Direction.TheVariants.{Raise, Lower}
use Rattle.std.specs.Prelude.{Option}
use Rattle.std.specs.Prelude.{None, Some}
use Rattle.ways.specs.Ways.{lowers, is_to, other_of, newer_of}
use Rattle.ways.proofs.Cases.{is_to_self, is_to_is, is_to_none}
use Rattle.busbar_level.specs.declared.Level.{Level}
use Rattle.busbar_level.specs.declared.Level.TheVariants.{Low, InBand, High}
use Rattle.busbar_level.specs.Levels.{side_of, is_in_band}
use Rattle.input.specs.declared.Input.{Input}
use Rattle.command_automatic.specs.Automatic.{delay_of, kept_of, repeat_of}
use Rattle.record.specs.declared.Regulator.{Regulator}
use Rattle.record_limits.specs.Limits.{within_of}
use Rattle.record_starting.specs.Starting.{fresh_of}
use Rattle.claim.specs.Claim.{Accepted}
use Rattle.claim.specs.Runs.{after_of}
use Rattle.claim.proofs.Runs as runs
use Rattle.rules.specs.Lists.{left_by, starts_on}
use Rattle.rules.specs.Ticks.{is_out}
use Rattle.rules.proofs.Shown.{contacts_at, decided_at, live_at}
use Rattle.rules.proofs.Steps.{Linked}
use Rattle.rules.proofs.Waits.{begun, force_is}
use Rattle.history.specs.Pasts.{Past, past_on, pasts_from}
use Rattle.history.specs.Delays.{other_side, Commands, Lasts, Repeats, DelayAfter}
use Rattle.history.proofs.Fields.{live_repeat, not_told}
use Rattle.history.proofs.Kept.{remembers_from_none}
use Rattle.history.proofs.Steps.{Along, along, stepped, begins_ran, decided_begins, none_decided, none_begins}

-- ---- the field's step, and the level

is_way_lem : (d : Direction) (w : Option Direction) → is_to d w ≡ true → w ≡ Some d
is_way_lem d None e = absurd (false≢true (sym (is_to_none d) ∙ e))
is_way_lem d (Some e) p = ap Some (is_to_is d e p)

-- the side is kept, or newly set
pub record Stays (d : Direction) (in_band : Bool) (side command old : Option Direction) : Type 0 where
  pub none : command ≡ None
  pub same : is_to d old ≡ true
  pub not_in_band : in_band ≡ false
  pub not_other : other_of side old ≡ false

still : (d : Direction) (in_band : Bool) (side old : Option Direction) → is_to d (choose (in_band || other_of side old) None old) ≡ true → Stays d in_band side None old
still d in_band side old e =
    ⊎_elim (λ p. absurd (false≢true (sym (is_to_none d) ∙ ap (is_to d) (yes _ _ _ _ p refl) ∙ e)))
    (λ p. record { none = refl; same = ap (is_to d) (no _ _ _ _ p refl) ∙ e; not_in_band = or_left _ _ p; not_other = or_right in_band _ p })
    (split (in_band || other_of side old))

repeat_by : (d : Direction) (automatic in_band : Bool) (side command old : Option Direction) → is_to d (repeat_of automatic in_band side command old) ≡ true
    → (automatic ≡ true) × ((command ≡ Some d) ⊎ Stays d in_band side command old)
unfolding repeat_of kept_of newer_of choose
repeat_by d false in_band side command old e = absurd (false≢true (sym (is_to_none d) ∙ e))
repeat_by d true in_band side (Some f) old e = (refl, inl (ap Some (is_to_is d f e)))
repeat_by d true in_band side None old e = (refl, inr (still d in_band side old e))

repeat_set : (d : Direction) (in_band : Bool) (side command old : Option Direction) → command ≡ Some d → is_to d (repeat_of true in_band side command old) ≡ true
unfolding repeat_of newer_of choose
repeat_set d in_band side command old e = rw e (is_to_self d)

repeat_kept : (d : Direction) (in_band : Bool) (side command old : Option Direction) → Stays d in_band side command old → is_to d (repeat_of true in_band side command old) ≡ true
unfolding repeat_of kept_of newer_of
repeat_kept d in_band side command old k =
    rw k.none
    (ap (is_to d) (sym (yes (choose (in_band || other_of side old) None old) _ _ true refl refl) ∙ sym (no old None old _ (rw k.not_in_band k.not_other) refl))
    ∙ k.same)

not_band : (l : Option Level) → (l ≡ Some InBand → ⊥) → is_in_band l ≡ false
not_band None n = refl
not_band (Some Low) n = refl
not_band (Some InBand) n = absurd (n refl)
not_band (Some High) n = refl

other_is : (d : Direction) → other_of (side_of (other_side d)) (Some d) ≡ true
unfolding side_of
other_is Raise = refl
other_is Lower = refl

not_other_lem : (d : Direction) (l : Option Level) → (l ≡ other_side d → ⊥) → other_of (side_of l) (Some d) ≡ false
unfolding side_of
not_other_lem Raise None n = refl
not_other_lem Raise (Some Low) n = refl
not_other_lem Raise (Some InBand) n = refl
not_other_lem Raise (Some High) n = absurd (n refl)
not_other_lem Lower None n = refl
not_other_lem Lower (Some Low) n = absurd (n refl)
not_other_lem Lower (Some InBand) n = refl
not_other_lem Lower (Some High) n = refl

-- ---- T2's memory over a tick

abbrev pub RepeatIs : Direction → Regulator → Type 0
RepeatIs d r = is_to d r.state.memory.repeat ≡ true

module _ (d : Direction) (rest : Bool) (r : Regulator) (i : Input) (k : Linked rest r) where
  abbrev p : Past
  p = past_on (record { rest = rest; got = r }) i

  abbrev old : Option Direction
  old = r.state.memory.repeat

  module _ (h : within_of r ≡ true) (o : is_out r (contacts_at i) ≡ false) where
    lasts : (contacts_at i).automatic ≡ true → Stays d (is_in_band p.level) (side_of p.level) (decided_at r i).command old → Lasts d p
    lasts a q =
        record {
          not_in_band = λ e. true≢false (sym (ap is_in_band e) ∙ q.not_in_band);
          not_other = λ e.
              true≢false
              (sym (other_is d) ∙ ap (λ (l : Option Level). other_of (side_of l) (Some d)) (sym e) ∙ ap (other_of (side_of p.level)) (sym (is_way_lem d old q.same)) ∙ q.not_other);
          not_manual = a;
          no_command = none_begins rest r i k q.none;
          not_out = not_told r i rest o;
        }

    forth : RepeatIs d (live_at r i).next → Commands d p ⊎ (RepeatIs d r × Lasts d p)
    forth e =
        let q = repeat_by d _ _ _ _ _ (ap (is_to d) (sym (live_repeat r i)) ∙ e) in
        ⊎_elim (λ c. inl (record { begins = decided_begins rest r i k h o d c; automatic = q.0 }))
        (λ s. inr (s.same, lasts q.0 s)) q.1

    back : Commands d p ⊎ (RepeatIs d r × Lasts d p) → RepeatIs d (live_at r i).next
    back (inl c) =
        ap (is_to d) (live_repeat r i ∙ ap (λ (a : Bool). repeat_of a (is_in_band p.level) (side_of p.level) (decided_at r i).command old) c.automatic)
        ∙ repeat_set d (is_in_band p.level) (side_of p.level) (decided_at r i).command old (begun d rest r i k c.begins).command
    back (inr l) =
        ap (is_to d) (live_repeat r i ∙ ap (λ (a : Bool). repeat_of a (is_in_band p.level) (side_of p.level) (decided_at r i).command old) l.1.not_manual)
        ∙ repeat_kept d (is_in_band p.level) (side_of p.level) (decided_at r i).command old
        (record {
          none = none_decided rest r i k h o l.1.no_command;
          same = l.0;
          not_in_band = not_band p.level l.1.not_in_band;
          not_other = ap (other_of (side_of p.level)) (is_way_lem d old l.0) ∙ not_other_lem d p.level l.1.not_other;
        })

  fresh_none : RepeatIs d (fresh_of r.settings) → ⊥
  unfolding fresh_of
  fresh_none e = false≢true (sym (is_to_none d) ∙ e)

  repeat_step : RepeatIs d (left_by (record { rest = rest; got = r }) i).got ↔ (Commands d p ⊎ (RepeatIs d r × (Accepted p.tick → Lasts d p)))
  repeat_step =
      stepped rest r i (RepeatIs d) (Commands d p) (Lasts d p) (λ c. begins_ran rest r i k d c.begins) (λ l. l.not_out) fresh_none
      (λ h o. (forth h o, back h o))

-- ---- over every list, from a record that holds no memory of a command: T2's side is the one that the ticks say

pub repeats : (d : Direction) (r : Regulator) (is : List Input) → r.state.memory.repeat ≡ None
    → RepeatIs d (after_of left_by (starts_on r) is).got ↔ Repeats d (pasts_from r is)
repeats d r is e =
    remembers_from_none left_by past_on Along along (λ a. RepeatIs d a.got) (Commands d) (λ q. Accepted q.tick → Lasts d q)
    (λ a i k. repeat_step d a.rest a.got i k) (starts_on r) is (λ _. refl)
    (λ b. false≢true (sym (is_to_none d) ∙ ap (is_to d) (sym e) ∙ b))

-- ---- and the delay in force is T3, T2 or T1 as they say

not_third : (d : Direction) (far : Bool) → ((d ≡ Lower) × (far ≡ true) → ⊥) → (lowers (Some d) && far) ≡ false
not_third Raise far n = refl
not_third Lower true n = absurd (n (refl, refl))
not_third Lower false n = refl

is_third : (d : Direction) (far : Bool) → d ≡ Lower → far ≡ true → (lowers (Some d) && far) ≡ true
is_third d far p q = rw (p, q)

module _ (s : List ℕ) (d : Direction) (far : Bool) (w : Option Direction) where
  by_t3 : (d ≡ Lower) × (far ≡ true) → delay_of s d far w ≡ slot s t3
  unfolding delay_of
  by_t3 q = sym (yes _ _ _ _ (is_third d far q.0 q.1) refl)

  by_t2 : ((d ≡ Lower) × (far ≡ true) → ⊥) → is_continuous s ≡ false → is_to d w ≡ true → delay_of s d far w ≡ slot s t2
  unfolding delay_of
  by_t2 n c e = sym (no _ _ _ _ (not_third d far n) (yes _ _ _ _ (rw (e, c)) refl))

  by_t1 : ((d ≡ Lower) × (far ≡ true) → ⊥) → (is_continuous s ≡ true) ⊎ (is_to d w ≡ false) → delay_of s d far w ≡ slot s t1
  unfolding delay_of
  by_t1 n (inl c) = sym (no _ _ _ _ (not_third d far n) (no _ _ _ _ (rw c (and_false (is_to d w))) refl))
  by_t1 n (inr e) = sym (no _ _ _ _ (not_third d far n) (no _ _ _ _ (rw e) refl))

-- on a record whose memory is what `past` says
module _ (d : Direction) (rest : Bool) (r : Regulator) (i : Input) (past : List Past) (k : RepeatIs d r ↔ Repeats d past) where
  abbrev now : Past
  now = past_on (record { rest = rest; got = r }) i

  delay_after : DelayAfter d past now
  delay_after =
      record {
        third = λ q. force_is d rest r i ∙ by_t3 r.settings d _ _ q;
        second = λ n c q.
            force_is d rest r i
            ∙ by_t2 r.settings d _ _ n (⊎_elim (λ e. absurd (c (eqb-true _ _ e))) (λ e. e) (split (is_continuous r.settings))) (k.1 q);
        first = λ n q.
            force_is d rest r i
            ∙ by_t1 r.settings d _ _ n
            (⊎_elim (λ c. inl (eq-eqb _ _ c)) (λ f. inr (⊎_elim (λ e. absurd (f (k.0 e))) (λ e. e) (split (is_to d r.state.memory.repeat)))) q);
      }

pub delays : (r : Regulator) (is : List Input) → r.state.memory.repeat ≡ None
    → (d : Direction) (past : List Past) (p : Past) (later : List Past) → pasts_from r is ≡ past ++ (p ∷ later) → DelayAfter d past p
delays r is e d past p later w =
    let c = runs.cut left_by past_on (starts_on r) is past (p ∷ later) w in
    let a = after_of left_by (starts_on r) c.front in
    let u = runs.uncons left_by past_on a c.back p later c.is_back in
    let k = repeats d r c.front e in
    subst (λ (q : List Past). DelayAfter d q p) (sym c.is_front)
    (subst (DelayAfter d (pasts_from r c.front)) (sym u.2) (delay_after d a.rest a.got u.0 (pasts_from r c.front) k))
