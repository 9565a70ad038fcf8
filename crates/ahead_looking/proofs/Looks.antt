-- A look, tick after tick: its loop, and that it is the paper's.
-- Assumes nothing.
use Prim.Native.Nat.{ℕ, zero, suc, ◌+◌, ◌-◌, ◌≤◌, ◌<◌}
use native.Mathlib.Omega.{arith}
use mathlib.Core.Path.{◌≡◌, refl, sym, ap, ◌∙◌}
use mathlib.Core.Bool.{Bool, true, false}
use mathlib.Core.List.{List}
use borrow.Author.Tests.{eq-eqb}
use Rattle.std.specs.Prelude.{None, Some, Result, Ok, Err, Option}
use Rattle.common.proofs.Cases.{yes, no}
use Rattle.ways.specs.declared.Direction.{Direction}
use Rattle.drive_follow.specs.Follow.{rests_of}
use Rattle.input.specs.declared.Input.{Input}
use Rattle.record.specs.declared.Regulator.{Regulator}
use Rattle.record.specs.declared.State.{State}
use Rattle.record.specs.Whole.{regulator_of}
use Rattle.record_limits.specs.Limits.{within_of}
use Rattle.claim.specs.Claim.{rest_after}
use Rattle.claim.specs.Runs.{At}
use Rattle.rules.specs.Ticks.{all_off, tick_of}
use Rattle.rules.specs.Lists.{seen_on, starts_on}
use Rattle.rules.proofs.Steps.{accepted_is, settings_kept, within_kept}
use Rattle.ahead.specs.declared.Outlook.{Outlook}
use Rattle.ahead.specs.declared.Refusal.{Refusal}
use Rattle.ahead.specs.declared.Refusal.TheVariants.{Record, Horizon}
use Rattle.ahead.specs.Looking.{Answer, way_begun, begun_by, stands_at, found_or, first_after, looked_on, looked_from, is_horizon, outlook_from, ahead_of, told_by, answer_of}
use Rattle.ahead_looking.specs.declared.Glance.{Glance}
use Rattle.ahead_looking.specs.Glances.{glance_of, passed_by, begun_or, outlook_on, outlook_by}

-- where no command has come yet
abbrev pub waiting : {N : Type 0} → List ℕ → N → Outlook N
waiting outputs n = record { begun = None; outputs = outputs; next = n }

-- ---- the loop

-- before its tick `at`
pub record Going {N : Type 0} (tick : N → Glance N) (whole : Outlook N) (horizon : ℕ) (next : N) (rest : Bool) (outputs : List ℕ) (at : ℕ) : Type 0 where
  pub counted : 1 ≤ at
  pub inside : at ≤ horizon + 1
  pub is : whole ≡ outlook_on tick (at - 1) rest (waiting outputs next) (horizon + 1 - at)

module _ {N : Type 0} {tick : N → Glance N} {whole : Outlook N} {horizon : ℕ} {next : N} {rest : Bool} {outputs : List ℕ} {at : ℕ}
    (k : Going tick whole horizon next rest outputs at) where
  -- one tick more
  abbrev more_is : ℕ → ℕ → Option Direction → Outlook N
  more_is n left w =
      begun_or (n + 1) (tick next) w (outlook_on tick (n + 1) (rest_after (tick next).outputs) (passed_by (tick next)) left)

  one_more : (n left : ℕ) → left ≡ suc (horizon - at) → outlook_on tick n rest (waiting outputs next) left ≡ more_is n (horizon - at) (way_begun rest (tick next).outputs)
  unfolding outlook_on
  one_more n left e = rw e refl

  on : at ≤ horizon → whole ≡ more_is (at - 1) (horizon - at) (way_begun rest (tick next).outputs)
  on h = k.is ∙ one_more (at - 1) (horizon + 1 - at) (omega arith)

  none_left : (left : ℕ) → left ≡ 0 → outlook_on tick (at - 1) rest (waiting outputs next) left ≡ waiting outputs next
  unfolding outlook_on
  none_left left e = rw e refl

  -- at the horizon
  pub ends : horizon < at → waiting outputs next ≡ whole
  ends h = sym (k.is ∙ none_left (horizon + 1 - at) (omega arith))

  module _ (h : at ≤ horizon) {g : Glance N} (e : g ≡ tick next) {w : Option Direction} (u : w ≡ way_begun rest g.outputs) where
    on_way : whole ≡ begun_or (at - 1 + 1) g w (outlook_on tick (at - 1 + 1) (rest_after g.outputs) (passed_by g) (horizon - at))
    on_way = rw (u, e) (on h)

    passed : (v : Option Direction) (m : ℕ) (later : Outlook N) → ((d : Direction) → v ≡ Some d → ⊥) → begun_or m g v later ≡ later
    unfolding begun_or
    passed None m later z = refl
    passed (Some d) m later z = absurd (z d refl)

    pub going_on : ((d : Direction) → w ≡ Some d → ⊥) → {b : Bool} → b ≡ rest_after g.outputs → Going tick whole horizon g.next b g.outputs (at + 1)
    going_on z y =
        let c = k.counted in
        let p : at - 1 + 1 ≡ at + 1 - 1 = omega arith in
        let q : horizon - at ≡ horizon + 1 - (at + 1) = omega arith in
        record {
          counted = omega arith;
          inside = omega arith;
          is =
              on_way ∙ passed w (at - 1 + 1) _ z ∙ (λ j. outlook_on tick (p j) (rest_after g.outputs) (passed_by g) (q j))
              ∙ ap (λ (x : Bool). outlook_on tick (at + 1 - 1) x (passed_by g) (horizon + 1 - (at + 1))) (sym y);
        }

    found : (v : Option Direction) (d : Direction) (m : ℕ) (later : Outlook N) → v ≡ Some d → begun_or m g v later ≡ record { begun = Some (record { tick = m; direction = d }); outputs = g.outputs; next = g.next }
    unfolding begun_or
    found v d m later z = rw z refl

    pub finds : {d : Direction} → w ≡ Some d → ◌≡◌ {A = Outlook N} (record { begun = Some (record { tick = at; direction = d }); outputs = g.outputs; next = g.next }) whole
    finds {d} z =
        let c = k.counted in
        let p : at - 1 + 1 ≡ at = omega arith in
        sym (on_way ∙ found w d (at - 1 + 1) _ z ∙ ap (λ (m : ℕ). record { begun = Some (record { tick = m; direction = d }); outputs = g.outputs; next = g.next }) p)

-- ---- a look over one form of a record is that over another

module _ {M N : Type 0} (f : M → N) where
  abbrev pub mapped : Outlook M → Outlook N
  mapped o = record { begun = o.begun; outputs = o.outputs; next = f o.next }

  abbrev pub glance_mapped : Glance M → Glance N
  glance_mapped g = record { outputs = g.outputs; next = f g.next }

  mapped_or : (k : ℕ) (g : Glance M) (w : Option Direction) (x : Outlook N) (y : Outlook M) → x ≡ mapped y → begun_or k (glance_mapped g) w x ≡ mapped (begun_or k g w y)
  unfolding begun_or
  mapped_or k g None x y e = e
  mapped_or k g (Some d) x y e = refl

  module _ (t : M → Glance M) (u : N → Glance N) (same : (m : M) → u (f m) ≡ glance_mapped (t m)) where
    pub maps : (n k : ℕ) (rest : Bool) (last : Outlook M) → outlook_on u k rest (mapped last) n ≡ mapped (outlook_on t k rest last n)
    unfolding outlook_on
    maps zero k rest last = refl
    maps (suc n) k rest last =
        let g = t last.next in
        ap (λ (y : Glance N). begun_or (k + 1) y (way_begun rest y.outputs) (outlook_on u (k + 1) (rest_after y.outputs) (passed_by y) n)) (same last.next)
        ∙ mapped_or (k + 1) g (way_begun rest g.outputs) _ _ (maps n (k + 1) (rest_after g.outputs) (passed_by g))

-- ---- the look over the states of a record is the paper's

abbrev pub at : Bool → Regulator → At Regulator
at rest r = record { rest = rest; got = r }

-- where no command has come yet
abbrev pub standing : List ℕ → Regulator → Answer
standing outputs r = record { refusal = 0; tick = 0; way = None; outputs = outputs; next = r }

module _ (s : List ℕ) (i : Input) where
  abbrev pub record_tick : State → Glance State
  record_tick m = glance_of (tick_of (regulator_of s m) i)

  abbrev pub told : Outlook State → Answer
  told o = told_by (mapped (regulator_of s) o)

  module _ (m : State) (rest : Bool) (h : within_of (regulator_of s m) ≡ true) where
    abbrev r : Regulator
    r = regulator_of s m

    abbrev a : At Regulator
    a = at rest r

    abbrev g : Glance State
    g = record_tick m

    begun_is : begun_by (seen_on a i) ≡ way_begun rest g.outputs
    unfolding begun_by
    begun_is = sym (yes _ _ _ _ (eq-eqb _ _ (accepted_is r i ∙ sym (yes _ _ _ _ h refl))) refl)

    next_is : (tick_of r i).next ≡ regulator_of s g.next
    next_is = ap (λ (z : List ℕ). regulator_of z (tick_of r i).next.state) (settings_kept r i)

    next_within : within_of (regulator_of s g.next) ≡ true
    next_within = ap within_of (sym next_is) ∙ within_kept r i ∙ h

    more : (k n : ℕ) (last : Answer) → first_after k last (looked_from a i (suc n))
        ≡ found_or (k + 1) (record { tick = seen_on a i; next = regulator_of s g.next }) (way_begun rest g.outputs)
        (first_after (k + 1) (standing g.outputs (regulator_of s g.next)) (looked_from (at (rest_after g.outputs) (regulator_of s g.next)) i n))
    unfolding first_after
    more k n last =
        ap (λ (w : Option Direction). found_or (k + 1) (looked_on a i) w (first_after (k + 1) (stands_at 0 None (looked_on a i)) (looked_from (at (rest_after g.outputs) (tick_of r i).next) i n))) begun_is
        ∙ ap (λ (q : Regulator). found_or (k + 1) (record { tick = seen_on a i; next = q }) (way_begun rest g.outputs) (first_after (k + 1) (standing g.outputs q) (looked_from (at (rest_after g.outputs) q) i n))) next_is

    told_or : (k : ℕ) (w : Option Direction) (x : Outlook State) (y : Answer) → told x ≡ y → told (begun_or k g w x) ≡ found_or k (record { tick = seen_on a i; next = regulator_of s g.next }) w y
    unfolding begun_or found_or
    told_or k None x y e = e
    told_or k (Some d) x y e = refl

  looks : (n k : ℕ) (m : State) (rest : Bool) (outputs : List ℕ) → within_of (regulator_of s m) ≡ true
      → told (outlook_on record_tick k rest (waiting outputs m) n) ≡ first_after k (standing outputs (regulator_of s m)) (looked_from (at rest (regulator_of s m)) i n)
  unfolding outlook_on first_after
  looks zero k m rest outputs h = refl
  looks (suc n) k m rest outputs h =
      let y = record_tick m in
      told_or m rest h (k + 1) (way_begun rest y.outputs) _ _ (looks n (k + 1) y.next (rest_after y.outputs) y.outputs (next_within m rest h))
      ∙ sym (more m rest h k n (standing outputs (regulator_of s m)))

pub looked_over : (r : Regulator) (i : Input) (n : ℕ) → within_of r ≡ true → (rest : Bool) → rest ≡ rests_of r.state.drive
    → told r.settings i (outlook_by (record_tick r.settings i) rest r.state n) ≡ outlook_from (starts_on r) i n
looked_over r i n h rest e = looks r.settings i n 0 r.state rest all_off h ∙ ap (λ (b : Bool). outlook_from (at b r) i n) e

-- ---- the answer: a refusal or the look

module _ (r : Regulator) (i : Input) (n : ℕ) {b : Bool} (w : b ≡ within_of r) {o : Result (Outlook Regulator) Refusal} where
  pub ahead_4 : b ≡ false → o ≡ Err Record → answer_of r o ≡ ahead_of r i n
  unfolding ahead_of
  ahead_4 p q = ap (answer_of r) q ∙ no _ _ _ _ (sym w ∙ p) refl

  module _ {c : Bool} (v : c ≡ is_horizon n) where
    pub ahead_6 : b ≡ true → c ≡ false → o ≡ Err Horizon → answer_of r o ≡ ahead_of r i n
    unfolding ahead_of
    ahead_6 p h q = ap (answer_of r) q ∙ yes _ _ _ _ (sym w ∙ p) (no _ _ _ _ (sym v ∙ h) refl)

    pub ahead_looks : b ≡ true → c ≡ true → {rest : Bool} → rest ≡ rests_of r.state.drive → {x : Outlook State} → x ≡ outlook_by (record_tick r.settings i) rest r.state n
        → o ≡ Ok (mapped (regulator_of r.settings) x) → answer_of r o ≡ ahead_of r i n
    unfolding ahead_of
    ahead_looks p h {rest} e {x} q z =
        let within : within_of r ≡ true = sym w ∙ p in
        ap (answer_of r) z ∙ ap (told r.settings i) q ∙ looked_over r i n within rest e ∙ yes _ _ _ _ within (yes _ _ _ _ (sym v ∙ h) refl)
