-- A drive with a switching contact serves a command: from asked to moving and to rest again, and then the row of waiting ticks.
-- Assumes nothing.
use Prim.Native.Nat.{ℕ, ◌+◌, ◌≤◌, ◌<◌}
use native.Mathlib.Omega.{arith}
use borrow.Author.Tests.{eqb-true, eqb-false}
use lib.Dec.{eqb}
use mathlib.Core.Path.{◌≡◌, refl, sym, ap, ◌∙◌, subst}
use mathlib.Core.Bool.{Bool, true, false, true≢false, false≢true}
use mathlib.Core.List.{List, [], ◌∷◌, ◌++◌}
use mathlib.Core.Logic.{◌⊎◌, inl, inr, ⊎_elim}
use lib.ListN.{length, length-append}
use Rattle.common.proofs.Joined.{split}
use Rattle.slots.specs.Slots.{slot, t4, t5, continuous}
use Rattle.ways.specs.declared.Direction.{Direction}
use Rattle.ways.specs.declared.Direction.TheVariants.{Raise, Lower}
use Rattle.drive.specs.declared.Drive.TheVariants.{Asked, Moving}
use Rattle.drive_follow.specs.Follow.{rests_of}
use Rattle.input.specs.declared.Input.{Input}
use Rattle.record.specs.declared.Regulator.{Regulator}
use Rattle.record_limits.specs.Limits.{within_of}
use Rattle.claim.specs.Claim.{Tick, output, command_field, All, Some, Begins, Lasting, longest, Serves, Command}
use Rattle.rules.specs.Lists.{ticks_from}
use Rattle.claim.proofs.Lists.{all_front, all_back, all_map, some_back, some_or_none}
use Rattle.rules.proofs.Steps.{tick_at, next_at, rest_at, Linked, accepted_within, settings_kept, within_kept, linked_kept}
use Rattle.rules.proofs.Waits.{begun_asked, force_least, force_most}
use Rattle.rules.proofs.Moves.{asked_open, asked_closed, moving_closed, moving_open}
use Rattle.rules.proofs.Rows.{Open, Closed, record_after, rest_after, cut, length_ticks, linked_step, linked_after, settings_after, within_after, row_begins, uncons}

-- The drive serves a command: asked, moving, and at rest again.
-- it has the switching contact, and goes on having it
abbrev HasContact : Regulator → Type 0
HasContact r = slot r.settings continuous ≡ 0

contact_on : (r : Regulator) (i : Input) → HasContact r → HasContact (next_at r i)
contact_on r i z = ap (λ (s : List ℕ). slot s continuous) (settings_kept r i) ∙ z

contact_after : (r : Regulator) (is : List Input) → HasContact r → HasContact (record_after r is)
contact_after r is z = ap (λ (s : List ℕ). slot s continuous) (settings_after r is) ∙ z

to_moving :
    (side u : Direction) (rest : Bool) (r : Regulator) (is : List Input) (a : ℕ) (m : Bool) → HasContact r → r.state.drive ≡ Asked u a m →
    All (Lasting side) (ticks_from rest r is) → All Open (ticks_from rest r is) → (b : ℕ) × ((record_after r is).state.drive ≡ Asked u b m)
to_moving side u rest r [] a m z d l o = (a, d)
to_moving side u rest r (i ∷ is) a m z d l o =
    let n = asked_open side rest r i l.0 z u a m d o.0 in
    to_moving side u (rest_at r i) (next_at r i) is n.0 m (contact_on r i z) n.1 l.1 o.1

moving_on :
    (side u : Direction) (rest : Bool) (r : Regulator) (is : List Input) (n : ℕ) → HasContact r → r.state.drive ≡ Moving u n true →
    All (Lasting side) (ticks_from rest r is) → All Closed (ticks_from rest r is) → (m : ℕ) × ((record_after r is).state.drive ≡ Moving u m true)
moving_on side u rest r [] n z d l o = (n, d)
moving_on side u rest r (i ∷ is) n z d l o =
    let q = moving_closed side rest r i l.0 z u n d o.0 in
    moving_on side u (rest_at r i) (next_at r i) is q.0 (contact_on r i z) q.1 l.1 o.1

-- from a closed contact on: the first closed tick, the others, the open tick that ends the move, and the row after it
after_closed :
    (side u : Direction) (rest : Bool) (r : Regulator) (i : Input) (held : List Input) (a : ℕ) (m : Bool) → HasContact r → r.state.drive ≡ Asked u a m →
    All (Lasting side) (ticks_from rest r (i ∷ held)) → All Closed (ticks_from rest r (i ∷ held)) →
    (m : ℕ) × ((record_after r (i ∷ held)).state.drive ≡ Moving u m true)
after_closed side u rest r i held a m z d l o =
    moving_on side u (rest_at r i) (next_at r i) held 1 (contact_on r i z) (asked_closed side rest r i l.0 z u a m d o.0) l.1 o.1

after_open :
    (side u : Direction) (rest : Bool) (r : Regulator) (is : List Input) (n : ℕ) → HasContact r → within_of r ≡ true → r.state.drive ≡ Moving u n true →
    All (Lasting side) (ticks_from rest r is) → All Open (ticks_from rest r is) → longest r.settings < length is →
    0 < longest r.settings → Some (Begins side) (ticks_from rest r is)
after_open side u rest r [] n z h d l o p q = absurd (omega arith)
after_open side u rest r (i ∷ is) n z h d l o p q =
    let t : longest (next_at r i).settings ≡ longest r.settings = ap longest (settings_kept r i) in
    inr
    (row_begins side (rest_at r i) (next_at r i) is (linked_step rest r i)
    (linked_kept r i h ∙ ap rests_of (moving_open side rest r i l.0 z u n d o.0))
    l.1 (all_map (ticks_from (rest_at r i) (next_at r i) is) (λ t p. inr p) o.1) (omega arith) (omega arith))

-- A row in which a command is served, its ticks given by what they brought.
served :
    (side : Direction) (rest : Bool) (r : Regulator) (before : List Input) (i : Input) (held after : List Input) (b : Bool) → HasContact r → within_of r ≡ true →
    r.state.drive ≡ Asked side 0 b → All (Lasting side) (ticks_from rest r before) → All Open (ticks_from rest r before) →
    All (Lasting side) (ticks_from (rest_after rest r before) (record_after r before) (i ∷ held)) →
    All Closed (ticks_from (rest_after rest r before) (record_after r before) (i ∷ held)) →
    All (Lasting side) (ticks_from (rest_after (rest_after rest r before) (record_after r before) (i ∷ held)) (record_after (record_after r before) (i ∷ held)) after) →
    All Open (ticks_from (rest_after (rest_after rest r before) (record_after r before) (i ∷ held)) (record_after (record_after r before) (i ∷ held)) after) →
    0 < longest r.settings → longest r.settings < length after →
    Some (Begins side) (ticks_from (rest_after (rest_after rest r before) (record_after r before) (i ∷ held)) (record_after (record_after r before) (i ∷ held)) after)
served side rest r before i held after b z h d l₁ o₁ l₂ o₂ l₃ o₃ p q =
    let a = to_moving side side rest r before 0 b z d l₁ o₁ in
    let y = contact_after r before z in
    let m = after_closed side side (rest_after rest r before) (record_after r before) i held a.0 b y a.1 l₂ o₂ in
    let r₃ = record_after (record_after r before) (i ∷ held) in
    let s : longest r₃.settings ≡ longest r.settings =
    ap longest (settings_after (record_after r before) (i ∷ held) ∙ settings_after r before) in
    after_open side side (rest_after (rest_after rest r before) (record_after r before) (i ∷ held)) r₃ after m.0
    (contact_after (record_after r before) (i ∷ held) y)
    (within_after (record_after r before) (i ∷ held) ∙ within_after r before ∙ h)
    m.1 l₃ o₃ (omega arith) (omega arith)

-- the same, its ticks given as lists of ticks
served_row :
    (side : Direction) (rest : Bool) (r : Regulator) (is : List Input) (s : List ℕ) (row : List Tick) (b : Bool) → row ≡ ticks_from rest r is → HasContact r →
    within_of r ≡ true → r.settings ≡ s → r.state.drive ≡ Asked side 0 b → All (Lasting side) row → Serves s row → 0 < longest s →
    slot s t5 + slot s t4 + longest s ≤ length row → Some (Begins side) row
served_row side rest r is s row u e has h t d l v z n =
    let b = cut rest r is v.before (v.held ++ v.after) (sym e ∙ v.whole) in
    let r₁ = record_after r b.front in
    let rest₁ = rest_after rest r b.front in
    let c = cut rest₁ r₁ b.back v.held v.after (sym b.is_back) in
    let all : All (Lasting side) (v.before ++ (v.held ++ v.after)) = subst (All (Lasting side)) v.whole l in
    let some : Some (Begins side) v.after =
    go v.before v.held v.after b.front c.front c.back b.is_front c.is_front c.is_back
    (all_front (Lasting side) v.before (v.held ++ v.after) all) v.open_before
    (all_front (Lasting side) v.held v.after (all_back (Lasting side) v.before (v.held ++ v.after) all)) v.closed_held
    (all_back (Lasting side) v.held v.after (all_back (Lasting side) v.before (v.held ++ v.after) all)) v.open_after
    v.closes (big v.before v.held v.after v.in_time v.short_enough (subst (λ x. slot s t5 + slot s t4 + longest s ≤ length x) v.whole n)) in
    subst (Some (Begins side)) (sym v.whole)
    (some_back (Begins side) v.before (v.held ++ v.after) (some_back (Begins side) v.held v.after some))
  where
    big : (x y w : List Tick) → length x < slot s t5 → length y ≤ slot s t4 → slot s t5 + slot s t4 + longest s ≤ length (x ++ (y ++ w)) → longest s < length w
    big x y w p q g = omega (arith, length-append x (y ++ w), length-append y w)

    go :
        (x y w : List Tick) (before held after : List Input) → x ≡ ticks_from rest r before →
        y ≡ ticks_from (rest_after rest r before) (record_after r before) held →
        w ≡ ticks_from (rest_after (rest_after rest r before) (record_after r before) held) (record_after (record_after r before) held) after →
        All (Lasting side) x → All Open x → All (Lasting side) y → All Closed y → All (Lasting side) w → All Open w →
        0 < length y → longest s < length w → Some (Begins side) w
    go x y w before [] after ex ey ew lx ox ly oy lw ow p q = let y₀ : length y ≡ 0 = ap length ey in absurd (omega arith)
    go x y w before (i ∷ held) after ex ey ew lx ox ly oy lw ow p q =
        let m : length w ≡ length after =
        ap length ew
        ∙ length_ticks (rest_after (rest_after rest r before) (record_after r before) (i ∷ held)) (record_after (record_after r before) (i ∷ held)) after in
        let t₂ : longest r.settings ≡ longest s = ap longest t in
        subst (Some (Begins side)) (sym ew)
        (served side rest r before i held after u has h d (subst (All (Lasting side)) ex lx) (subst (All Open) ex ox)
        (subst (All (Lasting side)) ey ly) (subst (All Closed) ey oy) (subst (All (Lasting side)) ew lw) (subst (All Open) ew ow)
        (omega arith) (omega arith))

same_bool : (b c : Bool) → (b ≡ c) ⊎ (b ≡ c → ⊥)
same_bool true true = inl refl
same_bool true false = inr true≢false
same_bool false true = inr false≢true
same_bool false false = inl refl

same_number : (m n : ℕ) → (m ≡ n) ⊎ (m ≡ n → ⊥)
same_number m n = ⊎_elim (λ t. inl (eqb-true m n t)) (λ f. inr (eqb-false m n f)) (split (eqb m n))

begins_decided : (side : Direction) (t : Tick) → Begins side t ⊎ (Begins side t → ⊥)
begins_decided side t =
    ⊎_elim
    (λ a.
    ⊎_elim
    (λ b. ⊎_elim (λ c. inl (record { accepted = a; from_rest = b; on = c })) (λ n. inr (λ h. n h.on)) (same_number (output (command_field side) t) 1))
    (λ n. inr (λ h. n h.from_rest))
    (same_bool t.rest true))
    (λ n. inr (λ h. n h.accepted))
    (same_number t.refusal 0)

command_decided : (t : Tick) → Command t ⊎ (Command t → ⊥)
command_decided t =
    ⊎_elim (λ a. inl (inl a))
    (λ n. ⊎_elim (λ b. inl (inr b)) (λ m. inr (λ c. ⊎_elim n m c)) (begins_decided Lower t))
    (begins_decided Raise t)

some_command : (side : Direction) (l : List Tick) → Some (Begins side) l → Some Command l
some_command side [] x' = elim x' [ ]
some_command Raise (t ∷ l) (inl b) = inl (inl b)
some_command Lower (t ∷ l) (inl b) = inl (inr b)
some_command side (t ∷ l) (inr s) = inr (some_command side l s)

pub again_of :
    (side : Direction) (rest : Bool) (r : Regulator) (is : List Input) → Linked rest r →
    (pre : List Tick) (first : Tick) (row post : List Tick) → ticks_from rest r is ≡ pre ++ (first ∷ (row ++ post)) →
    slot r.settings continuous ≡ 0 → Begins side first → length row ≡ slot r.settings t5 + slot r.settings t4 + longest r.settings →
    (All (λ t. Command t → ⊥) row → All (Lasting side) row × Serves r.settings row) → Some Command row
again_of side rest r is k pre first row post e z b n f =
    ⊎_elim (λ s. s)
    (λ none.
    let c = cut rest r is pre (first ∷ (row ++ post)) e in
    let r₁ = record_after r c.front in
    let rest₁ = rest_after rest r c.front in
    let u = uncons rest₁ r₁ c.back first (row ++ post) c.is_back in
    let i = u.0 in
    let b₁ : Begins side (tick_at rest₁ r₁ i) = subst (Begins side) u.2 b in
    let h₁ : within_of r₁ ≡ true = accepted_within r₁ i b₁.accepted in
    let g = cut (rest_at r₁ i) (next_at r₁ i) u.1 row post (sym u.3) in
    let least = force_least side r₁ i h₁ in
    let most = force_most side r₁ i in
    let s : longest r₁.settings ≡ longest r.settings = ap longest (settings_after r c.front) in
    some_command side row
    (served_row side (rest_at r₁ i) (next_at r₁ i) g.front r.settings row _ g.is_front
    (contact_on r₁ i (contact_after r c.front z)) (within_kept r₁ i ∙ h₁)
    (settings_kept r₁ i ∙ settings_after r c.front) (begun_asked side rest₁ r₁ i (linked_after rest r c.front k) b₁)
    (f none).0 (f none).1 (omega arith) (omega arith)))
    (some_or_none Command command_decided row)
